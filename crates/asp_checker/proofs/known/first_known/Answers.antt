use Rattle.std.proofs.Common.{sym, ap, subst, ◌∙◌}
use Rattle.std.specs.List.{AllByRecursion}
use Rattle.asp_rows.specs.Listed.{Listed}
use Rattle.asp_vars.proofs.VarLaws.{completion_vars}
use Rattle.asp_checker.specs.Lines.{AreOf, bound_by}
use Rattle.asp_checker.proofs.JudgeLaws.{no_bound}
use Rattle.asp_checker.proofs.TightLaws.{root_first_known}
use Rattle.asp_checker.proofs.known.first_known.Goals as goal

pub first_root-requires : goal.first_root-requires
first_root-requires c = subst (AllByRecursion (AreOf c.args.compiled.now)) (sym (c.as_slice.ensures.value ∙ c.in_ok-kept.ensures)) (completion_vars c.args.compiled.now)

pub returns-clause-ready : goal.returns-clause-ready
returns-clause-ready c =
    let p = c.args.compiled.now in
    λ o. record {
      kept = subst (AllByRecursion (AreOf p)) (sym c.in_ok-kept.ensures) (completion_vars p);
      placed = rw c.new-3.ensures.items tt;
      atoms = ap (λ (l : Listed). l.atoms) c.in_ok-new.ensures;
      levels = tt;
      bound = no_bound p o ∙ ap (λ (l : Listed). bound_by p o l.sets) (sym c.in_ok-new.ensures);
      root = root_first_known p o c.in_ok-new.field-0.sets c.as_slice.result.now c.in_ok-kept.kept.items c.in_ok-values.values (ap (λ (l : Listed). l.sets) c.in_ok-new.ensures)
          c.as_slice.ensures.value c.in_ok-values.ensures;
    }
