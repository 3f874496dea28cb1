use Rattle.std.proofs.Common.{◌≡◌, List, true, sym, ap, ◌∙◌, subst}
use Rattle.std.specs.Prelude.{ℤ}
use Rattle.std.specs.List.{AllByRecursion}
use Rattle.asp_model.specs.declared.program.Program.{Program}
use Rattle.asp_model.specs.Sets.{has}
use Rattle.asp_model.specs.Holding.{atom_of}
use Rattle.asp_model.specs.Models.{atoms_of}
use Rattle.asp_vars.proofs.AssumptionLaws.{assumptions-stand}
use Rattle.asp_parts.proofs.end.root_of.Goals as goal

pub add_all-requires : goal.add_all-requires
add_all-requires c =
    let p : Program = c.args.compiled.now in
    let same : c.as_slice.result.now ≡ p.assumptions = c.as_slice.ensures.value ∙ ap (λ (q : Program). q.assumptions) c.program.ensures.program in
    subst (λ (ls : List ℤ). AllByRecursion (λ l. has (atoms_of p) (atom_of l) ≡ true) ls) (sym same) (assumptions-stand p)
