use Rattle.std.proofs.Common.{List, ◌++◌, sym, ap, ◌∙◌, subst, refl, arith, length}
use Rattle.asp_model.specs.Sets.{Atoms}
use Rattle.asp_rows.specs.Listed.{IsRowOf, Listed}
use Rattle.asp_backlog.specs.Backlogs.{sets_of}
use Rattle.asp_backlog.proofs.BacklogLaws.{first-row, popped-all}
use Rattle.asp_backlog.proofs.backlog.take_all.Goals as goal

pub taking-init : goal.taking-init
taking-init c = record { rows = c.requires.rows; atoms = refl; all = sym (ap (λ (X : List Atoms). X ++ sets_of c.args.rows.keys) c.requires.none) }

pub push_row-requires : goal.push_row-requires
push_row-requires c =
    subst (λ (a : Atoms). IsRowOf a c.in-Some.row) (sym c.taking.invariant.atoms)
    (first-row c.args.taken.now.atoms c.taking.rows.keys c.pop_first.new.self.keys c.in-Some.row c.taking.invariant.rows c.in-Some.ensures.removal).0

pub taking-preserved : goal.taking-preserved
taking-preserved c = record {
  rows = (first-row c.args.taken.now.atoms c.taking.rows.keys c.pop_first.new.self.keys c.in-Some.row c.taking.invariant.rows c.in-Some.ensures.removal).1;
  atoms = ap (λ (l : Listed). l.atoms) c.in_ok-push_row-in-Some.ensures.ok ∙ c.taking.invariant.atoms;
  all = popped-all c.args.rows.keys c.taking.rows.keys c.pop_first.new.self.keys c.taking.taken.sets c.push_row.new.self.sets c.in-Some.row c.taking.invariant.all c.in-Some.ensures.removal
      (ap (λ (l : Listed). l.sets) c.in_ok-push_row-in-Some.ensures.ok);
}

pub taking-smaller : goal.taking-smaller
taking-smaller c = omega (arith, ap length c.in-Some.ensures.removal)
