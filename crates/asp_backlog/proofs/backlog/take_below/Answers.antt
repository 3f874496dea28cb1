use Rattle.std.proofs.Common.{List, ◌++◌, Some, filter, sym, ap, ◌∙◌, subst, refl, arith, length}
use Rattle.asp_model.specs.Sets.{Atoms}
use Rattle.asp_rows.specs.Listed.{IsRowOf, Listed}
use Rattle.asp_watermark.specs.Floors.{is_below}
use Rattle.asp_backlog.specs.Backlogs.{sets_of}
use Rattle.asp_backlog.proofs.FilterLaws.{filter-others}
use Rattle.asp_backlog.proofs.BacklogLaws.{first-row, popped-below, popped-rest}
use Rattle.asp_backlog.proofs.backlog.take_below.Goals as goal

pub taking-init : goal.taking-init
taking-init c = record {
  rows = c.requires.rows;
  atoms = refl;
  below = sym (ap (λ (X : List Atoms). X ++ filter (is_below (Some c.args.floor.now.set)) (sets_of c.args.rows.now.keys)) c.requires.none);
  rest = refl;
}

pub push_row-requires : goal.push_row-requires
push_row-requires c =
    subst (λ (a : Atoms). IsRowOf a c.in-Some.row) (sym c.taking.invariant.atoms)
    (first-row c.args.taken.now.atoms c.taking.rows.keys c.pop_below.new.rows.keys c.in-Some.row c.taking.invariant.rows c.in-Some.ensures.0).0

pub taking-preserved : goal.taking-preserved
taking-preserved c = record {
  rows = (first-row c.args.taken.now.atoms c.taking.rows.keys c.pop_below.new.rows.keys c.in-Some.row c.taking.invariant.rows c.in-Some.ensures.0).1;
  atoms = ap (λ (l : Listed). l.atoms) c.in_ok-push_row-in-Some.ensures.ok ∙ c.taking.invariant.atoms;
  below = popped-below c.args.floor.now.set c.args.rows.now.keys c.taking.rows.keys c.pop_below.new.rows.keys c.taking.taken.sets c.push_row.new.self.sets c.in-Some.row
      c.taking.invariant.below c.in-Some.ensures.0 c.in-Some.ensures.1 (ap (λ (l : Listed). l.sets) c.in_ok-push_row-in-Some.ensures.ok);
  rest = popped-rest c.args.floor.now.set c.args.rows.now.keys c.taking.rows.keys c.pop_below.new.rows.keys c.in-Some.row c.taking.invariant.rest c.in-Some.ensures.0 c.in-Some.ensures.1;
}

pub taking-smaller : goal.taking-smaller
taking-smaller c = omega (arith, ap length c.in-Some.ensures.0)

pub returns-in-None-clause-rest : goal.returns-in-None-clause-rest
returns-in-None-clause-rest c =
    ap sets_of c.in-None.ensures.0 ∙ sym (filter-others (is_below (Some c.args.floor.now.set)) (sets_of c.taking.rows.keys) c.in-None.ensures.1) ∙ sym c.taking.invariant.rest
