use Rattle.std.proofs.Common.{ℕ, List, sym, subst}
use Rattle.asp_vars.specs.Codes.{code_of}
use Rattle.asp_vars.specs.Literals.{Literal}
use Rattle.asp_store.specs.Fitting.{IsFalseBy}
use Rattle.asp_store.specs.Looking.{IsLast}
use Rattle.asp_store.specs.Walking.{back}
use Rattle.asp_store.proofs.StepLaws.{last_visited, visit_stays}
use Rattle.asp_store.proofs.top_walks.end_last.Goals as goal

pub end_nogood-requires-clause-last : goal.end_nogood-requires-clause-last
end_nogood-requires-clause-last c =
    subst (λ (xs : List Literal). IsLast c.args.slots.now c.args.trail.now c.args.id xs c.args.other) (sym c.row-row.ensures)
    (last_visited c.args.slots.now (back c.args.watches.now (code_of c.args.front.now.lit) c.args.list.now.items) c.args.trail.now c.args.front.now c.args.i c.args.id c.args.other c.requires.others
    c.requires.visit)

pub block-requires-clause-visit : goal.block-requires-clause-visit
block-requires-clause-visit c =
    let u = back c.args.watches.now (code_of c.args.front.now.lit) c.args.list.now.items in
    visit_stays c.args.slots.now u c.args.trail.now c.end_nogood.new.trail c.args.front.now c.args.i c.args.id c.args.other c.requires.visit
    (c.end_nogood.ensures.ends.walking u c.args.front.now c.args.i c.requires.visit.walking)

pub block-requires-clause-is_false : goal.block-requires-clause-is_false
block-requires-clause-is_false c = subst (λ (b : ℕ). IsFalseBy c.end_nogood.new.trail.entries c.args.other b) c.requires.level c.in-None.ensures.is_false

pub returns-in-Some-clause-passed : goal.returns-in-Some-clause-passed
returns-in-Some-clause-passed c =
    c.end_nogood.ensures.ends.walking (back c.args.watches.now (code_of c.args.front.now.lit) c.args.list.now.items) c.args.front.now c.args.i c.requires.visit.walking
