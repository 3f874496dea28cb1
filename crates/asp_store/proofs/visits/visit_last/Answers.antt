use Rattle.std.proofs.Common.{List, rules, sym, ap, ◌∙◌, subst, arith}
use Rattle.std.specs.Option.{IsSome}
use Rattle.asp_vars.specs.Literals.{Literal, value_of}
use Rattle.asp_trail.specs.Entries.{assignment, level_in}
use Rattle.asp_trail.specs.Trails.{Trailed}
use Rattle.asp_store.specs.Looking.{IsLast}
use Rattle.asp_store.proofs.StepLaws.{last_visited, visit_stays, visit_var}
use Rattle.asp_store.proofs.LookLaws.{false_there, false_value}
use Rattle.asp_store.proofs.visits.visit_last.Goals as goal

pub end_nogood-requires-clause-last : goal.end_nogood-requires-clause-last
end_nogood-requires-clause-last c =
    subst (λ (xs : List Literal). IsLast c.args.slots.now c.args.trail.now c.args.id xs c.args.other) (sym c.row-row.ensures)
    (last_visited c.args.slots.now c.args.watches.now c.args.trail.now c.args.front.now c.args.i c.args.id c.args.other c.requires.others c.requires.visit)

pub returns-in-Some-clause-sound : goal.returns-in-Some-clause-sound
returns-in-Some-clause-sound c = (c.end_nogood.ensures.ends.walking c.args.watches.now c.args.front.now c.args.i c.requires.visit.walking).sound

pub level_of-requires-clause-small : goal.level_of-requires-clause-small
level_of-requires-clause-small c =
    omega (
      arith,
      visit_var c.args.slots.now c.args.watches.now c.args.trail.now c.args.front.now c.args.i c.args.id c.args.other c.requires.visit,
      c.var.ensures,
      ap (λ (s : Trailed). s.vars) c.end_nogood.ensures.ends.same,
    )

pub level_of-requires-clause-has : goal.level_of-requires-clause-has
level_of-requires-clause-has c =
    let n : Trailed = c.end_nogood.new.trail in
    subst IsSome (sym (ap (value_of (assignment n.vars n.entries)) c.var.ensures ∙ false_value n.vars n.entries c.args.other _ c.len-len.ensures.ordered c.in-None.ensures.is_false)) (search rules)

pub block-requires-clause-visit : goal.block-requires-clause-visit
block-requires-clause-visit c =
    visit_stays c.args.slots.now c.args.watches.now c.args.trail.now c.end_nogood.new.trail c.args.front.now c.args.i c.args.id c.args.other c.requires.visit
    (c.end_nogood.ensures.ends.walking c.args.watches.now c.args.front.now c.args.i c.requires.visit.walking)

pub block-requires-clause-is_false : goal.block-requires-clause-is_false
block-requires-clause-is_false c =
    let n : Trailed = c.end_nogood.new.trail in
    let f = false_there n.vars n.entries c.args.other _ c.len-len.ensures.ordered c.in-None.ensures.is_false in
    (f.0, f.1, omega (arith, f.2, c.if-level_of-front.true, c.level_of.ensures, ap (level_in n.entries) c.var.ensures), f.3)

pub set_apart-requires-clause-visit : goal.set_apart-requires-clause-visit
set_apart-requires-clause-visit c =
    visit_stays c.args.slots.now c.args.watches.now c.args.trail.now c.end_nogood.new.trail c.args.front.now c.args.i c.args.id c.args.other c.requires.visit
    (c.end_nogood.ensures.ends.walking c.args.watches.now c.args.front.now c.args.i c.requires.visit.walking)
