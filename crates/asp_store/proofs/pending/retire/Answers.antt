use Rattle.std.proofs.Common.{◌+◌, arith}
use Rattle.asp_store.proofs.PendingLaws.{looking_retired}
use Rattle.asp_store.proofs.pending.retire.Goals as goal

pub retire_first-requires-clause-within : goal.retire_first-requires-clause-within
retire_first-requires-clause-within c = c.requires.waiting.within

pub retire_first-requires-clause-waits : goal.retire_first-requires-clause-waits
retire_first-requires-clause-waits c = c.requires.waiting.looking.begun

pub retire_last-requires-clause-within : goal.retire_last-requires-clause-within
retire_last-requires-clause-within c = c.requires.waiting.within

pub retire_last-requires-clause-waits : goal.retire_last-requires-clause-waits
retire_last-requires-clause-waits c = c.requires.waiting.looking.begun

pub returns-then-lits-eq1-clause-sound : goal.returns-then-lits-eq1-clause-sound
returns-then-lits-eq1-clause-sound c = (looking_retired c.args.slots.now c.args.watches.now c.args.trail.now c.args.i (c.args.i + 1) c.args.id
    c.retire_first.new.self c.requires.is_false c.retire_first.ensures c.requires.waiting).sound

pub returns-then-lits-eq1-clause-looks : goal.returns-then-lits-eq1-clause-looks
returns-then-lits-eq1-clause-looks c = (
  looking_retired c.args.slots.now c.args.watches.now c.args.trail.now c.args.i (c.args.i + 1) c.args.id c.retire_first.new.self c.requires.is_false c.retire_first.ensures c.requires.waiting,
  omega (arith, c.retire_first.ensures.passes.left),
)

pub returns-else-lits-eq1-clause-sound : goal.returns-else-lits-eq1-clause-sound
returns-else-lits-eq1-clause-sound c =
    (looking_retired c.args.slots.now c.args.watches.now c.args.trail.now c.args.i c.args.i c.args.id c.retire_last.new.self c.requires.is_false
    c.retire_last.ensures c.requires.waiting).sound

pub returns-else-lits-eq1-clause-looks : goal.returns-else-lits-eq1-clause-looks
returns-else-lits-eq1-clause-looks c = (
  looking_retired c.args.slots.now c.args.watches.now c.args.trail.now c.args.i c.args.i c.args.id c.retire_last.new.self c.requires.is_false c.retire_last.ensures c.requires.waiting,
  omega (arith, c.retire_last.ensures.passes.left),
)
