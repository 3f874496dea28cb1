use Rattle.asp_store.proofs.PendingLaws.{looks_leave}
use Rattle.asp_store.proofs.pending.leave.Goals as goal

pub drop_at-requires-clause-within : goal.drop_at-requires-clause-within
drop_at-requires-clause-within c = c.requires.within

pub drop_at-requires-clause-waits : goal.drop_at-requires-clause-waits
drop_at-requires-clause-waits c = c.requires.looking.begun

pub returns : goal.returns
returns c = looks_leave c.args.slots.now c.args.watches.now c.args.trail.now c.args.i c.drop_at.new.self c.drop_at.ensures c.requires.none c.requires.looking
