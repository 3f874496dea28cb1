use Rattle.std.proofs.Common.{length, arith}
use Rattle.asp_pool.specs.Pools.{IsOfPool}
use Rattle.asp_slots.proofs.ShelfLaws.{room-left}
use Rattle.asp_team.proofs.TeamLaws.{popped-one, popped-rest, ready-more}
use Rattle.asp_team.proofs.team.add.Goals as goal

pub next-requires-clause-room : goal.next-requires-clause-room
next-requires-clause-room c = (omega (arith, c.requires.ready.out.splits, c.requires.few), room-left c.args.lead.now.pages (length c.args.workers.now.items) c.requires.ready.pages_out c.requires.few)

pub next-requires-clause-pass : goal.next-requires-clause-pass
next-requires-clause-pass c = popped-one (IsOfPool c.args.shared.now.pool) c.args.passes.now.items c.pop.new.self.items c.pop.result c.in-Some.pass c.requires.passes c.pop.ensures.items c.in-Some.is

pub returns-in_err-push-in-Some-clause-passes : goal.returns-in_err-push-in-Some-clause-passes
returns-in_err-push-in-Some-clause-passes c = popped-rest (IsOfPool c.args.shared.now.pool) c.args.passes.now.items c.pop.new.self.items c.pop.result c.requires.passes c.pop.ensures.items

pub returns-clause-ready : goal.returns-clause-ready
returns-clause-ready c =
    ready-more c.args.shared.now c.args.lead.now c.next.new.lead c.args.workers.now.items c.push.new.self.items c.next.result c.requires.ready
    c.next.ensures.seat c.next.ensures.pages c.next.ensures.may c.next.ensures.number c.next.ensures.began
    c.in_ok-push-in-Some.ensures.items

pub returns-clause-passes : goal.returns-clause-passes
returns-clause-passes c = popped-rest (IsOfPool c.args.shared.now.pool) c.args.passes.now.items c.pop.new.self.items c.pop.result c.requires.passes c.pop.ensures.items
