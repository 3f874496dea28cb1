use Rattle.std.proofs.Common.{arith, refl}
use Rattle.asp_parts.proofs.RoundLaws.{done-last, done-less}
use Rattle.asp_parts.proofs.round.next_of.Goals as goal

pub returns-in-None-clause-kept : goal.returns-in-None-clause-kept
returns-in-None-clause-kept c = λ p all has. done-less p all c.args.worker.now _ c.pop.result has refl c.pop.ensures.items

pub returns-then-there-place-clause-kept : goal.returns-then-there-place-clause-kept
returns-then-there-place-clause-kept c = λ p all has. done-less p all c.args.worker.now _ c.pop.result has refl c.pop.ensures.items

pub returns-then-there-place-clause-pieces : goal.returns-then-there-place-clause-pieces
returns-then-there-place-clause-pieces c = λ p all t has.
    done-last p all c.args.worker.now c.pop.new.self.items c.pop.result c.in-Some.done c.args.place t has c.pop.ensures.items c.in-Some.is (omega arith)

pub returns-else-there-place-clause-kept : goal.returns-else-there-place-clause-kept
returns-else-there-place-clause-kept c = λ p all has. done-less p all c.args.worker.now _ c.pop.result has refl c.pop.ensures.items
