use Rattle.asp_core.proofs.BoardLaws.{each-set}
use Rattle.asp_parts.specs.Rounds.{HasDone}
use Rattle.asp_parts.proofs.RoundLaws.{each-at}
use Rattle.asp_parts.proofs.round.taken_of.Goals as goal

pub returns-in-Some-clause-kept : goal.returns-in-Some-clause-kept
returns-in-Some-clause-kept c = λ p all have.
    each-set (HasDone p all) c.args.workers.now c.in-Some.at c.next_of.new.worker have
    (c.next_of.ensures.kept p all (each-at (HasDone p all) c.args.workers.now c.in-Some.at c.index-workers-at.result have c.in-Some.ensures))

pub returns-in-Some-clause-pieces : goal.returns-in-Some-clause-pieces
returns-in-Some-clause-pieces c = λ p all t have.
    c.next_of.ensures.pieces p all t (each-at (HasDone p all) c.args.workers.now c.in-Some.at c.index-workers-at.result have c.in-Some.ensures)
