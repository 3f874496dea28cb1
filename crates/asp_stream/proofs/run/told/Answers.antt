use Rattle.std.proofs.Common.{refl, arith}
use Rattle.asp_stream.proofs.EndLaws.{telling}
use Rattle.asp_stream.proofs.run.told.Goals as goal

pub returns : goal.returns
returns c = λ begun heard wants over at_end refused.
    telling begun c.args.stream.ledger c.back.new.self c.args.fuel c.args.end over _ heard c.args.stream.backlog wants c.lawful.ensures.task
    c.lawful.ensures.journal c.lawful-2.ensures.journal c.in_ok-back.ensures.ok at_end.told refused refl refl c.into_journal.ensures c.leaves-leaves.ensures
    (λ k. (c.in_ok-rest.ensures k).sets) (λ k. (c.in_ok-rest.ensures k).atoms)
    (omega (arith, c.in_ok-_count.ensures.room, c.in_ok-_count.ensures.sum, c.len.ensures, at_end.counted))
