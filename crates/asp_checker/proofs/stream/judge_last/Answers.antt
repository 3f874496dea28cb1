use Rattle.std.proofs.Common.{ap, Err}
use Rattle.asp_checker.proofs.StreamLaws.{last_wrong, last_more, last_end, last_failed, fault_is, is_fault}
use Rattle.asp_checker.proofs.stream.judge_last.Goals as goal

pub returns-in-Some-clause-says : goal.returns-in-Some-clause-says
returns-in-Some-clause-says g c = λ p q h counted judged.
    last_wrong p q c.args.part c.in-Some.why c.args.number (g.S.Source.left c.args.source.now) c.args.reader.now c.requires.last h
    (rw c.in-Some.is at judged)

pub returns-then-more-clause-says : goal.returns-then-more-clause-says
returns-then-more-clause-says g c = λ p q h counted judged. rw c.refused.ensures
    (last_more p q c.args.part c.args.number (g.S.Source.left c.args.source.now) (g.S.Source.left c.has_more.new.source)
    c.args.reader.now c.has_more.new.self c.requires.last h (rw c.in_default.is at judged) (rw c.if-more.true at c.in-Ok.ensures.more))

pub returns-else-more-clause-says : goal.returns-else-more-clause-says
returns-else-more-clause-says g c = λ p q h counted judged. rw c.right.ensures
    (last_end p q c.args.part c.args.number c.args.count (g.S.Source.left c.args.source.now)
    (g.S.Source.left c.has_more.new.source) c.args.reader.now c.has_more.new.self c.requires.last h counted (rw c.in_default.is at judged)
    (rw c.if-more.false at c.in-Ok.ensures.more))

pub returns-in-Err-clause-says : goal.returns-in-Err-clause-says
returns-in-Err-clause-says g c = λ p q h counted judged. rw c.proof_error.ensures
    (last_failed p (g.S.Source.left c.args.source.now) (g.S.Source.left c.has_more.new.source) _ c.args.reader.now c.has_more.new.self c.in-Err.error
    c.in-Err.ensures.more)

pub returns-in-Err-clause-cause : goal.returns-in-Err-clause-cause
returns-in-Err-clause-cause g c = rw c.proof_error.ensures (λ is. c.in-Err.ensures.cause (ap Err (fault_is c.in-Err.error is)))

pub returns-in-Err-clause-quiet : goal.returns-in-Err-clause-quiet
returns-in-Err-clause-quiet g c = rw c.proof_error.ensures (λ never. c.in-Err.ensures.quiet (λ is. never (ap Err (is_fault c.in-Err.error is))))
