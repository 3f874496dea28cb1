use Rattle.std.proofs.Common.{ap, Err}
use Rattle.asp_checker.proofs.StreamLaws.{steps_fail, fault_is, is_fault}
use Rattle.asp_checker.proofs.stream.next_line.Goals as goal

pub returns-in-Err-clause-next : goal.returns-in-Err-clause-next
returns-in-Err-clause-next g c = rw c.proof_error.ensures (steps_fail _ _ c.args.reader.now c.next_line.new.self c.in-Err.error c.in-Err.ensures.next)

pub returns-in-Err-clause-cause : goal.returns-in-Err-clause-cause
returns-in-Err-clause-cause g c = rw c.proof_error.ensures (λ is. c.in-Err.ensures.cause (ap Err (fault_is c.in-Err.error is)))

pub returns-in-Err-clause-quiet : goal.returns-in-Err-clause-quiet
returns-in-Err-clause-quiet g c = rw c.proof_error.ensures (λ never. c.in-Err.ensures.quiet (λ is. never (ap Err (is_fault c.in-Err.error is))))
