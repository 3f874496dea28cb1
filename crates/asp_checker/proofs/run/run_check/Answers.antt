use Rattle.std.proofs.Common.{[], sym, ap, ◌∙◌, Err}
use Rattle.asp_proof.proofs.StreamLaws.{comes_so}
use Rattle.asp_checker.specs.Runs.{status_of}
use Rattle.asp_checker.proofs.RunLaws.{ok_no_fault, run_says, status_reads, status_sent, status_writes, text_judged, text_refused, never_read}
use Rattle.asp_checker.proofs.StreamLaws.{err_of}
use Rattle.asp_checker.proofs.run.run_check.Goals as goal

pub returns-in-Ok-clause-says : goal.returns-in-Ok-clause-says
returns-in-Ok-clause-says g c =
    run_says c.args.format _ _ _ c.write_judgement.result
    (comes_so (g.S.Source.left c.args.source.now) [] _ _
    (λ text h. text_judged c.args.format text _ _ c.in-Ok.judgement c.write_judgement.result h c.write_judgement.ensures.says)
    c.in-Ok.ensures.says)

pub returns-in-Ok-clause-read : goal.returns-in-Ok-clause-read
returns-in-Ok-clause-read g c = λ e. absurd (never_read _ _ c.in-Ok.judgement c.write_judgement.result c.write_judgement.ensures.says e)

pub returns-in-Ok-clause-read_quiet : goal.returns-in-Ok-clause-read_quiet
returns-in-Ok-clause-read_quiet g c = λ never. c.in-Ok.ensures.quiet (ok_no_fault c.in-Ok.judgement _)

pub returns-in-Err-clause-says : goal.returns-in-Err-clause-says
returns-in-Err-clause-says g c =
    rw c.status_of.ensures (run_says c.args.format _ _ _ (status_of c.in-Err.error)
    (comes_so (g.S.Source.left c.args.source.now) [] _ _ (λ text h. text_refused c.args.format text _ c.in-Err.error h)
    c.in-Err.ensures.says))

pub returns-in-Err-clause-sent : goal.returns-in-Err-clause-sent
returns-in-Err-clause-sent g c = rw c.status_of.ensures (status_sent _ c.in-Err.error)

pub returns-in-Err-clause-read : goal.returns-in-Err-clause-read
returns-in-Err-clause-read g c = λ e. c.in-Err.ensures.cause (ap Err (status_reads c.in-Err.error (sym c.status_of.ensures ∙ e)))

pub returns-in-Err-clause-read_quiet : goal.returns-in-Err-clause-read_quiet
returns-in-Err-clause-read_quiet g c = λ never. c.in-Err.ensures.quiet (λ is. never (c.status_of.ensures ∙ ap status_of (err_of c.in-Err.error _ is)))

pub returns-in-Err-clause-write : goal.returns-in-Err-clause-write
returns-in-Err-clause-write g c = λ e. absurd (status_writes c.in-Err.error (sym c.status_of.ensures ∙ e))
