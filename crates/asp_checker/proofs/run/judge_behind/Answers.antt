use Rattle.std.proofs.Common.{ap, Err, Result}
use Rattle.asp_model.specs.declared.program.Program.{Program}
use Rattle.asp_read.specs.declared.fault.ReadError.{ReadError}
use Rattle.asp_proof.specs.Reading.{held}
use Rattle.asp_proof.proofs.StreamLaws.{comes_any, comes_so}
use Rattle.asp_checker.proofs.RunLaws.{program_judged, program_refused}
use Rattle.asp_checker.proofs.run.judge_behind.Goals as goal

pub returns-in-Ok-clause-says : goal.returns-in-Ok-clause-says
returns-in-Ok-clause-says g c =
    comes_so (g.S.Source.left c.args.source.now) (held c.args.reader.now) _ _
    (λ text h. program_judged c.args.format c.args.program.items text c.in-Ok.program c.judge_by.result
    (rw c.as_slice.ensures.value at c.in-Ok.ensures.read) h) c.judge_by.ensures.says

pub returns-in-Err-clause-says : goal.returns-in-Err-clause-says
returns-in-Err-clause-says g c =
    rw c.program_error.ensures (comes_any (g.S.Source.left c.args.source.now) (held c.args.reader.now) _
    (λ rest. program_refused c.args.format c.args.program.items _ c.in-Err.error
    (λ h. c.in-Err.ensures.no_read (ap (λ (e : ReadError). let r : Result Program ReadError = Err e in r) h))
    (rw c.as_slice.ensures.value at c.in-Err.ensures.read)))
