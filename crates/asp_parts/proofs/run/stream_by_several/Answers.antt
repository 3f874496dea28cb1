use Rattle.std.proofs.lemmas.Result.{IfOk-weaker}
use Rattle.asp_parts.proofs.CourseLaws.{begins-front}
use Rattle.asp_parts.proofs.run.stream_by_several.Goals as goal

pub returns-in_err-run-clause-front : goal.returns-in_err-run-clause-front
returns-in_err-run-clause-front g c =
    begins-front c.args.compiled.now (g.R.Reader.program c.args.reader.now) (g.R.Reader.all c.args.reader.now) (g.R.Reader.heard c.args.reader.now) c.requires.program c.requires.none

pub returns-in-Ok-clause-told : goal.returns-in-Ok-clause-told
returns-in-Ok-clause-told g c =
    IfOk-weaker c.told.result _ _
    (λ told tells. tells (g.R.Reader.heard c.go_through-all.new.reader) (g.R.Reader.wants c.go_through-all.new.reader) c.in-Ok.ensures.course.journal c.in-Ok.ensures.course.few c.in-Ok.ensures.over)
    c.told.ensures
