use Rattle.asp_parts.proofs.CourseLaws.{begins-front}
use Rattle.asp_parts.proofs.run.stream_parts.Goals as goal

pub returns-in_err-is_of_use-clause-front : goal.returns-in_err-is_of_use-clause-front
returns-in_err-is_of_use-clause-front g c =
    begins-front c.args.compiled.now (g.R.Reader.program c.args.reader.now) (g.R.Reader.all c.args.reader.now) (g.R.Reader.heard c.args.reader.now) c.requires.program c.requires.none
