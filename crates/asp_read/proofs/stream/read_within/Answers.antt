use Rattle.asp_read.proofs.Supply.{no_failed_read}
use Rattle.asp_read.proofs.stream.read_within.Goals as goal

pub read_all-requires-clause-lines : goal.read_all-requires-clause-lines
read_all-requires-clause-lines g c = c.new-lines.ensures

pub returns-in-Ok-clause-answers : goal.returns-in-Ok-clause-answers
returns-in-Ok-clause-answers g c = c.in-Ok.ensures.ends c.finish.result c.finish.ensures.text

pub returns-in-Ok-clause-stops : goal.returns-in-Ok-clause-stops
returns-in-Ok-clause-stops g c = c.in-Ok.ensures.ends_there c.finish.result c.finish.ensures.of_lines

pub returns-in-Ok-clause-cause : goal.returns-in-Ok-clause-cause
returns-in-Ok-clause-cause g c = λ e. absurd (no_failed_read c.finish.result c.finish.ensures.of_lines e)
