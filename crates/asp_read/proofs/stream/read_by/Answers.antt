use Rattle.asp_read.specs.Judging.{most_bytes}
use Rattle.asp_read.proofs.Supply.{answer, some_answer}
use Rattle.asp_read.proofs.stream.read_by.Goals as goal

pub returns-clause-text : goal.returns-clause-text
returns-clause-text g c = answer g.J.Judge.format (g.S.Source.left c.args.source.now) most_bytes c.read_within.result c.read_within.ensures.answers

pub returns-clause-some_text : goal.returns-clause-some_text
returns-clause-some_text g c = some_answer g.J.Judge.format (g.S.Source.left c.args.source.now) most_bytes c.read_within.result c.read_within.ensures.answers
