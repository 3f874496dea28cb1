use Rattle.asp_proof.proofs.ReaderLaws.{moves_none, filled_has}
use Rattle.asp_proof.proofs.reader.LineReader.has_more.Goals as goal

pub returns-then-not-is_used-clause-more : goal.returns-then-not-is_used-clause-more
returns-then-not-is_used-clause-more g c = (c.args.self.now.behind, c.if-not-is_used.ensures, moves_none (g.S.Source.left c.args.source.now) c.args.self.now.behind)

pub returns-clause-more : goal.returns-clause-more
returns-clause-more g c = filled_has (g.S.Source.left c.args.source.now) (g.S.Source.left c.fill.new.source) c.args.self.now c.fill.new.self c.fill.result c.if-not-is_used.ensures c.fill.ensures.fills
