use Rattle.std.proofs.Common.{ap, ◌∙◌}
use Rattle.asp_proof.specs.Reading.{Window}
use Rattle.asp_proof.proofs.ReaderLaws.{unused}
use Rattle.asp_proof.proofs.reader.LineReader.is_used.Goals as goal

pub returns : goal.returns
returns c =
    let s = c.self.inside in
    λ h. unused s.start s.end s.piece.items c.self.invariant.1 c.self.invariant.2 c.if-self.false (ap (λ (w : Window). w.behind) c.self.view_is ∙ h)
