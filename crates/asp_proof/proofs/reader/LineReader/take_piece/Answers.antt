use Rattle.std.proofs.Common.{◌+◌, ◌-◌, ◌++◌, take, drop, length, true, Ok, sym, subst, arith}
use Rattle.asp_proof.specs.Grammar.{IsUnbroken}
use Rattle.asp_proof.specs.Reading.{Window, window, HasLongLine, TakesPiece}
use Rattle.asp_proof.proofs.LineLaws.{not_nil}
use Rattle.asp_proof.proofs.ReaderLaws.{piece_ended, piece_long}
use Rattle.asp_proof.proofs.reader.LineReader.take_piece.Goals as goal

pub returns-then-count-len-clause-takes : goal.returns-then-count-len-clause-takes
returns-then-count-len-clause-takes c =
    let s = c.self.inside in
    let u = subst (λ (w : Window). IsUnbroken w.line) (sym c.self.view_is) c.requires in
    subst (λ (w : Window). HasLongLine (w.line ++ w.behind)) c.self.view_is
    (piece_long s.line.items c.cut.result.0.now c.cut.result.1.now (take (s.end - s.start) (drop s.start s.piece.items)) u
    (rw c.deref.ensures.value at c.cut.ensures) (omega (arith, c.if-count-len.true, c.len.ensures, c.self.invariant.0)))

pub returns-clause-takes : goal.returns-clause-takes
returns-clause-takes c =
    let s = c.self.inside in
    let front = c.cut.result.0.now in
    let u = subst (λ (w : Window). IsUnbroken w.line) (sym c.self.view_is) c.requires in
    let more = not_nil c.is_empty-is_whole.result c.cut.result.1.now c.is_empty-is_whole.ensures c.if-is_whole.false in
    let h = piece_ended s.line.items front c.cut.result.1.now s.piece.items s.start s.end c.self.invariant.2 u (rw c.deref.ensures.value at c.cut.ensures) more in
    rw c.in_ok-extend_from_slice.ensures.items
    (subst (λ (w : Window). TakesPiece w (window (s.line.items ++ front) (take (s.end - (s.start + length front + 1)) (drop (s.start + length front + 1) s.piece.items))) (Ok true)) c.self.view_is h)
