use Rattle.std.proofs.Common.{refl, ap, ◌∙◌, arith}
use Rattle.std.proofs.Math.Seq.{map-set_same}
use Rattle.asp_arena.specs.declared.span.Span.{Span}
use Rattle.asp_arena.specs.Rows.{cells_of}
use Rattle.asp_arena.proofs.SpanLaws.{spans_stay}
use Rattle.asp_arena.proofs.arena.Arena.set_start.Goals as goal

pub invariant_of-self : goal.invariant_of-self
invariant_of-self c =
    let s : Span = c.index_mut.result.now in
    let t : Span = record s { next = c.in-Ok.next } in
    spans_stay c.self.inside.spans.items c.self.inside.cells.items c.args.id s t c.self.invariant
    (omega (arith, c.if-id-len.true, c.len.ensures, c.self.inside.spans.ok.0)) c.index_mut.ensures.value refl refl

pub returns-then-id-len : goal.returns-then-id-len
returns-then-id-len c =
    let s : Span = c.index_mut.result.now in
    let t : Span = record s { next = c.in-Ok.next } in
    map-set_same (cells_of c.self.inside.cells.items) c.self.inside.spans.items c.args.id t s (ap (cells_of c.self.inside.cells.items) c.index_mut.ensures.value)
    ∙ c.self.view_is
