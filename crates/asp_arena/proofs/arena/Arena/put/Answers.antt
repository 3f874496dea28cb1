use Rattle.std.proofs.Common.{◌<◌, List, length, set, sym, ap, ◌∙◌, subst, arith}
use Rattle.std.proofs.lemmas.List.{length-map}
use Rattle.asp_vars.specs.Literals.{Literal}
use Rattle.asp_arena.specs.declared.span.Span.{Span}
use Rattle.asp_arena.specs.Rows.{cells_of, rows_of, AreSpans}
use Rattle.asp_arena.proofs.SpanLaws.{spans_put}
use Rattle.asp_arena.proofs.RowLaws.{rows_put}
use Rattle.asp_arena.proofs.arena.Arena.put.Goals as goal

pub invariant_of-self-2 : goal.invariant_of-self-2
invariant_of-self-2 c =
    let spans : List Span = c.self.inside.spans.items in
    let cells : List Literal = c.self.inside.cells.items in
    let lits : List Literal = c.args.lits.now in
    let span : Span = c.in_ok-span.span in
    let n = ap length (c.self.view_is ∙ c.compact.ensures) in
    let lt : c.args.id < length spans = omega (arith, c.requires, n, length-map spans (cells_of cells)) in
    subst (λ (cs : List Literal). AreSpans (set spans c.args.id span) cs) (sym c.in_ok-span.ensures.ok)
    (spans_put spans cells lits c.args.id span c.self.invariant lt c.in_ok-span.ensures.start c.in_ok-span.ensures.len)

pub returns-clause-ok : goal.returns-clause-ok
returns-clause-ok c =
    let spans : List Span = c.self.inside.spans.items in
    let cells : List Literal = c.self.inside.cells.items in
    let lits : List Literal = c.args.lits.now in
    let span : Span = c.in_ok-span.span in
    ap (rows_of (set spans c.args.id span)) c.in_ok-span.ensures.ok
    ∙ (rows_put spans cells lits c.args.id span c.self.invariant c.in_ok-span.ensures.start c.in_ok-span.ensures.len
    ∙ ap (λ (rows : List (List Literal)). set rows c.args.id lits) (c.self.view_is ∙ c.compact.ensures))
