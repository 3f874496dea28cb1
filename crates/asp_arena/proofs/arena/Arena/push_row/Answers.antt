use Rattle.std.proofs.Common.{List, [], ◌∷◌, ◌++◌, sym, ap, ◌∙◌, subst}
use Rattle.asp_vars.specs.Literals.{Literal}
use Rattle.asp_arena.specs.declared.span.Span.{Span}
use Rattle.asp_arena.specs.Rows.{rows_of, AreSpans}
use Rattle.asp_arena.proofs.SpanLaws.{spans_more}
use Rattle.asp_arena.proofs.RowLaws.{rows_push}
use Rattle.asp_arena.proofs.arena.Arena.push_row.Goals as goal

pub invariant_of-self-2 : goal.invariant_of-self-2
invariant_of-self-2 c =
    let spans : List Span = c.self.inside.spans.items in
    let cells : List Literal = c.self.inside.cells.items in
    let lits : List Literal = c.args.lits.now in
    let span : Span = c.in_ok-span.span in
    subst (λ (cs : List Literal). AreSpans c.push.new.self.items cs) (sym c.in_ok-span.ensures.ok)
    (subst (λ (ss : List Span). AreSpans ss (cells ++ lits)) (sym c.in_ok-push.ensures.items) (spans_more spans cells lits span c.self.invariant c.in_ok-span.ensures.start c.in_ok-span.ensures.len))

pub returns : goal.returns
returns c =
    let spans : List Span = c.self.inside.spans.items in
    let cells : List Literal = c.self.inside.cells.items in
    let lits : List Literal = c.args.lits.now in
    ap (λ (cs : List Literal). rows_of c.push.new.self.items cs) c.in_ok-span.ensures.ok
    ∙ (ap (λ (ss : List Span). rows_of ss (cells ++ lits)) c.in_ok-push.ensures.items
    ∙ (rows_push spans cells lits c.in_ok-span.span c.self.invariant c.in_ok-span.ensures.start c.in_ok-span.ensures.len
    ∙ ap (λ (rows : List (List Literal)). rows ++ lits ∷ []) c.self.view_is))
