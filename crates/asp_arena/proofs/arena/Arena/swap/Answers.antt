use Rattle.std.proofs.Common.{ℕ, ◌<◌, List, [], length, get_or, set, sym, ap, ◌∙◌, subst}
use Rattle.std.specs.List.{swap}
use Rattle.asp_vars.specs.Literals.{Literal}
use Rattle.asp_arena.specs.declared.span.Span.{Span}
use Rattle.asp_arena.specs.Rows.{rows_of}
use Rattle.asp_arena.proofs.RowLaws.{rows_swap}
use Rattle.asp_arena.proofs.arena.Arena.swap.Goals as goal

pub returns : goal.returns
returns c =
    let spans : List Span = c.self.inside.spans.items in
    let cells : List Literal = c.self.inside.cells.items in
    let within : (i : ℕ) → i < length (get_or c.args.self.now c.args.id []) → i < length (get_or (rows_of spans cells) c.args.id []) =
    λ i. subst (λ (rows : List (List Literal)). i < length (get_or rows c.args.id [])) (sym c.self.view_is) in
    ap (rows_of spans) c.swap.ensures.items
    ∙ (rows_swap spans cells c.args.id c.args.i c.args.j c.index.result.now c.self.invariant c.index.ensures (within c.args.i c.requires.i) (within c.args.j c.requires.j)
    ∙ ap (λ (rows : List (List Literal)). set rows c.args.id (swap (get_or rows c.args.id []) c.args.i c.args.j)) c.self.view_is)
