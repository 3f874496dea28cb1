use Rattle.std.proofs.Common.{List, length, ltb, ap, ◌∙◌}
use Rattle.asp_vars.specs.Literals.{Literal}
use Rattle.asp_arena.specs.Rows.{row_at}
use Rattle.asp_store.proofs.RowLaws.{two_watched}
use Rattle.asp_store.proofs.rows.is_watched.Goals as goal

pub returns : goal.returns
returns c = ap (λ (xs : List Literal). ltb 1 (length xs)) c.row.ensures ∙ two_watched (row_at c.args.rows.now c.args.id)
