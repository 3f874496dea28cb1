use Rattle.std.proofs.Common.{List, [], set, ap, ◌∙◌}
use Rattle.std.proofs.lemmas.List.{map-set}
use Rattle.asp_vars.specs.Literals.{Literal}
use Rattle.asp_arena.specs.Rows.{cells_of}
use Rattle.asp_arena.proofs.arena.Arena.clear.Goals as goal

pub returns : goal.returns
returns c =
    map-set (cells_of c.self.inside.cells.items) c.self.inside.spans.items c.args.id (record { start = 0; len = 0; next = 0 })
    ∙ ap (λ (rows : List (List Literal)). set rows c.args.id []) c.self.view_is
