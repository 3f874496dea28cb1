-- A small program with a name.
use Rattle.std.specs.Prelude.{[], ◌∷◌, pos}
use Rattle.asp_model.specs.declared.program.Body.TheVariants as body
use Rattle.asp_model.specs.declared.program.Head.TheVariants as head
use Rattle.asp_model.specs.declared.program.Program.{Program}
use Rattle.asp_model.specs.Rows.{choice, rules_alone}

-- a <- b, c. { b; c }.
abbrev pub conjunction : Program
conjunction = rules_alone (record { head = head.One 1; body = body.All (pos 2 ∷ pos 3 ∷ []) } ∷ choice (2 ∷ 3 ∷ []) ∷ [])
