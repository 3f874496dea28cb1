-- A small program, and assignments of its variables.
use Rattle.std.specs.Prelude.{Bool, List, [], ◌∷◌, Option, Some, None, pos}
use Rattle.asp_model.specs.declared.program.Body.TheVariants as body
use Rattle.asp_model.specs.declared.program.Head.TheVariants as head
use Rattle.asp_model.specs.declared.program.Program.{Program}
use Rattle.asp_model.specs.Rows.{rules_alone, choice}

-- a <- b. b <- a. { c }. a <- c. A body of one atom is that atom's variable, and the empty one is the variable 4.
abbrev pub supported_loop : Program
supported_loop =
    rules_alone (record { head = head.One 1; body = body.All (pos 2 ∷ []) } ∷ record { head = head.One 2; body = body.All (pos 1 ∷ []) } ∷ choice
    (3 ∷ []) ∷ record { head = head.One 1; body = body.All (pos 3 ∷ []) } ∷ [])

-- The atom c, and with it the body of c alone, has this value, and no other variable has one.
abbrev pub with_support : Bool → List (Option Bool)
with_support b = None ∷ None ∷ None ∷ Some b ∷ None ∷ []
