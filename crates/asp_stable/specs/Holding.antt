-- Bodies read with positive literals that hold and are founded.
use Rattle.std.specs.Prelude.{Bool, not, ◌&&◌, ◌||◌, List, Option, int_le}
use Rattle.std.specs.List.{list_all}
use Rattle.asp_model.specs.declared.program.Body.{Body}
use Rattle.asp_model.specs.declared.program.Body.TheVariants as body
use Rattle.asp_model.specs.declared.program.Program.{Program}
use Rattle.asp_vars.specs.Literals.{Literal, holds_in}
use Rattle.asp_vars.specs.Tabled.{form_literals, form_weights}
use Rattle.asp_loop.specs.Weighing.{weigh}
use Rattle.asp_found.specs.Marks.{is_marked}

-- The literal holds, and is marked if it is positive.
abbrev pub is_held : List (Option Bool) → List Bool → Literal → Bool
is_held a marks l = holds_in a l && (not l.truth || is_marked marks l.var)

-- whether the body, in normal form, holds so
abbrev pub body_held : Program → List (Option Bool) → List Bool → Body → Bool
body_held p a marks (body.All literals) = list_all (is_held a marks) (form_literals p (body.All literals))
body_held p a marks (body.AtLeast bound items) =
    int_le bound (weigh (is_held a marks) (form_literals p (body.AtLeast bound items)) (form_weights (body.AtLeast bound items)))
