-- The nogood of a body that holds where its literal doesn't, or whose literal holds where the body doesn't.
use Rattle.std.specs.Prelude.{Bool, true, false, List, [], ◌∷◌, Option, Some, None, if◌then◌else◌}
use Rattle.asp_model.specs.declared.program.Body.{Body}
use Rattle.asp_model.specs.declared.program.Program.{Program}
use Rattle.asp_vars.specs.Literals.{Literal, complement, is_true}
use Rattle.asp_vars.specs.Numbering.{literal_of_form}
use Rattle.asp_vars.specs.Completion.{is_barred}
use Rattle.asp_vars.specs.Tabled.{form_literals}

-- the first of the literals that isn't true
abbrev pub first_false : List Bool → List Literal → Option Literal
first_false values [] = None
first_false values (l ∷ ls) = if is_true values l then first_false values ls else Some l

abbrev pub complements : Option Literal → List Literal
complements None = []
complements (Some l) = complement l ∷ []

-- Where the body holds, all of its literals are true, which no constraint's body allows, and no other one's whose literal is false.
abbrev pub holding_literals : Program → Body → List Literal
holding_literals p b = if is_barred p b then form_literals p b else complement (literal_of_form p b) ∷ form_literals p b

-- Where it doesn't, its literal is true, which no constraint's is, and no other one's where one of its literals is false.
abbrev pub lacking_literals : Program → List Bool → Body → List Literal
lacking_literals p values b = literal_of_form p b ∷ (if is_barred p b then [] else complements (first_false values (form_literals p b)))

-- by whether the body holds
abbrev pub misnamed_literals : Program → List Bool → Body → Bool → List Literal
misnamed_literals p values b true = holding_literals p b
misnamed_literals p values b false = lacking_literals p values b
