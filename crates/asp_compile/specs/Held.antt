-- The literals of bodies, one after another.
use Rattle.std.specs.Prelude.{ℕ, ◌+◌, ◌==◌, ◌&&◌, Bool, true, List, [], ◌∷◌, if◌then◌else◌}
use Rattle.asp_model.specs.declared.program.Body.{Body}
use Rattle.asp_model.specs.declared.program.Body.TheVariants as body
use Rattle.asp_model.specs.Sets.{Atoms}
use Rattle.asp_vars.specs.Literals.{Literal}
use Rattle.asp_vars.specs.Numbering.{is_wide, literal_by}

-- whether a body has no name, where n is the variable of the first atom that it defines, or 0
abbrev pub is_unnamed : Body → ℕ → Bool
is_unnamed (body.All literals) n = n == 0
is_unnamed (body.AtLeast bound items) n = true

-- whether it takes a variable
abbrev pub takes_var : Body → ℕ → Bool
takes_var b n = is_wide b && is_unnamed b n

-- the number of the next variable, behind a body
abbrev pub next_var : ℕ → Body → ℕ → ℕ
next_var v b n = if takes_var b n then v + 1 else v

-- the literal of a body
abbrev pub literal_for : Atoms → ℕ → Body → ℕ → Literal
literal_for atoms v b n = literal_by atoms (if is_unnamed b n then v else n) b

-- the literals of the bodies, where the first that takes a variable has this one
abbrev pub literals_from : Atoms → ℕ → List Body → List ℕ → List Literal
literals_from atoms v [] ns = []
literals_from atoms v (b ∷ bs) [] = []
literals_from atoms v (b ∷ bs) (n ∷ ns) = literal_for atoms v b n ∷ literals_from atoms (next_var v b n) bs ns

-- the number behind the last of their variables
abbrev pub var_behind : ℕ → List Body → List ℕ → ℕ
var_behind v [] ns = v
var_behind v (b ∷ bs) [] = v
var_behind v (b ∷ bs) (n ∷ ns) = var_behind (next_var v b n) bs ns
