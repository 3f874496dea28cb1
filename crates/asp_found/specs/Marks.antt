-- Sets of atoms as marks, at the places of their variables.
use Rattle.std.specs.Prelude.{◌≡◌, ℕ, Bool, true, false, not, ◌&&◌, ◌∷◌, [], ◌++◌, List, IsTrue, if◌then◌else◌, filter, fold, slice_index_or, slice_set, int_le}
use Rattle.std.specs.List.{list_all}
use Rattle.asp_model.specs.declared.program.Body.{Body}
use Rattle.asp_model.specs.declared.program.Body.TheVariants as body
use Rattle.asp_model.specs.declared.program.Program.{Program}
use Rattle.asp_model.specs.Sets.{Atoms, has}
use Rattle.asp_model.specs.Models.{atoms_of}
use Rattle.asp_vars.specs.Literals.{Literal}
use Rattle.asp_vars.specs.Numbering.{var_of_atom, nth_body}
use Rattle.asp_vars.specs.Tabled.{form_literals, form_weights, heads_of}
use Rattle.asp_loop.specs.Weighing.{weigh}

abbrev pub is_marked : List Bool → ℕ → Bool
is_marked marks v = slice_index_or marks v false

-- The marks show which atoms are in the set.
abbrev pub Shows : Program → Atoms → List Bool → Type 0
Shows p S marks = (a : ℕ) → IsTrue (has (atoms_of p) a) → is_marked marks (var_of_atom p a) ≡ has S a

-- the atoms that are marked
abbrev pub shown : Program → List Bool → Atoms
shown p marks = filter (λ a. is_marked marks (var_of_atom p a)) (atoms_of p)

-- positive literals are read in the derived atoms, negative ones in the set
abbrev pub lit_between : List Bool → List Bool → Literal → Bool
lit_between set derived l = if l.truth then is_marked derived l.var else not (is_marked set l.var)

-- whether the body, in normal form, holds so
abbrev pub marks_hold : Program → List Bool → List Bool → Body → Bool
marks_hold p set derived (body.All literals) = list_all (lit_between set derived) (form_literals p (body.All literals))
marks_hold p set derived (body.AtLeast bound items) =
    int_le bound (weigh (lit_between set derived) (form_literals p (body.AtLeast bound items)) (form_weights (body.AtLeast bound items)))

-- An atom of the set that isn't derived yet is, and comes to the end of the list.
abbrev pub derive : List Bool → List Bool × List ℕ → ℕ → List Bool × List ℕ
derive set s v = if is_marked set v && not (is_marked s.0 v) then (slice_set s.0 v true, s.1 ++ v ∷ []) else s

-- what a body that holds derives
abbrev pub derive_by : Program → List Bool → List Bool × List ℕ → ℕ → List Bool × List ℕ
derive_by p set s j = if marks_hold p set s.0 (nth_body p j) then fold (derive set) s (heads_of p (nth_body p j)) else s
