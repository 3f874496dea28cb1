-- Sets of atoms as marks, at the places of their variables, and how bodies are read by them.
use Rattle.std.specs.Prelude.{◌≡◌, ℕ, ◌+◌, ◌-◌, true, Bool, false, not, ◌&&◌, ◌∷◌, [], List, Option, filter, flat_map, if◌then◌else◌, slice_index_or, slice_set}
use Rattle.std.specs.List.{list_any}
use Rattle.asp_model.specs.declared.program.Program.{Program}
use Rattle.asp_model.specs.Sets.{Atoms}
use Rattle.asp_model.specs.Models.{atoms_of}
use Rattle.asp_vars.specs.Literals.{Literal, complement, holds_in}
use Rattle.asp_vars.specs.Numbering.{var_of_atom, nth_atom}
use Rattle.asp_vars.specs.Completion.{supports}
use Rattle.asp_vars.specs.Unfounded.{is_excused}
use Rattle.asp_loop.specs.Parts.{form_of}

abbrev pub is_marked : List Bool → ℕ → Bool
is_marked marks v = slice_index_or marks v false

-- Nothing is marked.
abbrev pub AreBlank : List Bool → Type 0
AreBlank marks = (v : ℕ) → is_marked marks v ≡ false

-- the atoms of which the variable passes
abbrev pub shown : Program → (ℕ → Bool) → Atoms
shown p q = filter (λ a. q (var_of_atom p a)) (atoms_of p)

-- whether the literal says that such an atom is true
abbrev pub lit_inside : (ℕ → Bool) → Literal → Bool
lit_inside q l = l.truth && q l.var

-- whether the literal counts from outside of those atoms: it isn't false
abbrev pub lit_outside : List (Option Bool) → (ℕ → Bool) → Literal → Bool
lit_outside x q l = not (lit_inside q l) && not (holds_in x (complement l))

-- whether a body of a rule for the atom isn't excused
abbrev pub is_founded : Program → List (Option Bool) → Atoms → ℕ → Bool
is_founded p x U a = list_any (λ v. not (is_excused p x U (form_of p v))) (supports p a)

-- whether the variable's atom is marked, and founded from outside of the marked ones
abbrev pub is_dropped : Program → List (Option Bool) → List Bool → ℕ → Bool
is_dropped p x marks v = is_marked marks v && is_founded p x (shown p (is_marked marks)) (nth_atom p (v - 1))

abbrev pub atom_if : Program → List Bool → ℕ → List ℕ
atom_if p marks v = if is_marked marks v then nth_atom p (v - 1) ∷ [] else []

-- the atoms of those places of which the variable is marked
abbrev pub atoms_at : Program → List Bool → List ℕ → List ℕ
atoms_at p marks places = flat_map (λ k. atom_if p marks (k + 1)) places

-- places, where an atom that is marked is queued
abbrev pub requeue_places : List Bool → List Bool → ℕ → List Bool
requeue_places places marks v = if is_marked marks v then slice_set places (v - 1) true else places
