-- The names of bodies, by the rules with one head and the supports of the atoms.
use Rattle.std.specs.Prelude.{◌≡◌, ℕ, zero, suc, ◌+◌, ◌<◌, ◌==◌, ◌&&◌, Bool, false, if◌then◌else◌, List, [], ◌∷◌, length, filter, slice_index_or}
use Rattle.std.specs.List.{list_any}
use Rattle.asp_model.specs.declared.program.Body.{Body}
use Rattle.asp_model.specs.declared.program.Head.{Head}
use Rattle.asp_model.specs.declared.program.Head.TheVariants as head
use Rattle.asp_model.specs.declared.program.Rule.{Rule}
use Rattle.asp_model.specs.declared.program.Program.{Program}
use Rattle.asp_model.specs.Sets.{Atoms}
use Rattle.asp_model.specs.Models.{atoms_of}
use Rattle.asp_vars.specs.Numbering.{defines, named_or, var_in}

-- whether the head is one atom, of this variable
abbrev pub is_at : Atoms → ℕ → Head → Bool
is_at atoms v (head.One a) = var_in atoms a == v
is_at atoms v (head.Choice more) = false
is_at atoms v head.Never = false

-- For each variable of an atom whether a rule has the atom as its one head.
pub record AreHeadedAlone (marks : List Bool) (atoms : Atoms) (rules : List Rule) : Type 0 where
  pub whole : length marks ≡ length atoms + 1
  pub each : (v : ℕ) → v < length atoms + 1 → slice_index_or marks v false ≡ list_any (λ r. is_at atoms v r.head) rules

-- whether the row is the number alone
abbrev pub is_only : ℕ → List ℕ → Bool
is_only n [] = false
is_only n (m ∷ []) = m == n
is_only n (m ∷ k ∷ ks) = false

-- whether the body with this number defines the atom of a variable
abbrev pub defines_at : List Bool → List (List ℕ) → ℕ → ℕ → Bool
defines_at headed supports n v = slice_index_or headed v false && is_only n (slice_index_or supports v [])

-- the first of the variables below that passes, and 0 where none does
abbrev pub first_below : (ℕ → Bool) → ℕ → ℕ
first_below test zero = 0
first_below test (suc v) = if first_below test v == 0 && test v then v else first_below test v

-- For each body below the count the first variable of an atom that it defines, where the first body has this number.
pub record AreNames (names : List ℕ) (count first : ℕ) (headed : List Bool) (supports : List (List ℕ)) : Type 0 where
  pub whole : length names ≡ count
  pub each : (j : ℕ) → j < count → slice_index_or names j 0 ≡ first_below (defines_at headed supports (first + j)) first

-- the variable of the first atom that the body defines, and 0 where it defines none
abbrev pub name_var : Program → Body → ℕ
name_var p b = named_or (atoms_of p) 0 (filter (defines p b) (atoms_of p))
