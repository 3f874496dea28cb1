-- What the tables of a program have.
use Rattle.std.specs.Prelude.{ℕ, ◌+◌, ◌-◌, ◌*◌, slice_index_or, ◌<◌, ◌≤◌, ◌==◌, true, ◌≡◌, List, [], ◌∷◌, map, filter, flat_map, length, Option, Some, None, if◌then◌else◌, slice_get, ℤ}
use Rattle.asp_model.specs.declared.program.Body.{Body}
use Rattle.asp_model.specs.declared.program.Body.TheVariants as body
use Rattle.asp_model.specs.declared.program.Program.{Program}
use Rattle.asp_model.specs.Sets.{Atoms, has}
use Rattle.asp_model.specs.Holding.{atom_of}
use Rattle.std.specs.List.{AllByRecursion}
use Rattle.asp_model.specs.Models.{rules_in_force, atoms_of, head_atoms}
use Rattle.asp_table.specs.declared.columns.Occurrence.{Occurrence}
use Rattle.asp_vars.specs.Literals.{Literal, literal_eq, has_literal}
use Rattle.asp_vars.specs.Numbering.{normal, body_eq, bodies_of, var_count, number_count, place_of, var_of_atom, literal_in, literal_of_form, nth_atom}
use Rattle.asp_vars.specs.Codes as code
use Rattle.asp_vars.specs.Completion.{supports}
use Rattle.asp_vars.specs.Places.{place_in}

-- ---- a body in normal form
-- the bound of a weight body
abbrev pub bound_of : Body → Option ℤ
bound_of (body.All literals) = None
bound_of (body.AtLeast bound items) = Some bound

-- its literals, as literals of variables
abbrev pub literals_in : Atoms → Body → List Literal
literals_in atoms (body.All literals) = map (literal_in atoms) literals
literals_in atoms (body.AtLeast bound items) = map (λ i. literal_in atoms i.0) items

abbrev pub form_literals : Program → Body → List Literal
form_literals p b = literals_in (atoms_of p) b

-- the weights of a weight body's literals
abbrev pub form_weights : Body → List ℤ
form_weights (body.All literals) = []
form_weights (body.AtLeast bound items) = map (λ i. i.1) items

-- the variables of the head atoms of its rules, rule by rule
abbrev pub heads_of : Program → Body → List ℕ
heads_of p b = map (var_of_atom p) (flat_map (λ r. if body_eq (normal r.body) b then head_atoms r.head else []) (rules_in_force p))

-- the bodies, ascending, in whose row a literal stands, and where it stands there
abbrev pub places_in : Program → (Body → List Literal) → Literal → List Occurrence
places_in p row l =
    map (λ b. record { body = place_of (body_eq b) (bodies_of p); place = place_of (λ k. literal_eq k l) (row b) })
    (filter (λ b. has_literal (row b) l) (bodies_of p))

-- those in which it stands
abbrev pub occurrences_of : Program → Literal → List Occurrence
occurrences_of p l = places_in p (form_literals p) l

-- the literal that says that the body holds, alone
abbrev pub held_row : Program → Body → List Literal
held_row p b = literal_of_form p b ∷ []

-- the bodies, ascending, of which a literal says that they hold
abbrev pub bodies_with : Program → Literal → List Occurrence
bodies_with p l = places_in p (held_row p) l

-- ---- atoms
-- the variable of an atom that stands
abbrev pub find_var : Program → ℕ → Option ℕ
find_var p a = place_in (atoms_of p) a

-- the atom of an atom's variable
abbrev pub find_atom : Program → ℕ → Option ℕ
find_atom p v = if v == 0 then None else slice_get (atoms_of p) (v - 1)

-- whether the variable is an atom's
abbrev pub IsAtomVar : Program → ℕ → Type 0
IsAtomVar p v = (0 < v) × (v ≤ length (atoms_of p))

-- whether the number is a body's
abbrev pub IsBodyNumber : Program → ℕ → Type 0
IsBodyNumber p n = (length (atoms_of p) < n) × (n ≤ number_count p)

-- whether the literal is of one of the program's variables
abbrev pub IsLiteral : Program → Literal → Type 0
IsLiteral p l = (0 < l.var) × (l.var ≤ var_count p)

-- The atoms of the body are among these.
abbrev pub Stands : Atoms → Body → Type 0
Stands atoms (body.All literals) = AllByRecursion (λ l. has atoms (atom_of l) ≡ true) literals
Stands atoms (body.AtLeast bound items) = AllByRecursion (λ i. has atoms (atom_of i.0) ≡ true) items

-- ---- tables of rows by number
-- Supports stand at the number of an atom's variable.
pub record AreSupports (p : Program) (rows : List (List ℕ)) : Type 0 where
  pub count : length rows ≡ length (atoms_of p) + 1
  pub row : (i : ℕ) → i < length (atoms_of p) → slice_index_or rows (i + 1) [] ≡ supports p (nth_atom p i)

-- Occurrences stand at a literal's code.
pub record AreOccurrences (p : Program) (rows : List (List Occurrence)) : Type 0 where
  pub count : length rows ≡ 2 * length (atoms_of p) + 2
  pub row : (n : ℕ) → n < 2 * length (atoms_of p) + 2 → slice_index_or rows n [] ≡ occurrences_of p (code.literal_of n)

-- The bodies that have a literal stand at its code.
pub record AreShared (p : Program) (rows : List (List Occurrence)) : Type 0 where
  pub count : length rows ≡ 2 * var_count p + 2
  pub row : (n : ℕ) → n < 2 * var_count p + 2 → slice_index_or rows n [] ≡ bodies_with p (code.literal_of n)
