-- The variables of a program: first its atoms, ascending, then those distinct bodies of its rules in force that have no name, in the order of their first occurrence. A body of one literal is that literal, and one that defines an atom is that atom.
use Rattle.std.specs.Prelude.{◌≡◌, ℕ, suc, ◌+◌, ◌-◌, ◌==◌, ◌<◌, ◌≤◌, Bool, true, false, ◌&&◌, if◌then◌else◌, List, [], ◌∷◌, ◌++◌, map, fold, filter, length, slice_index_or, ℤ, pos, ◌+ℤ◌, int_lt}
use Rattle.std.specs.List.{list_any}
use Rattle.std.specs.Ordering.{int_eq}
use Rattle.std.specs.Cmp.Lexicographic.{pointwise}
pub use Rattle.asp_table.specs.Columns.{place_of}
use Rattle.asp_model.specs.declared.program.Body.{Body}
use Rattle.asp_model.specs.declared.program.Body.TheVariants as body
use Rattle.asp_model.specs.declared.program.Head.{Head}
use Rattle.asp_model.specs.declared.program.Head.TheVariants as head
use Rattle.asp_model.specs.declared.program.Rule.{Rule}
use Rattle.asp_model.specs.declared.program.Program.{Program}
use Rattle.asp_model.specs.Sets.{Atoms, has}
use Rattle.asp_model.specs.Holding.{atom_of, is_positive, body_holds}
use Rattle.asp_model.specs.Models.{rules_in_force, atoms_of, head_atoms}
use Rattle.asp_vars.specs.Literals.{Literal, T, is_true}

-- ---- a body's normal form, in which equal literals stand once
-- the ascending list with the literal in it
abbrev pub with_literal : ℤ → List ℤ → List ℤ
with_literal l [] = l ∷ []
with_literal l (k ∷ ks) = if int_lt l k then l ∷ k ∷ ks else k ∷ (if int_lt k l then with_literal l ks else ks)

-- the ascending list with the weight added to the literal's
abbrev pub with_weight : ℤ × ℤ → List (ℤ × ℤ) → List (ℤ × ℤ)
with_weight i [] = i ∷ []
with_weight i (j ∷ js) =
    if int_lt i.0 j.0 then i ∷ j ∷ js else if int_lt j.0 i.0 then j ∷ with_weight i js else (j.0, j.1 +ℤ i.1) ∷ js

-- Bodies that mean the same by their literals, weights and bound have one normal form.
abbrev pub normal : Body → Body
normal (body.All literals) = body.All (fold (λ ks l. with_literal l ks) [] literals)
normal (body.AtLeast bound items) = body.AtLeast bound (fold (λ js i. if int_eq i.1 (pos 0) then js else with_weight i js) [] items)

abbrev pub body_eq : Body → Body → Bool
body_eq (body.All k) (body.All l) = pointwise int_eq k l
body_eq (body.AtLeast b k) (body.AtLeast c l) = int_eq b c && pointwise (λ i j. int_eq i.0 j.0 && int_eq i.1 j.1) k l
body_eq (body.All k) (body.AtLeast c l) = false
body_eq (body.AtLeast b k) (body.All l) = false

-- ---- the numbers
-- the list with the body in it
abbrev pub with_body : List Body → Body → List Body
with_body bs b = if list_any (body_eq b) bs then bs else bs ++ b ∷ []

abbrev pub distinct : List Body → List Body
distinct bodies = fold with_body [] bodies

abbrev pub bodies_of : Program → List Body
bodies_of p = distinct (map (λ r. normal r.body) (rules_in_force p))

-- whether a body isn't one literal
abbrev pub is_wide : Body → Bool
is_wide (body.All []) = true
is_wide (body.All (l ∷ [])) = false
is_wide (body.All (l ∷ k ∷ ks)) = true
is_wide (body.AtLeast bound items) = true

-- ---- names
-- the bodies, in their order, of normal and choice rules for the atom
abbrev pub support_bodies : Program → ℕ → List Body
support_bodies p a =
    filter (λ b. list_any (λ r. has (head_atoms r.head) a && body_eq (normal r.body) b) (rules_in_force p)) (bodies_of p)

-- whether the head is the atom
abbrev pub is_one : ℕ → Head → Bool
is_one a (head.One b) = b == a
is_one a (head.Choice atoms) = false
is_one a head.Never = false

-- whether the list is the body alone
abbrev pub is_alone : Body → List Body → Bool
is_alone b [] = false
is_alone b (c ∷ []) = body_eq c b
is_alone b (c ∷ d ∷ ds) = false

-- The body defines the atom: the atom is the head of a rule, and no rule for it has another body.
abbrev pub defines : Program → Body → ℕ → Bool
defines p b a = list_any (λ r. is_one a r.head) (rules_in_force p) && is_alone b (support_bodies p a)

-- The atoms that a normal body defines, ascending. The first one is its name.
abbrev pub names : Program → Body → List ℕ
names p (body.All literals) = filter (defines p (body.All literals)) (atoms_of p)
names p (body.AtLeast bound items) = []

abbrev pub is_nameless : List ℕ → Bool
is_nameless [] = true
is_nameless (a ∷ more) = false

-- ---- variables
-- Whether a body has a variable of its own: one of a single literal hasn't, nor one that has a name.
abbrev pub is_apart : Program → Body → Bool
is_apart p b = is_wide b && is_nameless (names p b)

abbrev pub apart_bodies : Program → List Body
apart_bodies p = filter (is_apart p) (bodies_of p)

-- the number of variables
abbrev pub var_count : Program → ℕ
var_count p = length (atoms_of p) + length (apart_bodies p)

-- The variables are 1 to n.
abbrev pub IsVar : ℕ → ℕ → Type 0
IsVar n v = (0 < v) × (v ≤ n)

-- the place of an atom in a list of atoms, counted from 1
abbrev pub var_in : Atoms → ℕ → ℕ
var_in atoms a = suc (place_of (λ b. b == a) atoms)

abbrev pub var_of_atom : Program → ℕ → ℕ
var_of_atom p a = var_in (atoms_of p) a

-- an atom's literal as a literal of its variable
abbrev pub literal_in : Atoms → ℤ → Literal
literal_in atoms l = record { var = var_in atoms (atom_of l); truth = is_positive l }

abbrev pub literal_of : Program → ℤ → Literal
literal_of p l = literal_in (atoms_of p) l

-- the variable of a body's name, and v where it has none
abbrev pub named_or : Atoms → ℕ → List ℕ → ℕ
named_or atoms v [] = v
named_or atoms v (a ∷ more) = var_in atoms a

-- of a body in normal form that isn't one literal
abbrev pub var_of_form : Program → Body → ℕ
var_of_form p b = named_or (atoms_of p) (suc (length (atoms_of p) + place_of (body_eq b) (apart_bodies p))) (names p b)

-- that a body in normal form holds, by the number of its variable, if it isn't one literal
abbrev pub literal_by : Atoms → ℕ → Body → Literal
literal_by atoms v (body.All []) = T v
literal_by atoms v (body.All (l ∷ [])) = literal_in atoms l
literal_by atoms v (body.All (l ∷ k ∷ ks)) = T v
literal_by atoms v (body.AtLeast bound items) = T v

abbrev pub literal_of_form : Program → Body → Literal
literal_of_form p b = literal_by (atoms_of p) (var_of_form p b) b

abbrev pub literal_of_body : Program → Body → Literal
literal_of_body p b = literal_of_form p (normal b)

-- The number of a body in normal form. Bodies are numbered behind the atoms, whether or not they have variables of their own.
abbrev pub number_of_form : Program → Body → ℕ
number_of_form p b = suc (length (atoms_of p) + place_of (body_eq b) (bodies_of p))

-- the last of these numbers
abbrev pub number_count : Program → ℕ
number_count p = length (atoms_of p) + length (bodies_of p)

-- the place of a body among the distinct ones
abbrev pub place_of_body : Program → Body → ℕ
place_of_body p b = place_of (body_eq (normal b)) (bodies_of p)

-- The value in S of each variable, which stands at the place of its number. No variable has the number 0.
abbrev pub values : Program → Atoms → List Bool
values p S = false ∷ map (has S) (atoms_of p) ++ map (body_holds S) (apart_bodies p)

abbrev pub nth_body : Program → ℕ → Body
nth_body p j = slice_index_or (bodies_of p) j (body.All [])

-- the body with this number
abbrev pub form_at : Program → ℕ → Body
form_at p n = nth_body p (n - length (atoms_of p) - 1)

abbrev pub nth_rule : Program → ℕ → Rule
nth_rule p i = slice_index_or (rules_in_force p) i (record { head = head.Never; body = body.All [] })

abbrev pub nth_atom : Program → ℕ → ℕ
nth_atom p i = slice_index_or (atoms_of p) i 0

-- Each body's literal says of S whether the body holds in it: an atom is in S exactly where the body does that has it as its name.
abbrev pub IsReadBy : Program → Atoms → Type 0
IsReadBy p S = (b : Body) → list_any (body_eq b) (bodies_of p) ≡ true → is_true (values p S) (literal_of_form p b) ≡ body_holds S b
