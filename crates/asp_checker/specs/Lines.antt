-- When a line of a proof is confirmed by those before it.
use Rattle.std.specs.Prelude.{◌≡◌, ℕ, zero, suc, ◌<◌, ◌≤◌, Bool, not, ◌||◌, List, [], ◌∷◌, ◌++◌, map, Option, Some, None, ℤ, pos, negsuc, int_lt, IsTrue}
use Rattle.std.specs.List.{list_all, list_any, AllByRecursion}
use Rattle.asp_model.specs.declared.program.Body.{Body}
use Rattle.asp_model.specs.declared.program.Body.TheVariants as body
use Rattle.asp_model.specs.declared.program.Program.{Program}
use Rattle.asp_model.specs.Sets.{Atoms, IsAscending, has}
use Rattle.asp_model.specs.Models.{rules_in_force, atoms_of, head_atoms}
use Rattle.asp_model.specs.Costs.{cost, betters, just_above}
use Rattle.asp_vars.specs.Literals.{Literal, T, F, complement, has_literal}
use Rattle.asp_vars.specs.Numbering.{normal, var_count, var_of_atom, literal_of_form}
use Rattle.asp_vars.specs.Completion.{completion}
use Rattle.asp_vars.specs.Unfounded.{is_inside}
use Rattle.asp_loop.specs.LoopNogoods.{weight_where, is_left}
use Rattle.asp_proof.specs.declared.proof.Line.{Line}
use Rattle.asp_proof.specs.declared.proof.Line.TheVariants as line
use Rattle.asp_proof.specs.declared.proof.Sought.{Sought}
use Rattle.asp_proof.specs.declared.proof.Sought.TheVariants as sought
use Rattle.asp_proof.specs.Changes.{changed, last_from, last_of}
use Rattle.asp_checker.specs.declared.rows.Rows.{Rows}
use Rattle.asp_checker.specs.Propagation.{Known, LeadsToConflict}

-- a number is a variable, and its sign whether it is true
abbrev pub signed : ℤ → Literal
signed (pos v) = T v
signed (negsuc v) = F (suc v)

abbrev pub literals_of : List ℤ → List Literal
literals_of numbers = map signed numbers

-- ---- loops
-- Where the nogood's literals hold, the body is false or can't hold from outside of U.
abbrev pub is_answered : Program → Atoms → List Literal → Body → Bool
is_answered p U n (body.All literals) = has_literal n (complement (literal_of_form p (body.All literals))) || list_any (is_inside U) literals
is_answered p U n (body.AtLeast bound items) =
    has_literal n (complement (literal_of_form p (body.AtLeast bound items))) || int_lt (weight_where (is_left p U n) items) bound

-- An atom of U is true in the nogood, and each body of a rule with a head atom in U is answered.
pub record IsLoop (p : Program) (U : Atoms) (n : List Literal) : Type 0 where
  pub among : IsTrue (list_all (has (atoms_of p)) U)
  pub head : IsTrue (list_any (λ a. has_literal n (T (var_of_atom p a))) U)
  pub bodies : IsTrue (list_all (λ r. not (list_any (has U) (head_atoms r.head)) || is_answered p U n (normal r.body)) (rules_in_force p))

-- ---- lines
-- The program has the variable.
abbrev pub IsOf : Program → Literal → Type 0
IsOf p l = (0 < l.var) × (l.var ≤ var_count p)

abbrev pub AreOf : Program → List Literal → Type 0
AreOf p n = AllByRecursion (IsOf p) n

-- a nogood in a place, counted from 0: the one that was there is known no more; behind the last one, where there is no such place
abbrev pub put : List (List Literal) → ℕ → List Literal → List (List Literal)
put [] at n = n ∷ []
put (m ∷ placed) zero n = n ∷ placed
put (m ∷ placed) (suc at) n = m ∷ put placed at n

-- what is known for good, and the nogoods in places
pub record Stock : Type 0 where
  pub kept : Known
  pub placed : List (List Literal)

abbrev pub stock : Known → List (List Literal) → Stock
stock k placed = record { kept = k; placed = placed }

-- all that is known
abbrev pub all_of : Stock → Known
all_of s = record { nogoods = s.placed ++ s.kept.nogoods; bound = s.kept.bound }

-- ---- sets found
-- the literals of all atoms by which a set differs from all others
abbrev pub nogood_of_answer : Program → Atoms → List Literal
nogood_of_answer p S = map (λ a. record { var = var_of_atom p a; truth = has S a }) (atoms_of p)

-- the cost of the last set found
abbrev pub bound_of : Program → List Atoms → Option (List ℤ)
bound_of p [] = None
bound_of p (S ∷ found) = Some (cost p (last_from S found))

-- the first cost behind that of the sets found, where all that none betters are sought: these cost what the first of them costs
abbrev pub above_of : Program → List Atoms → Option (List ℤ)
above_of p [] = None
above_of p (S ∷ found) = just_above (cost p S)

-- the cost that is to be bettered
abbrev pub bound_by : Program → Sought → List Atoms → Option (List ℤ)
bound_by p sought.All found = None
bound_by p sought.Best found = bound_of p found
bound_by p sought.Optima found = above_of p found

-- the sets that are to be avoided: those found, but not those that are to be bettered
abbrev pub avoided : Sought → List Atoms → List Atoms
avoided sought.All found = found
avoided sought.Best found = []
avoided sought.Optima found = found

-- Where one answer that none betters is sought, the set costs less than the last of those before it.
abbrev pub IsCheaper : Program → Sought → List Atoms → Atoms → Type 0
IsCheaper p sought.All before S = Unit {0}
IsCheaper p sought.Best [] S = Unit {0}
IsCheaper p sought.Best (T ∷ before) S = IsTrue (betters (cost p S) (cost p (last_from T before)))
IsCheaper p sought.Optima before S = Unit {0}

-- Where all answers that none betters are sought, the set costs what the first of those before it costs.
abbrev pub CostsAlike : Program → Sought → List Atoms → Atoms → Type 0
CostsAlike p sought.All before S = Unit {0}
CostsAlike p sought.Best before S = Unit {0}
CostsAlike p sought.Optima [] S = Unit {0}
CostsAlike p sought.Optima (T ∷ before) S = cost p S ≡ cost p T

-- A set may be found behind those before it. Whether it is an answer is looked at where it is listed.
pub record MayBeFound (p : Program) (sought : Sought) (before : List Atoms) (S : Atoms) : Type 0 where
  pub ascending : IsAscending S
  pub atoms : IsTrue (list_all (has (atoms_of p)) S)
  pub cheaper : IsCheaper p sought before S
  pub alike : CostsAlike p sought before S

-- ---- lines one after another
-- what the lines so far gave: the sets found, in their order, the nogoods that are known for good, and those in places
pub record Gathered : Type 0 where
  pub found : List Atoms
  pub kept : List (List Literal)
  pub placed : List (List Literal)

abbrev pub gathered : List Atoms → Rows → Gathered
gathered found rows = record { found = found; kept = rows.kept.items; placed = rows.placed.items }

-- Before the first line it is the completion.
abbrev pub first_gathered : Program → Gathered
first_gathered p = record { found = []; kept = completion p; placed = [] }

-- what is known by it: the nogoods, those of the sets that are to be avoided too, and the cost that is to be bettered
abbrev pub stock_of : Program → Sought → Gathered → Stock
stock_of p o g = stock (record { nogoods = map (nogood_of_answer p) (avoided o g.found) ++ g.kept; bound = bound_by p o g.found }) g.placed

abbrev pub known_of : Program → Sought → Gathered → Known
known_of p o g = all_of (stock_of p o g)

-- the set that is found by a change
abbrev pub found_by : Gathered → Atoms → Atoms
found_by g change = changed (last_of g.found) change

-- A line is right where this was gathered before it.
abbrev pub IsConfirmed : Program → Sought → Gathered → Line → Type 0
IsConfirmed p o g (line.Loop place set nogood) = AreOf p (literals_of nogood) × IsLoop p set (literals_of nogood)
IsConfirmed p o g (line.Learned place nogood names) = AreOf p (literals_of nogood) × LeadsToConflict p (known_of p o g) (literals_of nogood)
IsConfirmed p o g (line.Cube nogood) = AreOf p (literals_of nogood) × LeadsToConflict p (known_of p o g) (literals_of nogood)
IsConfirmed p o g (line.Found change) = MayBeFound p o g.found (found_by g change)

-- with a nogood, which takes a place, counted from 1, or is known for good, where that is 0
abbrev pub with_nogood : Gathered → ℕ → List Literal → Gathered
with_nogood g zero n = record { found = g.found; kept = g.kept ++ n ∷ []; placed = g.placed }
with_nogood g (suc at) n = record { found = g.found; kept = g.kept; placed = put g.placed at n }

abbrev pub with_found : Gathered → Atoms → Gathered
with_found g S = record { found = g.found ++ S ∷ []; kept = g.kept; placed = g.placed }

abbrev pub with_line : Gathered → Line → Gathered
with_line g (line.Loop place set nogood) = with_nogood g place (literals_of nogood)
with_line g (line.Learned place nogood names) = with_nogood g place (literals_of nogood)
with_line g (line.Cube nogood) = with_nogood g 0 (literals_of nogood)
with_line g (line.Found change) = with_found g (found_by g change)

-- Each line is right where this and what the lines before it gave was gathered.
abbrev pub AreConfirmed : Program → Sought → Gathered → List Line → Type 0
AreConfirmed p o g [] = Unit {0}
AreConfirmed p o g (l ∷ lines) = IsConfirmed p o g l × AreConfirmed p o (with_line g l) lines

abbrev pub gathered_after : Gathered → List Line → Gathered
gathered_after g [] = g
gathered_after g (l ∷ lines) = gathered_after (with_line g l) lines
