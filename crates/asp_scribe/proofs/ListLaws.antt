-- What an answer changes of the one before it are the atoms at which their rows differ.
use Rattle.std.proofs.Common.{◌≡◌, ℕ, ◌+◌, ◌<◌, Bool, true, false, cond, not, ◌&&◌, ◌||◌, eqb, List, [], ◌∷◌, ◌++◌, drop, length}
use Rattle.std.proofs.Common.{filter, flat_map, map, get_or, refl, sym, ap, ◌∙◌, subst, zero, suc, arith, Bor}
use Rattle.std.specs.Prelude.{Option, None, Some, if◌then◌else◌}
use Rattle.std.specs.List.{AllByRecursion}
use Rattle.std.specs.Option.{ForSome, option_copied}
use Rattle.std.proofs.lemmas.Bool.Decides.{nat_tests}
use Rattle.std.proofs.lemmas.Bool.{false≢true}
use Rattle.asp_buffer.proofs.OutLaws.{drop_turn, drop_turn_or}
use Rattle.asp_model.specs.Sets.{Atoms, IsAscending, has}
use Rattle.asp_model.proofs.SetLaws.{has-below, same_from_has}
use Rattle.asp_proof.specs.Changes.{changed, changes_from, toggled}
use Rattle.asp_proof.specs.Texts.{answer_text, line, lines, natural_field}
use Rattle.asp_proof.proofs.ChangeLaws.{ascending_changed, ascending_toggled}
use Rattle.asp_rows.specs.Bits.{IsAmong}
use Rattle.asp_rows.specs.Listed.{AreRows, IsRowOf}
use Rattle.asp_rows.specs.declared.row.Row.{Row}
use Rattle.asp_rows.proofs.AmongLaws.{absent}
use Rattle.asp_scribe.specs.Lists.{differs, field_if, set_of}

-- ---- what a change has
has-toggled : (a c : ℕ) (S : Atoms) → IsAscending S → has (toggled a S) c ≡ (if eqb a c then not (has S c) else has S c)
has-toggled a c [] h = grind (arith, nat_tests)
has-toggled a c (b ∷ S) h = grind (arith, nat_tests, has-toggled a c S h.1, has-below b c S h.0)

-- an atom that comes before the others of a set
first-differs : (x had has_it : Bool) → (x ≡ true → had ≡ false) →
    (if had then not (if x then not has_it else has_it) else (if x then not has_it else has_it)) ≡ (if x || had then not has_it else has_it)
first-differs true true y h = absurd cc (h refl)
first-differs true false y h = refl
first-differs false true y h = refl
first-differs false false y h = refl

has-changed : (S T : Atoms) (c : ℕ) → IsAscending S → IsAscending T → has (changed S T) c ≡ differs S T c
has-changed [] T c s t = refl
has-changed (a ∷ S) T c s t =
    has-changed S (toggled a T) c s.1 (ascending_toggled a T t)
    ∙ ap (λ (x : Bool). if has S c then not x else x) (has-toggled a c T t)
    ∙ first-differs (eqb a c) (has S c) (has T c) (λ e. has-below a c S s.0 (grind (arith, nat_tests, e)))

-- ---- what is left of some atoms
has-filter : (f : ℕ → Bool) (atoms : List ℕ) (c : ℕ) → has (filter f atoms) c ≡ (f c && has atoms c)
has-filter f [] c = grind arith
has-filter f (a ∷ atoms) c = grind (arith, nat_tests, has-filter f atoms c)

below-filter : (f : ℕ → Bool) (a : ℕ) (atoms : List ℕ) → AllByRecursion (λ b. a < b) atoms → AllByRecursion (λ b. a < b) (filter f atoms)
below-filter f a [] h = tt
below-filter f a (b ∷ atoms) h = pick (f b) (below-filter f a atoms h.1)
  where
    pick : (x : Bool) → AllByRecursion (λ b. a < b) (filter f atoms) → AllByRecursion (λ b. a < b) (cond x (b ∷ filter f atoms) (filter f atoms))
    pick true more = (h.0, more)
    pick false more = more

ascending-filter : (f : ℕ → Bool) (atoms : List ℕ) → IsAscending atoms → IsAscending (filter f atoms)
ascending-filter f [] h = tt
ascending-filter f (a ∷ atoms) h = pick (f a) (ascending-filter f atoms h.1)
  where
    pick : (x : Bool) → IsAscending (filter f atoms) → IsAscending (cond x (a ∷ filter f atoms) (filter f atoms))
    pick true more = (below-filter f a atoms h.0, more)
    pick false more = more

-- what isn't one of the atoms is in neither set
neither-differs : (atoms : List ℕ) (S T : Atoms) (c : ℕ) → IsAmong atoms S → IsAmong atoms T → differs S T c ≡ (differs S T c && has atoms c)
neither-differs atoms S T c s t = cases (has atoms c) refl
  where
    cases : (x : Bool) → has atoms c ≡ x → differs S T c ≡ (differs S T c && has atoms c)
    cases true e = grind (arith, e)
    cases false e = grind (arith, e, absent atoms S c s e, absent atoms T c t e)

pub changed-is : (atoms : List ℕ) (S T : Atoms) → IsAscending atoms → IsAmong atoms S → IsAmong atoms T → filter (differs S T) atoms ≡ changed S T
changed-is atoms S T up s t =
    sym (same_from_has (changed S T) (filter (differs S T) atoms) (ascending_changed S T t.rising) (ascending-filter (differs S T) atoms up)
    (λ c. has-changed S T c s.rising t.rising ∙ neither-differs atoms S T c s t ∙ sym (has-filter (differs S T) atoms c)))

-- ---- rows
last-among : (atoms : Atoms) (last : Option (Bor Row)) → ForSome last (λ row. IsRowOf atoms row.now) → IsAmong atoms (set_of (option_copied last))
last-among atoms None h = record { rising = tt; stand = λ a e. absurd (false≢true e) }
last-among atoms (Some row) h = (h row refl).among

pub changed-row : (atoms : Atoms) (last : Option (Bor Row)) (row : Row) → IsAscending atoms → ForSome last (λ row. IsRowOf atoms row.now) → IsRowOf atoms row
    → filter (differs (set_of (option_copied last)) row.set) atoms ≡ changed (set_of (option_copied last)) row.set
changed-row atoms last row up h k = changed-is atoms (set_of (option_copied last)) row.set up (last-among atoms last h) k.among

-- ---- the loops
-- an atom, and those behind it
pub changed-turn : (f : ℕ → Bool) (atoms : List ℕ) (i : ℕ) → i < length atoms
    → flat_map natural_field (filter f (drop i atoms)) ≡ field_if (f (get_or atoms i 0)) (get_or atoms i 0) ++ flat_map natural_field (filter f (drop (i + 1) atoms))
changed-turn f atoms i lt = ap (λ (t : List ℕ). flat_map natural_field (filter f t)) (drop_turn_or atoms i 0 lt) ∙ pick (f (get_or atoms i 0))
  where
    rest : List ℕ
    rest = filter f (drop (i + 1) atoms)

    pick : (told : Bool) → flat_map natural_field (cond told (get_or atoms i 0 ∷ rest) rest) ≡ field_if told (get_or atoms i 0) ++ flat_map natural_field rest
    pick true = refl
    pick false = refl

-- an answer, and those behind it
pub answers-turn : (last : Atoms) (rows : List Row) (i : ℕ) (row : Row) → i < length rows → row ≡ get_or rows i row
    → lines answer_text (changes_from last (map (λ (x : Row). x.set) (drop i rows)))
    ≡ line (answer_text (changed last row.set)) ++ lines answer_text (changes_from row.set (map (λ (x : Row). x.set) (drop (i + 1) rows)))
answers-turn last rows i row lt is = ap (λ (t : List Row). lines answer_text (changes_from last (map (λ (x : Row). x.set) t))) (drop_turn rows i row lt is)

pub row-at : (atoms : Atoms) (rows : List Row) (i : ℕ) (row : Row) → AreRows atoms rows → i < length rows → row ≡ get_or rows i row → IsRowOf atoms row
row-at atoms [] i row h lt is = absurd (omega (arith, lt))
row-at atoms (r ∷ rows) zero row h lt is = subst (IsRowOf atoms) (sym is) h.0
row-at atoms (r ∷ rows) (suc i) row h lt is = row-at atoms rows i row h.1 (omega (arith, lt)) is

pub last-row : (atoms : Atoms) (last : Bor Row) → IsRowOf atoms last.now → ForSome (Some last) (λ row. IsRowOf atoms row.now)
last-row atoms last h = λ row e. let same : last ≡ row = cc in subst (λ (r : Bor Row). IsRowOf atoms r.now) same h
