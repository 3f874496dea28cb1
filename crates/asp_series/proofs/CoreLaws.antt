-- Cores: lists of literals, and what holds in a set that has them.
use Rattle.std.proofs.Common.{◌≡◌, ◌∙◌, ℕ, ◌+◌, ◌≤◌, Bool, true, false, not, ◌||◌, ◌&&◌, cond, List, [], ◌∷◌, ◌++◌, length, refl, sym, ap, subst, arith}
use Rattle.std.specs.Prelude.{ℤ, Contains, nat_le}
use Rattle.std.specs.Ordering.{int_eq}
use Rattle.std.specs.List.{dedup, dedup_from, list_all, list_any}
use Rattle.std.specs.List.Retain.{DiffersFromLast, IsFiltered}
use Rattle.std.specs.List.Sorted.{IsPermutation}
use Rattle.std.proofs.lemmas.Bool.{and_parts, and_from, false≢true, le-leb, leb-true, or_left, or_right}
use Rattle.std.proofs.lemmas.List.Filters.{dedup_is}
use Rattle.std.proofs.lemmas.List.Folds.{list_any-append}
use Rattle.std.proofs.lemmas.List.Sorted.{length_permutation, list_any-IsPermutation}
use Rattle.asp_model.specs.declared.program.Program.{Program}
use Rattle.asp_model.specs.Holding.{all_hold, holds}
use Rattle.asp_model.specs.Models.{answers, is_stable, is_violated, least_model, rules_in_force}
use Rattle.asp_model.specs.Sets.{Atoms, has, same_set}
use Rattle.asp_model.specs.Sound.{IsSound, has_room, is_literal}
use Rattle.asp_model.proofs.ModelLaws.{answers-are, least_model-ascends, least_model-closed, least_model-least, same_bools}
use Rattle.asp_model.proofs.SetLaws.{same_from_has}
use Rattle.asp_read.specs.Queries.{with_query}
use Rattle.asp_unsat.specs.Cores.{is_listed}
use Rattle.asp_vars.proofs.NumberingLaws.{int_eq_itself, int_eq_same}
use Rattle.asp_series.specs.Asking.{AreAmong, AreSame, IsSoundWith, Meets, Refutes}
use Rattle.asp_series.specs.Series.{without}

-- ---- literals of lists
pub either : (P : Type 0) (a b : Bool) → (a || b) ≡ true → (a ≡ true → P) → (b ≡ true → P) → P
either P true b h one other = one refl
either P false b h one other = other h

or_none : (a : Bool) → (a || false) ≡ a
or_none true = refl
or_none false = refl

pub listed-append : (xs ys : List ℤ) (l : ℤ) → is_listed (xs ++ ys) l ≡ (is_listed xs l || is_listed ys l)
listed-append xs ys l = list_any-append (λ k. int_eq k l) xs ys

pub listed-push : (xs : List ℤ) (y l : ℤ) → is_listed (xs ++ y ∷ []) l ≡ (is_listed xs l || int_eq y l)
listed-push xs y l = listed-append xs (y ∷ []) l ∙ ap (λ (b : Bool). is_listed xs l || b) (or_none (int_eq y l))

-- ---- a list in order, each literal once
or_again : (a b c : Bool) → b ≡ a → (a || c) ≡ (a || (b || c))
or_again true b c e = refl
or_again false b c e = ap (λ (x : Bool). x || c) (sym e)

once-by : (k x : ℤ) (xs : List ℤ) (l : ℤ) (b : Bool) → int_eq x k ≡ b → is_listed (dedup_from int_eq k xs) l ≡ is_listed (k ∷ xs) l → is_listed (dedup_from int_eq x xs) l ≡ is_listed (x ∷ xs) l
    → is_listed (cond b (dedup_from int_eq k xs) (k ∷ dedup_from int_eq x xs)) l ≡ is_listed (k ∷ x ∷ xs) l
once-by k x xs l true same one other = one ∙ or_again (int_eq k l) (int_eq x l) (is_listed xs l) (ap (λ (y : ℤ). int_eq y l) (int_eq_same x k same))
once-by k x xs l false differ one other = ap (λ (b : Bool). int_eq k l || b) other

listed-once_from : (k : ℤ) (xs : List ℤ) (l : ℤ) → is_listed (dedup_from int_eq k xs) l ≡ is_listed (k ∷ xs) l
listed-once_from k [] l = refl
listed-once_from k (x ∷ xs) l = once-by k x xs l (int_eq x k) refl (listed-once_from k xs l) (listed-once_from x xs l)

listed-once : (xs : List ℤ) (l : ℤ) → is_listed (dedup int_eq xs) l ≡ is_listed xs l
listed-once [] l = refl
listed-once (x ∷ xs) l = listed-once_from x xs l

length-by : (k x : ℤ) (xs : List ℤ) (b : Bool) → length (dedup_from int_eq k xs) ≤ length xs + 1 → length (dedup_from int_eq x xs) ≤ length xs + 1 →
    length (cond b (dedup_from int_eq k xs) (k ∷ dedup_from int_eq x xs)) ≤ length (x ∷ xs) + 1
length-by k x xs true one other = omega (arith, one)
length-by k x xs false one other = omega (arith, other)

length-once_from : (k : ℤ) (xs : List ℤ) → length (dedup_from int_eq k xs) ≤ length xs + 1
length-once_from k [] = omega arith
length-once_from k (x ∷ xs) = length-by k x xs (int_eq x k) (length-once_from k xs) (length-once_from x xs)

length-once : (xs : List ℤ) → length (dedup int_eq xs) ≤ length xs
length-once [] = omega arith
length-once (x ∷ xs) = let few = length-once_from x xs in omega (arith, few)

-- sorted, and repeats dropped
pub same-once : (all sorted once : List ℤ) → IsPermutation all sorted → IsFiltered (DiffersFromLast int_eq) [] sorted once → AreSame all once
same-once all sorted once moved kept =
    let is = dedup_is int_eq sorted once kept in
    record {
      same = λ l. ap (λ (ls : List ℤ). is_listed ls l) is ∙ listed-once sorted l ∙ sym (list_any-IsPermutation (λ k. int_eq k l) all sorted moved);
      few = let a = ap (λ (ls : List ℤ). length ls) is in let b = length-once sorted in let d = length_permutation all sorted moved in omega (arith, a, b, d);
    }

-- ---- a literal is left out

pub length-without : (l : ℤ) (xs : List ℤ) → length (without l xs) ≤ length xs
length-without l [] = omega arith
length-without l (x ∷ xs) = by (not (int_eq x l)) (length-without l xs)
  where
    by : (b : Bool) → length (without l xs) ≤ length xs → length (cond b (x ∷ without l xs) (without l xs)) ≤ length (x ∷ xs)
    by true h = omega (arith, h)
    by false h = omega (arith, h)

-- what is listed of the others
abbrev IsOther : ℤ → ℤ → List ℤ → Type 0
IsOther l k xs = (is_listed xs k ≡ true) × (int_eq k l ≡ false)

other-more : (l k x : ℤ) (xs : List ℤ) → IsOther l k xs → IsOther l k (x ∷ xs)
other-more l k x xs r = (or_right (int_eq x k) (is_listed xs k) r.0, r.1)

other-by : (l k x : ℤ) (xs : List ℤ) (b : Bool) → int_eq x l ≡ b → (is_listed (without l xs) k ≡ true → IsOther l k xs) →
    is_listed (cond (not b) (x ∷ without l xs) (without l xs)) k ≡ true → IsOther l k (x ∷ xs)
other-by l k x xs true e rest h = other-more l k x xs (rest h)
other-by l k x xs false e rest h =
    either (IsOther l k (x ∷ xs)) (int_eq x k) (is_listed (without l xs) k) h
    (λ same. (or_left (int_eq x k) (is_listed xs k) same, subst (λ (y : ℤ). int_eq y l ≡ false) (int_eq_same x k same) e))
    (λ later. other-more l k x xs (rest later))

other-listed : (l k : ℤ) (xs : List ℤ) → is_listed (without l xs) k ≡ true → IsOther l k xs
other-listed l k [] h = absurd (false≢true h)
other-listed l k (x ∷ xs) h = other-by l k x xs (int_eq x l) refl (other-listed l k xs) h

listed-by : (l k x : ℤ) (xs : List ℤ) (b : Bool) → int_eq x l ≡ b → int_eq k l ≡ false → is_listed (x ∷ xs) k ≡ true → (is_listed xs k ≡ true → is_listed (without l xs) k ≡ true)
    → is_listed (cond (not b) (x ∷ without l xs) (without l xs)) k ≡ true
listed-by l k x xs true e not_it h rest =
    either (is_listed (without l xs) k ≡ true) (int_eq x k) (is_listed xs k) h
    (λ same. absurd (false≢true (sym not_it ∙ (ap (λ (y : ℤ). int_eq y l) (sym (int_eq_same x k same)) ∙ e))))
    rest
listed-by l k x xs false e not_it h rest =
    either (is_listed (x ∷ without l xs) k ≡ true) (int_eq x k) (is_listed xs k) h
    (λ same. or_left (int_eq x k) (is_listed (without l xs) k) same)
    (λ later. or_right (int_eq x k) (is_listed (without l xs) k) (rest later))

listed-other : (l k : ℤ) (xs : List ℤ) → is_listed xs k ≡ true → int_eq k l ≡ false → is_listed (without l xs) k ≡ true
listed-other l k [] h not_it = absurd (false≢true h)
listed-other l k (x ∷ xs) h not_it = listed-by l k x xs (int_eq x l) refl not_it h (λ later. listed-other l k xs later not_it)

pub among-without : (l : ℤ) (xs : List ℤ) → AreAmong (without l xs) xs
among-without l xs = λ k h. (other-listed l k xs h).0

pub gone : (l : ℤ) (xs : List ℤ) → is_listed (without l xs) l ≡ false
gone l xs = by (is_listed (without l xs) l) refl
  where
    by : (b : Bool) → is_listed (without l xs) l ≡ b → b ≡ false
    by false e = refl
    by true e = absurd (false≢true (sym (other-listed l l xs e).1 ∙ int_eq_itself l))

pub without-among : (l : ℤ) (some all : List ℤ) → AreAmong some all → AreAmong (without l some) (without l all)
without-among l some all among = λ k h. let o = other-listed l k some h in listed-other l k all (among k o.0) o.1

-- ---- what holds
holds-listed : (S : Atoms) (xs : List ℤ) (l : ℤ) → all_hold S xs ≡ true → is_listed xs l ≡ true → holds S l ≡ true
holds-listed S [] l h e = absurd (false≢true e)
holds-listed S (x ∷ xs) l h e =
    let parts = and_parts (holds S x) (all_hold S xs) h in
    either (holds S l ≡ true) (int_eq x l) (is_listed xs l) e
    (λ same. subst (λ (k : ℤ). holds S k ≡ true) (int_eq_same x l same) parts.0)
    (λ rest. holds-listed S xs l parts.1 rest)

all-holds : (S : Atoms) (xs : List ℤ) → ((l : ℤ) → is_listed xs l ≡ true → holds S l ≡ true) → all_hold S xs ≡ true
all-holds S [] each = refl
all-holds S (x ∷ xs) each =
    and_from (holds S x) (all_hold S xs) (each x (or_left (int_eq x x) (is_listed xs x) (int_eq_itself x)))
    (all-holds S xs (λ l h. each l (or_right (int_eq x l) (is_listed xs l) h)))

pub among-holds : (S : Atoms) (some all : List ℤ) → AreAmong some all → all_hold S all ≡ true → all_hold S some ≡ true
among-holds S some all among h = all-holds S some (λ l e. holds-listed S all l h (among l e))

not-both : (a b : Bool) → (a ≡ true → b ≡ true) → b ≡ false → a ≡ false
not-both false b h e = refl
not-both true b h e = absurd (false≢true (sym e ∙ h refl))

-- what refutes some of the literals refutes all
pub refutes-more : (p : Program) (some all : List ℤ) → AreAmong some all → Refutes p some → Refutes p all
refutes-more p some all among none = λ S stable. not-both (all_hold S all) (all_hold S some) (among-holds S some all among) (none S stable)

pub meets-fewer : (p : Program) (some all : List ℤ) → AreAmong some all → Meets p all → Meets p some
meets-fewer p some all among met = (met.0, met.1, among-holds met.0 some all among met.2)

-- ---- assumptions don't change what is stable
abbrev pub assuming : Program → List ℤ → Program
assuming p ls = record p { assumptions = ls }

same-least : (p : Program) (ls : List ℤ) → IsSound p → IsSound (assuming p ls) → (S : Atoms) → least_model (assuming p ls) S ≡ least_model p S
same-least p ls sound with S =
    same_from_has (least_model (assuming p ls) S) (least_model p S) (least_model-ascends (assuming p ls) S) (least_model-ascends p S) (λ a.
    same_bools (has (least_model (assuming p ls) S) a) (has (least_model p S) a)
    (least_model-least (assuming p ls) S (least_model p S) with (least_model-closed p S sound) a)
    (least_model-least p S (least_model (assuming p ls) S) sound (least_model-closed (assuming p ls) S with) a))

pub same-stable : (p : Program) (ls : List ℤ) → IsSound p → IsSound (assuming p ls) → (S : Atoms) → is_stable (assuming p ls) S ≡ is_stable p S
same-stable p ls sound with S = ap (λ (T : Atoms). same_set S T && not (list_any (is_violated S) (rules_in_force p))) (same-least p ls sound with S)

-- without an answer under these assumptions, no stable model has them
pub refuted : (p : Program) (ls : List ℤ) → IsSound p → IsSound (assuming p ls) → answers (assuming p ls) ≡ [] → Refutes p ls
refuted p ls sound with none = λ S stable. by S stable (all_hold S ls) refl
  where
    nowhere : (S : Atoms) → Contains {X = Atoms} [] S → ⊥
    nowhere S is = let f : ⊥ = omega (arith, is.1) in f

    by : (S : Atoms) → is_stable p S ≡ true → (b : Bool) → all_hold S ls ≡ b → b ≡ false
    by S stable false e = refl
    by S stable true e = absurd (nowhere S (subst (λ (Ss : List Atoms). Contains Ss S) none ((answers-are (assuming p ls) S).1 (same-stable p ls sound with S ∙ stable, e))))

-- an answer under these assumptions is a stable model that has them
pub met : (p : Program) (ls : List ℤ) → IsSound p → IsSound (assuming p ls) → (S : Atoms) → Contains (answers (assuming p ls)) S → Meets p ls
met p ls sound with S is = let parts = (answers-are (assuming p ls) S).0 is in (S, sym (same-stable p ls sound with S) ∙ parts.0, parts.1)

-- ---- the program without assumptions
pub refutes-itself : (p : Program) (ls core : List ℤ) → IsSound p → IsSound (assuming p ls) → Refutes (assuming p ls) core → Refutes p core
refutes-itself p ls core sound with none = λ S stable. none S (same-stable p ls sound with S ∙ stable)

pub refutes-bare : (p : Program) (ls core : List ℤ) → IsSound p → IsSound (assuming p ls) → Refutes p core → Refutes (assuming p ls) core
refutes-bare p ls core sound with none = λ S stable. none S (sym (same-stable p ls sound with S) ∙ stable)

pub meets-itself : (p : Program) (ls core : List ℤ) → IsSound p → IsSound (assuming p ls) → Meets (assuming p ls) core → Meets p core
meets-itself p ls core sound with m = (m.0, sym (same-stable p ls sound with m.0) ∙ m.1, m.2)

-- ---- within the limits
literal-listed : (xs : List ℤ) (l : ℤ) → list_all is_literal xs ≡ true → is_listed xs l ≡ true → is_literal l ≡ true
literal-listed [] l h e = absurd (false≢true e)
literal-listed (x ∷ xs) l h e =
    let parts = and_parts (is_literal x) (list_all is_literal xs) h in
    either (is_literal l ≡ true) (int_eq x l) (is_listed xs l) e
    (λ same. subst (λ (k : ℤ). is_literal k ≡ true) (int_eq_same x l same) parts.0)
    (λ rest. literal-listed xs l parts.1 rest)

all-literals : (xs : List ℤ) → ((l : ℤ) → is_listed xs l ≡ true → is_literal l ≡ true) → list_all is_literal xs ≡ true
all-literals [] each = refl
all-literals (x ∷ xs) each =
    and_from (is_literal x) (list_all is_literal xs) (each x (or_left (int_eq x x) (is_listed xs x) (int_eq_itself x)))
    (all-literals xs (λ l h. each l (or_right (int_eq x l) (is_listed xs l) h)))

some-room : (a b c d : Bool) (m n : ℕ) → (a && b && c && d && nat_le m 268435456) ≡ true → n ≤ m → (a && b && c && d && nat_le n 268435456) ≡ true
some-room true true true true m n h few = le-leb n 268435456 (let most : m ≤ 268435456 = leb-true m 268435456 h in omega (arith, most, few))
some-room false b c d m n h few = absurd (false≢true h)
some-room true false c d m n h few = absurd (false≢true h)
some-room true true false d m n h few = absurd (false≢true h)
some-room true true true false m n h few = absurd (false≢true h)

-- with fewer assumptions of the same
pub sound-fewer : (p : Program) (all some : List ℤ) → IsSound (assuming p all) → AreAmong some all → length some ≤ length all → IsSound (assuming p some)
sound-fewer p all some s among few = record {
  rules = s.rules;
  minimize = s.minimize;
  outputs = s.outputs;
  externals = s.externals;
  assumptions = all-literals some (λ l h. literal-listed all l s.assumptions (among l h));
  weighted = s.weighted;
  room = some-room (has_room p.rules) (has_room p.minimize) (has_room p.outputs) (has_room p.externals) (length all) (length some) s.room few;
}

none-among : (all : List ℤ) → AreAmong [] all
none-among all = λ l h. absurd (false≢true h)

-- the program without assumptions, with some of these literals
pub sound-with : (p : Program) (all ls : List ℤ) → IsSound (assuming p all) → AreAmong ls all → length ls ≤ length all → IsSoundWith (assuming p []) ls
sound-with p all ls s among few = record {
  itself = sound-fewer p all [] s (none-among all) (omega arith);
  bare = refl;
  with = λ some inside fewer. sound-fewer p all some s (λ l h. among l (inside l h)) (omega (arith, fewer, few));
}

-- fewer literals are within the limits, too
pub sound-shrunk : (p : Program) (all some : List ℤ) → IsSoundWith p all → AreAmong some all → length some ≤ length all → IsSoundWith p some
sound-shrunk p all some s among few = record {
  itself = s.itself;
  bare = s.bare;
  with = λ fewer inside shorter. s.with fewer (λ l h. among l (inside l h)) (omega (arith, shorter, few));
}

-- a program without assumptions is what it is with these
pub bare-with : (p : Program) (ls : List ℤ) → p.assumptions ≡ [] → with_query p ls ≡ assuming p ls
bare-with p ls none = ap (λ (xs : List ℤ). assuming p (xs ++ ls)) none
