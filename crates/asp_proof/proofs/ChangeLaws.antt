-- Changes from one set to another: a change of a change gives the set again, and a merge walk makes them.
use Rattle.std.proofs.Common.{◌≡◌, ℕ, ◌+◌, ◌<◌, ◌≤◌, Bool, true, false, List, [], ◌∷◌, ◌++◌, length, get_or, zero, suc, refl, sym, ap, ◌∙◌, arith}
use Rattle.std.specs.Prelude.{nat_lt, if◌then◌else◌}
use Rattle.std.specs.List.{AllByRecursion}
use Rattle.std.proofs.lemmas.Bool.Decides.{nat_tests}
use Rattle.asp_model.specs.Sets.{Atoms, IsAscending}
use Rattle.asp_model.proofs.MemberLaws.{each_weaker}
use Rattle.asp_model.proofs.SetLaws.{below_trans}
use Rattle.asp_proof.specs.Grammar.{IsAtom, most, IsSet}
use Rattle.asp_proof.specs.Changes.{toggled, changed, changes_from, last_from}
use Rattle.asp_proof.specs.Turns.{AreLeft}

-- ---- one atom
-- an atom below all others comes first
toggled_first : (a : ℕ) (S : Atoms) → AllByRecursion (λ b. a < b) S → toggled a S ≡ a ∷ S
toggled_first a [] h = refl
toggled_first a (b ∷ S) h = grind (arith, nat_tests, h.0)

-- it goes again
toggled_gone : (a : ℕ) (S : Atoms) → toggled a (a ∷ S) ≡ S
toggled_gone a S = grind (arith, nat_tests)

toggled_behind : (a b : ℕ) (S : Atoms) → b < a → toggled a (b ∷ S) ≡ b ∷ toggled a S
toggled_behind a b S lt = grind (arith, nat_tests, lt)

below_toggled : (a c : ℕ) (S : Atoms) → c < a → AllByRecursion (λ b. c < b) S → AllByRecursion (λ b. c < b) (toggled a S)
below_toggled a c [] lt h = (lt, tt)
below_toggled a c (b ∷ S) lt h = grind (arith, nat_tests, below_toggled a c S lt h.1)

pub ascending_toggled : (a : ℕ) (S : Atoms) → IsAscending S → IsAscending (toggled a S)
ascending_toggled a [] h = (tt, tt)
ascending_toggled a (b ∷ S) h = grind (arith, nat_tests, ascending_toggled a S h.1, below_toggled a b S, below_trans)

-- twice is not at all
toggled_twice : (a : ℕ) (S : Atoms) → IsAscending S → toggled a (toggled a S) ≡ S
toggled_twice a [] h = toggled_gone a []
toggled_twice a (b ∷ S) h = grind (arith, nat_tests, toggled_twice a S h.1, toggled_first a S, below_trans b a S h.0)

-- in either order
toggled_swap : (a b : ℕ) (S : Atoms) → IsAscending S → toggled a (toggled b S) ≡ toggled b (toggled a S)
toggled_swap a b [] h = grind (arith, nat_tests)
toggled_swap a b (c ∷ S) h = grind (arith, nat_tests, toggled_swap a b S h.1, toggled_first a S, toggled_first b S, below_trans c a S h.0, below_trans c b S h.0)

-- ---- sets
pub ascending_changed : (S T : Atoms) → IsAscending T → IsAscending (changed S T)
ascending_changed [] T h = h
ascending_changed (a ∷ S) T h = ascending_changed S (toggled a T) (ascending_toggled a T h)

changed_toggled : (a : ℕ) (S T : Atoms) → IsAscending T → toggled a (changed S T) ≡ changed S (toggled a T)
changed_toggled a [] T h = refl
changed_toggled a (b ∷ S) T h = changed_toggled a S (toggled b T) (ascending_toggled b T h) ∙ ap (changed S) (toggled_swap a b T h)

pub changed_back : (S T : Atoms) → IsAscending T → changed S (changed S T) ≡ T
changed_back [] T h = refl
changed_back (a ∷ S) T h =
    ap (changed S) (changed_toggled a S (toggled a T) (ascending_toggled a T h))
    ∙ changed_back S (toggled a (toggled a T)) (ascending_toggled a (toggled a T) (ascending_toggled a T h))
    ∙ toggled_twice a T h

-- ---- a walk along both sets
-- what comes before all of the other sets comes first
changed_first : (a : ℕ) (S T : Atoms) → AllByRecursion (λ b. a < b) S → changed S (a ∷ T) ≡ a ∷ changed S T
changed_first a [] T h = refl
changed_first a (b ∷ S) T h = ap (changed S) (toggled_behind b a T h.0) ∙ changed_first a S (toggled b T) h.1

pub changed_none : (S : Atoms) → IsAscending S → changed S [] ≡ S
changed_none [] h = refl
changed_none (a ∷ S) h = changed_first a S [] h.0 ∙ ap (λ (T : Atoms). a ∷ T) (changed_none S h.1)

pub lone_here : (a b : ℕ) (S T : Atoms) → IsAscending (a ∷ S) → IsAscending (b ∷ T) → a < b → changed (a ∷ S) (b ∷ T) ≡ a ∷ changed S (b ∷ T)
lone_here a b S T h k lt = ap (changed S) (toggled_first a (b ∷ T) (lt, below_trans b a T k.0 (omega arith))) ∙ changed_first a S (b ∷ T) h.0

pub lone_there : (a b : ℕ) (S T : Atoms) → IsAscending (a ∷ S) → b < a → changed (a ∷ S) (b ∷ T) ≡ b ∷ changed (a ∷ S) T
lone_there a b S T h lt = changed_first b (a ∷ S) T (lt, below_trans a b S h.0 (omega arith))

-- the first atom of two sets
pub none_left : (S : Atoms) → length S ≡ 0 → S ≡ []
none_left [] e = refl
none_left (a ∷ S) e = absurd (omega (arith, e))

pub only_here : (S T rest : Atoms) (a : ℕ) → S ≡ a ∷ rest → T ≡ [] → IsAscending S → AreLeft S T rest T × (changed S T ≡ a ∷ changed rest T)
only_here S T rest a s t h = rw (s, t) (at_end (rw s at h))
  where
    at_end : IsAscending (a ∷ rest) → AreLeft (a ∷ rest) [] rest [] × (changed (a ∷ rest) [] ≡ a ∷ changed rest [])
    at_end k = (record { one = k.1; other = tt; fewer = omega arith }, changed_none (a ∷ rest) k ∙ ap (λ (U : Atoms). a ∷ U) (sym (changed_none rest k.1)))

pub less_here : (S T rest others : Atoms) (a b : ℕ) → S ≡ a ∷ rest → T ≡ b ∷ others → IsAscending S → IsAscending T → a < b → AreLeft S T rest T × (changed S T ≡ a ∷ changed rest T)
less_here S T rest others a b s t h k lt = rw (s, t) (both (rw s at h) (rw t at k))
  where
    both : IsAscending (a ∷ rest) → IsAscending (b ∷ others) → AreLeft (a ∷ rest) (b ∷ others) rest (b ∷ others) × (changed (a ∷ rest) (b ∷ others) ≡ a ∷ changed rest (b ∷ others))
    both x y = (record { one = x.1; other = y; fewer = omega arith }, lone_here a b rest others x y lt)

pub less_there : (S T rest others : Atoms) (a b : ℕ) → S ≡ a ∷ rest → T ≡ b ∷ others → IsAscending S → IsAscending T → b < a → AreLeft S T S others × (changed S T ≡ b ∷ changed S others)
less_there S T rest others a b s t h k lt = rw (s, t) (both (rw s at h) (rw t at k))
  where
    both : IsAscending (a ∷ rest) → IsAscending (b ∷ others) → AreLeft (a ∷ rest) (b ∷ others) (a ∷ rest) others × (changed (a ∷ rest) (b ∷ others) ≡ b ∷ changed (a ∷ rest) others)
    both x y = (record { one = x; other = y.1; fewer = omega arith }, lone_there a b rest others x lt)

-- how many they are at most
length_toggled : (a : ℕ) (S : Atoms) → length (toggled a S) ≤ length S + 1
length_toggled a [] = omega arith
length_toggled a (b ∷ S) = grind (arith, nat_tests, length_toggled a S)

pub length_changed : (S T : Atoms) → length (changed S T) ≤ length S + length T
length_changed [] T = omega arith
length_changed (a ∷ S) T = omega (arith, length_changed S (toggled a T), length_toggled a T)

-- ---- one change after another
pub changes_push : (S : Atoms) (Ts : List Atoms) (U : Atoms) → changes_from S (Ts ++ U ∷ []) ≡ changes_from S Ts ++ changed (last_from S Ts) U ∷ []
changes_push S [] U = refl
changes_push S (T ∷ Ts) U = ap (λ (Ds : List Atoms). changed S T ∷ Ds) (changes_push T Ts U)

pub last_at : (S : Atoms) (Ts : List Atoms) (n : ℕ) (U : Atoms) → length Ts ≡ n + 1 → U ≡ get_or Ts n U → last_from S Ts ≡ U
last_at S [] n U size is = absurd (omega (arith, size))
last_at S (T ∷ []) zero U size is = sym is
last_at S (T ∷ []) (suc n) U size is = absurd (omega (arith, size))
last_at S (T ∷ R ∷ Ts) zero U size is = absurd (omega (arith, size))
last_at S (T ∷ R ∷ Ts) (suc n) U size is = last_at T (R ∷ Ts) n U (omega (arith, size)) is

pub same_change : (S T U : Atoms) → IsAscending T → IsAscending U → changed S T ≡ changed S U → T ≡ U
same_change S T U t u e = sym (changed_back S T t) ∙ ap (changed S) e ∙ changed_back S U u

-- an answer that comes by a change
pub changes_next : (S : Atoms) (Ts : List Atoms) (U D : Atoms) → IsAscending D → U ≡ changed (last_from S Ts) D → changes_from S (Ts ++ U ∷ []) ≡ changes_from S Ts ++ D ∷ []
changes_next S Ts U D h e =
    changes_push S Ts U ∙ ap (λ (X : Atoms). changes_from S Ts ++ X ∷ []) (ap (changed (last_from S Ts)) e ∙ changed_back (last_from S Ts) D h)

-- ---- sets of a text
each_toggled : (P : ℕ → Type 0) (a : ℕ) (S : Atoms) → P a → AllByRecursion P S → AllByRecursion P (toggled a S)
each_toggled P a [] p h = (p, tt)
each_toggled P a (b ∷ S) p h = pick (nat_lt a b) (nat_lt b a) (each_toggled P a S p h.1)
  where
    pick : (x y : Bool) → AllByRecursion P (toggled a S) → AllByRecursion P (if x then a ∷ b ∷ S else if y then b ∷ toggled a S else S)
    pick true y more = (p, h)
    pick false true more = (h.0, more)
    pick false false more = h.1

each_changed : (P : ℕ → Type 0) (S T : Atoms) → AllByRecursion P S → AllByRecursion P T → AllByRecursion P (changed S T)
each_changed P [] T h k = k
each_changed P (a ∷ S) T h k = each_changed P S (toggled a T) h.1 (each_toggled P a T h.0 k)

few : (below : ℕ) (S : Atoms) → below ≤ most → AllByRecursion (λ b. below < b) S → IsAscending S → AllByRecursion IsAtom S → length S + below ≤ most
few below [] le h up k = omega (arith, le)
few below (a ∷ S) le h up k = omega (arith, few a S k.0.1 up.0 up.1 k.1, h.0)

pub set_changed : (S T : Atoms) → IsSet S → IsSet T → IsSet (changed S T)
set_changed S T h k =
    let up = ascending_changed S T k.ascending in
    let each = each_changed IsAtom S T h.atoms.each k.atoms.each in
    record {
      ascending = up;
      atoms = record { each = each; few = omega (arith, few 0 (changed S T) (omega arith) (each_weaker IsAtom (λ b. 0 < b) (λ b is. is.0) (changed S T) each) up each) };
    }

pub no_atoms : IsSet []
no_atoms = record { ascending = tt; atoms = record { each = tt; few = omega arith } }

pub last_set : (S : Atoms) (Ts : List Atoms) → IsSet S → AllByRecursion IsSet Ts → IsSet (last_from S Ts)
last_set S [] h k = h
last_set S (T ∷ Ts) h k = last_set T Ts k.0 k.1

pub changes_sets : (S : Atoms) (Ts : List Atoms) → IsSet S → AllByRecursion IsSet Ts → AllByRecursion IsSet (changes_from S Ts)
changes_sets S [] h k = tt
changes_sets S (T ∷ Ts) h k = (set_changed S T h k.0, changes_sets T Ts k.0 k.1)

-- ---- answers that have the same changes
first_same : (S T : Atoms) (Ss Ts : List Atoms) → S ∷ Ss ≡ T ∷ Ts → (S ≡ T) × (Ss ≡ Ts)
first_same S T Ss Ts e = (cc, cc)

pub same_answers : (S : Atoms) (Ts Us : List Atoms) → AllByRecursion IsSet Ts → AllByRecursion IsSet Us → changes_from S Ts ≡ changes_from S Us → Ts ≡ Us
same_answers S [] [] h k e = refl
same_answers S [] (U ∷ Us) h k e = absurd cc
same_answers S (T ∷ Ts) [] h k e = absurd cc
same_answers S (T ∷ Ts) (U ∷ Us) h k e =
    let both = first_same (changed S T) (changed S U) (changes_from T Ts) (changes_from U Us) e in
    let same = same_change S T U h.0.ascending k.0.ascending both.0 in
    let rest = same_answers T Ts Us h.1 k.1 (both.1 ∙ ap (λ (V : Atoms). changes_from V Us) (sym same)) in
    cc (same, rest)

-- The changes of the ones begin with those of the others: so do the answers.
pub record BeginWith (Ts Us : List Atoms) (more : List Atoms) : Type 0 where
  pub others : List Atoms
  pub are : Us ≡ Ts ++ others
  pub none : more ≡ [] → others ≡ []

pub begin_with : (S : Atoms) (Ts Us more : List Atoms) → AllByRecursion IsSet Ts → AllByRecursion IsSet Us → changes_from S Us ≡ changes_from S Ts ++ more → BeginWith Ts Us more
begin_with S [] Us more h k e = record { others = Us; are = refl; none = λ z. same_answers S Us [] k tt (e ∙ z) }
begin_with S (T ∷ Ts) [] more h k e = absurd cc
begin_with S (T ∷ Ts) (U ∷ Us) more h k e =
    let both = first_same (changed S U) (changed S T) (changes_from U Us) (changes_from T Ts ++ more) e in
    let same = same_change S U T k.0.ascending h.0.ascending both.0 in
    let rest = begin_with T Ts Us more h.1 k.1 (ap (λ (V : Atoms). changes_from V Us) (sym same) ∙ both.1) in
    record { others = rest.others; are = cc (same, rest.are); none = rest.none }
