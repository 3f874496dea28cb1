-- A set of atoms that a table and a hash set keep together.
use Rattle.std.proofs.Common.{◌≡◌, ℕ, zero, suc, ◌+◌, ◌<◌, Bool, true, false, cond, List, [], ◌∷◌, ◌++◌, get_or, refl, sym, ap, ◌∙◌, zero-add, arith}
use Rattle.std.specs.Prelude.{nat_eq, ◌==◌, ◌||◌}
use Rattle.std.specs.List.{list_any}
use Rattle.std.proofs.lemmas.Bool.Decides.{nat_tests}
use Rattle.asp_model.specs.Sets.{Atoms, has, with_atom, set_of}
use Rattle.asp_model.proofs.SetLaws.{has-with_atom, has-set_of, IsAscending-with_atom, IsAscending-set_of, same_from_has}
use Rattle.asp_read.specs.Known.{marked, together}

-- ---- the keys of a hash set of atoms

same_test : (q x : ℕ) → nat_eq q x ≡ nat_eq x q
same_test q x = grind (arith, nat_tests)

pub member : (keys : List ℕ) (q : ℕ) → list_any (nat_eq q) keys ≡ has keys q
member [] q = refl
member (x ∷ keys) q = rw (same_test q x, member keys q) refl

test_is : (b c : Bool) → cond b true c ≡ (b || c)
test_is true c = refl
test_is false c = refl

-- ---- a table by atom, and others

marked_below : (i : ℕ) (bs : List Bool) (a : ℕ) → a < i → has (marked i bs) a ≡ false
marked_below i [] a lt = refl
marked_below i (true ∷ bs) a lt = grind (arith, nat_tests, marked_below (suc i) bs a)
marked_below i (false ∷ bs) a lt = marked_below (suc i) bs a (omega arith)

marked_at : (i : ℕ) (bs : List Bool) (k : ℕ) → has (marked i bs) (i + k) ≡ get_or bs k false
marked_at i [] k = refl
marked_at i (true ∷ bs) zero = grind (arith, nat_tests)
marked_at i (false ∷ bs) zero = marked_below (suc i) bs (i + zero) (omega arith)
marked_at i (true ∷ bs) (suc k) = grind (arith, nat_tests, marked_at (suc i) bs k)
marked_at i (false ∷ bs) (suc k) =
    let e : i + suc k ≡ suc i + k = omega arith in
    rw e (marked_at (suc i) bs k)

or_joined : (a b c : Bool) → (a || (b || c)) ≡ ((a || b) || c)
or_joined true b c = refl
or_joined false b c = refl

has-append : (xs ys : List ℕ) (a : ℕ) → has (xs ++ ys) a ≡ (has xs a || has ys a)
has-append [] ys a = refl
has-append (x ∷ xs) ys a = ap (λ b. (x == a) || b) (has-append xs ys a) ∙ or_joined (x == a) (has xs a) (has ys a)

pub together_has : (near : List Bool) (others : List ℕ) (a : ℕ) → has (set_of (together near others)) a ≡ (get_or near a false || has others a)
together_has near others a =
    let here : has (marked 0 near) a ≡ get_or near a false = rw zero-add at (marked_at 0 near a) in
    has-set_of (together near others) a ∙ has-append (marked 0 near) others a ∙ ap (λ b. b || has others a) here

-- a set that is a table's and others'
known_is : (near : List Bool) (keys : List ℕ) (S : Atoms) (a : ℕ) → set_of (together near keys) ≡ S → has S a ≡ (get_or near a false || has keys a)
known_is near keys S a v = sym (ap (λ (T : Atoms). has T a) v) ∙ together_has near keys a

pub near_has : (near : List Bool) (keys : List ℕ) (S : Atoms) (a : ℕ) → set_of (together near keys) ≡ S → get_or near a false ≡ true → has S a ≡ true
near_has near keys S a v h = known_is near keys S a v ∙ ap (λ b. b || has keys a) h

pub far_has : (near : List Bool) (keys : List ℕ) (S : Atoms) (a : ℕ) → set_of (together near keys) ≡ S → get_or near a false ≡ false → has S a ≡ has keys a
far_has near keys S a v h = known_is near keys S a v ∙ ap (λ b. b || has keys a) h

-- the set of a table with one more atom
pub put_near : (old new : List Bool) (keys : List ℕ) (a : ℕ) → ((q : ℕ) → get_or new q false ≡ (nat_eq a q || get_or old q false)) →
    set_of (together new keys) ≡ with_atom a (set_of (together old keys))
put_near old new keys a h = same_from_has (set_of (together new keys)) (with_atom a (set_of (together old keys))) (IsAscending-set_of (together new keys))
    (IsAscending-with_atom a (set_of (together old keys)) (IsAscending-set_of (together old keys)))
    (λ q. together_has new keys q ∙ ap (λ b. b || has keys q) (h q) ∙ sym (or_joined (nat_eq a q) (get_or old q false) (has keys q)) ∙
    ap (λ b. nat_eq a q || b) (sym (together_has old keys q)) ∙ sym (has-with_atom a q (set_of (together old keys))))

or_between : (a b c : Bool) → (a || (b || c)) ≡ (b || (a || c))
or_between true true c = refl
or_between true false c = refl
or_between false b c = refl

-- the set of others with one more atom
pub put_far : (near : List Bool) (old new : List ℕ) (a : ℕ) → ((q : ℕ) → list_any (nat_eq q) new ≡ cond (nat_eq a q) true (list_any (nat_eq q) old)) →
    set_of (together near new) ≡ with_atom a (set_of (together near old))
put_far near old new a h = same_from_has (set_of (together near new)) (with_atom a (set_of (together near old))) (IsAscending-set_of (together near new))
    (IsAscending-with_atom a (set_of (together near old)) (IsAscending-set_of (together near old)))
    (λ q. together_has near new q ∙ ap (λ b. get_or near q false || b) (sym (member new q) ∙ h q ∙ rw (member old q) (test_is (nat_eq a q) (has old q))) ∙
    or_between (get_or near q false) (nat_eq a q) (has old q) ∙ ap (λ b. nat_eq a q || b) (sym (together_has near old q)) ∙
    sym (has-with_atom a q (set_of (together near old))))
