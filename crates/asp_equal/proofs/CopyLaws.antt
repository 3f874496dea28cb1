-- The set with the atoms that went has an atom where the set has the one by which it goes.
use Rattle.std.proofs.Common.{◌≡◌, ℕ, zero, suc, ◌≤◌, Bool, true, false, not, cond, ◌&&◌, ◌||◌, eqb, nat_lt, List, [], ◌∷◌, ◌++◌, filter, refl, sym, ap, ◌∙◌, arith, inl, inr}
use Rattle.std.specs.List.{list_any}
use Rattle.std.proofs.lemmas.Bool.{both_ways, cases_eq, cases_lt, eq-eqb, eqb-true, le-ltb, lt-ltb, ne_eqb}
use Rattle.std.proofs.lemmas.List.{map-append}
use Rattle.std.proofs.lemmas.List.Folds.{list_any-append}
use Rattle.asp_model.specs.Sets.{Atoms, IsAscending, has, set_of, with_atom, with_atoms}
use Rattle.asp_model.proofs.SetLaws.{IsAscending-set_of, IsAscending-with_atom, has-fold, has-set_of, same_from_has}
use Rattle.asp_model.proofs.MemberLaws.{list_any-filter, list_any-map}
use Rattle.asp_model.proofs.ConsequenceLaws.{ascends-filter, filter-atoms, has-filter}
use Rattle.asp_equal.specs.Merged.{back, extended, gone}
use Rattle.asp_equal.specs.Copies.{copies_below}
use Rattle.asp_equal.proofs.ReadLaws.{Reads}

-- whether the pair says that a is in the set
abbrev says : Atoms → ℕ → ℕ × ℕ → Bool
says S a c = has S c.1 && eqb c.0 a

or-nil : (b : Bool) → (b || false) ≡ b
or-nil true = refl
or-nil false = refl

one-says : (m : ℕ → ℕ) (S : Atoms) (a k : ℕ) (c : Bool) → list_any (says S a) (cond c [] ((k, m k) ∷ [])) ≡ (not c && (has S (m k) && eqb k a))
one-says m S a k true = refl
one-says m S a k false = or-nil (has S (m k) && eqb k a)

and-false : (a b : Bool) → b ≡ false → (a && b) ≡ false
and-false true b e = e
and-false false b e = refl

and-true : (b : Bool) → (b && true) ≡ b
and-true true = refl
and-true false = refl

-- whether the atom a goes by one in the set
abbrev goes : (ℕ → ℕ) → Atoms → ℕ → Bool
goes m S a = not (eqb (m a) a) && has S (m a)

at_place : (m : ℕ → ℕ) (S : Atoms) (a k : ℕ) → k ≡ a → ((nat_lt a k && goes m S a) || (not (eqb (m k) k) && (has S (m k) && eqb k a))) ≡ (nat_lt a (suc k) && goes m S a)
at_place m S a k e =
    ap (λ b. (b && goes m S a) || (not (eqb (m k) k) && (has S (m k) && eqb k a))) (le-ltb a k (omega arith))
    ∙ ap (λ j. not (eqb (m j) j) && (has S (m j) && eqb j a)) e
    ∙ ap (λ b. not (eqb (m a) a) && (has S (m a) && b)) (eq-eqb a a refl)
    ∙ ap (λ b. not (eqb (m a) a) && b) (and-true (has S (m a)))
    ∙ sym (ap (λ b. b && goes m S a) (lt-ltb a (suc k) (omega arith)))

other_place : (a k : ℕ) → (k ≡ a → ⊥) → nat_lt a k ≡ nat_lt a (suc k)
other_place a k e = elim (cases_lt a k) [
  | inl lt ↦ lt-ltb a k lt ∙ sym (lt-ltb a (suc k) (omega arith))
  | inr ge ↦ le-ltb a k ge ∙ sym (le-ltb a (suc k) (elim (cases_eq k a) [ inl s ↦ absurd (e s) | inr s ↦ omega (arith, ge, s) ]))
]

pub copies-say : (m : ℕ → ℕ) (S : Atoms) (a n : ℕ) → list_any (says S a) (copies_below m n) ≡ (nat_lt a n && goes m S a)
copies-say m S a zero = sym (ap (λ b. b && goes m S a) (le-ltb a zero (omega arith)))
copies-say m S a (suc k) =
    list_any-append (says S a) (copies_below m k) (cond (eqb (m k) k) [] ((k, m k) ∷ []))
    ∙ ap (λ b. b || list_any (says S a) (cond (eqb (m k) k) [] ((k, m k) ∷ []))) (copies-say m S a k)
    ∙ ap (λ b. (nat_lt a k && goes m S a) || b) (one-says m S a k (eqb (m k) k))
    ∙ elim (cases_eq k a) [
      | inl e ↦ at_place m S a k e
      | inr e ↦ ap (λ b. (nat_lt a k && goes m S a) || b)
          (and-false (not (eqb (m k) k)) (has S (m k) && eqb k a) (and-false (has S (m k)) (eqb k a) (ne_eqb k a e)))
          ∙ or-nil (nat_lt a k && goes m S a) ∙ ap (λ b. b && goes m S a) (other_place a k e)
    ]

-- which atoms go
one-gone : (m : ℕ → ℕ) (a k : ℕ) (c : Bool) → has (gone (cond c [] ((k, m k) ∷ []))) a ≡ (not c && eqb k a)
one-gone m a k true = refl
one-gone m a k false = or-nil (eqb k a)

gone-place : (m : ℕ → ℕ) (a k : ℕ) → k ≡ a → ((nat_lt a k && not (eqb (m a) a)) || (not (eqb (m k) k) && eqb k a)) ≡ (nat_lt a (suc k) && not (eqb (m a) a))
gone-place m a k e =
    ap (λ b. (b && not (eqb (m a) a)) || (not (eqb (m k) k) && eqb k a)) (le-ltb a k (omega arith))
    ∙ ap (λ j. not (eqb (m j) j) && eqb j a) e
    ∙ ap (λ b. not (eqb (m a) a) && b) (eq-eqb a a refl)
    ∙ and-true (not (eqb (m a) a))
    ∙ sym (ap (λ b. b && not (eqb (m a) a)) (lt-ltb a (suc k) (omega arith)))

copies-gone : (m : ℕ → ℕ) (a n : ℕ) → has (gone (copies_below m n)) a ≡ (nat_lt a n && not (eqb (m a) a))
copies-gone m a zero = sym (ap (λ b. b && not (eqb (m a) a)) (le-ltb a zero (omega arith)))
copies-gone m a (suc k) =
    ap (λ xs. has xs a) (map-append (λ (c : ℕ × ℕ). c.0) (copies_below m k) (cond (eqb (m k) k) [] ((k, m k) ∷ [])))
    ∙ list_any-append (λ b. eqb b a) (gone (copies_below m k)) (gone (cond (eqb (m k) k) [] ((k, m k) ∷ [])))
    ∙ ap (λ b. b || has (gone (cond (eqb (m k) k) [] ((k, m k) ∷ []))) a) (copies-gone m a k)
    ∙ ap (λ b. (nat_lt a k && not (eqb (m a) a)) || b) (one-gone m a k (eqb (m k) k))
    ∙ elim (cases_eq k a) [
      | inl e ↦ gone-place m a k e
      | inr e ↦ ap (λ b. (nat_lt a k && not (eqb (m a) a)) || b) (and-false (not (eqb (m k) k)) (eqb k a) (ne_eqb k a e))
          ∙ or-nil (nat_lt a k && not (eqb (m a) a)) ∙ ap (λ b. b && not (eqb (m a) a)) (other_place a k e)
    ]

reading : (h low c g : Bool) → (c ≡ true → h ≡ g) → (c ≡ false → low ≡ true) → ((not (low && not c) && h) || (low && (not c && g))) ≡ g
reading h true true g same there = or-nil h ∙ same refl
reading h false true g same there = or-nil h ∙ same refl
reading h true false g same there = refl
reading h false false g same there = absurd (both_ways false refl (there refl))

pub extended-reads : (m : ℕ → ℕ) (n : ℕ) → ((a : ℕ) → n ≤ a → m a ≡ a) → (S : Atoms) → Reads m (extended (copies_below m n) S) S
extended-reads m n far S a =
    let copies = copies_below m n in
    has-fold (filter (λ b. not (has (gone copies) b)) S) (back copies S) a
    ∙ ap (λ b. b || has (back copies S) a) (has-filter (λ b. not (has (gone copies) b)) S a ∙ ap (λ b. not b && has S a) (copies-gone m a n))
    ∙ ap (λ b. (not (nat_lt a n && not (eqb (m a) a)) && has S a) || b)
    (list_any-map (λ b. eqb b a) (λ (c : ℕ × ℕ). c.0) (filter (λ c. has S c.1) copies)
    ∙ list_any-filter (λ (c : ℕ × ℕ). eqb c.0 a) (λ (c : ℕ × ℕ). has S c.1) copies ∙ copies-say m S a n)
    ∙ reading (has S a) (nat_lt a n) (eqb (m a) a) (has S (m a)) (λ e. ap (has S) (sym (eqb-true (m a) a e)))
    (λ e. elim (cases_lt a n) [ inl lt ↦ lt-ltb a n lt | inr ge ↦ absurd (both_ways (eqb (m a) a) e (eq-eqb (m a) a (far a ge))) ])

pub with-ascends : (atoms : List ℕ) (S : Atoms) → IsAscending S → IsAscending (with_atoms S atoms)
with-ascends [] S up = up
with-ascends (a ∷ atoms) S up = with-ascends atoms (with_atom a S) (IsAscending-with_atom a S up)

pub extended-ascends : (copies : List (ℕ × ℕ)) (S : Atoms) → IsAscending S → IsAscending (extended copies S)
extended-ascends copies S up = with-ascends (back copies S) (filter (λ a. not (has (gone copies) a)) S) (ascends-filter (λ a. not (has (gone copies) a)) S up)

-- a list of the atoms of the set that stay and of those that went
pub extended-from : (copies : List (ℕ × ℕ)) (S G : Atoms) (atoms : List ℕ) → IsAscending S → G ≡ set_of (gone copies) →
    atoms ≡ filter (λ a. not (has G a)) S ++ back copies S → set_of atoms ≡ extended copies S
extended-from copies S G atoms up is e =
    let stay = filter (λ a. not (has (gone copies) a)) S in
    let same : filter (λ a. not (has G a)) S ≡ stay = filter-atoms (λ a. not (has G a)) (λ a. not (has (gone copies) a)) S (λ a there. ap not (ap (λ T. has T a) is ∙ has-set_of (gone copies) a)) in
    same_from_has (set_of atoms) (extended copies S) (IsAscending-set_of atoms) (extended-ascends copies S up) (λ a.
    has-set_of atoms a ∙ ap (λ ys. has ys a) (e ∙ ap (λ xs. xs ++ back copies S) same) ∙ list_any-append (λ b. eqb b a) stay (back copies S) ∙ sym (has-fold stay (back copies S) a))
