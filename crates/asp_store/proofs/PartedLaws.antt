-- Numbers apart, as one is added, retired or dropped.
use Rattle.std.proofs.Common.{◌≡◌, ◌≢◌, ℕ, ◌+◌, ◌-◌, ◌<◌, ◌≤◌, ◌⊎◌, List, [], ◌∷◌, ◌++◌, length, Some, inl, inr, refl, sym, ap, ◌∙◌, arith}
use Rattle.std.specs.List.{slice_get, swap_remove, swap}
use Rattle.std.proofs.lemmas.List.{length-append}
use Rattle.std.proofs.lemmas.List.Edits.{length-swap as swapped_length}
use Rattle.asp_store.specs.Parted.{Parted, IsFrom, Adds, Retires, Drops}
use Rattle.asp_store.proofs.GetLaws.{is_or_not, get_more, get_last, get_swap, get_swap_before, get_swapped}

-- where what stands at p goes, as two change places
abbrev Moves : ℕ → ℕ → ℕ → ℕ → Type 0
Moves a b p q = ((p ≡ a) × (q ≡ b)) ⊎ (((p ≡ b) × (q ≡ a)) ⊎ ((p ≢ a) × (p ≢ b) × (q ≡ p)))

-- ---- one more
-- what stood before the last place stays
stays : (last end p q : ℕ) → last ≤ end → p < last → Moves last end p q → q ≡ p
stays last end p q h lt (inl e) = absurd (omega (arith, e.0))
stays last end p q h lt (inr (inl e)) = absurd (omega (arith, e.0))
stays last end p q h lt (inr (inr e)) = e.2

comes : (last end q : ℕ) → Moves last end end q → q ≡ last
comes last end q (inl e) = e.1 ∙ e.0
comes last end q (inr (inl e)) = e.1
comes last end q (inr (inr e)) = absurd (e.1 refl)

pub adds : (a : Parted) (x : ℕ) → a.first ≤ a.last → a.last ≤ length a.items →
    Adds a (record { items = swap (a.items ++ x ∷ []) a.last (length a.items); first = a.first; last = a.last + 1 }) x
adds a x ordered within = record {
  here =
      let s = moved (length a.items) x (get_last a.items x) in
      let e = comes a.last (length a.items) s.0 s.2 in
      (s.0, omega (arith, e, ordered), omega (arith, e), s.1);
  apart = λ k f. let s = moved f.0 k (get_more a.items (x ∷ []) f.0 k f.1) in (s.0, s.1);
  waits = λ k f.
      let s = moved f.0 k (get_more a.items (x ∷ []) f.0 k f.3) in
      let e = stays a.last (length a.items) f.0 s.0 within f.2 s.2 in
      (s.0, omega (arith, e, f.1), omega (arith, e, f.2), s.1);
}
  where
    long : length (a.items ++ x ∷ []) ≡ length a.items + 1
    long = omega (arith, length-append a.items (x ∷ []))

    moved : (p k : ℕ) → slice_get (a.items ++ x ∷ []) p ≡ Some k →
        (q : ℕ) × (slice_get (swap (a.items ++ x ∷ []) a.last (length a.items)) q ≡ Some k) × Moves a.last (length a.items) p q
    moved p k g = get_swapped (a.items ++ x ∷ []) a.last (length a.items) p k (omega (arith, long, within)) (omega (arith, long)) g

-- ---- the first that is to be looked at takes the place
up : (first i p q last : ℕ) → first ≤ i → i < last → p < last → p ≢ i → first ≤ p → Moves first i p q → (first + 1 ≤ q) × (q < last)
up first i p q last h lt l ne f (inl e) = (omega (arith, e.0, e.1, ne), omega (arith, e.1))
up first i p q last h lt l ne f (inr (inl e)) = absurd (ne e.0)
up first i p q last h lt l ne f (inr (inr e)) = (omega (arith, e.0, e.2), omega (arith, e.2))

past : (first i p q : ℕ) → first ≤ i → i ≤ p → p ≢ i → Moves first i p q → q ≡ p
past first i p q h le ne (inl e) = absurd (omega (arith, e.0, ne))
past first i p q h le ne (inr (inl e)) = absurd (ne e.0)
past first i p q h le ne (inr (inr e)) = e.2

pub retires_first : (a : Parted) (i : ℕ) → a.last ≤ length a.items → i < a.last → a.first ≤ i →
    Retires a (record { items = swap a.items a.first i; first = a.first + 1; last = a.last }) i (i + 1)
retires_first a i within lt low = record {
  passes = record {
    begun = omega arith;
    fewer = refl;
    left = refl;
    waits = λ k f. elim (is_or_not f.0 i) [
      | inl e ↦ inl (ap (slice_get a.items) (sym e) ∙ f.3)
      | inr ne ↦
          let s = moved f.0 k f.3 in
          let u = up a.first i f.0 s.0 a.last low lt f.2 ne f.1 s.2 in
          inr (s.0, u.0, u.1, s.1)
    ];
    behind = λ k f. elim (is_or_not f.0 i) [
      | inl e ↦ inl (ap (slice_get a.items) (sym e) ∙ f.3)
      | inr ne ↦
          let s = moved f.0 k f.3 in
          let e = past a.first i f.0 s.0 low f.1 ne s.2 in
          inr (s.0, omega (arith, e, f.1, ne), omega (arith, e, f.2), s.1)
    ];
  };
  apart = λ k f. let s = moved f.0 k f.1 in (s.0, s.1);
}
  where
    moved : (p k : ℕ) → slice_get a.items p ≡ Some k → (q : ℕ) × (slice_get (swap a.items a.first i) q ≡ Some k) × Moves a.first i p q
    moved p k g = get_swapped a.items a.first i p k (omega arith) (omega arith) g

-- ---- the last one takes the place
down : (i last p q m : ℕ) → i < last → p < last → p ≢ i → m ≤ i → m ≤ p → Moves i (last - 1) p q → (m ≤ q) × (q < last - 1)
down i last p q m lt l ne h f (inl e) = absurd (ne e.0)
down i last p q m lt l ne h f (inr (inl e)) = (omega (arith, e.1), omega (arith, e.0, e.1, ne))
down i last p q m lt l ne h f (inr (inr e)) = (omega (arith, e.2), omega (arith, e.1, e.2))

elsewhere : (i k p q : ℕ) → p ≢ i → Moves i k p q → q ≢ k
elsewhere i k p q ne (inl e) = absurd (ne e.0)
elsewhere i k p q ne (inr (inl e)) = λ s. ne (e.0 ∙ (sym s ∙ e.1))
elsewhere i k p q ne (inr (inr e)) = λ s. e.1 (sym e.2 ∙ s)

abbrev shrunk : Parted → ℕ → List ℕ
shrunk a i = swap a.items i (a.last - 1)

swapped : (a : Parted) (i p k : ℕ) → a.last ≤ length a.items → i < a.last → slice_get a.items p ≡ Some k →
    (q : ℕ) × (slice_get (shrunk a i) q ≡ Some k) × Moves i (a.last - 1) p q
swapped a i p k within lt g = get_swapped a.items i (a.last - 1) p k (omega arith) (omega arith) g

from_last : (a : Parted) (i m k : ℕ) → a.last ≤ length a.items → i < a.last → m ≤ i → IsFrom a m k →
    (slice_get a.items i ≡ Some k) ⊎ IsFrom (record { items = shrunk a i; first = a.first; last = a.last - 1 }) m k
from_last a i m k within lt low f = elim (is_or_not f.0 i) [
  | inl e ↦ inl (ap (slice_get a.items) (sym e) ∙ f.3)
  | inr ne ↦
      let s = swapped a i f.0 k within lt f.3 in
      let d = down i a.last f.0 s.0 m lt f.2 ne low f.1 s.2 in
      inr (s.0, d.0, d.1, s.1)
]

pub retires_last : (a : Parted) (i : ℕ) → a.last ≤ length a.items → i < a.last → a.first ≤ i →
    Retires a (record { items = shrunk a i; first = a.first; last = a.last - 1 }) i i
retires_last a i within lt low = record {
  passes = record {
    begun = low;
    fewer = omega arith;
    left = omega arith;
    waits = λ k f. from_last a i a.first k within lt low f;
    behind = λ k f. from_last a i i k within lt (omega arith) f;
  };
  apart = λ k f. let s = swapped a i f.0 k within lt f.1 in (s.0, s.1);
}

pub drops : (a : Parted) (i d : ℕ) → a.last ≤ length a.items → i < a.last → a.first ≤ i →
    Drops a (record { items = swap_remove (shrunk a i) (a.last - 1) d; first = a.first; last = a.last - 1 }) i
drops a i d within lt low = record {
  passes = record {
    begun = low;
    fewer = omega arith;
    left = omega arith;
    waits = λ k f. elim (from_last a i a.first k within lt low f) [ inl e ↦ inl e | inr g ↦ inr (g.0, g.1, g.2, before g.0 g.2 ∙ g.3) ];
    behind = λ k f. elim (from_last a i i k within lt (omega arith) f) [ inl e ↦ inl e | inr g ↦ inr (g.0, g.1, g.2, before g.0 g.2 ∙ g.3) ];
  };
  apart = λ k f. elim (is_or_not f.0 i) [
    | inl e ↦ inl (ap (slice_get a.items) (sym e) ∙ f.1)
    | inr ne ↦
        let s = swapped a i f.0 k within lt f.1 in
        let g = get_swap (shrunk a i) (a.last - 1) d s.0 k long (elsewhere i (a.last - 1) f.0 s.0 ne s.2) s.1 in
        inr (g.0, g.1)
  ];
}
  where
    long : a.last - 1 < length (shrunk a i)
    long = omega (arith, swapped_length a.items i (a.last - 1), within, lt)

    before : (q : ℕ) → q < a.last - 1 → slice_get (swap_remove (shrunk a i) (a.last - 1) d) q ≡ slice_get (shrunk a i) q
    before q l = get_swap_before (shrunk a i) (a.last - 1) d q long l
