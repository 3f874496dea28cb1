-- The numbers of what propagators gave.
use Rattle.std.proofs.Common.{◌≡◌, ◌≢◌, ℕ, ◌+◌, ◌<◌, ◌≤◌, Bool, true, false, not, cond, ◌&&◌, List, length, get_or, Option, Some, None, inl, inr, ◌⊎◌, refl, sym, ap, ◌∙◌, subst, arith}
use Rattle.std.specs.List.{slice_get, swap_remove}
use Rattle.std.proofs.lemmas.Bool.{false≢true}
use Rattle.std.proofs.lemmas.Option.{same_Some, slice_get_within, slice_get-get_or}
use Rattle.asp_store.specs.declared.stored_nogood.StoredNogood.{StoredNogood}
use Rattle.asp_store.specs.Keeping.{kept_at, is_given, is_from_propagator, unless_given}
use Rattle.asp_store.specs.Storing.{Has, AreTracked}
use Rattle.asp_store.proofs.GetLaws.{is_or_not, get_swap}

-- ---- one is forgotten
at_has : (given : List ℕ) (p k d : ℕ) → slice_get given p ≡ Some k → get_or given p d ≡ k
at_has given p k d g = same_Some (get_or given p d) k (sym (slice_get-get_or given p d (slice_get_within given p k g)) ∙ g)

pub has_kept : (slots : List (Option StoredNogood)) (given : List ℕ) (i x d k : ℕ) → i < length given → is_from_propagator (kept_at slots (get_or given i d)) ≡ false →
    is_from_propagator (kept_at slots k) ≡ true → Has given k → Has (swap_remove given i x) k
has_kept slots given i x d k h other this f =
    elim (is_or_not f.0 i) [
      | inl e ↦
          let at : get_or given i d ≡ k = at_has given i k d (ap (slice_get given) (sym e) ∙ f.1) in
          absurd (false≢true (sym other ∙ (ap (λ (j : ℕ). is_from_propagator (kept_at slots j)) at ∙ this)))
      | inr ne ↦ let g = get_swap given i x f.0 k h ne f.1 in (g.0, g.1)
    ]

-- ---- all are dropped
given_from : (o : Option StoredNogood) → is_from_propagator o ≡ false → is_given o ≡ false
given_from None h = refl
given_from (Some k) h = ap (λ (b : Bool). b && not k.locked) h

unless_same : (o : Option StoredNogood) → is_from_propagator o ≡ false → unless_given o ≡ o
unless_same o h = ap (λ (b : Bool). cond b None o) (given_from o h)

unless_twice : (o : Option StoredNogood) → unless_given (unless_given o) ≡ unless_given o
unless_twice o = cases (is_given o) refl
  where
    cases : (b : Bool) → b ≡ is_given o → unless_given (unless_given o) ≡ unless_given o
    cases true q = ap unless_given (sym (ap (λ (x : Bool). cond x None o) q)) ∙ ap (λ (x : Bool). cond x None o) q
    cases false q = ap unless_given (sym (ap (λ (x : Bool). cond x None o) q))

-- one number more was looked at
pub done_more : (slots now new : List (Option StoredNogood)) (given : List ℕ) (i : ℕ) →
    ((j : ℕ) → j < i → kept_at now (get_or given j 0) ≡ unless_given (kept_at slots (get_or given j 0))) →
    ((k : ℕ) → (kept_at now k ≡ kept_at slots k) ⊎ (kept_at now k ≡ unless_given (kept_at slots k))) → kept_at new (get_or given i 0) ≡ unless_given (kept_at now (get_or given i 0)) →
    ((k : ℕ) → k ≢ get_or given i 0 → kept_at new k ≡ kept_at now k) →
    ((j : ℕ) → j < i + 1 → kept_at new (get_or given j 0) ≡ unless_given (kept_at slots (get_or given j 0)))
    × ((k : ℕ) → (kept_at new k ≡ kept_at slots k) ⊎ (kept_at new k ≡ unless_given (kept_at slots k)))
done_more slots now new given i done each here others = (
  λ j lt. elim (is_or_not (get_or given j 0) (get_or given i 0)) [
    | inl e ↦ at (get_or given j 0) e
    | inr ne ↦ others (get_or given j 0) ne ∙ done j (below j lt ne (is_or_not j i))
  ],
  λ k. elim (is_or_not k (get_or given i 0)) [
    | inl e ↦ inr (at k e)
    | inr ne ↦ elim (each k) [ inl x ↦ inl (others k ne ∙ x) | inr x ↦ inr (others k ne ∙ x) ]
  ],
)
  where
    at : (k : ℕ) → k ≡ get_or given i 0 → kept_at new k ≡ unless_given (kept_at slots k)
    at k e =
        let step : kept_at new k ≡ unless_given (kept_at now k) = subst (λ (x : ℕ). kept_at new x ≡ unless_given (kept_at now x)) (sym e) here in
        elim (each k) [ inl x ↦ step ∙ ap unless_given x | inr x ↦ step ∙ (ap unless_given x ∙ unless_twice (kept_at slots k)) ]

    below : (j : ℕ) → j < i + 1 → get_or given j 0 ≢ get_or given i 0 → (j ≡ i) ⊎ (j ≢ i) → j < i
    below j lt ne (inl e) = absurd (ne (ap (λ (x : ℕ). get_or given x 0) e))
    below j lt ne (inr n) = omega (arith, lt, n)

pub dropped_all : (slots now : List (Option StoredNogood)) (given : List ℕ) (n : ℕ) → AreTracked slots given → length given ≤ n →
    ((j : ℕ) → j < n → kept_at now (get_or given j 0) ≡ unless_given (kept_at slots (get_or given j 0))) →
    ((k : ℕ) → (kept_at now k ≡ kept_at slots k) ⊎ (kept_at now k ≡ unless_given (kept_at slots k))) → (id : ℕ) → kept_at now id ≡ unless_given (kept_at slots id)
dropped_all slots now given n tracked all done each id = cases (is_from_propagator (kept_at slots id)) refl
  where
    cases : (b : Bool) → b ≡ is_from_propagator (kept_at slots id) → kept_at now id ≡ unless_given (kept_at slots id)
    cases true q =
        let f = tracked id (sym q) in
        let lt : f.0 < n = omega (arith, all, slice_get_within given f.0 id f.1) in
        subst (λ (k : ℕ). kept_at now k ≡ unless_given (kept_at slots k)) (at_has given f.0 id 0 f.1) (done f.0 lt)
    cases false q = elim (each id) [ inl x ↦ x ∙ sym (unless_same (kept_at slots id) (sym q)) | inr x ↦ x ]
