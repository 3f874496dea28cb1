-- How atoms lose their sources.
use Rattle.std.proofs.Common.{◌≡◌, ◌≢◌, ℕ, ◌+◌, ◌-◌, ◌<◌, Bool, true, false, eqb, List, length, get_or, refl, sym, ap, ◌∙◌, subst, arith, inl, inr, below_more}
use Rattle.std.proofs.lemmas.Bool.{false≢true, eqb-true, eq-eqb}
use Rattle.std.specs.List.{All}
use Rattle.asp_model.specs.declared.program.Program.{Program}
use Rattle.asp_model.specs.Models.{atoms_of}
use Rattle.asp_table.specs.declared.columns.Occurrence.{Occurrence}
use Rattle.asp_vars.specs.Numbering.{nth_body}
use Rattle.asp_vars.specs.Tabled.{heads_of}
use Rattle.asp_scc.proofs.SearchLaws.{get_or-any}
use Rattle.asp_source.specs.Pointers.{Loses, IsGone, AreGone, IsGoneAt}
use Rattle.asp_source.proofs.PointerLaws.{IsLess}

pub loses_then : (s : List ℕ) (q : List Bool) (t : List ℕ) (r : List Bool) (u : List ℕ) (y : List Bool) → Loses s q t r → Loses t r u y → Loses s q u y
loses_then s q t r u y h k = record {
  size = k.size ∙ h.size;
  room = k.room ∙ h.room;
  less = λ v. elim (k.less v) [
    | inl e ↦ elim (h.less v) [
      | inl f ↦ inl (e ∙ f)
      | inr f ↦ inr (e ∙ f.0, k.more (v - 1) f.1)
    ]
    | inr e ↦ inr e
  ];
  more = λ i e. k.more i (h.more i e);
}

pub less_of : (s : List ℕ) (q : List Bool) (t : List ℕ) (r : List Bool) → Loses s q t r → IsLess s t
less_of s q t r h v = elim (h.less v) [
  | inl e ↦ inl e
  | inr e ↦ inr e.0
]

pub gone_less : (s t : List ℕ) (body v : ℕ) → IsLess s t → 0 < body → IsGone s body v → IsGone t body v
gone_less s t body v less some_ gone e = elim (less v) [
  | inl f ↦ gone (sym f ∙ e)
  | inr f ↦ absurd (let at = sym f ∙ e in omega (arith, at, some_))
]

-- an item of a list, read with another default
pub item_at : {X : Type 0} (xs ys : List X) (i : ℕ) (d e : X) → xs ≡ ys → i < length ys → get_or ys i d ≡ get_or xs i e
item_at xs ys i d e is lt = sym (ap (λ zs. get_or zs i d) is) ∙ get_or-any xs i d e (omega (arith, ap length is, lt))

-- one head more
pub gone_more : (s t : List ℕ) (vs : List ℕ) (n body v : ℕ) → IsLess s t → 0 < body →
    ((i d : ℕ) → i < n → i < length vs → IsGone s body (get_or vs i d)) → IsGone t body v → ((d : ℕ) → n < length vs → get_or vs n d ≡ v) →
    (i d : ℕ) → i < n + 1 → i < length vs → IsGone t body (get_or vs i d)
gone_more s t vs n body v less some_ before here at i d lt within = cases (eqb i n) refl
  where
    cases : (r : Bool) → r ≡ eqb i n → IsGone t body (get_or vs i d)
    cases true q e =
        let same : i ≡ n = eqb-true i n (sym q) in
        here (sym (ap (λ u. get_or t u 0) (ap (λ m. get_or vs m d) same ∙ at d (omega (arith, same, within)))) ∙ e)
    cases false q e = gone_less s t body (get_or vs i d) less some_ (before i d (let ne : i ≢ n = (λ a. false≢true (q ∙ eq-eqb i n a)) in omega (arith, lt, ne)) within) e

-- what is gone stays gone
are_gone_less : (p : Program) (s t : List ℕ) (j : ℕ) → IsLess s t → AreGone p s j → AreGone p t j
are_gone_less p s t j less gone i d lt =
    gone_less s t (length (atoms_of p) + 1 + j) (get_or (heads_of p (nth_body p j)) i d) less (omega arith) (gone i d lt)

pub each_gone_less : (p : Program) (s t : List ℕ) (os : List Occurrence) → IsLess s t → All (IsGoneAt p s) os → All (IsGoneAt p t) os
each_gone_less p s t os less gone i o lt = are_gone_less p s t (get_or os i o).body less (gone i o lt)

-- one body more
pub body_more : (p : Program) (s t : List ℕ) (os : List Occurrence) (n : ℕ) (o : Occurrence) → IsLess s t →
    ((i : ℕ) (d : Occurrence) → i < n → i < length os → IsGoneAt p s (get_or os i d)) → AreGone p t o.body →
    ((d : Occurrence) → n < length os → get_or os n d ≡ o) → (i : ℕ) (d : Occurrence) → i < n + 1 → i < length os → IsGoneAt p t (get_or os i d)
body_more p s t os n o less before here at i d lt within =
    below_more (λ k. (d : Occurrence) → k < length os → IsGoneAt p t (get_or os k d)) n
    (λ k low d inside. are_gone_less p s t (get_or os k d).body less (before k d low inside))
    (λ d inside. subst (IsGoneAt p t) (sym (at d inside)) here) i lt d within
