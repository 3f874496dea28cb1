-- From where the items are looked at, as values come and go.
use Rattle.std.proofs.Common.{◌≡◌, ℕ, ◌+◌, ◌<◌, ◌≤◌, Bool, List, [], length, get_or, set, replicate, min, Option, Some, None, IsSome, refl, sym, ap, ◌∙◌, subst, inl, inr, arith, get_or-set_other, get_or-set_same}
use Rattle.std.specs.List.{All, Contains}
use Rattle.std.proofs.lemmas.Bool.{cases_eq, cases_lt}
use Rattle.std.proofs.lemmas.List.{length-replicate, get_or-replicate, get_or_default}
use Rattle.std.proofs.lemmas.List.Elements.{All-contains}
use Rattle.asp_vars.specs.Literals.{value_of}
use Rattle.asp_bound.specs.declared.place.Place.{Place}
use Rattle.asp_bound.specs.declared.place.Item.{Item}
use Rattle.asp_bound.specs.Rises.{row_at}
use Rattle.asp_bound.specs.Starts.{AreStarts, AreLinked}

-- ---- a start moves on
-- ---- starts go back
abbrev pub AreBack : (Place → ℕ) → List ℕ → List Place → ℕ → Type 0
AreBack f starts row n = (k : ℕ) (d : Place) → k < n → get_or starts (get_or row k d).level 0 ≤ f (get_or row k d)

pub back-more : (f : Place → ℕ) (starts new : List ℕ) (row : List Place) (n : ℕ) (x : Place) → n < length row → x.level < length starts →
    get_or row n x ≡ x → AreBack f starts row n → new ≡ set starts x.level (min (get_or starts x.level 0) (f x)) → AreBack f new row (n + 1)
back-more f starts new row n x lt low is before made = λ k d within.
    let y : Place = get_or row k d in
    let w : ℕ = min (get_or starts x.level 0) (f x) in
    let at : get_or new y.level 0 ≡ get_or (set starts x.level w) y.level 0 = ap (λ (xs : List ℕ). get_or xs y.level 0) made in
    elim (cases_lt k n) [
      | inl less ↦ (
          let old : get_or starts y.level 0 ≤ f y = before k d less in
          elim (cases_eq x.level y.level) [
            | inl e ↦ (
                let same : get_or (set starts x.level w) y.level 0 ≡ w = subst (λ (m : ℕ). get_or (set starts x.level w) m 0 ≡ w) e (get_or-set_same starts x.level w 0 low) in
                let from : get_or starts x.level 0 ≡ get_or starts y.level 0 = ap (λ (m : ℕ). get_or starts m 0) e in
                omega (arith, at, same, from, old))
            | inr ne ↦ (
                let there : get_or (set starts x.level w) y.level 0 ≡ get_or starts y.level 0 = get_or-set_other starts x.level y.level w 0 (λ (e : y.level ≡ x.level). ne (sym e)) in
                omega (arith, at, there, old))
          ])
      | inr out ↦ (
          let e : n ≡ k = omega arith in
          let here : y ≡ x = subst (λ (m : ℕ). get_or row m d ≡ x) e (get_or_default row n d x lt ∙ is) in
          let same : get_or (set starts x.level w) y.level 0 ≡ w = ap (λ (o : Place). get_or (set starts x.level w) o.level 0) here ∙ get_or-set_same starts x.level w 0 low in
          let more : f y ≡ f x = ap f here in
          omega (arith, at, same, more))
    ]

-- ---- a value comes, and goes
some-told : (a : List (Option Bool)) (v u : ℕ) (b : Bool) → v < length a → IsSome (value_of a u) → IsSome (value_of (set a v (Some b)) u)
some-told a v u b lt h = elim (cases_eq v u) [
  | inl e ↦ subst (λ (k : ℕ). IsSome (value_of (set a v (Some b)) k)) e (subst (λ (o : Option Bool). IsSome o) (sym (get_or-set_same a v (Some b) None lt)) refl)
  | inr ne ↦ subst (λ (o : Option Bool). IsSome o) (sym (get_or-set_other a v u (Some b) None (λ (e : u ≡ v). ne (sym e)))) h
]

pub starts-told : (a z : List (Option Bool)) (columns : List (List Item)) (starts : List ℕ) (v : ℕ) (b : Bool) → AreStarts a columns starts →
    v < length a → z ≡ set a v (Some b) → AreStarts z columns starts
starts-told a z columns starts v b are lt e =
    let told : AreStarts (set a v (Some b)) columns starts = record {
      count = are.count;
      passed = λ j low i d before within. some-told a v (get_or (get_or columns j []) i d).var b lt (are.passed j low i d before within);
    } in
    subst (λ (y : List (Option Bool)). AreStarts y columns starts) (sym e) told

pub starts-untold : (a : List (Option Bool)) (rows : List (List Place)) (columns : List (List Item)) (starts new : List ℕ) (v : ℕ) →
    AreStarts a columns starts → AreLinked rows columns → length new ≡ length starts →
    ((j : ℕ) → get_or new j 0 ≤ get_or starts j 0) → All (λ (o : Place). get_or new o.level 0 ≤ o.index) (row_at rows v) → AreStarts (set a v None) columns new
starts-untold a rows columns starts new v are linked long lower taken = record {
  count = long ∙ are.count;
  passed = λ j low i d before within.
      let x : Item = get_or (get_or columns j []) i d in
      elim (cases_eq x.var v) [
        | inl e ↦ (
            let link = linked.each j low i d within in
            let at : Contains (row_at rows v) link.0 = subst (λ (u : ℕ). Contains (row_at rows u) link.0) e link.1 in
            let back : get_or new link.0.level 0 ≤ link.0.index = All-contains (λ (o : Place). get_or new o.level 0 ≤ o.index) (row_at rows v) link.0 taken at in
            let here : get_or new link.0.level 0 ≡ get_or new j 0 = ap (λ (k : ℕ). get_or new k 0) link.2 in
            absurd (omega (arith, back, here, link.3, before)))
        | inr ne ↦ subst (λ (o : Option Bool). IsSome o) (sym (get_or-set_other a v x.var None None ne)) (are.passed j low i d (omega (arith, lower j, before)) within)
      ];
}

-- ---- the same, by what the calls say
pub starts_as : (a z : List (Option Bool)) (columns : List (List Item)) (starts new : List ℕ) → z ≡ a → new ≡ starts → AreStarts a columns starts → AreStarts z columns new
starts_as a z columns starts new ez en are = subst (AreStarts z columns) (sym en) (subst (λ (y : List (Option Bool)). AreStarts y columns starts) (sym ez) are)

pub starts-new : (a : List (Option Bool)) (columns : List (List Item)) (starts : List ℕ) (n : ℕ) → n ≡ length columns → starts ≡ replicate n 0 → AreStarts a columns starts
starts-new a columns starts n many made = record {
  count = ap length made ∙ (length-replicate n 0 ∙ many);
  passed = λ j low i d before within.
      let none : get_or starts j 0 ≡ 0 = ap (λ (xs : List ℕ). get_or xs j 0) made ∙ get_or-replicate n j 0 0 (omega arith) in
      absurd (omega arith);
}
