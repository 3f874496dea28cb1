-- What the propagator keeps, as values come and go.
use Rattle.std.proofs.Common.{◌≡◌, ℕ, ◌+◌, ◌^◌, ◌<◌, ◌≤◌, Bool, true, eqb, List, [], ◌∷◌, length, get_or, set, Option, Some, None, ℤ, pos, ◌+ℤ◌, neg_ℤ, ◌≤ℤ◌, ◌<ℤ◌, refl, sym, ap, ◌∙◌, subst, arith, replicate}
use Rattle.std.specs.List.{All, list_any}
use Rattle.std.proofs.lemmas.Int.{ints}
use Rattle.std.proofs.lemmas.Bool.{eqb-true, false≢true}
use Rattle.std.proofs.lemmas.List.{get_or_default, same_lists, get_or-map, length-map, length-set, length-replicate}
use Rattle.std.proofs.lemmas.List.Elements.{All-weaker}
use Rattle.asp_model.specs.declared.program.Program.{Program}
use Rattle.asp_model.specs.Costs.{priorities}
use Rattle.asp_model.specs.Sound.{IsSound}
use Rattle.asp_vars.specs.Literals.{Literal, value_of, agrees, holds_in}
use Rattle.asp_vars.specs.Numbering.{var_count}
use Rattle.asp_vars.proofs.LiteralLaws.{beq_same}
use Rattle.asp_bound.specs.declared.place.Place.{Place}
use Rattle.asp_bound.specs.declared.place.Item.{Item}
use Rattle.asp_bound.specs.Optimism.{optimistic_at, optimistic}
use Rattle.asp_bound.specs.Rises.{raised, row_at, nth_priority}
use Rattle.asp_bound.specs.Kept.{IsOnce, AreVars, IsKept}
use Rattle.asp_bound.specs.Gathered.{valueless, AreGathered, HasEach}
use Rattle.asp_bound.proofs.CostLaws.{optimistic_at-set, optimistic_at-unset, optimistic_at-high, optimistic_at-low, rise_at-small}

-- sums that are those of some values at each priority
pub summed_from : (p : Program) (a : List (Option Bool)) (sums : List ℤ) → length sums ≡ length (priorities p.minimize) →
    ((j : ℕ) → j < length (priorities p.minimize) → get_or sums j (pos 0) ≡ optimistic_at p a (nth_priority p j)) → sums ≡ optimistic p a
summed_from p a sums counted each =
    same_lists sums (optimistic p a) (counted ∙ sym (length-map (priorities p.minimize) (optimistic_at p a))) (λ k d lt.
    let low : k < length (priorities p.minimize) = omega arith in
    get_or_default sums k d (pos 0) lt ∙ (each k low ∙ sym (get_or-map (optimistic_at p a) (priorities p.minimize) k (pos 0) d low)))

pub sums-count : (p : Program) (a : List (Option Bool)) (rows : List (List Place)) (columns : List (List Item)) (vars : List ℕ) (sums : List ℤ) →
    IsKept p a rows columns vars sums → length sums ≡ length (priorities p.minimize)
sums-count p a rows columns vars sums kept = ap length kept.summed ∙ length-map (priorities p.minimize) (optimistic_at p a)

pub sums-at : (p : Program) (a : List (Option Bool)) (rows : List (List Place)) (columns : List (List Item)) (vars : List ℕ) (sums : List ℤ) →
    IsKept p a rows columns vars sums → (j : ℕ) → j < length sums → get_or sums j (pos 0) ≡ optimistic_at p a (nth_priority p j)
sums-at p a rows columns vars sums kept j lt =
    let low : j < length (priorities p.minimize) = omega (arith, sums-count p a rows columns vars sums kept) in
    ap (λ (s : List ℤ). get_or s j (pos 0)) kept.summed ∙ get_or-map (optimistic_at p a) (priorities p.minimize) j (pos 0) (pos 0) low

-- what a row adds is small
pub raised-small : (p : Program) (a : List (Option Bool)) (rows : List (List Place)) (columns : List (List Item)) (vars : List ℕ) (sums : List ℤ) → IsKept p a rows columns vars sums →
    (v j : ℕ) (b : Bool) → 0 < v → v ≤ var_count p → j < length sums → raised (row_at rows v) j b ≤ 2 ^ 56
raised-small p a rows columns vars sums kept v j b i k lt =
    let low : j < length (priorities p.minimize) = omega (arith, sums-count p a rows columns vars sums kept) in
    omega (arith, kept.rowed.sums j v b low i k, rise_at-small p (nth_priority p j) v b, kept.small j low)

-- the sums are small
pub sums-high : (p : Program) (a : List (Option Bool)) (rows : List (List Place)) (columns : List (List Item)) (vars : List ℕ) (sums : List ℤ) → IsKept p a rows columns vars sums →
    (j : ℕ) → j < length sums → get_or sums j (pos 0) ≤ℤ pos (2 ^ 55)
sums-high p a rows columns vars sums kept j lt =
    let low : j < length (priorities p.minimize) = omega (arith, sums-count p a rows columns vars sums kept) in
    omega (arith, ints, sums-at p a rows columns vars sums kept j lt, optimistic_at-high p a (nth_priority p j), kept.small j low)

pub sums-low : (p : Program) (a : List (Option Bool)) (rows : List (List Place)) (columns : List (List Item)) (vars : List ℕ) (sums : List ℤ) → IsKept p a rows columns vars sums →
    (j : ℕ) → j < length sums → (pos 0) ≤ℤ (get_or sums j (pos 0) +ℤ pos (2 ^ 55))
sums-low p a rows columns vars sums kept j lt =
    let low : j < length (priorities p.minimize) = omega (arith, sums-count p a rows columns vars sums kept) in
    omega (arith, ints, sums-at p a rows columns vars sums kept j lt, optimistic_at-low p a (nth_priority p j), kept.small j low)

-- ---- what the calls ask for
pub rows-small : (p : Program) (a : List (Option Bool)) (rows : List (List Place)) (columns : List (List Item)) (vars : List ℕ) (sums : List ℤ) → IsKept p a rows columns vars sums →
    (v j : ℕ) (b : Bool) → 0 < v → v < length rows → j < length sums → raised (row_at rows v) j b < 2 ^ 60
rows-small p a rows columns vars sums kept v j b i k lt =
    let within : v ≤ var_count p = omega (arith, kept.rowed.count, k) in
    omega (arith, raised-small p a rows columns vars sums kept v j b i within lt)

pub sums-room : (p : Program) (a : List (Option Bool)) (rows : List (List Place)) (columns : List (List Item)) (vars : List ℕ) (sums : List ℤ) → IsKept p a rows columns vars sums →
    (j : ℕ) → j < length sums → get_or sums j (pos 0) <ℤ pos (2 ^ 60)
sums-room p a rows columns vars sums kept j lt = omega (arith, ints, sums-high p a rows columns vars sums kept j lt)

pub raise-room : (p : Program) (a : List (Option Bool)) (rows : List (List Place)) (columns : List (List Item)) (vars : List ℕ) (sums : List ℤ) → IsKept p a rows columns vars sums →
    (v : ℕ) (b : Bool) → 0 < v → v ≤ var_count p → (j : ℕ) → j < length sums → (get_or sums j (pos 0) +ℤ pos (raised (row_at rows v) j b)) <ℤ pos (2 ^ 60)
raise-room p a rows columns vars sums kept v b i k j lt = omega (arith, ints, sums-high p a rows columns vars sums kept j lt, raised-small p a rows columns vars sums kept v j b i k lt)

pub lower-room : (p : Program) (a : List (Option Bool)) (rows : List (List Place)) (columns : List (List Item)) (vars : List ℕ) (sums : List ℤ) → IsKept p a rows columns vars sums →
    (v : ℕ) (b : Bool) → 0 < v → v ≤ var_count p → (j : ℕ) → j < length sums → (neg_ℤ (pos (2 ^ 60)) +ℤ pos (raised (row_at rows v) j b)) ≤ℤ get_or sums j (pos 0)
lower-room p a rows columns vars sums kept v b i k j lt = omega (arith, ints, sums-low p a rows columns vars sums kept j lt, raised-small p a rows columns vars sums kept v j b i k lt)

pub columns-within : (p : Program) (a : List (Option Bool)) (rows : List (List Place)) (columns : List (List Item)) (vars : List ℕ) (sums : List ℤ) → IsKept p a rows columns vars sums →
    (j : ℕ) → j < length columns → All (λ (i : Item). (0 < i.var) × (i.var < length a)) (get_or columns j [])
columns-within p a rows columns vars sums kept j lt =
    All-weaker (λ (i : Item). (0 < i.var) × (i.var ≤ var_count p)) (λ (i : Item). (0 < i.var) × (i.var < length a))
    (λ i h. (h.0, omega (arith, kept.sized, h.1))) (get_or columns j []) (kept.columned.each j lt).within

pub held-value : (a : List (Option Bool)) (l : Literal) → holds_in a l ≡ true → value_of a l.var ≡ Some l.truth
held-value a l e = held_by (value_of a l.var) e
  where
    held_by : (o : Option Bool) → agrees o l ≡ true → o ≡ Some l.truth
    held_by None h = absurd (false≢true h)
    held_by (Some b) h =
        let same : b ≡ l.truth = beq_same b l.truth h in
        ap (λ (x : Bool). let o : Option Bool = Some x in o) same

-- ---- a value comes, and goes
pub kept-told : (p : Program) (a : List (Option Bool)) (rows : List (List Place)) (columns : List (List Item)) (vars : List ℕ) (sums new : List ℤ) → IsKept p a rows columns vars sums →
    (v : ℕ) (b : Bool) → 0 < v → v ≤ var_count p → value_of a v ≡ None → length new ≡ length sums →
    ((j : ℕ) → j < length sums → get_or new j (pos 0) ≡ get_or sums j (pos 0) +ℤ pos (raised (row_at rows v) j b)) → IsKept p (set a v (Some b)) rows columns vars new
kept-told p a rows columns vars sums new kept v b i k none long each = record {
  sound = kept.sound;
  few = kept.few;
  small = kept.small;
  rowed = kept.rowed;
  columned = kept.columned;
  listed = kept.listed;
  linked = kept.linked;
  sized = length-set a v (Some b) ∙ kept.sized;
  summed = summed_from p (set a v (Some b)) new (long ∙ sums-count p a rows columns vars sums kept) (λ j low.
      let lt : j < length sums = omega (arith, sums-count p a rows columns vars sums kept) in
      omega (arith, ints, each j lt, sums-at p a rows columns vars sums kept j lt, kept.rowed.sums j v b low i k, optimistic_at-set p a v b (nth_priority p j) i k kept.sized none));
}

pub kept-untold : (p : Program) (a : List (Option Bool)) (rows : List (List Place)) (columns : List (List Item)) (vars : List ℕ) (sums new : List ℤ) → IsKept p a rows columns vars sums →
    (v : ℕ) (b : Bool) → 0 < v → v ≤ var_count p → value_of a v ≡ Some b → length new ≡ length sums →
    ((j : ℕ) → j < length sums → get_or new j (pos 0) +ℤ pos (raised (row_at rows v) j b) ≡ get_or sums j (pos 0)) → IsKept p (set a v None) rows columns vars new
kept-untold p a rows columns vars sums new kept v b i k some long each = record {
  sound = kept.sound;
  few = kept.few;
  small = kept.small;
  rowed = kept.rowed;
  columned = kept.columned;
  listed = kept.listed;
  linked = kept.linked;
  sized = length-set a v None ∙ kept.sized;
  summed = summed_from p (set a v None) new (long ∙ sums-count p a rows columns vars sums kept) (λ j low.
      let lt : j < length sums = omega (arith, sums-count p a rows columns vars sums kept) in
      omega (arith, ints, each j lt, sums-at p a rows columns vars sums kept j lt, kept.rowed.sums j v b low i k, optimistic_at-unset p a v b (nth_priority p j) i k kept.sized some));
}

-- ---- where nothing is minimised
pub bare_row : (p : Program) (rows : List (List Place)) (vars : List ℕ) → AreVars p rows vars → eqb (length vars) 0 ≡ true → (v : ℕ) → 0 < v → v ≤ var_count p → row_at rows v ≡ []
bare_row p rows vars listed e v i k = cases (row_at rows v) refl
  where
    never : (xs : List ℕ) → eqb (length xs) 0 ≡ true → list_any (λ x. eqb x v) xs ≡ true → ⊥
    never [] q h = false≢true h
    never (x ∷ xs) q h = let bad : length (x ∷ xs) ≡ 0 = eqb-true (length (x ∷ xs)) 0 q in omega (arith, bad)

    cases : (r : List Place) → r ≡ row_at rows v → row_at rows v ≡ []
    cases [] q = sym q
    cases (o ∷ r) q = absurd (never vars e (listed.whole v i k (λ z. let bad : o ∷ r ≡ [] = q ∙ z in cc)))

pub bare-told : (p : Program) (a : List (Option Bool)) (rows : List (List Place)) (columns : List (List Item)) (vars : List ℕ) (sums : List ℤ) →
    IsKept p a rows columns vars sums → eqb (length vars) 0 ≡ true →
    (v : ℕ) (b : Bool) → 0 < v → v ≤ var_count p → value_of a v ≡ None → IsKept p (set a v (Some b)) rows columns vars sums
bare-told p a rows columns vars sums kept e v b i k none =
    let bare = bare_row p rows vars kept.listed e v i k in
    kept-told p a rows columns vars sums sums kept v b i k none refl (λ j lt. omega (arith, ints, ap (λ (r : List Place). raised r j b) bare))

pub bare-untold : (p : Program) (a : List (Option Bool)) (rows : List (List Place)) (columns : List (List Item)) (vars : List ℕ) (sums : List ℤ) →
    IsKept p a rows columns vars sums → eqb (length vars) 0 ≡ true →
    (v : ℕ) (b : Bool) → 0 < v → v ≤ var_count p → value_of a v ≡ Some b → IsKept p (set a v None) rows columns vars sums
bare-untold p a rows columns vars sums kept e v b i k some =
    let bare = bare_row p rows vars kept.listed e v i k in
    kept-untold p a rows columns vars sums sums kept v b i k some refl (λ j lt. omega (arith, ints, ap (λ (r : List Place). raised r j b) bare))

-- ---- at the start
pub kept-new : (p : Program) (rows : List (List Place)) (columns : List (List Item)) (vars : List ℕ) (sums : List ℤ) → IsSound p →
    var_count p < 2 ^ 31 → AreGathered p (priorities p.minimize) rows columns sums →
    All (λ v. (0 < v) × (v < length rows)) vars → HasEach rows (length rows) vars → IsOnce vars → IsKept p (valueless p) rows columns vars sums
kept-new p rows columns vars sums sound few g within whole once = record {
  sound = sound;
  few = few;
  small = g.small;
  sized = length-replicate (var_count p + 1) None;
  rowed = record { count = g.count; within = g.within; sums = g.sums };
  columned = record { count = g.columned; each = λ j lt. g.columns j (omega (arith, g.columned, lt)) };
  listed = record {
    within = All-weaker (λ v. (0 < v) × (v < length rows)) (λ v. (0 < v) × (v ≤ var_count p)) (λ v h. (h.0, omega (arith, g.count, h.1))) vars within;
    whole = λ v i k some. whole v i (omega (arith, g.count, k)) some;
    once = once;
  };
  linked = g.linked;
  summed = g.summed;
}

-- ---- the same, by what the calls say
pub kept_as : (p : Program) (a z : List (Option Bool)) (rows : List (List Place)) (columns : List (List Item)) (vars : List ℕ) (sums new : List ℤ) →
    z ≡ a → new ≡ sums → IsKept p a rows columns vars sums → IsKept p z rows columns vars new
kept_as p a z rows columns vars sums new ez en kept = subst (IsKept p z rows columns vars) (sym en) (subst (λ (y : List (Option Bool)). IsKept p y rows columns vars sums) (sym ez) kept)

pub begun_as : (p o : Program) (a : List (Option Bool)) (count : ℕ) (rows made : List (List Place)) (columns : List (List Item)) (vars : List ℕ)
    (sums : List ℤ) → o ≡ p → count ≡ var_count p → var_count p < 2 ^ 31 → a ≡ replicate (count + 1) None →
    rows ≡ made → IsSound p → AreGathered p (priorities p.minimize) made columns sums → All (λ v. (0 < v) × (v < length rows)) vars →
    HasEach rows (length rows) vars → IsOnce vars → IsKept o a rows columns vars sums
begun_as p o a count rows made columns vars sums eo ec few ea er sound g within whole once =
    let gathered = subst (λ (z : List (List Place)). AreGathered p (priorities p.minimize) z columns sums) (sym er) g in
    let kept = kept-new p rows columns vars sums sound few gathered within whole once in
    let values = ea ∙ ap (λ (n : ℕ). let z : List (Option Bool) = replicate (n + 1) None in z) ec in
    subst (λ (q : Program). IsKept q a rows columns vars sums) (sym eo) (kept_as p (valueless p) a rows columns vars sums sums values refl kept)

pub raised_as : (rows : List (List Place)) (v : ℕ) (b : Bool) (row : List Place) (u : ℕ) (t : Bool) → row ≡ row_at rows u → u ≡ v → t ≡ b → (j : ℕ) → raised row j t ≡ raised (row_at rows v) j b
raised_as rows v b row u t er eu et j = ap (λ (r : List Place). raised r j t) (er ∙ ap (row_at rows) eu) ∙ ap (raised (row_at rows v) j) et
