-- The tables, priority by priority.
use Rattle.std.proofs.Common.{◌≡◌, ℕ, zero, suc, ◌+◌, ◌*◌, ◌/◌, ◌%◌, ◌^◌, ◌<◌, ◌≤◌, Bool, true, false, cond, eqb, ltb, List, [], ◌∷◌, ◌++◌, map, length, get_or, take, sum_by, Option, None, ℤ, pos, neg_ℤ, ◌≤ℤ◌, refl, sym, ap, ◌∙◌, subst, inl, inr, arith}
use Rattle.std.specs.List.{All, AllPairs, Contains}
use Rattle.std.specs.List.Sorted.{IsPermutation}
use Rattle.std.proofs.lemmas.Int.{ints}
use Rattle.std.proofs.lemmas.Bool.{cases_eq, cases_lt, eq-eqb, ne_eqb, false≢true, ltb-false, lt-ltb}
use Rattle.std.proofs.lemmas.List.{length-append, length-map, get_or-map, get_or-replicate, length_push, get_or_push, get_or_append_left, map_push, take_more, length-take-le}
use Rattle.std.proofs.lemmas.List.Sums.{sum_by-append, sum_by-cons}
use Rattle.std.proofs.lemmas.List.Elements.{All-append, All-head, All-tail, All-weaker, All-map, Contains-append_left, Contains-append_right}
use Rattle.std.proofs.lemmas.List.Sorted.{All-permutation, Contains-permutation, sum_by-IsPermutation, length_permutation}
use Rattle.asp_model.specs.declared.program.Program.{Program}
use Rattle.asp_model.specs.Models.{atoms_of}
use Rattle.asp_vars.specs.Literals.{T, F}
use Rattle.asp_vars.specs.Codes.{literal_of as literal_by}
use Rattle.asp_vars.specs.Numbering.{var_count}
use Rattle.asp_bound.specs.declared.place.Place.{Place}
use Rattle.asp_bound.specs.declared.place.Item.{Item}
use Rattle.asp_bound.specs.declared.place.Addition.{Addition}
use Rattle.asp_bound.specs.Optimism.{items_at, weight_in, weight_at, least, least_at, optimistic_at}
use Rattle.asp_bound.specs.Rises.{rise, rise_at, rise_by, raised, row_at, IsColumn}
use Rattle.asp_bound.specs.Weights.{size_of, AreWeights}
use Rattle.asp_bound.specs.Levels.{most_of, addition_of, additions_of, additions_to, weight_true, weight_false, added_by, added_at, item_of, place_of, ArePlaced, least_by, least_to}
use Rattle.asp_bound.specs.Starts.{IsLinked}
use Rattle.asp_bound.specs.Gathered.{valueless, IsGathered, AreGathered}
use Rattle.asp_bound.proofs.CostLaws.{optimistic_at-high, optimistic_at-low, rise_at-small}
use Rattle.asp_bound.proofs.SumLaws.{sum_to-same}

-- ---- the weights of a variable's literals
code_true : (v : ℕ) → literal_by (2 * v) ≡ T v
code_true v =
    let half : 2 * v / 2 ≡ v = omega arith in
    let even : eqb (2 * v % 2) 0 ≡ true = eq-eqb (2 * v % 2) 0 (omega arith) in
    cc

code_false : (v : ℕ) → literal_by (2 * v + 1) ≡ F v
code_false v =
    let half : (2 * v + 1) / 2 ≡ v = omega arith in
    let odd : eqb ((2 * v + 1) % 2) 0 ≡ false = ne_eqb ((2 * v + 1) % 2) 0 (λ (e : (2 * v + 1) % 2 ≡ 0). omega arith) in
    cc

pub weight_true-is : (p : Program) (q : ℤ) (weights : List ℤ) (v : ℕ) → AreWeights p (items_at p.minimize q) weights → v ≤ var_count p → weight_true weights v ≡ weight_at p q (T v)
weight_true-is p q weights v are k = are.each (2 * v) (omega arith) ∙ ap (weight_in (atoms_of p) (items_at p.minimize q)) (code_true v)

pub weight_false-is : (p : Program) (q : ℤ) (weights : List ℤ) (v : ℕ) → AreWeights p (items_at p.minimize q) weights → v ≤ var_count p → weight_false weights v ≡ weight_at p q (F v)
weight_false-is p q weights v are k = are.each (2 * v + 1) (omega arith) ∙ ap (weight_in (atoms_of p) (items_at p.minimize q)) (code_false v)

-- ---- what a variable adds
rise-most : (b : Bool) (t f : ℤ) → rise b t f ≤ most_of t f
rise-most true t f = omega arith
rise-most false t f = omega arith

added_by-rise : (v : ℕ) (b : Bool) (t f : ℤ) → added_by b (addition_of v t f) ≡ rise b t f
added_by-rise v true t f = refl
added_by-rise v false t f = refl

cond-zero : (c : Bool) (n : ℕ) → n ≡ 0 → cond c n 0 ≡ 0
cond-zero true n e = e
cond-zero false n e = refl

additions-sum : (u v : ℕ) (b : Bool) (t f : ℤ) → sum_by (added_at v b) (additions_of u t f) ≡ cond (eqb u v) (rise b t f) 0
additions-sum u v b t f = additions_by (ltb 0 (most_of t f)) refl
  where
    additions_by : (c : Bool) → ltb 0 (most_of t f) ≡ c → sum_by (added_at v b) (cond c (addition_of u t f ∷ []) []) ≡ cond (eqb u v) (rise b t f) 0
    additions_by true e = omega (arith, sum_by-cons (added_at v b) (addition_of u t f) [], ap (λ (n : ℕ). cond (eqb u v) n 0) (added_by-rise u b t f))
    additions_by false e = sym (cond-zero (eqb u v) (rise b t f) (omega (arith, rise-most b t f, ltb-false 0 (most_of t f) e)))

additions-all : (P : Addition → Type 0) (v : ℕ) (t f : ℤ) → P (addition_of v t f) → All P (additions_of v t f)
additions-all P v t f h = additions_by (ltb 0 (most_of t f))
  where
    additions_by : (c : Bool) → All P (cond c (addition_of v t f ∷ []) [])
    additions_by true zero d lt = h
    additions_by true (suc k) d lt = absurd (omega arith)
    additions_by false k d lt = absurd (omega arith)

additions-contain : (v : ℕ) (t f : ℤ) → 0 < most_of t f → Contains {X = Addition} (additions_of v t f) (addition_of v t f)
additions-contain v t f up = additions_by (ltb 0 (most_of t f)) (lt-ltb 0 (most_of t f) up)
  where
    additions_by : (c : Bool) → c ≡ true → Contains {X = Addition} (cond c (addition_of v t f ∷ []) []) (addition_of v t f)
    additions_by true e = (0, omega arith, refl)
    additions_by false e = absurd (false≢true e)

additions-few : (v : ℕ) (t f : ℤ) → length (additions_of v t f) ≤ 1
additions-few v t f = additions_by (ltb 0 (most_of t f))
  where
    additions_by : (c : Bool) → length (cond c (addition_of v t f ∷ []) []) ≤ 1
    additions_by true = omega arith
    additions_by false = omega arith

-- ---- what the variables add
abbrev addition_at : List ℤ → ℕ → Addition
addition_at weights v = addition_of v (weight_true weights v) (weight_false weights v)

pub additions_to-few : (weights : List ℤ) (n : ℕ) → length (additions_to weights n) ≤ n
additions_to-few weights zero = omega arith
additions_to-few weights (suc n) =
    omega (
      arith,
      length-append (additions_to weights n) (additions_of (suc n) (weight_true weights (suc n)) (weight_false weights (suc n))),
      additions_to-few weights n,
      additions-few (suc n) (weight_true weights (suc n)) (weight_false weights (suc n)),
    )

pub additions_to-all : (P : Addition → Type 0) (weights : List ℤ) (n : ℕ) → ((v : ℕ) → 0 < v → v ≤ n → P (addition_at weights v)) → All P (additions_to weights n)
additions_to-all P weights zero h = λ k d lt. absurd (omega arith)
additions_to-all P weights (suc n) h =
    All-append P (additions_to weights n) (additions_of (suc n) (weight_true weights (suc n)) (weight_false weights (suc n)))
    (additions_to-all P weights n (λ v i k. h v i (omega arith))) (additions-all P (suc n) (weight_true weights (suc n)) (weight_false weights (suc n)) (h (suc n) (omega arith) (omega arith)))

additions_to-contains : (weights : List ℤ) (n v : ℕ) → 0 < v → v ≤ n → 0 < most_of (weight_true weights v) (weight_false weights v) →
    Contains {X = Addition} (additions_to weights n) (addition_at weights v)
additions_to-contains weights zero v i k up = absurd (omega arith)
additions_to-contains weights (suc n) v i k up = elim (cases_eq v (suc n)) [
  | inl e ↦ (
      let last = additions_of (suc n) (weight_true weights (suc n)) (weight_false weights (suc n)) in
      let P : ℕ → Type 0 = λ (u : ℕ). 0 < most_of (weight_true weights u) (weight_false weights u) → Contains {X = Addition} (additions_to weights (suc n)) (addition_at weights u) in
      subst P (sym e) (λ (h : 0 < most_of (weight_true weights (suc n)) (weight_false weights (suc n))).
      Contains-append_right (additions_to weights n) last (addition_at weights (suc n)) (additions-contain (suc n) (weight_true weights (suc n)) (weight_false weights (suc n)) h)) up)
  | inr ne ↦ (
      let within : v ≤ n = omega arith in
      Contains-append_left (additions_to weights n) (additions_of (suc n) (weight_true weights (suc n)) (weight_false weights (suc n)))
      (addition_at weights v) (additions_to-contains weights n v i within up))
]

-- what a variable adds among those up to n, past it and within
additions_to-past : (weights : List ℤ) (n v : ℕ) (b : Bool) → n < v → sum_by (added_at v b) (additions_to weights n) ≡ 0
additions_to-past weights zero v b lt = refl
additions_to-past weights (suc n) v b lt =
    let t = weight_true weights (suc n) in
    let f = weight_false weights (suc n) in
    let off : cond (eqb (suc n) v) (rise b t f) 0 ≡ 0 = ap (λ (c : Bool). cond c (rise b t f) 0) (ne_eqb (suc n) v (λ (e : suc n ≡ v). omega arith)) in
    omega (arith, sum_by-append (added_at v b) (additions_to weights n) (additions_of (suc n) t f), additions_to-past weights n v b (omega arith), additions-sum (suc n) v b t f, off)

additions_to-sum : (weights : List ℤ) (n v : ℕ) (b : Bool) → 0 < v → v ≤ n → sum_by (added_at v b) (additions_to weights n) ≡ rise b (weight_true weights v) (weight_false weights v)
additions_to-sum weights zero v b i k = absurd (omega arith)
additions_to-sum weights (suc n) v b i k =
    let t = weight_true weights (suc n) in
    let f = weight_false weights (suc n) in
    elim (cases_eq v (suc n)) [
      | inl e ↦ (
          let P : ℕ → Type 0 = λ (u : ℕ). sum_by (added_at u b) (additions_to weights (suc n)) ≡ rise b (weight_true weights u) (weight_false weights u) in
          let on : cond (eqb (suc n) (suc n)) (rise b t f) 0 ≡ rise b t f = ap (λ (c : Bool). cond c (rise b t f) 0) (eq-eqb (suc n) (suc n) refl) in
          subst P (sym e) (omega (
            arith,
            sum_by-append (added_at (suc n) b) (additions_to weights n) (additions_of (suc n) t f),
            additions_to-past weights n (suc n) b (omega arith),
            additions-sum (suc n) (suc n) b t f,
            on,
          )))
      | inr ne ↦ (
          let within : v ≤ n = omega arith in
          let off : cond (eqb (suc n) v) (rise b t f) 0 ≡ 0 = ap (λ (c : Bool). cond c (rise b t f) 0) (ne_eqb (suc n) v (λ (e : suc n ≡ v). ne (sym e))) in
          omega (arith, sum_by-append (added_at v b) (additions_to weights n) (additions_of (suc n) t f), additions_to-sum weights n v b i within, additions-sum (suc n) v b t f, off))
    ]

-- ---- what variables cost at least
pub least_to-is : (p : Program) (q : ℤ) (weights : List ℤ) → AreWeights p (items_at p.minimize q) weights → optimistic_at p (valueless p) q ≡ least_to weights (var_count p)
least_to-is p q weights are =
    sum_to-same (least_at p (valueless p) q) (least_by weights) (var_count p) (λ v i k.
    ap (λ (o : Option Bool). least o (weight_at p q (T v)) (weight_at p q (F v))) (get_or-replicate (var_count p + 1) v None None (omega arith))
    ∙ (ap (λ (t : ℤ). least None t (weight_at p q (F v))) (sym (weight_true-is p q weights v are k))
    ∙ ap (λ (f : ℤ). least None (weight_true weights v) f) (sym (weight_false-is p q weights v are k))))

pub least_to-low : (p : Program) (q : ℤ) (weights : List ℤ) → AreWeights p (items_at p.minimize q) weights →
    size_of (items_at p.minimize q) ≤ 2 ^ 55 → neg_ℤ (pos (2 ^ 60)) ≤ℤ least_to weights (var_count p)
least_to-low p q weights are small = omega (arith, ints, least_to-is p q weights are, optimistic_at-low p (valueless p) q)

pub least_to-high : (p : Program) (q : ℤ) (weights : List ℤ) → AreWeights p (items_at p.minimize q) weights → size_of (items_at p.minimize q) ≤ 2 ^ 55 → least_to weights (var_count p) ≤ℤ pos (2 ^ 60)
least_to-high p q weights are small = omega (arith, ints, least_to-is p q weights are, optimistic_at-high p (valueless p) q)

-- ---- a priority's tables
-- the same variables in another order
pub additions-few_as : (weights : List ℤ) (additions : List Addition) (n : ℕ) → IsPermutation (additions_to weights n) additions → length additions ≤ n
additions-few_as weights additions n permuted = omega (arith, length_permutation (additions_to weights n) additions permuted, additions_to-few weights n)

pub additions-vars : (weights : List ℤ) (additions : List Addition) (n : ℕ) → IsPermutation (additions_to weights n) additions → All (λ (a : Addition). (0 < a.var) × (a.var ≤ n)) additions
additions-vars weights additions n permuted =
    All-permutation (λ (a : Addition). (0 < a.var) × (a.var ≤ n)) (additions_to weights n) additions permuted
    (additions_to-all (λ (a : Addition). (0 < a.var) × (a.var ≤ n)) weights n (λ v i k. (i, k)))

-- what the values of a variable add, by its weights
rises-at : (p : Program) (q : ℤ) (weights : List ℤ) (v : ℕ) (b : Bool) → AreWeights p (items_at p.minimize q) weights → v ≤ var_count p →
    rise b (weight_true weights v) (weight_false weights v) ≡ rise_at p q v b
rises-at p q weights v b are k =
    ap (λ (t : ℤ). rise b t (weight_false weights v)) (weight_true-is p q weights v are k) ∙ ap (λ (f : ℤ). rise b (weight_at p q (T v)) f) (weight_false-is p q weights v are k)

most-small : (p : Program) (q : ℤ) (weights : List ℤ) (v : ℕ) → AreWeights p (items_at p.minimize q) weights →
    size_of (items_at p.minimize q) ≤ 2 ^ 55 → v ≤ var_count p → most_of (weight_true weights v) (weight_false weights v) < 2 ^ 57
most-small p q weights v are small k = omega (arith, rises-at p q weights v true are k, rises-at p q weights v false are k, rise_at-small p q v true, rise_at-small p q v false, small)

contains-item : (additions : List Addition) (a : Addition) → Contains additions a → Contains (map item_of additions) (item_of a)
contains-item additions a h = (h.0, omega (arith, length-map additions item_of, h.1), get_or-map item_of additions h.0 a (item_of a) h.1 ∙ ap item_of h.2)

falling-items : (additions : List Addition) → AllPairs (λ (i k : Addition). k.most ≤ i.most) additions → AllPairs (λ (i k : Item). k.most ≤ i.most) (map item_of additions)
falling-items additions falling = λ i k d lt within.
    let none : Addition = record { var = 0; if_true = 0; if_false = 0; most = 0 } in
    let inside : k < length additions = omega (arith, length-map additions item_of, within) in
    let left : get_or (map item_of additions) i d ≡ item_of (get_or additions i none) = get_or-map item_of additions i none d (omega arith) in
    let right : get_or (map item_of additions) k d ≡ item_of (get_or additions k none) = get_or-map item_of additions k none d inside in
    omega (arith, falling i k none lt inside, ap (λ (x : Item). x.most) left, ap (λ (x : Item). x.most) right)

column-is : (p : Program) (q : ℤ) (weights : List ℤ) (additions : List Addition) → AreWeights p (items_at p.minimize q) weights →
    size_of (items_at p.minimize q) ≤ 2 ^ 55 → IsPermutation (additions_to weights (var_count p)) additions →
    AllPairs (λ (i k : Addition). k.most ≤ i.most) additions → IsColumn p q (map item_of additions)
column-is p q weights additions are small permuted falling =
    let n = var_count p in
    record {
      within = All-map (λ (i : Item). (0 < i.var) × (i.var ≤ n)) item_of additions (additions-vars weights additions n permuted);
      small = All-map (λ (i : Item). i.most < 2 ^ 57) item_of additions
          (All-permutation (λ (a : Addition). a.most < 2 ^ 57) (additions_to weights n) additions permuted
          (additions_to-all (λ (a : Addition). a.most < 2 ^ 57) weights n (λ v i k. most-small p q weights v are small k)));
      falling = falling-items additions falling;
      whole = λ v b i k up.
          let a : Addition = addition_at weights v in
          let le : rise_at p q v b ≤ a.most = omega (arith, rises-at p q weights v b are k, rise-most b (weight_true weights v) (weight_false weights v)) in
          (item_of a, contains-item additions a (Contains-permutation (additions_to weights n) additions a permuted (additions_to-contains weights n v i k (omega arith))), refl, le);
    }

linked-items : (level : ℕ) (rows new : List (List Place)) (additions : List Addition) → ArePlaced level additions rows new → IsLinked new level (map item_of additions)
linked-items level rows new additions placed = λ i d within.
    let none : Addition = record { var = 0; if_true = 0; if_false = 0; most = 0 } in
    let a : Addition = get_or additions i none in
    let inside : i < length additions = omega (arith, length-map additions item_of, within) in
    let is : get_or (map item_of additions) i d ≡ item_of a = get_or-map item_of additions i none d inside in
    (place_of level i a, subst (λ (x : Item). Contains (row_at new x.var) (place_of level i a)) (sym is) (placed.linked i none inside), refl, refl)

pub gathered : (p : Program) (level : ℕ) (q : ℤ) (weights : List ℤ) (rows new : List (List Place)) (additions : List Addition) →
    AreWeights p (items_at p.minimize q) weights → size_of (items_at p.minimize q) ≤ 2 ^ 55 →
    IsPermutation (additions_to weights (var_count p)) additions → AllPairs (λ (i k : Addition). k.most ≤ i.most) additions →
    ArePlaced level additions rows new → IsGathered p level q rows new (map item_of additions) (least_to weights (var_count p))
gathered p level q weights rows new additions are small permuted falling placed =
    let n = var_count p in
    record {
      count = placed.count;
      small = small;
      within = placed.within;
      kept = placed.kept;
      sums = λ v b i k. placed.sums v b ∙ ap (λ (m : ℕ). raised (row_at rows v) level b + m)
          (sum_by-IsPermutation (added_at v b) (additions_to weights n) additions permuted ∙ (additions_to-sum weights n v b i k ∙ rises-at p q weights v b are k));
      column = column-is p q weights additions are small permuted falling;
      grown = placed.grown;
      linked = linked-items level rows new additions placed;
      least_is = least_to-is p q weights are;
    }

-- the same, by what the calls say
pub gathered_as : (p : Program) (level : ℕ) (q : ℤ) (weights : List ℤ) (rows new : List (List Place)) (additions : List Addition) (items : List Item) (least : ℤ) (vars : ℕ) → vars ≡ var_count p →
    AreWeights p (items_at p.minimize q) weights → size_of (items_at p.minimize q) ≤ 2 ^ 55 → IsPermutation (additions_to weights vars) additions →
    AllPairs (λ (i k : Addition). k.most ≤ i.most) additions →
    ArePlaced level additions rows new → items ≡ map item_of additions → least ≡ least_to weights vars → IsGathered p level q rows new items least
gathered_as p level q weights rows new additions items least vars e are small permuted falling placed made sum =
    let all = gathered p level q weights rows new additions are small (subst (λ (n : ℕ). IsPermutation (additions_to weights n) additions) e permuted) falling placed in
    let listed = subst (λ (z : List Item). IsGathered p level q rows new z (least_to weights (var_count p))) (sym made) all in
    subst (λ (n : ℤ). IsGathered p level q rows new items n) (sym (sum ∙ ap (least_to weights) e)) listed

-- ---- priority after priority
raised-none : (row : List Place) (j : ℕ) (b : Bool) → All (λ (o : Place). o.level < j) row → raised row j b ≡ 0
raised-none [] j b all = refl
raised-none (o ∷ row) j b all =
    let low : o.level < j = All-head (λ (x : Place). x.level < j) o row all in
    let off : cond (eqb o.level j) (rise_by b o) 0 ≡ 0 = ap (λ (c : Bool). cond c (rise_by b o) 0) (ne_eqb o.level j (λ (e : o.level ≡ j). omega arith)) in
    omega (arith, sum_by-cons (λ (x : Place). cond (eqb x.level j) (rise_by b x) 0) o row, off, raised-none row j b (All-tail (λ (x : Place). x.level < j) o row all))

-- what holds of each priority and its place, with one priority more
each_push : (qs : List ℤ) (q : ℤ) (P : ℕ → ℤ → Type 0) → ((j : ℕ) → j < length qs → P j (get_or qs j (pos 0))) → P (length qs) q → (j : ℕ) →
    j < length (qs ++ q ∷ []) → P j (get_or (qs ++ q ∷ []) j (pos 0))
each_push qs q P before here j lt = elim (cases_lt j (length qs)) [
  | inl low ↦ subst (P j) (sym (get_or_append_left qs (q ∷ []) (pos 0) j low)) (before j low)
  | inr out ↦ (
      let e : length qs ≡ j = omega (arith, length_push qs q) in
      subst (λ (k : ℕ). P k (get_or (qs ++ q ∷ []) k (pos 0))) e (subst (P (length qs)) (sym (get_or_push qs q (pos 0) (length qs) refl)) here))
]

linked-grown : (rows new : List (List Place)) (j : ℕ) (column : List Item) →
    ((v : ℕ) (o : Place) → Contains (row_at rows v) o → Contains (row_at new v) o) → IsLinked rows j column → IsLinked new j column
linked-grown rows new j column grown linked = λ i d lt.
    let link = linked i d lt in
    (link.0, grown (get_or column i d).var link.0 link.1, link.2, link.3)

pub gathered_more : (p : Program) (qs : List ℤ) (q : ℤ) (rows new : List (List Place)) (items : List (List Item)) (costs : List ℤ) (column : List Item) (least : ℤ) →
    AreGathered p qs rows items costs → IsGathered p (length qs) q rows new column least → AreGathered p (qs ++ q ∷ []) new (items ++ column ∷ []) (costs ++ least ∷ [])
gathered_more p qs q rows new items costs column least g h =
    let long : length (qs ++ q ∷ []) ≡ length qs + 1 = length_push qs q in
    record {
      count = h.count ∙ g.count;
      small = each_push qs q (λ (j : ℕ) (r : ℤ). size_of (items_at p.minimize r) ≤ 2 ^ 55) g.small h.small;
      within = λ v. h.within (length (qs ++ q ∷ [])) v (omega (arith, long))
          (All-weaker (λ (o : Place). o.level < length qs) (λ (o : Place). o.level < length (qs ++ q ∷ [])) (λ o lt. omega (arith, long, lt))
          (row_at rows v) (g.within v));
      sums = λ j v b lt i k. each_push qs q (λ (j : ℕ) (r : ℤ). raised (row_at new v) j b ≡ rise_at p r v b)
          (λ j lt. h.kept j v b (λ (e : j ≡ length qs). omega arith) ∙ g.sums j v b lt i k)
          (omega (arith, h.sums v b i k, raised-none (row_at rows v) (length qs) b (g.within v))) j lt;
      columned = omega (arith, long, length_push items column, g.columned);
      columns = each_push qs q (λ (j : ℕ) (r : ℤ). IsColumn p r (get_or (items ++ column ∷ []) j []))
          (λ j lt. subst (IsColumn p (get_or qs j (pos 0))) (sym (get_or_append_left items (column ∷ []) [] j (omega (arith, g.columned, lt)))) (g.columns j lt))
          (subst (IsColumn p q) (sym (get_or_push items column [] (length qs) g.columned)) h.column);
      linked = record {
        each = λ k within. each_push qs q (λ (j : ℕ) (r : ℤ). IsLinked new j (get_or (items ++ column ∷ []) j []))
            (λ j lt. subst (IsLinked new j) (sym (get_or_append_left items (column ∷ []) [] j (omega (arith, g.columned, lt))))
            (linked-grown rows new j (get_or items j []) h.grown (g.linked.each j (omega (arith, g.columned, lt)))))
            (subst (IsLinked new (length qs)) (sym (get_or_push items column [] (length qs) g.columned)) h.linked) k (omega (arith, long, length_push items column, g.columned, within));
      };
      summed =
          let last : optimistic_at p (valueless p) q ≡ least = h.least_is in
          let all = g.summed in
          let pushed : map (optimistic_at p (valueless p)) (qs ++ q ∷ []) ≡ map (optimistic_at p (valueless p)) qs
          ++ optimistic_at p (valueless p) q ∷ [] = map_push (optimistic_at p (valueless p)) qs q in
          ap (λ (xs : List ℤ). xs ++ least ∷ []) all ∙ (ap (λ (x : ℤ). map (optimistic_at p (valueless p)) qs ++ x ∷ []) (sym last) ∙ sym pushed);
    }

pub gathered_step : (p : Program) (qs : List ℤ) (i : ℕ) (q d : ℤ) (rows new : List (List Place)) (items items' : List (List Item)) (costs costs' : List ℤ) (column column' : List Item) (least x : ℤ) →
    i < length qs → q ≡ get_or qs i d → AreGathered p (take i qs) rows items costs → IsGathered p i q rows new column least →
    items' ≡ items ++ column' ∷ [] → column' ≡ column → costs' ≡ costs ++ x ∷ [] → x ≡ least → AreGathered p (take (i + 1) qs) new items' costs'
gathered_step p qs i q d rows new items items' costs costs' column column' least x lt is g h ei ek ec ex =
    let n : length (take i qs) ≡ i = length-take-le i qs (omega arith) in
    let more = gathered_more p (take i qs) q rows new items costs column least g (subst (λ (k : ℕ). IsGathered p k q rows new column least) (sym n) h) in
    let list : take (i + 1) qs ≡ take i qs ++ q ∷ [] = take_more qs i d lt ∙ ap (λ (z : ℤ). take i qs ++ z ∷ []) (sym is) in
    let columns : items' ≡ items ++ column ∷ [] = ei ∙ ap (λ (k : List Item). items ++ k ∷ []) ek in
    let sums : costs' ≡ costs ++ least ∷ [] = ec ∙ ap (λ (z : ℤ). costs ++ z ∷ []) ex in
    let a = subst (λ (z : List ℤ). AreGathered p z new (items ++ column ∷ []) (costs ++ least ∷ [])) (sym list) more in
    let b = subst (λ (z : List (List Item)). AreGathered p (take (i + 1) qs) new z (costs ++ least ∷ [])) (sym columns) a in
    subst (AreGathered p (take (i + 1) qs) new items') (sym sums) b
