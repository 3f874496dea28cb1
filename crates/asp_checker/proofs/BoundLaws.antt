-- A bound by the weights at each priority.
use Rattle.std.proofs.Common.{◌≡◌, ℕ, zero, suc, ◌+◌, ◌*◌, ◌<◌, ◌≤◌, Bool, true, false, not, List, [], ◌∷◌, ◌++◌, map, length, take, drop, get_or, refl, sym, ap, ◌∙◌, subst, arith, Option, Some, drop-cons, add-one, cond, ◌||◌, None, length-append}
use Rattle.std.specs.Prelude.{ℤ, pos, ◌+ℤ◌, ◌≤ℤ◌, ◌<ℤ◌, unwrap_or, All}
use Rattle.std.specs.List.{AllByRecursion}
use Rattle.std.specs.Ordering.{int_cmp, is_lt, ordering_then, int_eq}
use Rattle.std.specs.declared.cmp.Ordering.{Ordering}
use Rattle.std.specs.declared.cmp.Ordering.TheVariants.{Less, Equal, Greater}
use Rattle.std.specs.Cmp.Lexicographic.{slice_cmp}
use Rattle.std.proofs.lemmas.Int.{ints}
use Rattle.std.proofs.lemmas.List.{take_more, length-map, get_or-map}
use Rattle.asp_model.specs.declared.program.Program.{Program}
use Rattle.asp_model.specs.Sets.{Atoms}
use Rattle.asp_model.specs.Costs.{priorities, betters, cost, cost_at, just_above, raised}
use Rattle.asp_vars.specs.Literals.{T, value_of}
use Rattle.asp_vars.specs.Numbering.{var_count}
use Rattle.asp_bound.specs.Optimism.{items_at, weight_at, least, least_at, optimistic_at}
use Rattle.asp_bound.specs.Weights.{AreWeights}
use Rattle.asp_bound.proofs.SumLaws.{sum_to-same}
use Rattle.asp_bound.proofs.LevelLaws.{weight_true-is, weight_false-is}
use Rattle.asp_checker.specs.declared.bounds.Bound.{Bound}
use Rattle.asp_checker.specs.Propagation.{reaches_bound}
use Rattle.asp_checker.specs.Blocks.{level_sum, AreLevels, weighs, is_priced, priced_to, sum_over}
use Rattle.std.proofs.lemmas.List.Elements.{All-from_recursion}

-- ---- one priority
level-is : (p : Program) (q : ℤ) (x : List (Option Bool)) (weights : List ℤ) → AreWeights p (items_at p.minimize q) weights → level_sum x (var_count p) weights ≡ optimistic_at p x q
level-is p q x weights are = sum_to-same (λ v. least (value_of x v) (get_or weights (2 * v) (pos 0)) (get_or weights (2 * v + 1) (pos 0))) (least_at p x q) (var_count p) (λ v i k.
    ap (λ t. least (value_of x v) t (get_or weights (2 * v + 1) (pos 0))) (weight_true-is p q weights v are k)
    ∙ ap (λ f. least (value_of x v) (weight_at p q (T v)) f) (weight_false-is p q weights v are k))

-- ---- all priorities
levels-are : (p : Program) (x : List (Option Bool)) (qs : List ℤ) (levels : List (List ℤ)) → AreLevels p qs levels → map (level_sum x (var_count p)) levels ≡ map (optimistic_at p x) qs
levels-are p x [] levels h = ap (map (level_sum x (var_count p))) h
levels-are p x (q ∷ qs) [] h = absurd h
levels-are p x (q ∷ qs) (w ∷ levels) h = ap (λ s. s ∷ map (level_sum x (var_count p)) levels) (level-is p q x w h.0) ∙ ap (λ ss. optimistic_at p x q ∷ ss) (levels-are p x qs levels h.1)

pub levels-long : (p : Program) (qs : List ℤ) (levels : List (List ℤ)) → AreLevels p qs levels → AllByRecursion (λ w. length w ≡ 2 * var_count p + 2) levels
levels-long p [] levels h = subst (AllByRecursion (λ w. length w ≡ 2 * var_count p + 2)) (sym h) tt
levels-long p (q ∷ qs) [] h = absurd h
levels-long p (q ∷ qs) (w ∷ levels) h = (h.0.count, levels-long p qs levels h.1)

pub levels-count : (p : Program) (qs : List ℤ) (levels : List (List ℤ)) → AreLevels p qs levels → length levels ≡ length qs
levels-count p [] levels h = ap length h
levels-count p (q ∷ qs) [] h = absurd h
levels-count p (q ∷ qs) (w ∷ levels) h = let n = levels-count p qs levels h.1 in omega (arith, n)

levels-push : (p : Program) (qs : List ℤ) (q : ℤ) (levels : List (List ℤ)) (w : List ℤ) → AreLevels p qs levels → AreWeights p (items_at p.minimize q) w → AreLevels p (qs ++ q ∷ []) (levels ++ w ∷ [])
levels-push p [] q levels w h are = subst (λ ls. AreLevels p (q ∷ []) (ls ++ w ∷ [])) (sym h) (are, refl)
levels-push p (r ∷ qs) q [] w h are = absurd h
levels-push p (r ∷ qs) q (v ∷ levels) w h are = (h.0, levels-push p qs q levels w h.1 are)

pub levels-more : (p : Program) (qs : List ℤ) (i : ℕ) (q : ℤ) (levels new : List (List ℤ)) (w : List ℤ) → i < length qs → q ≡ get_or qs i q →
    AreLevels p (take i qs) levels → AreWeights p (items_at p.minimize q) w → new ≡ levels ++ w ∷ [] → AreLevels p (take (i + 1) qs) new
levels-more p qs i q levels new w lt is h are e =
    let list : take (i + 1) qs ≡ take i qs ++ q ∷ [] = take_more qs i q lt ∙ ap (λ r. take i qs ++ r ∷ []) (sym is) in
    subst (λ rs. AreLevels p rs new) (sym list) (subst (AreLevels p (take i qs ++ q ∷ [])) (sym e) (levels-push p (take i qs) q levels w h are))

-- ---- the variables that weigh something
-- what a variable costs at least, by the weights of all literals
abbrev pub price : List (Option Bool) → List ℤ → ℕ → ℤ
price x w v = least (value_of x v) (get_or w (2 * v) (pos 0)) (get_or w (2 * v + 1) (pos 0))

left_false : (a b : Bool) → (a || b) ≡ false → a ≡ false
left_false true b e = e
left_false false b e = refl

right_false : (a b : Bool) → (a || b) ≡ false → b ≡ false
right_false true b e = absurd (grind arith)
right_false false b e = e

no_weight : (a : ℤ) → not (int_eq a (pos 0)) ≡ false → a ≡ pos 0
no_weight a e = grind (arith, ints)

least-zero : (o : Option Bool) → least o (pos 0) (pos 0) ≡ pos 0
least-zero None = refl
least-zero (Some true) = refl
least-zero (Some false) = refl

idle : (x : List (Option Bool)) (w : List ℤ) (v : ℕ) → weighs w v ≡ false → price x w v ≡ pos 0
idle x w v e =
    let a : ℤ = get_or w (2 * v) (pos 0) in
    let b : ℤ = get_or w (2 * v + 1) (pos 0) in
    ap (λ t. least (value_of x v) t b) (no_weight a (left_false (not (int_eq a (pos 0))) (not (int_eq b (pos 0))) e))
    ∙ ap (λ f. least (value_of x v) (pos 0) f) (no_weight b (right_false (not (int_eq a (pos 0))) (not (int_eq b (pos 0))) e))
    ∙ least-zero (value_of x v)

over_more : (x : List (Option Bool)) (w : List ℤ) (vs : List ℕ) (v : ℕ) → sum_over x w (vs ++ v ∷ []) ≡ sum_over x w vs +ℤ price x w v
over_more x w [] v = omega (arith, ints)
over_more x w (u ∷ vs) v = omega (arith, ints, over_more x w vs v)

nothing_more : (a b : ℤ) → b ≡ pos 0 → a ≡ a +ℤ b
nothing_more a b e = omega (arith, ints)

level_over : (x : List (Option Bool)) (all : List (List ℤ)) (w : List ℤ) (n : ℕ) → ((v : ℕ) → is_priced all v ≡ false → weighs w v ≡ false) →
    sum_over x w (priced_to all n) ≡ level_sum x n w
level_over x all w zero h = refl
level_over x all w (suc n) h = cases (is_priced all (suc n)) refl (level_over x all w n h)
  where
    cases : (t : Bool) → t ≡ is_priced all (suc n) → sum_over x w (priced_to all n) ≡ level_sum x n w → sum_over x w (priced_to all (suc n)) ≡ level_sum x (suc n) w
    cases true q e =
        ap (λ b. sum_over x w (cond b (priced_to all n ++ suc n ∷ []) (priced_to all n))) (sym q)
        ∙ over_more x w (priced_to all n) (suc n)
        ∙ ap (λ s. s +ℤ price x w (suc n)) e
    cases false q e =
        ap (λ b. sum_over x w (cond b (priced_to all n ++ suc n ∷ []) (priced_to all n))) (sym q)
        ∙ e
        ∙ nothing_more (level_sum x n w) (price x w (suc n)) (idle x w (suc n) (h (suc n) (sym q)))

levels_over : (x : List (Option Bool)) (n : ℕ) (all levels : List (List ℤ)) → ((v : ℕ) → is_priced all v ≡ false → is_priced levels v ≡ false) →
    map (λ w. sum_over x w (priced_to all n)) levels ≡ map (level_sum x n) levels
levels_over x n all [] h = refl
levels_over x n all (w ∷ levels) h =
    ap (λ s. s ∷ map (λ u. sum_over x u (priced_to all n)) levels) (level_over x all w n (λ v e. left_false (weighs w v) (is_priced levels v) (h v e)))
    ∙ ap (λ ss. level_sum x n w ∷ ss) (levels_over x n all levels (λ v e. right_false (weighs w v) (is_priced levels v) (h v e)))

-- the sums over the variables that weigh something are those over all
pub sums_over : (x : List (Option Bool)) (n : ℕ) (levels : List (List ℤ)) (vars : List ℕ) → vars ≡ priced_to levels n →
    map (λ w. sum_over x w vars) levels ≡ map (level_sum x n) levels
sums_over x n levels vars is = ap (λ vs. map (λ w. sum_over x w vs) levels) is ∙ levels_over x n levels levels (λ v e. e)

within_more : (vs : List ℕ) (n : ℕ) → AllByRecursion (λ v. v ≤ n) vs → AllByRecursion (λ v. v ≤ suc n) vs
within_more [] n h = tt
within_more (v ∷ vs) n h = (let a = h.0 in omega (arith, a), within_more vs n h.1)

within_push : (vs : List ℕ) (n : ℕ) → AllByRecursion (λ v. v ≤ n) vs → AllByRecursion (λ v. v ≤ n) (vs ++ n ∷ [])
within_push [] n h = (omega arith, tt)
within_push (v ∷ vs) n h = (h.0, within_push vs n h.1)

pub priced-within : (levels : List (List ℤ)) (n : ℕ) → AllByRecursion (λ v. v ≤ n) (priced_to levels n)
priced-within levels zero = tt
priced-within levels (suc n) = cases (is_priced levels (suc n)) refl (within_more (priced_to levels n) n (priced-within levels n))
  where
    cases : (t : Bool) → t ≡ is_priced levels (suc n) → AllByRecursion (λ v. v ≤ suc n) (priced_to levels n) → AllByRecursion (λ v. v ≤ suc n) (priced_to levels (suc n))
    cases true q before = subst (λ b. AllByRecursion (λ v. v ≤ suc n) (cond b (priced_to levels n ++ suc n ∷ []) (priced_to levels n))) q (within_push (priced_to levels n) (suc n) before)
    cases false q before = subst (λ b. AllByRecursion (λ v. v ≤ suc n) (cond b (priced_to levels n ++ suc n ∷ []) (priced_to levels n))) q before

pub priced-few : (levels : List (List ℤ)) (n : ℕ) → length (priced_to levels n) ≤ n
priced-few levels zero = omega arith
priced-few levels (suc n) = cases (is_priced levels (suc n)) refl (priced-few levels n)
  where
    cases : (t : Bool) → t ≡ is_priced levels (suc n) → length (priced_to levels n) ≤ n → length (priced_to levels (suc n)) ≤ suc n
    cases true q few =
        let long : length (priced_to levels n ++ suc n ∷ []) ≡ length (priced_to levels n) + 1 = length-append (priced_to levels n) (suc n ∷ []) in
        subst (λ b. length (cond b (priced_to levels n ++ suc n ∷ []) (priced_to levels n)) ≤ suc n) q (omega (arith, few, long))
    cases false q few =
        subst (λ b. length (cond b (priced_to levels n ++ suc n ∷ []) (priced_to levels n)) ≤ suc n) q (omega (arith, few))

-- ---- one variable more
pub over-next : (x : List (Option Bool)) (w : List ℤ) (vars : List ℕ) (i v : ℕ) (s r new : ℤ) → i < length vars → v ≡ get_or vars i 0 →
    s ≡ sum_over x w (take i vars) → r ≡ price x w v → new ≡ s +ℤ r → new ≡ sum_over x w (take (i + 1) vars)
over-next x w vars i v s r new lt is es er en =
    let list : take (i + 1) vars ≡ take i vars ++ v ∷ [] = take_more vars i 0 lt ∙ ap (λ u. take i vars ++ u ∷ []) (sym is) in
    en ∙ ap (λ a. a +ℤ r) es ∙ ap (λ b. sum_over x w (take i vars) +ℤ b) er ∙ sym (over_more x w (take i vars) v) ∙ ap (sum_over x w) (sym list)

-- ---- the list
pub priced-next : (levels : List (List ℤ)) (n : ℕ) (old new : List ℕ) → old ≡ priced_to levels n →
    new ≡ cond (is_priced levels (n + 1)) (old ++ (n + 1) ∷ []) old → new ≡ priced_to levels (n + 1)
priced-next levels n old new e is =
    is ∙ ap (λ l. cond (is_priced levels (n + 1)) (l ++ (n + 1) ∷ []) l) e
    ∙ ap (λ k. cond (is_priced levels k) (priced_to levels n ++ k ∷ []) (priced_to levels n)) (add-one n)
    ∙ sym (ap (priced_to levels) (add-one n))

-- ---- the weights at each priority have a place for each variable's literals
pub wide : (levels : List (List ℤ)) (n v : ℕ) → v ≤ n → AllByRecursion (λ w. length w ≡ 2 * n + 2) levels → AllByRecursion (λ w. 2 * v + 1 < length w) levels
wide [] n v le h = tt
wide (w ∷ levels) n v le h = (let e = h.0 in omega (arith, e, le), wide levels n v le h.1)

wide_one : (vars : List ℕ) (n : ℕ) (w : List ℤ) → length w ≡ 2 * n + 2 → AllByRecursion (λ v. v ≤ n) vars → AllByRecursion (λ v. 2 * v + 1 < length w) vars
wide_one [] n w e h = tt
wide_one (v ∷ vars) n w e h = (let le = h.0 in omega (arith, e, le), wide_one vars n w e h.1)

pub wide_all : (levels : List (List ℤ)) (n : ℕ) (vars : List ℕ) → AllByRecursion (λ v. v ≤ n) vars → AllByRecursion (λ w. length w ≡ 2 * n + 2) levels →
    AllByRecursion (λ w. All (λ v. 2 * v + 1 < length w) vars) levels
wide_all [] n vars within h = tt
wide_all (w ∷ levels) n vars within h = (All-from_recursion (λ v. 2 * v + 1 < length w) vars (wide_one vars n w h.0 within), wide_all levels n vars within h.1)

below : (x : List (Option Bool)) (vars : List ℕ) (n : ℕ) → length x ≡ n + 1 → AllByRecursion (λ v. v ≤ n) vars → AllByRecursion (λ v. v < length x) vars
below x [] n e h = tt
below x (v ∷ vars) n e h = (let le = h.0 in omega (arith, e, le), below x vars n e h.1)

pub all_below : (x : List (Option Bool)) (vars : List ℕ) (n : ℕ) → length x ≡ n + 1 → AllByRecursion (λ v. v ≤ n) vars → All (λ v. v < length x) vars
all_below x vars n e h = All-from_recursion (λ v. v < length x) vars (below x vars n e h)

-- ---- the comparison
pub reached-by : (p : Program) (b : Bound) (x : List (Option Bool)) → AreLevels p (priorities p.minimize) b.levels → b.priced ≡ priced_to b.levels (var_count p) →
    not (betters (map (λ w. sum_over x w b.priced) b.levels) b.cost) ≡ reaches_bound p (Some b.cost) x
reached-by p b x h is =
    ap (λ s. not (betters s b.cost)) (sums_over x (var_count p) b.levels b.priced is)
    ∙ ap (λ s. not (betters s b.cost)) (levels-are p x (priorities p.minimize) b.levels h)

raised-long : (c : List ℤ) → length (raised c) ≡ length c
raised-long [] = refl
raised-long (q ∷ []) = refl
raised-long (q ∷ r ∷ c) = ap suc (raised-long (r ∷ c))

just-long : (c : List ℤ) → length (unwrap_or (just_above c) []) ≡ length c
just-long [] = refl
just-long (q ∷ c) = raised-long (q ∷ c)

-- the cost just above a set's has a sum for each priority
pub above-long : (p : Program) (S : Atoms) (o : Option (List ℤ)) (d : List ℤ) → o ≡ just_above (cost p S) → o ≡ Some d → length d ≡ length (priorities p.minimize)
above-long p S o d is some =
    ap (λ (x : Option (List ℤ)). length (unwrap_or x [])) (sym some ∙ is)
    ∙ just-long (cost p S)
    ∙ length-map (priorities p.minimize) (cost_at S p.minimize)

cmp-less : (s c : ℤ) → s <ℤ c → int_cmp s c ≡ Less
cmp-less s c e = grind (arith, ints)

cmp-greater : (s c : ℤ) → c <ℤ s → int_cmp s c ≡ Greater
cmp-greater s c e = grind (arith, ints)

cmp-equal : (s c : ℤ) → c ≤ℤ s → s ≤ℤ c → int_cmp s c ≡ Equal
cmp-equal s c e f = grind (arith, ints)

-- the lists compare as what is left of them
pub record CompareFrom (sums cost : List ℤ) (i : ℕ) : Type 0 where
  pub same : slice_cmp int_cmp sums cost ≡ slice_cmp int_cmp (drop i sums) (drop i cost)

step : (sums cost : List ℤ) (i : ℕ) (s c : ℤ) (o : Ordering) → i < length sums → i < length cost → s ≡ get_or sums i (pos 0) → c ≡ get_or cost i (pos 0) → int_cmp s c ≡ o → CompareFrom sums cost i →
    slice_cmp int_cmp sums cost ≡ ordering_then o (slice_cmp int_cmp (drop (i + 1) sums) (drop (i + 1) cost))
step sums cost i s c o lt lt' es ec eo h =
    let a : drop i sums ≡ s ∷ drop (i + 1) sums = rw (add-one, es) (drop-cons sums i (pos 0) lt) in
    let b : drop i cost ≡ c ∷ drop (i + 1) cost = rw (add-one, ec) (drop-cons cost i (pos 0) lt') in
    h.same ∙ ap (λ l. slice_cmp int_cmp l (drop i cost)) a ∙ ap (λ l. slice_cmp int_cmp (s ∷ drop (i + 1) sums) l) b
    ∙ ap (λ r. ordering_then r (slice_cmp int_cmp (drop (i + 1) sums) (drop (i + 1) cost))) eo

pub compare_less : (sums cost : List ℤ) (i : ℕ) (s c : ℤ) → i < length sums → i < length cost → s ≡ get_or sums i (pos 0) →
    c ≡ get_or cost i (pos 0) → s <ℤ c → CompareFrom sums cost i → false ≡ not (betters sums cost)
compare_less sums cost i s c lt lt' es ec less h = sym (ap (λ o. not (is_lt o)) (step sums cost i s c Less lt lt' es ec (cmp-less s c less) h))

pub compare_greater : (sums cost : List ℤ) (i : ℕ) (s c : ℤ) → i < length sums → i < length cost → s ≡ get_or sums i (pos 0) →
    c ≡ get_or cost i (pos 0) → c <ℤ s → CompareFrom sums cost i → true ≡ not (betters sums cost)
compare_greater sums cost i s c lt lt' es ec less h = sym (ap (λ o. not (is_lt o)) (step sums cost i s c Greater lt lt' es ec (cmp-greater s c less) h))

pub compare_next : (sums cost : List ℤ) (i : ℕ) (s c : ℤ) → i < length sums → i < length cost → s ≡ get_or sums i (pos 0) →
    c ≡ get_or cost i (pos 0) → c ≤ℤ s → s ≤ℤ c → CompareFrom sums cost i → CompareFrom sums cost (i + 1)
compare_next sums cost i s c lt lt' es ec le ge h = record { same = step sums cost i s c Equal lt lt' es ec (cmp-equal s c le ge) h }

past : (xs : List ℤ) (i : ℕ) → length xs ≤ i → drop i xs ≡ []
past [] zero le = refl
past [] (suc i) le = refl
past (x ∷ xs) zero le = absurd (omega arith)
past (x ∷ xs) (suc i) le = past xs i (omega arith)

pub sum_at : (f : List ℤ → ℤ) (levels : List (List ℤ)) (i : ℕ) (w : List ℤ) (s : ℤ) → i < length levels → w ≡ get_or levels i w →
    s ≡ f w → s ≡ get_or (map f levels) i (pos 0)
sum_at f levels i w s lt is e = e ∙ ap f is ∙ sym (get_or-map f levels i w (pos 0) lt)
