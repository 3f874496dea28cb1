-- When the bound is silent.
use Rattle.std.proofs.Common.{◌≡◌, ℕ, zero, suc, ◌<◌, ◌≤◌, ◌⊎◌, Bool, true, false, cond, not, ◌&&◌, ◌||◌, List, [], ◌∷◌, length, get_or, set, Option, Some, None, IsSome, ℤ, pos, ◌+ℤ◌, refl, sym, ap, ◌∙◌, subst, inl, inr, arith}
use Rattle.std.specs.Option.{is_none}
use Rattle.std.specs.Ordering.{int_eq}
use Rattle.std.proofs.lemmas.Int.{ints}
use Rattle.std.proofs.lemmas.Bool.{false≢true, cases_eq, and_left, and_right}
use Rattle.std.proofs.lemmas.List.{length-map}
use Rattle.asp_model.specs.declared.program.Program.{Program}
use Rattle.asp_model.specs.Sets.{Atoms}
use Rattle.asp_model.specs.Costs.{priorities, betters, cost}
use Rattle.asp_vars.specs.Literals.{value_of}
use Rattle.asp_vars.specs.Numbering.{var_count, values}
use Rattle.asp_vars.proofs.LiteralLaws.{and_both, and_left as first_of_both}
use Rattle.asp_bound.specs.declared.place.Place.{Place}
use Rattle.asp_bound.specs.declared.place.Item.{Item}
use Rattle.asp_bound.specs.declared.find.Implied.{Implied}
use Rattle.asp_bound.specs.Optimism.{optimistic_at, optimistic}
use Rattle.asp_bound.specs.Silence.{is_below, stays, each_to, is_silent}
use Rattle.asp_bound.specs.Rises.{rise_at, raised, row_at, nth_priority}
use Rattle.asp_bound.specs.Reach.{reach, depth, lifted}
use Rattle.asp_bound.specs.Found.{reach_at, IsNear, Passes, Reaches}
use Rattle.asp_bound.specs.Kept.{IsKept}
use Rattle.asp_bound.specs.Bounded.{IsSmaller}
use Rattle.asp_bound.proofs.CostLaws.{optimistic_at-set, optimistic-whole, cost_of-values}
use Rattle.asp_bound.proofs.ReachLaws.{reached_now, betters-reach, lifted-map, reach-near}

-- ---- a test of all numbers up to n
each_to-all : (f : ℕ → Bool) (n : ℕ) → ((v : ℕ) → 0 < v → v ≤ n → f v ≡ true) → each_to f n ≡ true
each_to-all f zero h = refl
each_to-all f (suc n) h = and_both (each_to f n) (f (suc n)) (each_to-all f n (λ v i k. h v i (omega arith))) (h (suc n) (omega arith) (omega arith))

each_to-not : (f : ℕ → Bool) (n v : ℕ) → 0 < v → v ≤ n → f v ≡ false → each_to f n ≡ false
each_to-not f zero v i k e = absurd (omega arith)
each_to-not f (suc n) v i k e = elim (cases_eq v (suc n)) [
  | inl is ↦ and_right (each_to f n) (f (suc n)) (ap f (sym is) ∙ e)
  | inr ne ↦ (
      let within : v ≤ n = omega arith in
      and_left (each_to f n) (f (suc n)) (each_to-not f n v i within e))
]

-- ---- raised sums are the optimistic cost with the value
pub reach_at-set : (p : Program) (a : List (Option Bool)) (rows : List (List Place)) (columns : List (List Item)) (vars : List ℕ) (sums : List ℤ) → IsKept p a rows columns vars sums →
    (c : List ℤ) (v : ℕ) (b : Bool) → 0 < v → v ≤ var_count p → value_of a v ≡ None → reach_at rows sums c v b ≡ reach (optimistic p (set a v (Some b))) c
reach_at-set p a rows columns vars sums kept c v b i k none =
    let qs = priorities p.minimize in
    let f : ℕ → ℕ = λ j. raised (row_at rows v) j b in
    let same : lifted f (optimistic p a) ≡ optimistic p (set a v (Some b)) =
    lifted-map f (optimistic_at p a) (optimistic_at p (set a v (Some b))) qs (λ j lt.
    optimistic_at-set p a v b (nth_priority p j) i k kept.sized none ∙ ap (λ n. optimistic_at p a (nth_priority p j) +ℤ pos n) (sym (kept.rowed.sums j v b lt i k))) in
    ap (λ s. reach (lifted f s) c) kept.summed ∙ ap (λ s. reach s c) same

-- ---- where it isn't silent
pub loud-now : (p : Program) (a : List (Option Bool)) (c : List ℤ) (d : ℕ) → reach (optimistic p a) c ≡ Some d → is_silent p (Some c) a ≡ false
loud-now p a c d e = and_left (is_below p a c) (each_to (stays p a c) (var_count p)) (betters-reach (optimistic p a) c ∙ ap is_none e)

-- where a variable without a value reaches the bound by one
not_stays : (o : Option Bool) (x y : Bool) → o ≡ None → (x ≡ false) ⊎ (y ≡ false) → (not (is_none o) || (x && y)) ≡ false
not_stays o x y e (inl f) = subst (λ o. (not (is_none o) || (x && y)) ≡ false) (sym e) (and_left x y f)
not_stays o x y e (inr f) = subst (λ o. (not (is_none o) || (x && y)) ≡ false) (sym e) (and_right x y f)

either : (p : Program) (a : List (Option Bool)) (c : List ℤ) (v : ℕ) (b : Bool) → is_below p (set a v (Some b)) c ≡ false →
    (is_below p (set a v (Some true)) c ≡ false) ⊎ (is_below p (set a v (Some false)) c ≡ false)
either p a c v true e = inl e
either p a c v false e = inr e

pub loud-with : (p : Program) (a : List (Option Bool)) (c : List ℤ) (v : ℕ) (b : Bool) (d : ℕ) → 0 < v → v ≤ var_count p → value_of a v ≡ None →
    reach (optimistic p (set a v (Some b))) c ≡ Some d → is_silent p (Some c) a ≡ false
loud-with p a c v b d i k none e =
    and_right (is_below p a c) (each_to (stays p a c) (var_count p)) (each_to-not (stays p a c) (var_count p) v i k
    (not_stays (value_of a v) (is_below p (set a v (Some true)) c) (is_below p (set a v (Some false)) c) none
    (either p a c v b (betters-reach (optimistic p (set a v (Some b))) c ∙ ap is_none e))))

pub loud-implied : (p : Program) (a : List (Option Bool)) (rows : List (List Place)) (columns : List (List Item)) (vars : List ℕ) (sums : List ℤ) → IsKept p a rows columns vars sums →
    (c : List ℤ) (x : Implied) → Reaches a rows sums c x → 0 < x.lit.var → x.lit.var ≤ var_count p → is_silent p (Some c) a ≡ false
loud-implied p a rows columns vars sums kept c x r i k =
    loud-with p a c x.lit.var x.lit.truth x.depth i k r.no_value (sym (reach_at-set p a rows columns vars sums kept c x.lit.var x.lit.truth i k r.no_value) ∙ r.reached)

-- ---- where it is
-- Each variable that may reach the bound was looked at.
abbrev pub ArePassed : List (Option Bool) → List (List Place) → List (List Item) → List ℤ → List ℤ → Type 0
ArePassed a rows columns sums c = (j i : ℕ) (d : Item) → j < depth sums c → i < length (get_or columns j []) →
    IsNear (get_or sums j (pos 0)) (get_or c j (pos 0)) (get_or (get_or columns j []) i d).most → Passes a rows sums c (get_or (get_or columns j []) i d).var

depth-within : (x c : List ℤ) → depth x c ≤ length x
depth-within x [] = omega arith
depth-within [] (k ∷ c) = omega arith
depth-within (s ∷ x) (k ∷ c) = depth_by (int_eq s k) (depth x c) (length x) (depth-within x c)
  where
    depth_by : (t : Bool) (m n : ℕ) → m ≤ n → cond t (suc m) 1 ≤ suc n
    depth_by true m n h = omega arith
    depth_by false m n h = omega arith

not_both : (o : Option Bool) → o ≡ None → IsSome o → ⊥
not_both None e h = false≢true h
not_both (Some b) e h = absurd (false≢true (ap is_none e))

one_of : (a : List (Option Bool)) (rows : List (List Place)) (sums c : List ℤ) (v : ℕ) (b : Bool) → value_of a v ≡ None → Passes a rows sums c v → reach_at rows sums c v b ≡ None
one_of a rows sums c v b none (inl some) = absurd (not_both (value_of a v) none some)
one_of a rows sums c v true none (inr by) = by.0
one_of a rows sums c v false none (inr by) = by.1

-- no value of a variable without one reaches the bound
none_reaches : (p : Program) (a : List (Option Bool)) (rows : List (List Place)) (columns : List (List Item)) (vars : List ℕ) (sums c : List ℤ) →
    IsKept p a rows columns vars sums → ArePassed a rows columns sums c → reach sums c ≡ None →
    (v : ℕ) (b : Bool) → 0 < v → v ≤ var_count p → value_of a v ≡ None → (r : Option ℕ) → reach_at rows sums c v b ≡ r → is_none r ≡ true
none_reaches p a rows columns vars sums c kept passed below v b i k none None e = refl
none_reaches p a rows columns vars sums c kept passed below v b i k none (Some d) e =
    let f : ℕ → ℕ = λ j. raised (row_at rows v) j b in
    let near = reach-near f sums c d below e in
    let j = near.0 in
    let counted : length sums ≡ length (priorities p.minimize) = ap length kept.summed ∙ length-map (priorities p.minimize) (optimistic_at p a) in
    let low : j < length (priorities p.minimize) = omega (arith, near.1.within, depth-within sums c) in
    let here : j < length columns = omega (arith, kept.columned.count) in
    let is : raised (row_at rows v) j b ≡ rise_at p (nth_priority p j) v b = kept.rowed.sums j v b low i k in
    let up : 0 < rise_at p (nth_priority p j) v b = omega (arith, near.1.up) in
    let item = (kept.columned.each j here).whole v b i k up in
    let x = item.0 in
    let place = item.1.0 in
    let is_near : IsNear (get_or sums j (pos 0)) (get_or c j (pos 0)) x.most = (omega (arith, item.3), omega (arith, ints, near.1.near, item.3, is)) in
    let at : get_or (get_or columns j []) place x ≡ x = item.1.2 in
    let passes_x : Passes a rows sums c x.var =
    subst (λ (y : Item). Passes a rows sums c y.var) at (passed j place x near.1.within item.1.1 (subst (λ (y : Item). IsNear (get_or sums j (pos 0)) (get_or c j (pos 0)) y.most) (sym at) is_near)) in
    let passes : Passes a rows sums c v = subst (Passes a rows sums c) item.2 passes_x in
    absurd (false≢true (ap is_none (sym e ∙ one_of a rows sums c v b none passes)))

stays_by : (o : Option Bool) (x y : Bool) → (o ≡ None → x ≡ true) → (o ≡ None → y ≡ true) → (not (is_none o) || (x && y)) ≡ true
stays_by None x y f g = and_both x y (f refl) (g refl)
stays_by (Some b) x y f g = refl

pub silent-now : (p : Program) (a : List (Option Bool)) (rows : List (List Place)) (columns : List (List Item)) (vars : List ℕ) (sums c : List ℤ) →
    IsKept p a rows columns vars sums → reach sums c ≡ None → ArePassed a rows columns sums c →
    is_silent p (Some c) a ≡ true
silent-now p a rows columns vars sums c kept below passed =
    let now : is_below p a c ≡ true = betters-reach (optimistic p a) c ∙ ap is_none (ap (λ s. reach s c) (sym kept.summed) ∙ below) in
    let with_value : (v : ℕ) (b : Bool) → 0 < v → v ≤ var_count p → value_of a v ≡ None → is_below p (set a v (Some b)) c ≡ true = λ v b i k none.
    betters-reach (optimistic p (set a v (Some b))) c
    ∙ (ap is_none (sym (reach_at-set p a rows columns vars sums kept c v b i k none))
    ∙ none_reaches p a rows columns vars sums c kept passed below v b i k none (reach_at rows sums c v b) refl) in
    and_both (is_below p a c) (each_to (stays p a c) (var_count p)) now
    (each_to-all (stays p a c) (var_count p) (λ v i k. stays_by (value_of a v) (is_below p (set a v (Some true)) c)
    (is_below p (set a v (Some false)) c) (with_value v true i k) (with_value v false i k)))

-- ---- the same, by what the calls say
pub loud_now_as : (p : Program) (a : List (Option Bool)) (rows : List (List Place)) (columns : List (List Item)) (vars : List ℕ) (sums : List ℤ) → IsKept p a rows columns vars sums →
    (bound : Option (List ℤ)) (c s limits : List ℤ) (d : ℕ) → bound ≡ Some c → s ≡ sums → limits ≡ c → Some d ≡ reach (lifted (λ j. 0) s) limits → false ≡ is_silent p bound a
loud_now_as p a rows columns vars sums kept bound c s limits d eb es el e =
    sym (ap (λ (b : Option (List ℤ)). is_silent p b a) eb ∙ loud-now p a c d (ap (λ (x : List ℤ). reach x c) (sym kept.summed) ∙ reached_now sums c s limits (Some d) es el e))

pub loud_with_as : (p : Program) (a : List (Option Bool)) (rows : List (List Place)) (columns : List (List Item)) (vars : List ℕ) (sums : List ℤ) → IsKept p a rows columns vars sums →
    (bound : Option (List ℤ)) (c s limits : List ℤ) (x : Implied) → bound ≡ Some c → s ≡ sums → limits ≡ c → Reaches a rows s limits x →
    (0 < x.lit.var) × (x.lit.var < length a) → false ≡ is_silent p bound a
loud_with_as p a rows columns vars sums kept bound c s limits x eb es el r within =
    let reaches : Reaches a rows sums c x = subst (λ (l : List ℤ). Reaches a rows sums l x) el (subst (λ (z : List ℤ). Reaches a rows z limits x) es r) in
    sym (ap (λ (b : Option (List ℤ)). is_silent p b a) eb ∙ loud-implied p a rows columns vars sums kept c x reaches within.0 (omega (arith, kept.sized, within.1)))

pub silent_now_as : (p : Program) (a : List (Option Bool)) (rows : List (List Place)) (columns : List (List Item)) (vars : List ℕ) (sums : List ℤ) → IsKept p a rows columns vars sums →
    (bound : Option (List ℤ)) (c s limits : List ℤ) → bound ≡ Some c → s ≡ sums → limits ≡ c → None ≡ reach (lifted (λ j. 0) s) limits → ArePassed a rows columns s limits → true ≡ is_silent p bound a
silent_now_as p a rows columns vars sums kept bound c s limits eb es el e passed =
    let all : ArePassed a rows columns sums c = subst (ArePassed a rows columns sums) el (subst (λ (z : List ℤ). ArePassed a rows columns z limits) es passed) in
    sym (ap (λ (b : Option (List ℤ)). is_silent p b a) eb ∙ silent-now p a rows columns vars sums c kept (reached_now sums c s limits None es el e) all)

-- ---- where all variables have values
pub silent_costs_less : (p : Program) (bound : Option (List ℤ)) (a : List (Option Bool)) (S : Atoms) → ((v : ℕ) → 0 < v → v ≤ var_count p → value_of a v ≡ Some (get_or (values p S) v false)) →
    is_silent p bound a ≡ true → IsSmaller (cost p S) bound
silent_costs_less p None a S h e = tt
silent_costs_less p (Some c) a S h e =
    ap (λ (s : List ℤ). betters s c) (sym (optimistic-whole p a (values p S) h ∙ cost_of-values p S)) ∙ first_of_both (is_below p a c) (each_to (stays p a c) (var_count p)) e
