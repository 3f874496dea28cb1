-- The optimistic cost, and what sets cost.
use Rattle.std.proofs.Common.{◌≡◌, ◌≢◌, ℕ, ◌+◌, ◌<◌, ◌≤◌, Bool, true, false, cond, eqb, List, [], ◌∷◌, ◌++◌, map, length, get_or, set, Option, Some, None, ℤ, pos, negsuc, ◌+ℤ◌, ◌-ℤ◌, ◌≤ℤ◌, refl, sym, ap, ◌∙◌, subst, inl, inr, arith, get_or-set_other, get_or-set_same}
use Rattle.std.specs.List.{AllByRecursion, flat_map}
use Rattle.std.specs.Bool.{beq}
use Rattle.std.specs.Int.{int_max, int_min}
use Rattle.std.specs.Int.RustNames.{unsigned_abs}
use Rattle.std.specs.Ordering.{int_eq}
use Rattle.std.proofs.lemmas.Int.{clamps, ints}
use Rattle.std.proofs.lemmas.Bool.{cases_lt}
use Rattle.std.proofs.lemmas.List.Sums.{sum_by-cons}
use Rattle.asp_model.specs.declared.program.Minimize.{Minimize}
use Rattle.asp_model.specs.declared.program.Output.{Output}
use Rattle.asp_model.specs.declared.program.External.{External}
use Rattle.asp_model.specs.declared.program.Rule.{Rule}
use Rattle.asp_model.specs.declared.program.Program.{Program}
use Rattle.asp_model.specs.Sets.{Atoms, has}
use Rattle.asp_model.specs.Holding.{atom_of, body_atoms, holds, weight_of}
use Rattle.asp_model.specs.Models.{atoms_of, head_atoms}
use Rattle.asp_model.specs.Costs.{cost_at, cost, priorities}
use Rattle.asp_model.proofs.SetLaws.{has-set_of}
use Rattle.asp_model.proofs.MemberLaws.{each_weaker, each-append, HasAll, HasAll-left, HasAll-right, HasAll-flat_map}
use Rattle.asp_vars.specs.Literals.{Literal, T, F, literal_eq, value_of, is_true}
use Rattle.asp_vars.specs.Numbering.{var_count, place_of, literal_in, values}
use Rattle.asp_vars.proofs.CompletionLaws.{literal-holds}
use Rattle.asp_vars.proofs.StandingLaws.{each-unmap}
use Rattle.asp_vars.proofs.PlaceLaws.{place_of-within}
use Rattle.asp_bound.specs.Optimism.{items_at, weight_in, weight_at, least, sum_to, least_at, optimistic_at, optimistic}
use Rattle.asp_bound.specs.Definition.{weight_that, cost_of_at, cost_of}
use Rattle.asp_bound.specs.Rises.{above, rise, rise_at}
use Rattle.asp_bound.specs.Weights.{size_of}
use Rattle.asp_bound.proofs.SumLaws.{sum_to-le, sum_to-add, sum_to-zero, sum_to-at, sum_to-same, picked_by, picked-sum, AreVars}

-- ---- the atoms of minimize statements have variables
abbrev pub AreStanding : Program → List (ℤ × ℤ) → Type 0
AreStanding p items = AllByRecursion (λ i. has (atoms_of p) (atom_of i.0) ≡ true) items

cond_items : (p : Program) (b : Bool) (items : List (ℤ × ℤ)) → AreStanding p items → AreStanding p (cond b items [])
cond_items p true items h = h
cond_items p false items h = tt

among_items : (p : Program) (ms : List Minimize) (q : ℤ) → AllByRecursion (λ (m : Minimize). AreStanding p m.items) ms → AreStanding p (items_at ms q)
among_items p [] q h = tt
among_items p (m ∷ ms) q h =
    each-append (λ (i : ℤ × ℤ). has (atoms_of p) (atom_of i.0) ≡ true) (cond (int_eq m.priority q) m.items []) (items_at ms q) (cond_items p (int_eq m.priority q) m.items h.0) (among_items p ms q h.1)

pub items-stand : (p : Program) (q : ℤ) → AreStanding p (items_at p.minimize q)
items-stand p q =
    let item_atoms : Minimize → List ℕ = λ m. map (λ item. atom_of item.0) m.items in
    let A = flat_map (λ (r : Rule). head_atoms r.head ++ body_atoms r.body) p.rules in
    let B = flat_map item_atoms p.minimize in
    let C = flat_map (λ (o : Output). map atom_of o.condition) p.outputs in
    let D = map (λ (e : External). e.atom) p.externals in
    let E = map atom_of p.assumptions in
    let standing = A ++ B ++ C ++ D ++ E in
    let of_items : (xs : List ℕ) → HasAll B xs → HasAll standing xs =
    λ xs h. HasAll-left (A ++ B ++ C ++ D) E xs (HasAll-left (A ++ B ++ C) D xs (HasAll-left (A ++ B) C xs (HasAll-right A B xs h))) in
    among_items p p.minimize q
    (each_weaker (λ (m : Minimize). HasAll B (item_atoms m)) (λ (m : Minimize). AreStanding p m.items) (λ m h.
    each-unmap (λ a. has (atoms_of p) a ≡ true) (λ (item : ℤ × ℤ). atom_of item.0) m.items
    (each_weaker (λ a. has standing a ≡ true) (λ a. has (atoms_of p) a ≡ true) (λ a e. has-set_of standing a ∙ e) (item_atoms m)
    (of_items (item_atoms m) h))) p.minimize (HasAll-flat_map item_atoms p.minimize))

pub var-within : (atoms : Atoms) (l : ℤ) (n : ℕ) → has atoms (atom_of l) ≡ true → length atoms ≤ n → (0 < (literal_in atoms l).var) × ((literal_in atoms l).var ≤ n)
var-within atoms l n h e =
    let within : place_of (λ b. eqb b (atom_of l)) atoms < length atoms = place_of-within (λ b. eqb b (atom_of l)) atoms h in
    (omega arith, omega arith)

pub items-vars : (p : Program) (items : List (ℤ × ℤ)) → AreStanding p items → AreVars (atoms_of p) (var_count p) items
items-vars p [] h = tt
items-vars p (i ∷ items) h = (var-within (atoms_of p) i.0 (var_count p) h.0 (omega arith), items-vars p items h.1)

-- ---- the cost at a priority
weight_of-append : (S : Atoms) (xs ys : List (ℤ × ℤ)) → weight_of S (xs ++ ys) ≡ weight_of S xs +ℤ weight_of S ys
weight_of-append S [] ys = omega (arith, ints)
weight_of-append S (x ∷ xs) ys = omega (arith, ints, weight_of-append S xs ys)

weight_of-cond : (S : Atoms) (b : Bool) (xs : List (ℤ × ℤ)) → weight_of S (cond b xs []) ≡ cond b (weight_of S xs) (pos 0)
weight_of-cond S true xs = refl
weight_of-cond S false xs = refl

pub cost_at-items : (S : Atoms) (ms : List Minimize) (q : ℤ) → cost_at S ms q ≡ weight_of S (items_at ms q)
cost_at-items S [] q = refl
cost_at-items S (m ∷ ms) q = omega (arith, ints, cost_at-items S ms q, weight_of-append S (cond (int_eq m.priority q) m.items []) (items_at ms q), weight_of-cond S (int_eq m.priority q) m.items)

weight_of-picked : (p : Program) (S : Atoms) (items : List (ℤ × ℤ)) → AreStanding p items → weight_of S items ≡ weight_that (is_true (values p S)) (atoms_of p) items
weight_of-picked p S [] h = refl
weight_of-picked p S (i ∷ items) h =
    let here : cond (is_true (values p S) (literal_in (atoms_of p) i.0)) i.1 (pos 0) ≡ cond (holds S i.0) i.1 (pos 0) = ap (λ b. cond b i.1 (pos 0)) (literal-holds p S i.0 h.0) in
    omega (arith, ints, here, weight_of-picked p S items h.1)

cost_of_at-sum : (p : Program) (x : List Bool) (q : ℤ) → cost_of_at p x q ≡ sum_to (picked_by (is_true x) (weight_at p q)) (var_count p)
cost_of_at-sum p x q = picked-sum (is_true x) (atoms_of p) (var_count p) (items_at p.minimize q) (items-vars p (items_at p.minimize q) (items-stand p q))

-- A set costs what the values of the variables in it cost.
cost_of_at-values : (p : Program) (S : Atoms) (q : ℤ) → cost_of_at p (values p S) q ≡ cost_at S p.minimize q
cost_of_at-values p S q = sym (cost_at-items S p.minimize q ∙ weight_of-picked p S (items_at p.minimize q) (items-stand p q))

map-same : (f g : ℤ → ℤ) (qs : List ℤ) → ((q : ℤ) → f q ≡ g q) → map f qs ≡ map g qs
map-same f g [] h = refl
map-same f g (q ∷ qs) h =
    let first : f q ≡ g q = h q in
    let rest : map f qs ≡ map g qs = map-same f g qs h in
    cc

pub cost_of-values : (p : Program) (S : Atoms) → cost_of p (values p S) ≡ cost p S
cost_of-values p S = map-same (cost_of_at p (values p S)) (cost_at S p.minimize) (priorities p.minimize) (cost_of_at-values p S)

-- ---- a variable's part
picked_by-value : (x : Bool) (t f : ℤ) → cond (beq x true) t (pos 0) +ℤ cond (beq x false) f (pos 0) ≡ cond x t f
picked_by-value true t f = omega (arith, ints)
picked_by-value false t f = omega (arith, ints)

above-is : (x : ℤ) → pos (above x) ≡ int_max x (pos 0)
above-is (pos n) = omega (arith, ints, clamps)
above-is (negsuc n) = omega (arith, ints, clamps)

open-le : (x : Bool) (t f : ℤ) → int_min t f ≤ℤ cond x t f
open-le true t f = omega (arith, ints, clamps)
open-le false t f = omega (arith, ints, clamps)

flat-le : (b x : Bool) (t f : ℤ) → rise b t f ≤ 0 → cond b t f ≤ℤ cond x t f
flat-le true true t f h = omega (arith, ints)
flat-le false false t f h = omega (arith, ints)
flat-le true false t f h = omega (arith, ints, clamps, above-is (t -ℤ f), h)
flat-le false true t f h = omega (arith, ints, clamps, above-is (f -ℤ t), h)

least-some : (b : Bool) (t f : ℤ) → least (Some b) t f ≡ cond b t f
least-some true t f = refl
least-some false t f = refl

-- A value costs no more than that of a set, if it is the set's where it adds something.
least-le : (o : Option Bool) (x : Bool) (t f : ℤ) → ((b : Bool) → o ≡ Some b → 0 < rise b t f → b ≡ x) → least o t f ≤ℤ cond x t f
least-le None x t f h = open-le x t f
least-le (Some b) x t f h = elim (cases_lt 0 (rise b t f)) [
  | inl up ↦ (
      let e : least (Some b) t f ≡ cond x t f = least-some b t f ∙ ap (λ c. cond c t f) (h b refl up) in
      omega (arith, ints, e))
  | inr flat ↦ omega (arith, ints, least-some b t f, flat-le b x t f flat)
]

pub least-rise : (b : Bool) (t f : ℤ) → least (Some b) t f ≡ least None t f +ℤ pos (rise b t f)
least-rise true t f = omega (arith, ints, clamps, above-is (t -ℤ f))
least-rise false t f = omega (arith, ints, clamps, above-is (f -ℤ t))

-- ---- the optimistic cost is the least
pub optimistic_at-le : (p : Program) (a : List (Option Bool)) (x : List Bool) (q : ℤ) →
    ((v : ℕ) (b : Bool) → 0 < v → v ≤ var_count p → value_of a v ≡ Some b → 0 < rise_at p q v b → b ≡ get_or x v false) →
    optimistic_at p a q ≤ℤ cost_of_at p x q
optimistic_at-le p a x q h =
    let each : (v : ℕ) → 0 < v → v ≤ var_count p → least_at p a q v ≤ℤ picked_by (is_true x) (weight_at p q) v = λ v i k.
    let le : least_at p a q v ≤ℤ cond (get_or x v false) (weight_at p q (T v)) (weight_at p q (F v)) =
    least-le (value_of a v) (get_or x v false) (weight_at p q (T v)) (weight_at p q (F v)) (λ b e up. h v b i k e up) in
    omega (arith, ints, le, picked_by-value (get_or x v false) (weight_at p q (T v)) (weight_at p q (F v))) in
    omega (arith, ints, cost_of_at-sum p x q, sum_to-le (least_at p a q) (picked_by (is_true x) (weight_at p q)) (var_count p) each)

pub optimistic_at-set_le : (p : Program) (a : List (Option Bool)) (S : Atoms) (q : ℤ) →
    ((v : ℕ) (b : Bool) → 0 < v → v ≤ var_count p → value_of a v ≡ Some b → b ≡ get_or (values p S) v false) → optimistic_at p a q ≤ℤ cost_at S p.minimize q
optimistic_at-set_le p a S q h =
    let P : ℤ → Type 0 = λ x. optimistic_at p a q ≤ℤ x in
    subst P (cost_of_at-values p S q) (optimistic_at-le p a (values p S) q (λ v b i k e up. h v b i k e))

-- where all variables have values, it is what these cost
optimistic_at-whole : (p : Program) (a : List (Option Bool)) (x : List Bool) (q : ℤ) →
    ((v : ℕ) → 0 < v → v ≤ var_count p → value_of a v ≡ Some (get_or x v false)) → optimistic_at p a q ≡ cost_of_at p x q
optimistic_at-whole p a x q h =
    let each : (v : ℕ) → 0 < v → v ≤ var_count p → least_at p a q v ≡ picked_by (is_true x) (weight_at p q) v = λ v i k.
    let t = weight_at p q (T v) in
    let f = weight_at p q (F v) in
    ap (λ o. least o t f) (h v i k) ∙ (least-some (get_or x v false) t f ∙ sym (picked_by-value (get_or x v false) t f)) in
    sum_to-same (least_at p a q) (picked_by (is_true x) (weight_at p q)) (var_count p) each ∙ sym (cost_of_at-sum p x q)

pub optimistic-whole : (p : Program) (a : List (Option Bool)) (x : List Bool) → ((v : ℕ) → 0 < v → v ≤ var_count p → value_of a v ≡ Some (get_or x v false)) → optimistic p a ≡ cost_of p x
optimistic-whole p a x h = map-same (optimistic_at p a) (cost_of_at p x) (priorities p.minimize) (λ q. optimistic_at-whole p a x q h)

-- ---- a value more
pub optimistic_at-rise : (p : Program) (a z : List (Option Bool)) (v : ℕ) (b : Bool) (q : ℤ) → 0 < v → v ≤ var_count p → value_of a v ≡ None → value_of z v ≡ Some b →
    ((u : ℕ) → u ≢ v → value_of z u ≡ value_of a u) → optimistic_at p z q ≡ optimistic_at p a q +ℤ pos (rise_at p q v b)
optimistic_at-rise p a z v b q i k none some off =
    let t = weight_at p q (T v) in
    let f = weight_at p q (F v) in
    let apart : optimistic_at p z q +ℤ least_at p a q v ≡ optimistic_at p a q +ℤ least_at p z q v =
    sum_to-at (least_at p z q) (least_at p a q) (var_count p) v i k (λ u ne. ap (λ o. least o (weight_at p q (T u)) (weight_at p q (F u))) (off u ne)) in
    let before : least_at p a q v ≡ least None t f = ap (λ o. least o t f) none in
    let after : least_at p z q v ≡ least None t f +ℤ pos (rise b t f) = ap (λ o. least o t f) some ∙ least-rise b t f in
    omega (arith, ints, apart, before, after)

pub optimistic_at-set : (p : Program) (a : List (Option Bool)) (v : ℕ) (b : Bool) (q : ℤ) → 0 < v → v ≤ var_count p → length a ≡ var_count p + 1 → value_of a v ≡ None →
    optimistic_at p (set a v (Some b)) q ≡ optimistic_at p a q +ℤ pos (rise_at p q v b)
optimistic_at-set p a v b q i k sized none =
    let within : v < length a = omega arith in
    optimistic_at-rise p a (set a v (Some b)) v b q i k none (get_or-set_same a v (Some b) None within) (λ u ne. get_or-set_other a v u (Some b) None ne)

pub optimistic_at-unset : (p : Program) (a : List (Option Bool)) (v : ℕ) (b : Bool) (q : ℤ) → 0 < v → v ≤ var_count p → length a ≡ var_count p + 1 → value_of a v ≡ Some b →
    optimistic_at p a q ≡ optimistic_at p (set a v None) q +ℤ pos (rise_at p q v b)
optimistic_at-unset p a v b q i k sized some =
    let within : v < length a = omega arith in
    optimistic_at-rise p (set a v None) a v b q i k (get_or-set_same a v None None within) some (λ u ne. sym (get_or-set_other a v u None None ne))

-- ---- bounds
abbrev absolute : ℤ × ℤ → ℤ × ℤ
absolute i = (i.0, pos (unsigned_abs i.1))

abbrev absolutes : List (ℤ × ℤ) → List (ℤ × ℤ)
absolutes items = map absolute items

absolutes-stand : (p : Program) (items : List (ℤ × ℤ)) → AreStanding p items → AreStanding p (absolutes items)
absolutes-stand p [] h = tt
absolutes-stand p (i ∷ items) h = (h.0, absolutes-stand p items h.1)

absolutes-size : (atoms : Atoms) (items : List (ℤ × ℤ)) → weight_that (λ l. true) atoms (absolutes items) ≡ pos (size_of items)
absolutes-size atoms [] = refl
absolutes-size atoms (i ∷ items) =
    let left : weight_that (λ l. true) atoms (absolutes (i ∷ items)) ≡ pos (unsigned_abs i.1) +ℤ weight_that (λ l. true) atoms (absolutes items) = refl in
    let right : size_of (i ∷ items) ≡ unsigned_abs i.1 + size_of items = sum_by-cons (λ (x : ℤ × ℤ). unsigned_abs x.1) i items in
    left ∙ (ap (λ x. pos (unsigned_abs i.1) +ℤ x) (absolutes-size atoms items) ∙ sym (ap pos right))

cond-high : (b : Bool) (w : ℤ) → cond b w (pos 0) ≤ℤ cond b (pos (unsigned_abs w)) (pos 0)
cond-high true (pos n) = omega (arith, ints)
cond-high true (negsuc n) = omega (arith, ints)
cond-high false w = omega (arith, ints)

cond-low : (b : Bool) (w : ℤ) → (pos 0) ≤ℤ (cond b w (pos 0) +ℤ cond b (pos (unsigned_abs w)) (pos 0))
cond-low true (pos n) = omega (arith, ints)
cond-low true (negsuc n) = omega (arith, ints)
cond-low false w = omega (arith, ints)

weight_in-high : (atoms : Atoms) (items : List (ℤ × ℤ)) (l : Literal) → weight_in atoms items l ≤ℤ weight_in atoms (absolutes items) l
weight_in-high atoms [] l = omega (arith, ints)
weight_in-high atoms (i ∷ items) l = omega (arith, ints, cond-high (literal_eq (literal_in atoms i.0) l) i.1, weight_in-high atoms items l)

weight_in-low : (atoms : Atoms) (items : List (ℤ × ℤ)) (l : Literal) → (pos 0) ≤ℤ (weight_in atoms items l +ℤ weight_in atoms (absolutes items) l)
weight_in-low atoms [] l = omega (arith, ints)
weight_in-low atoms (i ∷ items) l = omega (arith, ints, cond-low (literal_eq (literal_in atoms i.0) l) i.1, weight_in-low atoms items l)

-- a literal's weights are no more than all weights
weight_in-most : (atoms : Atoms) (items : List (ℤ × ℤ)) (l : Literal) → weight_in atoms (absolutes items) l ≤ℤ pos (size_of items)
weight_in-most atoms [] l = omega (arith, ints)
weight_in-most atoms (i ∷ items) l =
    let right : size_of (i ∷ items) ≡ unsigned_abs i.1 + size_of items = sum_by-cons (λ (x : ℤ × ℤ). unsigned_abs x.1) i items in
    omega (arith, ints, right, cond-most (literal_eq (literal_in atoms i.0) l) (unsigned_abs i.1), weight_in-most atoms items l)
  where
    cond-most : (b : Bool) (n : ℕ) → cond b (pos n) (pos 0) ≤ℤ pos n
    cond-most true n = omega (arith, ints)
    cond-most false n = omega (arith, ints)

abs_of : (w n : ℤ) (k : ℕ) → w ≤ℤ n → (pos 0) ≤ℤ (w +ℤ n) → n ≤ℤ pos k → unsigned_abs w ≤ k
abs_of (pos a) n k h g m = omega (arith, ints)
abs_of (negsuc a) n k h g m = omega (arith, ints)

pub weight_in-small : (atoms : Atoms) (items : List (ℤ × ℤ)) (l : Literal) → unsigned_abs (weight_in atoms items l) ≤ size_of items
weight_in-small atoms items l = abs_of (weight_in atoms items l) (weight_in atoms (absolutes items) l) (size_of items) (weight_in-high atoms items l)
    (weight_in-low atoms items l) (weight_in-most atoms items l)

least-high : (o : Option Bool) (t f m n : ℤ) → t ≤ℤ m → (pos 0) ≤ℤ (t +ℤ m) → f ≤ℤ n → (pos 0) ≤ℤ (f +ℤ n) → least o t f ≤ℤ (m +ℤ n)
least-high (Some true) t f m n a b c d = omega (arith, ints)
least-high (Some false) t f m n a b c d = omega (arith, ints)
least-high None t f m n a b c d = omega (arith, ints, clamps, a, b, c, d)

least-low : (o : Option Bool) (t f m n : ℤ) → t ≤ℤ m → (pos 0) ≤ℤ (t +ℤ m) → f ≤ℤ n → (pos 0) ≤ℤ (f +ℤ n) → (pos 0) ≤ℤ (least o t f +ℤ (m +ℤ n))
least-low (Some true) t f m n a b c d = omega (arith, ints)
least-low (Some false) t f m n a b c d = omega (arith, ints)
least-low None t f m n a b c d = omega (arith, ints, clamps, a, b, c, d)

sum_to-size : (p : Program) (items : List (ℤ × ℤ)) → AreStanding p items → sum_to (picked_by (λ l. true) (weight_in (atoms_of p) (absolutes items))) (var_count p) ≡ pos (size_of items)
sum_to-size p items h = sym (picked-sum (λ l. true) (atoms_of p) (var_count p) (absolutes items) (items-vars p (absolutes items) (absolutes-stand p items h))) ∙ absolutes-size (atoms_of p) items

-- The optimistic cost is between the sum of all weights and its negative.
pub optimistic_at-high : (p : Program) (a : List (Option Bool)) (q : ℤ) → optimistic_at p a q ≤ℤ pos (size_of (items_at p.minimize q))
optimistic_at-high p a q =
    let items = items_at p.minimize q in
    let w = weight_in (atoms_of p) items in
    let m = weight_in (atoms_of p) (absolutes items) in
    let le = sum_to-le (least_at p a q) (picked_by (λ l. true) m) (var_count p)
    (λ v i k. least-high (value_of a v) (w (T v)) (w (F v)) (m (T v)) (m (F v)) (weight_in-high (atoms_of p) items (T v))
    (weight_in-low (atoms_of p) items (T v)) (weight_in-high (atoms_of p) items (F v)) (weight_in-low (atoms_of p) items (F v))) in
    let P : ℤ → Type 0 = λ x. optimistic_at p a q ≤ℤ x in
    subst P (sum_to-size p items (items-stand p q)) le

sum_to-none : (n : ℕ) → sum_to (λ v. pos 0) n ≡ pos 0
sum_to-none n = sum_to-zero (λ v. pos 0) n (λ v. refl)

pub optimistic_at-low : (p : Program) (a : List (Option Bool)) (q : ℤ) → (pos 0) ≤ℤ (optimistic_at p a q +ℤ pos (size_of (items_at p.minimize q)))
optimistic_at-low p a q =
    let items = items_at p.minimize q in
    let w = weight_in (atoms_of p) items in
    let m = weight_in (atoms_of p) (absolutes items) in
    let both : ℕ → ℤ = λ v. least_at p a q v +ℤ picked_by (λ l. true) m v in
    let le : sum_to (λ v. pos 0) (var_count p) ≤ℤ sum_to both (var_count p) =
    sum_to-le (λ v. pos 0) both (var_count p) (λ v i k. least-low (value_of a v) (w (T v)) (w (F v)) (m (T v)) (m (F v))
    (weight_in-high (atoms_of p) items (T v)) (weight_in-low (atoms_of p) items (T v)) (weight_in-high (atoms_of p) items (F v))
    (weight_in-low (atoms_of p) items (F v))) in
    let split : sum_to both (var_count p) ≡ optimistic_at p a q +ℤ sum_to (picked_by (λ l. true) m) (var_count p) = sum_to-add (least_at p a q) (picked_by (λ l. true) m) (var_count p) in
    omega (arith, ints, le, sum_to-none (var_count p), split, sum_to-size p items (items-stand p q))

-- what a value adds, by the sum of all weights
pub rise_at-small : (p : Program) (q : ℤ) (v : ℕ) (b : Bool) → rise_at p q v b ≤ size_of (items_at p.minimize q) + size_of (items_at p.minimize q)
rise_at-small p q v b = by_parts b (weight_at p q (T v)) (weight_at p q (F v)) (weight_in-small (atoms_of p) (items_at p.minimize q) (T v)) (weight_in-small (atoms_of p) (items_at p.minimize q) (F v))
  where
    by_parts : (c : Bool) (t f : ℤ) → unsigned_abs t ≤ size_of (items_at p.minimize q) → unsigned_abs f ≤ size_of (items_at p.minimize q) →
        rise c t f ≤ size_of (items_at p.minimize q) + size_of (items_at p.minimize q)
    by_parts true (pos x) (pos y) g h = omega (arith, ints, clamps, above-is (pos x -ℤ pos y))
    by_parts true (pos x) (negsuc y) g h = omega (arith, ints, clamps, above-is (pos x -ℤ negsuc y))
    by_parts true (negsuc x) (pos y) g h = omega (arith, ints, clamps, above-is (negsuc x -ℤ pos y))
    by_parts true (negsuc x) (negsuc y) g h = omega (arith, ints, clamps, above-is (negsuc x -ℤ negsuc y))
    by_parts false (pos x) (pos y) g h = omega (arith, ints, clamps, above-is (pos y -ℤ pos x))
    by_parts false (pos x) (negsuc y) g h = omega (arith, ints, clamps, above-is (negsuc y -ℤ pos x))
    by_parts false (negsuc x) (pos y) g h = omega (arith, ints, clamps, above-is (pos y -ℤ negsuc x))
    by_parts false (negsuc x) (negsuc y) g h = omega (arith, ints, clamps, above-is (negsuc y -ℤ negsuc x))
