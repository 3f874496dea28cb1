-- The weights of bodies in normal form are positive.
use Rattle.std.proofs.Common.{◌≡◌, ℕ, ◌<◌, Bool, true, false, cond, List, [], ◌∷◌, ◌++◌, map, fold, ℤ, pos, negsuc, ◌+ℤ◌, ◌≤ℤ◌, int_lt, refl, sym, arith}
use Rattle.std.specs.List.{AllByRecursion, list_any}
use Rattle.std.specs.Ordering.{int_eq}
use Rattle.std.specs.Int.RustNames.{unsigned_abs}
use Rattle.std.proofs.lemmas.Int.{ints}
use Rattle.asp_model.specs.declared.program.Body.{Body}
use Rattle.asp_model.specs.declared.program.Body.TheVariants as body
use Rattle.asp_model.specs.declared.program.Rule.{Rule}
use Rattle.asp_model.specs.declared.program.Program.{Program}
use Rattle.asp_model.specs.Models.{rules_in_force}
use Rattle.asp_model.specs.Sound.{IsSound}
use Rattle.asp_model.proofs.MemberLaws.{each-append}
use Rattle.asp_model.proofs.ReductLaws.{HasWeights, HaveWeights, AreNonNegative, rules_in_force-weights}
use Rattle.asp_vars.specs.Numbering.{normal, body_eq, bodies_of, with_weight}

-- a weight, as the code has it
abbrev pub IsWeight : ℤ → Type 0
IsWeight z = (0 < unsigned_abs z) × (z ≡ pos (unsigned_abs z))

abbrev pub AreWeights : List (ℤ × ℤ) → Type 0
AreWeights items = AllByRecursion (λ i. IsWeight i.1) items

abbrev pub HasPositive : Body → Type 0
HasPositive (body.All literals) = Unit {0}
HasPositive (body.AtLeast bound items) = AreWeights items

is_weight : (z : ℤ) → pos 0 ≤ℤ z → int_eq z (pos 0) ≡ false → IsWeight z
is_weight (pos n) h e = (positive n e, refl)
  where
    positive : (n : ℕ) → int_eq (pos n) (pos 0) ≡ false → 0 < n
    positive n e = grind (arith, ints)
is_weight (negsuc n) h e = absurd (omega (arith, ints, h))

weight_sum : (a b : ℤ) → IsWeight a → IsWeight b → IsWeight (a +ℤ b)
weight_sum (pos a) (pos b) h g = (omega (arith, h.0, g.0), refl)
weight_sum (pos a) (negsuc b) h g = absurd (omega (arith, ints, g.1))
weight_sum (negsuc a) b h g = absurd (omega (arith, ints, h.1))

weights-with : (i : ℤ × ℤ) (js : List (ℤ × ℤ)) → IsWeight i.1 → AreWeights js → AreWeights (with_weight i js)
weights-with i [] h a = (h, tt)
weights-with i (j ∷ js) h a = cases (int_lt i.0 j.0) (int_lt j.0 i.0) (weights-with i js h a.1)
  where
    cases : (b c : Bool) → AreWeights (with_weight i js) → AreWeights (cond b (i ∷ j ∷ js) (cond c (j ∷ with_weight i js) ((j.0, j.1 +ℤ i.1) ∷ js)))
    cases true c rest = (h, (a.0, a.1))
    cases false true rest = (a.0, rest)
    cases false false rest = (weight_sum j.1 i.1 a.0 h, a.1)

weights-fold : (js is : List (ℤ × ℤ)) → AreWeights js → AreNonNegative is → AreWeights (fold (λ js i. cond (int_eq i.1 (pos 0)) js (with_weight i js)) js is)
weights-fold js [] a b = a
weights-fold js (i ∷ is) a b = weights-fold (cond (int_eq i.1 (pos 0)) js (with_weight i js)) is (cases (int_eq i.1 (pos 0)) refl) b.1
  where
    cases : (t : Bool) → t ≡ int_eq i.1 (pos 0) → AreWeights (cond t js (with_weight i js))
    cases true e = a
    cases false e = weights-with i js (is_weight i.1 b.0 (sym e)) a

positive-normal : (b : Body) → HasWeights b → HasPositive (normal b)
positive-normal (body.All literals) h = tt
positive-normal (body.AtLeast bound items) h = weights-fold [] items tt h

each-distinct : (P : Body → Type 0) (bs cs : List Body) → AllByRecursion P bs → AllByRecursion P cs → AllByRecursion P (fold (λ bs b. cond (list_any (body_eq b) bs) bs (bs ++ b ∷ [])) bs cs)
each-distinct P bs [] a b = a
each-distinct P bs (c ∷ cs) a b = each-distinct P (cond (list_any (body_eq c) bs) bs (bs ++ c ∷ [])) cs (cases (list_any (body_eq c) bs)) b.1
  where
    cases : (t : Bool) → AllByRecursion P (cond t bs (bs ++ c ∷ []))
    cases true = a
    cases false = each-append P bs (c ∷ []) a (b.0, tt)

pub bodies_positive : (p : Program) → IsSound p → AllByRecursion HasPositive (bodies_of p)
bodies_positive p sound =
    each-distinct HasPositive [] (map (λ r. normal r.body) (rules_in_force p)) tt (mapped (rules_in_force p) (rules_in_force-weights p sound))
  where
    mapped : (rs : List Rule) → HaveWeights rs → AllByRecursion HasPositive (map (λ r. normal r.body) rs)
    mapped [] h = tt
    mapped (r ∷ rs) h = (positive-normal r.body h.0, mapped rs h.1)
