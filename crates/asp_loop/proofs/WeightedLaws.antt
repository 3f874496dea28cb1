-- The weights of bodies in normal form aren't negative.
use Rattle.std.proofs.Common.{◌≡◌, ℕ, ◌<◌, Bool, true, false, not, cond, List, [], ◌∷◌, ◌++◌, map, length, refl, sym, ap, ◌∙◌, subst, arith}
use Rattle.std.specs.Prelude.{ℤ, pos, ◌+ℤ◌, ◌≤ℤ◌, int_lt, int_le, fold, All}
use Rattle.std.specs.List.{list_any, list_all, AllByRecursion}
use Rattle.std.specs.Ordering.{int_eq}
use Rattle.std.proofs.lemmas.Bool.{false≢true, and_parts}
use Rattle.std.proofs.lemmas.Int.{ints}
use Rattle.std.proofs.lemmas.List.Elements.{All-head, All-tail, All-from_recursion}
use Rattle.asp_model.specs.declared.program.Body.{Body}
use Rattle.asp_model.specs.declared.program.Body.TheVariants as body
use Rattle.asp_model.specs.declared.program.Rule.{Rule}
use Rattle.asp_model.specs.declared.program.Program.{Program}
use Rattle.asp_model.specs.Models.{rules_in_force, atoms_of}
use Rattle.asp_model.specs.Sound.{IsSound, HasBody, is_literal, is_weighted, is_sound_body}
use Rattle.asp_model.proofs.SoundLaws.{rules_in_force-bodies}
use Rattle.asp_vars.specs.Numbering.{normal, body_eq, bodies_of, with_weight, nth_body}
use Rattle.asp_vars.specs.Tabled.{form_weights, Stands}
use Rattle.asp_vars.proofs.PlaceLaws.{at_each}
use Rattle.asp_vars.proofs.StandingLaws.{Among, bodies_of-stand}
use Rattle.asp_vars.proofs.SupportLaws.{some}

-- no weight is negative
abbrev pub AreItems : List (ℤ × ℤ) → Type 0
AreItems items = AllByRecursion (λ (i : ℤ × ℤ). pos 0 ≤ℤ i.1) items

abbrev pub form_items : Body → List (ℤ × ℤ)
form_items (body.All literals) = []
form_items (body.AtLeast bound items) = items

with_weight_items : (i : ℤ × ℤ) (js : List (ℤ × ℤ)) → pos 0 ≤ℤ i.1 → AreItems js → AreItems (with_weight i js)
with_weight_items i [] h a = (h, tt)
with_weight_items i (j ∷ js) h a = cases (int_lt i.0 j.0) (int_lt j.0 i.0) (with_weight_items i js h a.1)
  where
    cases : (b c : Bool) → AreItems (with_weight i js) → AreItems (cond b (i ∷ j ∷ js) (cond c (j ∷ with_weight i js) ((j.0, j.1 +ℤ i.1) ∷ js)))
    cases true c rest = (h, (a.0, a.1))
    cases false true rest = (a.0, rest)
    cases false false rest = (let b = a.0 in omega (arith, ints, b, h), a.1)

fold_items : (js is : List (ℤ × ℤ)) → AreItems js → AreItems is → AreItems (fold (λ js i. cond (int_eq i.1 (pos 0)) js (with_weight i js)) js is)
fold_items js [] a b = a
fold_items js (i ∷ is) a b = fold_items (cond (int_eq i.1 (pos 0)) js (with_weight i js)) is (cases (int_eq i.1 (pos 0))) b.1
  where
    cases : (t : Bool) → AreItems (cond t js (with_weight i js))
    cases true = a
    cases false = with_weight_items i js b.0 a

sound_items : (items : List (ℤ × ℤ)) → list_all is_weighted items ≡ true → AreItems items
sound_items [] e = tt
sound_items (i ∷ items) e =
    let parts = and_parts (is_weighted i) (list_all is_weighted items) e in
    let weight = and_parts (is_literal i.0) (int_le (pos 0) i.1) parts.0 in
    (positive i.1 weight.1, sound_items items parts.1)
  where
    positive : (w : ℤ) → int_le (pos 0) w ≡ true → pos 0 ≤ℤ w
    positive w e = grind (arith, ints)

normal_items : (b : Body) → is_sound_body b ≡ true → AreItems (form_items (normal b))
normal_items (body.All ls) e = tt
normal_items (body.AtLeast bound items) e = fold_items [] items tt (sound_items items e)

pub by_recursion : {X : Type 0} (P : X → Type 0) (xs : List X) → All P xs → AllByRecursion P xs
by_recursion P [] h = tt
by_recursion P (x ∷ xs) h = (All-head P x xs h, by_recursion P xs (All-tail P x xs h))

rules_weighted : (p : Program) → IsSound p → AllByRecursion (λ (r : Rule). is_sound_body r.body ≡ true) (rules_in_force p)
rules_weighted p sound = by_recursion HasBody (rules_in_force p) (rules_in_force-bodies p sound)

-- a rule in force
pub form_weighted : (p : Program) (r : Rule) → IsSound p → Among (rules_in_force p) r → AreItems (form_items (normal r.body))
form_weighted p r sound m = normal_items r.body (cases (is_sound_body r.body) refl)
  where
    cases : (b : Bool) → b ≡ is_sound_body r.body → is_sound_body r.body ≡ true
    cases true e = sym e
    cases false e =
        let found = some (λ (s : Rule). is_sound_body s.body ≡ true) (λ s. not (is_sound_body s.body)) (rules_in_force p) (rules_weighted p sound)
        (m (λ s. not (is_sound_body s.body)) (ap not (sym e))) in
        absurd (false≢true (sym (ap not found.1) ∙ found.2))

each-distinct : (P : Body → Type 0) (bs cs : List Body) → AllByRecursion P bs → AllByRecursion P cs → AllByRecursion P (fold (λ bs b. cond (list_any (body_eq b) bs) bs (bs ++ b ∷ [])) bs cs)
each-distinct P bs [] a b = a
each-distinct P bs (c ∷ cs) a b = each-distinct P (cond (list_any (body_eq c) bs) bs (bs ++ c ∷ [])) cs (cases (list_any (body_eq c) bs)) b.1
  where
    push : (xs : List Body) → AllByRecursion P xs → AllByRecursion P (xs ++ c ∷ [])
    push [] h = (b.0, tt)
    push (x ∷ xs) h = (h.0, push xs h.1)

    cases : (t : Bool) → AllByRecursion P (cond t bs (bs ++ c ∷ []))
    cases true = a
    cases false = push bs a

-- a body by its number
pub nth_weighted : (p : Program) (j : ℕ) → IsSound p → j < length (bodies_of p) → AreItems (form_items (nth_body p j))
nth_weighted p j sound lt =
    at_each (λ b. AreItems (form_items b)) (bodies_of p) j (body.All [])
    (each-distinct (λ b. AreItems (form_items b)) [] (map (λ r. normal r.body) (rules_in_force p)) tt
    (mapped (rules_in_force p) (rules_weighted p sound))) lt
  where
    mapped : (rs : List Rule) → AllByRecursion (λ (r : Rule). is_sound_body r.body ≡ true) rs → AllByRecursion (λ b. AreItems (form_items b)) (map (λ r. normal r.body) rs)
    mapped [] h = tt
    mapped (r ∷ rs) h = (normal_items r.body h.0, mapped rs h.1)

weights_of : (items : List (ℤ × ℤ)) → AreItems items → AllByRecursion (λ w. pos 0 ≤ℤ w) (map (λ i. i.1) items)
weights_of [] h = tt
weights_of (i ∷ items) h = (h.0, weights_of items h.1)

pub weights_positive : (b : Body) → AreItems (form_items b) → AllByRecursion (λ w. pos 0 ≤ℤ w) (form_weights b)
weights_positive (body.All ls) h = tt
weights_positive (body.AtLeast bound items) h = weights_of items h

pub body_weights : (p : Program) (j : ℕ) (weights : List ℤ) → IsSound p → j < length (bodies_of p) → weights ≡ form_weights (nth_body p j) → All (λ w. pos 0 ≤ℤ w) weights
body_weights p j weights sound lt is =
    subst (λ (ws : List ℤ). All (λ w. pos 0 ≤ℤ w) ws) (sym is) (All-from_recursion (λ w. pos 0 ≤ℤ w) (form_weights (nth_body p j)) (weights_positive (nth_body p j) (nth_weighted p j sound lt)))

-- the atoms of a body stand
pub body_stands : (p : Program) (j : ℕ) → j < length (bodies_of p) → Stands (atoms_of p) (nth_body p j)
body_stands p j lt = at_each (Stands (atoms_of p)) (bodies_of p) j (body.All []) (bodies_of-stand p) lt
