-- What is excused when literals come to hold, and what isn't any more when they go.
use Rattle.std.proofs.Common.{◌≡◌, ◌≢◌, ℕ, zero, suc, ◌-◌, ◌<◌, Bool, true, false, not, cond, ◌||◌, eqb, ltb, List, [], ◌∷◌, map, filter, length, set, get_or, Option, Some, None, refl, sym, ap, ◌∙◌, subst, arith, ◌⊎◌, inl, inr, get_or-set_other, get_or-set_same}
use Rattle.std.specs.Prelude.{All, flat_map, ℤ, pos, ◌≤ℤ◌}
use Rattle.std.specs.List.{list_any, list_all, AllByRecursion}
use Rattle.std.specs.Bool.{beq}
use Rattle.std.proofs.lemmas.Bool.{false≢true, and_parts, and_from, eqb-true, eq-eqb}
use Rattle.std.proofs.lemmas.Int.{ints}
use Rattle.std.proofs.lemmas.List.Elements.{All-from_recursion}
use Rattle.asp_table.specs.declared.columns.Occurrence.{Occurrence}
use Rattle.asp_model.specs.declared.program.Body.{Body}
use Rattle.asp_model.specs.declared.program.Body.TheVariants as body
use Rattle.asp_model.specs.declared.program.Rule.{Rule}
use Rattle.asp_model.specs.declared.program.Program.{Program}
use Rattle.asp_model.specs.Sets.{Atoms, has}
use Rattle.asp_model.specs.Models.{rules_in_force, head_atoms}
use Rattle.asp_model.proofs.MemberLaws.{list_any-flat_map}
use Rattle.asp_vars.specs.Literals.{Literal, complement, literal_eq, has_literal, value_of, agrees, holds_in}
use Rattle.asp_vars.specs.Numbering.{normal, body_eq, bodies_of, place_of, var_of_atom, literal_of_form, literal_of, nth_atom}
use Rattle.asp_vars.specs.Tabled.{heads_of, places_in, IsAtomVar}
use Rattle.asp_vars.specs.Unfounded.{is_false, is_inside, outside_weight, needs, is_excused, is_unfounded}
use Rattle.asp_vars.proofs.LiteralLaws.{beq_same, same_literal}
use Rattle.asp_vars.proofs.NumberingLaws.{body_eq-itself}
use Rattle.asp_vars.proofs.PlaceLaws.{place_of-within}
use Rattle.asp_vars.proofs.StandingLaws.{Among, each_among, bodies_of-themselves}
use Rattle.asp_vars.proofs.SupportLaws.{either, or_left, or_right, map_in}
use Rattle.asp_scc.specs.Components.{Parts, component_of, AreComponents}
use Rattle.asp_loop.proofs.LoopLaws.{rule_excused}
use Rattle.asp_loop.proofs.WeighLaws.{literal_eq-itself}
use Rattle.asp_loop.proofs.WeightedLaws.{AreItems, form_items}
use Rattle.asp_source.specs.Loops.{IsUnfoundedLoop}
use Rattle.asp_source.specs.Marks.{is_marked}
use Rattle.asp_source.proofs.LooseLaws.{lighter}
use Rattle.asp_source.proofs.LookLaws.{none_in_trivial, var_at, atom_stands}

-- ---- marks that stay and come
pub set_marked : (marks : List Bool) (w k : ℕ) → is_marked marks k ≡ true → is_marked (set marks w true) k ≡ true
set_marked [] w k e = e
set_marked (m ∷ marks) zero zero e = refl
set_marked (m ∷ marks) zero (suc k) e = e
set_marked (m ∷ marks) (suc w) zero e = e
set_marked (m ∷ marks) (suc w) (suc k) e = set_marked marks w k e

-- a rule's head stands among those of its body
pub head_listed : (p : Program) (r : Rule) (a : ℕ) → Among (rules_in_force p) r → has (head_atoms r.head) a ≡ true → has (heads_of p (normal r.body)) (var_of_atom p a) ≡ true
head_listed p r a m head =
    let f : Rule → List ℕ = λ s. cond (body_eq (normal s.body) (normal r.body)) (head_atoms s.head) [] in
    map_in (var_of_atom p) (flat_map f (rules_in_force p)) a
    (list_any-flat_map (λ y. eqb y a) f (rules_in_force p)
    ∙ m (λ s. has (f s) a) (ap (λ t. has (cond t (head_atoms r.head) []) a) (body_eq-itself (normal r.body)) ∙ head))

-- ---- where less is false, less is excused
open_more : (p : Program) (x y : List (Option Bool)) (U : Atoms) (items : List (ℤ × ℤ)) → AreItems items →
    AllByRecursion (λ (i : ℤ × ℤ). is_false p y i.0 ≡ true → is_false p x i.0 ≡ true) items → outside_weight p x U items ≤ℤ outside_weight p y U items
open_more p x y U [] h less = omega (arith, ints)
open_more p x y U (i ∷ items) h less =
    let a = one (is_false p x i.0) (is_false p y i.0) (is_inside U i.0) less.0 in
    let b = open_more p x y U items h.1 less.1 in
    omega (arith, ints, a, b)
  where
    one : (f g u : Bool) → (g ≡ true → f ≡ true) → cond (f || u) (pos 0) i.1 ≤ℤ cond (g || u) (pos 0) i.1
    one true true u s = omega (arith, ints)
    one true false true s = omega (arith, ints)
    one true false false s = h.0
    one false true u s = absurd (false≢true (s refl))
    one false false true s = omega (arith, ints)
    one false false false s = omega (arith, ints)

pub excused_back : (p : Program) (x y : List (Option Bool)) (U : Atoms) (b : Body) → AreItems (form_items b) →
    (holds_in y (complement (literal_of_form p b)) ≡ true → holds_in x (complement (literal_of_form p b)) ≡ true) →
    AllByRecursion (λ (i : ℤ × ℤ). is_false p y i.0 ≡ true → is_false p x i.0 ≡ true) (form_items b) → is_excused p y U b ≡ true →
    is_excused p x U b ≡ true
excused_back p x y U b weighted f g e = elim (either (holds_in y (complement (literal_of_form p b))) (needs p y U b) e) [
  | inl h ↦ or_left (holds_in x (complement (literal_of_form p b))) (needs p x U b) (f h)
  | inr h ↦ or_right (holds_in x (complement (literal_of_form p b))) (needs p x U b) (needs_back b weighted g h)
]
  where
    needs_back : (d : Body) → AreItems (form_items d) → AllByRecursion (λ (i : ℤ × ℤ). is_false p y i.0 ≡ true → is_false p x i.0 ≡ true) (form_items d) → needs p y U d ≡ true → needs p x U d ≡ true
    needs_back (body.All ls) w g h = h
    needs_back (body.AtLeast k items) w g h = lighter k (outside_weight p x U items) (outside_weight p y U items) (open_more p x y U items w g) h

nonempty_member : (U : Atoms) (n : ℕ) → ltb 0 (length U) ≡ true → (a : ℕ) × (has U a ≡ true)
nonempty_member [] n e = absurd (false≢true e)
nonempty_member (a ∷ U) n e = (a, or_left (eqb a a) (has U a) (eq-eqb a a refl))

-- an unfounded set has an atom
pub some_member : (p : Program) (x : List (Option Bool)) (U : Atoms) → is_unfounded p x U ≡ true → (a : ℕ) × (has U a ≡ true)
some_member p x U e = nonempty_member U 0 (and_parts (ltb 0 (length U)) (list_all (rule_excused p x U) (rules_in_force p)) e).0

-- ---- values told
pub told_other : (x : List (Option Bool)) (v : ℕ) (t : Option Bool) (m : Literal) → m.var ≢ v → holds_in (set x v t) m ≡ holds_in x m
told_other x v t m ne = ap (λ o. agrees o m) (get_or-set_other x v m.var t None ne)

same_as : (m l : Literal) → m.var ≡ l.var → m.truth ≡ l.truth → m ≡ l
same_as m l e f = same_literal m l (and_from (eqb m.var l.var) (beq m.truth l.truth) (eq-eqb m.var l.var e) (subst (λ (t : Bool). beq m.truth t ≡ true) f (itself m.truth)))
  where
    itself : (b : Bool) → beq b b ≡ true
    itself true = refl
    itself false = refl

-- a literal that comes to hold is the one told
pub newly : (x : List (Option Bool)) (l m : Literal) → l.var < length x → holds_in (set x l.var (Some l.truth)) m ≡ true → (holds_in x m ≡ true) ⊎ (m ≡ l)
newly x l m lt e = cases (eqb m.var l.var) refl
  where
    cases : (b : Bool) → b ≡ eqb m.var l.var → (holds_in x m ≡ true) ⊎ (m ≡ l)
    cases false q = inl (sym (told_other x l.var (Some l.truth) m (λ s. false≢true (q ∙ eq-eqb m.var l.var s))) ∙ e)
    cases true q =
        let s : m.var ≡ l.var = eqb-true m.var l.var (sym q) in
        let here : get_or (set x l.var (Some l.truth)) m.var None ≡ Some l.truth = ap (λ v. get_or (set x l.var (Some l.truth)) v None) s ∙ get_or-set_same x l.var (Some l.truth) None lt in
        inr (same_as m l s (sym (beq_same l.truth m.truth (sym (ap (λ o. agrees o m) here) ∙ e))))

-- what holds goes on to hold where another variable is told
pub kept_on : (x : List (Option Bool)) (l m : Literal) → value_of x l.var ≡ None → holds_in x m ≡ true → holds_in (set x l.var (Some l.truth)) m ≡ true
kept_on x l m none e = cases (eqb m.var l.var) refl
  where
    cases : (b : Bool) → b ≡ eqb m.var l.var → holds_in (set x l.var (Some l.truth)) m ≡ true
    cases false q = told_other x l.var (Some l.truth) m (λ s. false≢true (q ∙ eq-eqb m.var l.var s)) ∙ e
    cases true q = absurd (false≢true (sym (ap (λ v. agrees (get_or x v None) m) (eqb-true m.var l.var (sym q)) ∙ ap (λ o. agrees o m) none) ∙ e))

-- what holds after one is taken back held before
pub unset_less : (x : List (Option Bool)) (v : ℕ) (m : Literal) → holds_in (set x v None) m ≡ true → holds_in x m ≡ true
unset_less x v m e = along x v m.var e
  where
    along : (x : List (Option Bool)) (v w : ℕ) → agrees (get_or (set x v None) w None) m ≡ true → agrees (get_or x w None) m ≡ true
    along [] v w e = e
    along (o ∷ x) zero zero e = absurd (false≢true e)
    along (o ∷ x) zero (suc w) e = e
    along (o ∷ x) (suc v) zero e = e
    along (o ∷ x) (suc v) (suc w) e = along x v w e

-- a component of an unfounded set isn't trivial
pub cyclic_of : (p : Program) (c : Parts) (x : List (Option Bool)) (U : Atoms) (a : ℕ) → AreComponents p c → IsUnfoundedLoop p x U → has U a ≡ true →
    get_or c.trivial (component_of p c a) false ≡ false
cyclic_of p c x U a are loop member = cases (get_or c.trivial (component_of p c a) false) refl
  where
    cases : (b : Bool) → b ≡ get_or c.trivial (component_of p c a) false → get_or c.trivial (component_of p c a) false ≡ false
    cases false q = sym q
    cases true q = absurd (none_in_trivial p c x (component_of p c a) are (sym q) U loop a member refl)

pub each_listed : (p : Program) (items : List (ℤ × ℤ)) → AllByRecursion (λ (i : ℤ × ℤ). has_literal (map (λ j. literal_of p j.0) items) (literal_of p i.0) ≡ true) items
each_listed p items = each items (each_among items)
  where
    mapped : (q : Literal → Bool) (js : List (ℤ × ℤ)) → list_any q (map (λ j. literal_of p j.0) js) ≡ list_any (λ (j : ℤ × ℤ). q (literal_of p j.0)) js
    mapped q [] = refl
    mapped q (j ∷ js) = ap (λ t. q (literal_of p j.0) || t) (mapped q js)

    each : (is : List (ℤ × ℤ)) → AllByRecursion (Among items) is → AllByRecursion (λ (i : ℤ × ℤ). has_literal (map (λ j. literal_of p j.0) items) (literal_of p i.0) ≡ true) is
    each [] h = tt
    each (i ∷ is) h = (mapped (λ k. literal_eq k (literal_of p i.0)) items ∙ h.0 (λ (j : ℤ × ℤ). literal_eq (literal_of p j.0) (literal_of p i.0)) (literal_eq-itself (literal_of p i.0)), each is h.1)

pub twice : (l : Literal) → complement (complement l) ≡ l
twice l = same_as (complement (complement l)) l refl (turned l.truth)
  where
    turned : (b : Bool) → not (not b) ≡ b
    turned true = refl
    turned false = refl

-- ---- what the calls ask for
pub var_component : (p : Program) (c : Parts) (v : ℕ) → AreComponents p c → IsAtomVar p v → (v < length c.numbers) ×
    (get_or c.numbers v 0 < length c.trivial) × (get_or c.numbers v 0 < length c.members)
var_component p c v are is =
    let small = is.1 in
    let size = are.numbered in
    let counted = are.counted in
    let within : get_or c.numbers v 0 < length c.members = subst (λ (w : ℕ). get_or c.numbers w 0 < length c.members) (var_at p v is) (are.within (nth_atom p (v - 1)) (atom_stands p v is)) in
    (omega (arith, small, size), omega (arith, within, counted), within)

places_within : (p : Program) (row : Body → List Literal) (m : Literal) (bs : List Body) →
    AllByRecursion (λ b. list_any (body_eq b) (bodies_of p) ≡ true) bs →
    AllByRecursion (λ (o : Occurrence). o.body < length (bodies_of p))
    (map (λ (d : Body). record { body = place_of (body_eq d) (bodies_of p); place = place_of (λ k. literal_eq k m) (row d) })
    (filter (λ d. has_literal (row d) m) bs))
places_within p row m [] h = tt
places_within p row m (d ∷ bs) h = cases (has_literal (row d) m) (places_within p row m bs h.1)
  where
    cases : (t : Bool) → AllByRecursion (λ (o : Occurrence). o.body < length (bodies_of p))
        (map (λ (d : Body). record { body = place_of (body_eq d) (bodies_of p); place = place_of (λ k. literal_eq k m) (row d) })
        (filter (λ d. has_literal (row d) m) bs)) →
        AllByRecursion (λ (o : Occurrence). o.body < length (bodies_of p))
        (map (λ (d : Body). record { body = place_of (body_eq d) (bodies_of p); place = place_of (λ k. literal_eq k m) (row d) })
        (cond t (d ∷ filter (λ d. has_literal (row d) m) bs) (filter (λ d. has_literal (row d) m) bs)))
    cases true rest = (place_of-within (body_eq d) (bodies_of p) h.0, rest)
    cases false rest = rest

pub places_small : (p : Program) (row : Body → List Literal) (m : Literal) → All (λ (o : Occurrence). o.body < length (bodies_of p)) (places_in p row m)
places_small p row m = All-from_recursion (λ (o : Occurrence). o.body < length (bodies_of p)) (places_in p row m) (places_within p row m (bodies_of p) (bodies_of-themselves p))
