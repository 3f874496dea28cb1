-- Candidates for an unfounded set, and what is left of them.
use Rattle.std.proofs.Common.{◌≡◌, ℕ, zero, suc, ◌-◌, ◌<◌, Bool, true, false, not, cond, ◌&&◌, ◌||◌, eqb, ltb, List, [], ◌∷◌, length, set, count_by, Option, refl, sym, ap, ◌∙◌, arith, inl, inr}
use Rattle.std.specs.Prelude.{ℤ, pos, ◌≤ℤ◌, int_lt}
use Rattle.std.specs.List.{list_any, list_all, AllByRecursion}
use Rattle.std.proofs.lemmas.Bool.{false≢true, and_parts, and_from}
use Rattle.std.proofs.lemmas.Int.{ints}
use Rattle.asp_model.specs.declared.program.Body.{Body}
use Rattle.asp_model.specs.declared.program.Body.TheVariants as body
use Rattle.asp_model.specs.declared.program.Rule.{Rule}
use Rattle.asp_model.specs.declared.program.Program.{Program}
use Rattle.asp_model.specs.Sets.{Atoms, has, IsSubset}
use Rattle.asp_model.specs.Holding.{atom_of, is_positive}
use Rattle.asp_model.specs.Models.{rules_in_force, atoms_of, head_atoms}
use Rattle.asp_model.specs.Sound.{IsSound}
use Rattle.asp_vars.specs.Literals.{complement, holds_in}
use Rattle.asp_vars.specs.Numbering.{normal, body_eq, place_of, var_of_atom, literal_of_form, nth_atom}
use Rattle.asp_vars.specs.Completion.{supports}
use Rattle.asp_vars.specs.Unfounded.{is_false, is_inside, outside_weight, needs, is_excused, is_unfounded}
use Rattle.asp_vars.proofs.NumberingLaws.{same_body}
use Rattle.asp_vars.proofs.StandingLaws.{Among, each_among}
use Rattle.asp_vars.proofs.SupportLaws.{some, either, or_left, or_right, at_place, in_forms, form_at-number}
use Rattle.asp_loop.specs.Parts.{form_of}
use Rattle.asp_loop.proofs.EntailedLaws.{any_of}
use Rattle.asp_loop.proofs.LoopLaws.{members, rule_excused}
use Rattle.asp_loop.proofs.WeightedLaws.{AreItems, form_items, form_weighted}
use Rattle.asp_source.specs.Marks.{is_marked, is_founded}
use Rattle.asp_source.proofs.QueueLaws.{fewer, marked_within}

-- ---- a greater set excuses more
inside_more : (U V : Atoms) (l : ℤ) → IsSubset U V → is_inside U l ≡ true → is_inside V l ≡ true
inside_more U V l sub e =
    let parts = and_parts (is_positive l) (has U (atom_of l)) e in
    and_from (is_positive l) (has V (atom_of l)) parts.0 (sub (atom_of l) parts.1)

any_more : (U V : Atoms) (ls : List ℤ) → IsSubset U V → list_any (is_inside U) ls ≡ true → list_any (is_inside V) ls ≡ true
any_more U V [] sub e = absurd (false≢true e)
any_more U V (l ∷ ls) sub e = elim (either (is_inside U l) (list_any (is_inside U) ls) e) [
  | inl h ↦ or_left (is_inside V l) (list_any (is_inside V) ls) (inside_more U V l sub h)
  | inr h ↦ or_right (is_inside V l) (list_any (is_inside V) ls) (any_more U V ls sub h)
]

outside_fewer : (p : Program) (x : List (Option Bool)) (U V : Atoms) (items : List (ℤ × ℤ)) → IsSubset U V → AreItems items → outside_weight p x V items ≤ℤ outside_weight p x U items
outside_fewer p x U V [] sub h = omega (arith, ints)
outside_fewer p x U V (i ∷ items) sub h =
    let a = one (is_false p x i.0) (is_inside U i.0) (is_inside V i.0) (inside_more U V i.0 sub) in
    let b = outside_fewer p x U V items sub h.1 in
    omega (arith, ints, a, b)
  where
    one : (f u v : Bool) → (u ≡ true → v ≡ true) → cond (f || v) (pos 0) i.1 ≤ℤ cond (f || u) (pos 0) i.1
    one true u v s = omega (arith, ints)
    one false true true s = omega (arith, ints)
    one false true false s = absurd (false≢true (s refl))
    one false false true s = h.0
    one false false false s = omega (arith, ints)

pub lighter : (c v w : ℤ) → v ≤ℤ w → int_lt w c ≡ true → int_lt v c ≡ true
lighter c v w h e = grind (arith, ints)

needs_more : (p : Program) (x : List (Option Bool)) (U V : Atoms) (b : Body) → IsSubset U V → AreItems (form_items b) → needs p x U b ≡ true → needs p x V b ≡ true
needs_more p x U V (body.All ls) sub weighted e = any_more U V ls sub e
needs_more p x U V (body.AtLeast c items) sub weighted e =
    lighter c (outside_weight p x V items) (outside_weight p x U items) (outside_fewer p x U V items sub weighted) e

pub excused_more : (p : Program) (x : List (Option Bool)) (U V : Atoms) (b : Body) → IsSubset U V → AreItems (form_items b) → is_excused p x U b ≡ true → is_excused p x V b ≡ true
excused_more p x U V b sub weighted e = elim (either (holds_in x (complement (literal_of_form p b))) (needs p x U b) e) [
  | inl h ↦ or_left (holds_in x (complement (literal_of_form p b))) (needs p x V b) h
  | inr h ↦ or_right (holds_in x (complement (literal_of_form p b))) (needs p x V b) (needs_more p x U V b sub weighted h)
]

-- ---- rules for an unfounded set
each_passes : {X : Type 0} (q : X → Bool) (xs : List X) → list_all q xs ≡ true → AllByRecursion (λ x. q x ≡ true) xs
each_passes q [] e = tt
each_passes q (x ∷ xs) e = let both = and_parts (q x) (list_all q xs) e in (both.0, each_passes q xs both.1)

pub all_among : {X : Type 0} (q : X → Bool) (xs : List X) (x : X) → list_all q xs ≡ true → Among xs x → q x ≡ true
all_among q xs x e m = cases (q x) refl
  where
    cases : (b : Bool) → b ≡ q x → q x ≡ true
    cases true t = sym t
    cases false t =
        let found = some (λ y. q y ≡ true) (λ y. not (q y)) xs (each_passes q xs e) (m (λ y. not (q y)) (ap not (sym t))) in
        absurd (false≢true (sym (ap not found.1) ∙ found.2))

or_then : (a b : Bool) → a ≡ true → (not a || b) ≡ true → b ≡ true
or_then true b e f = f
or_then false b e f = absurd (false≢true e)

pub rule_is_excused : (p : Program) (x : List (Option Bool)) (U : Atoms) (r : Rule) (a : ℕ) → is_unfounded p x U ≡ true → Among (rules_in_force p) r →
    has (head_atoms r.head) a ≡ true → has U a ≡ true → is_excused p x U (normal r.body) ≡ true
rule_is_excused p x U r a unfounded m head member =
    or_then (list_any (has U) (head_atoms r.head)) (is_excused p x U (normal r.body)) (any_of (has U) (head_atoms r.head) a head member)
    (all_among (rule_excused p x U) (rules_in_force p) r (and_parts (ltb 0 (length U)) (list_all (rule_excused p x U) (rules_in_force p)) unfounded).1 m)

-- what is founded from outside of a set is in no unfounded part of it
pub founded_out : (p : Program) (x : List (Option Bool)) (V U : Atoms) (a : ℕ) → IsSound p → is_founded p x V a ≡ true → is_unfounded p x U ≡ true → IsSubset U V → has U a ≡ true → ⊥
founded_out p x V U a sound founded unfounded sub member =
    let found = some (λ w. has (supports p a) w ≡ true) (λ w. not (is_excused p x V (form_of p w))) (supports p a) (members (supports p a)) founded in
    let form = in_forms p a found.0 found.1 in
    let same : form_of p found.0 ≡ form.0 = ap (form_of p) (sym form.2) ∙ form_at-number p form.0 form.1.0.0 in
    let rule = some (Among (rules_in_force p)) (λ (r : Rule). has (head_atoms r.head) a && body_eq (normal r.body) form.0) (rules_in_force p) (each_among (rules_in_force p)) form.1.1 in
    let parts = and_parts (has (head_atoms rule.0.head) a) (body_eq (normal rule.0.body) form.0) rule.2 in
    let is_form : normal rule.0.body ≡ form.0 = same_body (normal rule.0.body) form.0 parts.1 in
    let excused = rule_is_excused p x U rule.0 a unfounded rule.1 parts.0 member in
    let more = excused_more p x U V (normal rule.0.body) sub (form_weighted p rule.0 sound rule.1) excused in
    false≢true (sym (ap (λ b. not (is_excused p x V b)) (same ∙ sym is_form) ∙ ap not more) ∙ found.2)

-- ---- one mark less
pub unset_marked : (marks : List Bool) (v w : ℕ) → is_marked (set marks v false) w ≡ true → is_marked marks w ≡ true
unset_marked [] v w e = e
unset_marked (m ∷ marks) zero zero e = absurd (false≢true e)
unset_marked (m ∷ marks) zero (suc w) e = e
unset_marked (m ∷ marks) (suc v) zero e = e
unset_marked (m ∷ marks) (suc v) (suc w) e = unset_marked marks v w e

pub atom_of_var : (p : Program) (a v : ℕ) → has (atoms_of p) a ≡ true → var_of_atom p a ≡ v → nth_atom p (v - 1) ≡ a
atom_of_var p a v stands e =
    let back : v - 1 ≡ place_of (λ b. eqb b a) (atoms_of p) = omega (arith, e) in
    ap (nth_atom p) back ∙ at_place (atoms_of p) a stands

-- ---- a sweep
abbrev pub marks_in : List Bool → ℕ
marks_in marks = count_by (λ b. b) marks

pub marks_less : (marks : List Bool) (v : ℕ) → is_marked marks v ≡ true → marks_in (set marks v false) < marks_in marks
marks_less marks v e = fewer marks v (marked_within marks v e) e
