-- No stable model hits the nogood of a loop's line. The lemmas on sets that meet U nowhere are those of loop nogoods.
use Rattle.std.proofs.Common.{◌≡◌, ℕ, Bool, true, false, not, ◌&&◌, ◌||◌, eqb, List, [], ◌∷◌, filter, refl, sym, ◌∙◌, inl, inr}
use Rattle.std.specs.Prelude.{ℤ, int_lt}
use Rattle.std.specs.List.{list_any, flat_map, AllByRecursion}
use Rattle.std.proofs.lemmas.Bool.{false≢true, and_from, or_cases}
use Rattle.asp_model.specs.declared.program.Body.{Body}
use Rattle.asp_model.specs.declared.program.Body.TheVariants as body
use Rattle.asp_model.specs.declared.program.Rule.{Rule}
use Rattle.asp_model.specs.declared.program.Program.{Program}
use Rattle.asp_model.specs.Sets.{Atoms, has}
use Rattle.asp_model.specs.Holding.{atom_of, body_atoms}
use Rattle.asp_model.specs.Reading.{holds_between, weight_between, body_holds_between, derived_heads}
use Rattle.asp_model.specs.Models.{rules_in_force, atoms_of, is_stable, head_atoms}
use Rattle.asp_model.specs.Sound.{IsSound}
use Rattle.asp_model.proofs.SetLaws.{has-set_of}
use Rattle.asp_model.proofs.MemberLaws.{list_any-flat_map, each_passes, one_passes, HasAll-itself}
use Rattle.asp_vars.specs.Literals.{Literal, T, complement, hits, has_literal}
use Rattle.asp_vars.specs.Numbering.{normal, body_eq, bodies_of, var_of_atom, literal_of_form, values, IsReadBy}
use Rattle.asp_vars.specs.Tabled.{Stands}
use Rattle.asp_vars.specs.Entailment.{Entailed}
use Rattle.asp_vars.specs.Unfounded.{is_inside}
use Rattle.asp_vars.proofs.LiteralLaws.{and_left, and_right, hits-has}
use Rattle.asp_vars.proofs.NormalLaws.{body_holds_between-normal}
use Rattle.asp_vars.proofs.StandingLaws.{Among, each_among, rule_has_form, normal-stands, rules_in_force-bodies, each_both}
use Rattle.asp_vars.proofs.CompletionLaws.{stable-read, atom-true}
use Rattle.asp_vars.proofs.SupportLaws.{some}
use Rattle.asp_loop.specs.LoopNogoods.{weight_where, is_left}
use Rattle.asp_loop.specs.Founded.{without}
use Rattle.asp_loop.proofs.FoundedLaws.{stable-founded, has-filter, has-without, without-subset}
use Rattle.asp_loop.proofs.WeightedLaws.{AreItems, form_items, form_weighted}
use Rattle.asp_loop.proofs.EntailedLaws.{Apart, none_inside, weight_less, too_light, body_not_false, left_holds, any_of, derived_parts}
use Rattle.asp_checker.specs.Lines.{IsLoop, is_answered}

-- ---- an answered body
-- no body of a rule that holds from outside is answered
answered_hit : (p : Program) (S T U : Atoms) → IsReadBy p S → (b : Body) (n : List Literal) → list_any (body_eq b) (bodies_of p) ≡ true →
    Stands (atoms_of p) b → AreItems (form_items b) → Apart S T U → body_holds_between S T b ≡ true → is_answered p U n b ≡ true →
    hits (values p S) n ≡ true → ⊥
answered_hit p S T U read (body.All ls) n listed stands weighted h e answered hit =
    elim (or_cases (has_literal n (complement (literal_of_form p (body.All ls)))) (list_any (is_inside U) ls) answered) [
      | inl has ↦ body_not_false p S T U (body.All ls) read listed h weighted e (hits-has (values p S) n (complement (literal_of_form p (body.All ls))) hit has)
      | inr inside ↦ false≢true (sym (none_inside S T U ls h e) ∙ inside)
    ]
answered_hit p S T U read (body.AtLeast c items) n listed stands weighted h e answered hit =
    elim (or_cases (has_literal n (complement (literal_of_form p (body.AtLeast c items)))) (int_lt (weight_where (is_left p U n) items) c) answered) [
      | inl has ↦ body_not_false p S T U (body.AtLeast c items) read listed h weighted e (hits-has (values p S) n (complement (literal_of_form p (body.AtLeast c items))) hit has)
      | inr light ↦ too_light c (weight_between S T items) (weight_where (is_left p U n) items) e (weight_less S T (is_left p U n) items weighted (left items stands)) light
    ]
  where
    left : (is : List (ℤ × ℤ)) → AllByRecursion (λ i. has (atoms_of p) (atom_of i.0) ≡ true) is → AllByRecursion (λ (i : ℤ × ℤ). holds_between S T i.0 ≡ true → is_left p U n i.0 ≡ true) is
    left [] s = tt
    left (i ∷ is) s = (left_holds p S T U n i.0 s.0 hit h, left is s.1)

passes : (a b : Bool) → a ≡ true → (not a || b) ≡ true → b ≡ true
passes true b e f = f
passes false b e f = absurd (false≢true e)

-- an atom of the set that a stable model has, where the nogood's literals hold
broken : (p : Program) (U : Atoms) (n : List Literal) (S : Atoms) (a : ℕ) → IsSound p → IsLoop p U n → is_stable p S ≡ true → hits (values p S) n ≡ true → has U a ≡ true → has S a ≡ true → ⊥
broken p U n S a sound line stable hit member in_S =
    let V : Atoms = filter (has S) U in
    let W : Atoms = without V S in
    let in_V : has V a ≡ true = has-filter (has S) U a ∙ and_from (has S a) (has U a) in_S member in
    let apart : Apart S W U = record {
      within = without-subset V S;
      meets_not = λ b e. has-without V S b ∙ outside (has S b) (has U b) (has V b) e (has-filter (has S) U b);
    } in
    let founded = stable-founded p S V sound stable (λ b e. and_left (has S b) (has U b) (sym (has-filter (has S) U b) ∙ e)) a in_V in
    let good : Rule → Bool = λ r. not (list_any (has U) (head_atoms r.head)) || is_answered p U n (normal r.body) in
    let rule = some (λ r. (Among (rules_in_force p) r × AllByRecursion (λ c. has (atoms_of p) c ≡ true) (body_atoms r.body)) × (good r ≡ true))
    (λ r. has (derived_heads S W r) founded.0) (rules_in_force p)
    (each_both (λ r. Among (rules_in_force p) r × AllByRecursion (λ c. has (atoms_of p) c ≡ true) (body_atoms r.body)) (λ r. good r ≡ true) (rules_in_force p)
    (each_both (Among (rules_in_force p)) (λ r. AllByRecursion (λ c. has (atoms_of p) c ≡ true) (body_atoms r.body)) (rules_in_force p) (each_among (rules_in_force p)) (rules_in_force-bodies p))
    (each_passes good (rules_in_force p) line.bodies))
    (sym (list_any-flat_map (λ b. eqb b founded.0) (derived_heads S W) (rules_in_force p)) ∙ sym (has-set_of (flat_map (derived_heads S W) (rules_in_force p)) founded.0) ∙ founded.2) in
    let derived = derived_parts S W rule.0 founded.0 rule.2 in
    let in_U : has U founded.0 ≡ true = and_right (has S founded.0) (has U founded.0) (sym (has-filter (has S) U founded.0) ∙ founded.1) in
    let headed : list_any (has U) (head_atoms rule.0.head) ≡ true = any_of (has U) (head_atoms rule.0.head) founded.0 derived.1 in_U in
    answered_hit p S W U (stable-read p S sound stable) (normal rule.0.body) n (rule_has_form p rule.0 rule.1.0.0)
    (normal-stands (atoms_of p) rule.0.body rule.1.0.1) (form_weighted p rule.0 sound rule.1.0.0) apart
    (body_holds_between-normal S W rule.0.body ∙ derived.0)
    (passes (list_any (has U) (head_atoms rule.0.head)) (is_answered p U n (normal rule.0.body)) headed rule.1.1) hit
  where
    outside : (s u v : Bool) → u ≡ true → v ≡ (s && u) → (not v && s) ≡ false
    outside true true true e f = refl
    outside true true false e f = absurd (false≢true f)
    outside false u true e f = refl
    outside false u false e f = refl
    outside true false v e f = absurd (false≢true e)

pub line-entailed : (p : Program) (U : Atoms) (n : List Literal) → IsSound p → IsLoop p U n → Entailed p n
line-entailed p U n sound line = record {
  excused =
      λ S stable hit. absurd (one_passes ⊥ (λ a. has_literal n (T (var_of_atom p a))) U
      (each S stable hit U (each_both (λ a. has U a ≡ true) (λ a. has (atoms_of p) a ≡ true) U (HasAll-itself U)
      (each_passes (has (atoms_of p)) U line.among))) line.head);
}
  where
    each : (S : Atoms) → is_stable p S ≡ true → hits (values p S) n ≡ true → (us : List ℕ) →
        AllByRecursion (λ a. (has U a ≡ true) × (has (atoms_of p) a ≡ true)) us →
        AllByRecursion (λ a. has_literal n (T (var_of_atom p a)) ≡ true → ⊥) us
    each S stable hit [] h = tt
    each S stable hit (a ∷ us) h = (λ e. broken p U n S a sound line stable hit h.0.0 (sym (atom-true p S a h.0.1) ∙ hits-has (values p S) n (T (var_of_atom p a)) hit e), each S stable hit us h.1)
