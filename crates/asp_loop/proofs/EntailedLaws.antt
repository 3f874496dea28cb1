-- No stable model hits a loop nogood.
use Rattle.std.proofs.Common.{◌≡◌, ℕ, Bool, true, false, not, cond, ◌&&◌, ◌||◌, eqb, List, [], ◌∷◌, filter, refl, sym, ap, ◌∙◌, subst, arith, ◌⊎◌, inl, inr}
use Rattle.std.specs.Prelude.{ℤ, pos, negsuc, ◌+ℤ◌, ◌≤ℤ◌, int_lt, int_le, MatchBool}
use Rattle.std.specs.List.{list_any, list_all, flat_map, AllByRecursion}
use Rattle.std.proofs.lemmas.Bool.{false≢true, and_parts, and_from, eqb-true}
use Rattle.std.proofs.lemmas.Int.{ints}
use Rattle.asp_model.specs.declared.program.Body.{Body}
use Rattle.asp_model.specs.declared.program.Body.TheVariants as body
use Rattle.asp_model.specs.declared.program.Head.{Head}
use Rattle.asp_model.specs.declared.program.Head.TheVariants as head
use Rattle.asp_model.specs.declared.program.Rule.{Rule}
use Rattle.asp_model.specs.declared.program.Program.{Program}
use Rattle.asp_model.specs.Sets.{Atoms, has, IsSubset}
use Rattle.asp_model.specs.Holding.{atom_of, holds, all_hold, weight_of, body_holds, body_atoms}
use Rattle.asp_model.specs.Reduct.{reduct_heads}
use Rattle.asp_model.specs.Reading.{holds_between, weight_between, body_holds_between, derived_heads}
use Rattle.asp_model.specs.Models.{rules_in_force, atoms_of, is_stable, head_atoms}
use Rattle.asp_model.specs.Sound.{IsSound}
use Rattle.asp_model.proofs.SetLaws.{has-set_of}
use Rattle.asp_model.proofs.MemberLaws.{list_any-flat_map}
use Rattle.asp_vars.specs.Literals.{Literal, T, complement, is_true, hits, has_literal}
use Rattle.asp_vars.specs.Numbering.{normal, body_eq, bodies_of, var_of_atom, literal_of_form, literal_of, values, IsReadBy}
use Rattle.asp_vars.specs.Tabled.{Stands}
use Rattle.asp_vars.specs.Entailment.{Entailed}
use Rattle.asp_vars.specs.Unfounded.{is_inside}
use Rattle.asp_vars.proofs.LiteralLaws.{and_left, and_right, hits-append, hits-has, is_true-complement}
use Rattle.asp_vars.proofs.NormalLaws.{body_holds_between-normal}
use Rattle.asp_vars.proofs.NumberingLaws.{same_body, body_eq-itself}
use Rattle.asp_vars.proofs.StandingLaws.{Among, each_among, rule_has_form, normal-stands, rules_in_force-bodies, each_both}
use Rattle.asp_vars.proofs.CompletionLaws.{literal-holds, form-false, atom-true, stable-read}
use Rattle.asp_vars.proofs.SupportLaws.{some}
use Rattle.asp_loop.specs.LoopNogoods.{supports_some, weight_where, is_left, IsChosen, IsPart, AreParts, AreSupports}
use Rattle.asp_loop.specs.Founded.{without}
use Rattle.asp_loop.proofs.FoundedLaws.{stable-founded, has-filter, has-without, without-subset}
use Rattle.asp_loop.proofs.WeightedLaws.{AreItems, form_items, form_weighted}

-- ---- sets that meet U nowhere
-- T is within S, and has no atom of U
pub record Apart (S T U : Atoms) : Type 0 where
  pub within : IsSubset T S
  pub meets_not : (a : ℕ) → has U a ≡ true → has T a ≡ false

between_holds : (S T U : Atoms) (l : ℤ) → Apart S T U → holds_between S T l ≡ true → holds S l ≡ true
between_holds S T U (pos a) h e = h.within a e
between_holds S T U (negsuc a) h e = e

between_outside : (S T U : Atoms) (l : ℤ) → Apart S T U → holds_between S T l ≡ true → is_inside U l ≡ false
between_outside S T U (pos a) h e = cases (has U a) refl
  where
    cases : (b : Bool) → b ≡ has U a → has U a ≡ false
    cases false q = sym q
    cases true q = absurd (false≢true (sym (h.meets_not a (sym q)) ∙ e))
between_outside S T U (negsuc a) h e = refl

pub none_inside : (S T U : Atoms) (ls : List ℤ) → Apart S T U → list_all (holds_between S T) ls ≡ true → list_any (is_inside U) ls ≡ false
none_inside S T U [] h e = refl
none_inside S T U (l ∷ ls) h e =
    let parts = and_parts (holds_between S T l) (list_all (holds_between S T) ls) e in
    ap (λ b. b || list_any (is_inside U) ls) (between_outside S T U l h parts.0) ∙ none_inside S T U ls h parts.1

all_between : (S T U : Atoms) (ls : List ℤ) → Apart S T U → list_all (holds_between S T) ls ≡ true → all_hold S ls ≡ true
all_between S T U [] h e = refl
all_between S T U (l ∷ ls) h e =
    let parts = and_parts (holds_between S T l) (list_all (holds_between S T) ls) e in
    and_from (holds S l) (all_hold S ls) (between_holds S T U l h parts.0) (all_between S T U ls h parts.1)

-- ---- weights
less : (b c : Bool) (w : ℤ) → pos 0 ≤ℤ w → (b ≡ true → c ≡ true) → cond b w (pos 0) ≤ℤ cond c w (pos 0)
less true true w p f = omega (arith, ints)
less true false w p f = absurd (false≢true (f refl))
less false true w p f = p
less false false w p f = omega (arith, ints)

-- what passes the one test passes the other
pub weight_less : (S T : Atoms) (q : ℤ → Bool) (items : List (ℤ × ℤ)) → AreItems items →
    AllByRecursion (λ (i : ℤ × ℤ). holds_between S T i.0 ≡ true → q i.0 ≡ true) items → weight_between S T items ≤ℤ weight_where q items
weight_less S T q [] weighted f = omega (arith, ints)
weight_less S T q (i ∷ items) weighted f =
    let a = less (holds_between S T i.0) (q i.0) i.1 weighted.0 f.0 in
    let b = weight_less S T q items weighted.1 f.1 in
    omega (arith, ints, a, b)

less_sum : (S T : Atoms) (items : List (ℤ × ℤ)) (U : Atoms) → Apart S T U → AreItems items → weight_between S T items ≤ℤ weight_where (holds S) items
less_sum S T items U h weighted = weight_less S T (holds S) items weighted (each items)
  where
    each : (is : List (ℤ × ℤ)) → AllByRecursion (λ (i : ℤ × ℤ). holds_between S T i.0 ≡ true → holds S i.0 ≡ true) is
    each [] = tt
    each (i ∷ is) = (between_holds S T U i.0 h, each is)

weight_where-holds : (S : Atoms) (items : List (ℤ × ℤ)) → weight_where (holds S) items ≡ weight_of S items
weight_where-holds S [] = refl
weight_where-holds S (i ∷ items) = ap (λ w. cond (holds S i.0) i.1 (pos 0) +ℤ w) (weight_where-holds S items)

pub too_light : (c w v : ℤ) → int_le c w ≡ true → w ≤ℤ v → int_lt v c ≡ true → ⊥
too_light c w v e h f = absurd (grind (arith, ints))

pub reached : (c w v : ℤ) → int_le c w ≡ true → w ≤ℤ v → int_le c v ≡ true
reached c w v e h = grind (arith, ints)

-- a body that holds from T holds in S
body_between : (S T U : Atoms) (b : Body) → Apart S T U → AreItems (form_items b) → body_holds_between S T b ≡ true → body_holds S b ≡ true
body_between S T U (body.All ls) h weighted e = all_between S T U ls h e
body_between S T U (body.AtLeast c items) h weighted e =
    reached c (weight_between S T items) (weight_of S items) e (let a = less_sum S T items U h weighted in let b = weight_where-holds S items in omega (arith, ints, a, b))

-- ---- the parts
not_true : (b : Bool) → not b ≡ true → b ≡ false
not_true true e = absurd (false≢true e)
not_true false e = refl

turned : (b : Bool) → b ≡ false → not b ≡ true
turned true e = absurd (false≢true (sym e))
turned false e = refl

pub body_not_false : (p : Program) (S T U : Atoms) (b : Body) → IsReadBy p S → list_any (body_eq b) (bodies_of p) ≡ true → Apart S T U →
    AreItems (form_items b) → body_holds_between S T b ≡ true → is_true (values p S) (complement (literal_of_form p b)) ≡ true → ⊥
body_not_false p S T U b read listed h weighted e f =
    false≢true (sym (ap not (body_between S T U b h weighted e)) ∙ sym (form-false p S read b listed) ∙ f)

-- a literal that holds is left
pub left_holds : (p : Program) (S T U : Atoms) (part : List Literal) (l : ℤ) → has (atoms_of p) (atom_of l) ≡ true → hits (values p S) part ≡ true →
    Apart S T U → holds_between S T l ≡ true → is_left p U part l ≡ true
left_holds p S T U part l stands hit h e =
    and_from (not (is_inside U l)) (not (has_literal part (complement (literal_of p l)))) (turned (is_inside U l) (between_outside S T U l h e))
    (turned (has_literal part (complement (literal_of p l))) (cases (has_literal part (complement (literal_of p l))) refl))
  where
    cases : (b : Bool) → b ≡ has_literal part (complement (literal_of p l)) → has_literal part (complement (literal_of p l)) ≡ false
    cases false q = sym q
    cases true q =
        let held : is_true (values p S) (complement (literal_of p l)) ≡ true = hits-has (values p S) part (complement (literal_of p l)) hit (sym q) in
        let fails : not (holds S l) ≡ true = sym (ap not (literal-holds p S l stands)) ∙ sym (is_true-complement (values p S) (literal_of p l)) ∙ held in
        absurd (false≢true (sym (not_true (holds S l) fails) ∙ between_holds S T U l h e))

part_hit : (p : Program) (S T U : Atoms) (b : Body) (part : List Literal) → IsReadBy p S → list_any (body_eq b) (bodies_of p) ≡ true →
    Stands (atoms_of p) b → AreItems (form_items b) → Apart S T U → body_holds_between S T b ≡ true → IsPart p U b part →
    hits (values p S) part ≡ true → ⊥
part_hit p S T U (body.All ls) part read listed stands weighted h e shape hit =
    let none : list_any (is_inside U) ls ≡ false = none_inside S T U ls h e in
    let is : part ≡ complement (literal_of_form p (body.All ls)) ∷ [] = shape ∙ ap (λ b. cond b [] (complement (literal_of_form p (body.All ls)) ∷ [])) none in
    body_not_false p S T U (body.All ls) read listed h weighted e (and_left (is_true (values p S) (complement (literal_of_form p (body.All ls)))) true (sym (ap (hits (values p S)) is) ∙ hit))
part_hit p S T U (body.AtLeast c items) part read listed stands weighted h e shape hit = cases (int_lt (weight_where (λ l. not (is_inside U l)) items) c) refl
  where
    outside : (is : List (ℤ × ℤ)) → AllByRecursion (λ (i : ℤ × ℤ). holds_between S T i.0 ≡ true → not (is_inside U i.0) ≡ true) is
    outside [] = tt
    outside (i ∷ is) = (λ f. turned (is_inside U i.0) (between_outside S T U i.0 h f), outside is)

    left : (is : List (ℤ × ℤ)) → AllByRecursion (λ i. has (atoms_of p) (atom_of i.0) ≡ true) is → AllByRecursion (λ (i : ℤ × ℤ). holds_between S T i.0 ≡ true → is_left p U part i.0 ≡ true) is
    left [] s = tt
    left (i ∷ is) s = (left_holds p S T U part i.0 s.0 hit h, left is s.1)

    cases : (b : Bool) → b ≡ int_lt (weight_where (λ l. not (is_inside U l)) items) c → ⊥
    cases true q = too_light c (weight_between S T items) (weight_where (λ l. not (is_inside U l)) items) e (weight_less S T (λ l. not (is_inside U l)) items weighted (outside items)) (sym q)
    cases false q = elim (subst (λ (b : Bool). MatchBool b (part ≡ []) ((part ≡ complement (literal_of_form p (body.AtLeast c items)) ∷ []) ⊎ IsChosen p U c items part)) (sym q) shape) [
      | inl is ↦
          body_not_false p S T U (body.AtLeast c items) read listed h weighted e
          (and_left (is_true (values p S) (complement (literal_of_form p (body.AtLeast c items)))) true (sym (ap (hits (values p S)) is) ∙ hit))
      | inr chosen ↦ too_light c (weight_between S T items) (weight_where (is_left p U part) items) e (weight_less S T (is_left p U part) items weighted (left items stands)) chosen.enough
    ]

-- the part of one of the bodies
parts_hit : (p : Program) (S U : Atoms) (b : Body) (bodies : List Body) (rest : List Literal) → list_any (body_eq b) bodies ≡ true →
    AreParts p U bodies rest → hits (values p S) rest ≡ true → (part : List Literal) × IsPart p U b part × (hits (values p S) part ≡ true)
parts_hit p S U b [] rest e parts hit = absurd (false≢true e)
parts_hit p S U b (c ∷ bodies) rest e parts hit =
    let both = and_parts (hits (values p S) parts.0) (hits (values p S) parts.1) (sym (hits-append (values p S) parts.0 parts.1) ∙ sym (ap (hits (values p S)) parts.2) ∙ hit) in
    cases (body_eq b c) refl both (parts_hit p S U b bodies parts.1)
  where
    cases : (t : Bool) → t ≡ body_eq b c → (hits (values p S) parts.0 ≡ true) × (hits (values p S) parts.1 ≡ true) →
        (list_any (body_eq b) bodies ≡ true → AreParts p U bodies parts.1 → hits (values p S) parts.1 ≡ true → (part : List Literal) ×
        IsPart p U b part × (hits (values p S) part ≡ true)) → (part : List Literal) × IsPart p U b part × (hits (values p S) part ≡ true)
    cases true q both later = (parts.0, subst (λ (d : Body). IsPart p U d parts.0) (sym (same_body b c (sym q))) parts.3, both.0)
    cases false q both later = later (ap (λ t. t || list_any (body_eq b) bodies) q ∙ e) parts.4 both.1

-- ---- the theorem
pub any_of : (q : ℕ → Bool) (xs : List ℕ) (a : ℕ) → has xs a ≡ true → q a ≡ true → list_any q xs ≡ true
any_of q [] a e f = absurd (false≢true e)
any_of q (x ∷ xs) a e f = cases (eqb x a) refl (any_of q xs a)
  where
    skip : (b c : Bool) → c ≡ true → (b || c) ≡ true
    skip true c e = refl
    skip false c e = e

    cases : (b : Bool) → b ≡ eqb x a → (has xs a ≡ true → q a ≡ true → list_any q xs ≡ true) → (q x || list_any q xs) ≡ true
    cases true t later = ap (λ b. b || list_any q xs) (ap q (eqb-true x a (sym t)) ∙ f)
    cases false t later = skip (q x) (list_any q xs) (later (ap (λ b. b || has xs a) t ∙ e) f)

in_head : (S : Atoms) (h : Head) (a : ℕ) → has (reduct_heads S h) a ≡ true → has (head_atoms h) a ≡ true
in_head S (head.One b) a e = e
in_head S (head.Choice atoms) a e = and_right (has S a) (has atoms a) (sym (has-filter (has S) atoms a) ∙ e)
in_head S head.Never a e = e

pub derived_parts : (S T : Atoms) (r : Rule) (a : ℕ) → has (derived_heads S T r) a ≡ true → (body_holds_between S T r.body ≡ true) × (has (head_atoms r.head) a ≡ true)
derived_parts S T r a e = cases (body_holds_between S T r.body) refl
  where
    cases : (b : Bool) → b ≡ body_holds_between S T r.body → (body_holds_between S T r.body ≡ true) × (has (head_atoms r.head) a ≡ true)
    cases true q = (sym q, in_head S r.head a (ap (λ b. has (cond b (reduct_heads S r.head) []) a) q ∙ e))
    cases false q = absurd (false≢true (ap (λ b. has (cond b (reduct_heads S r.head) []) a) q ∙ e))

pub loop_entailed : (p : Program) (U : Atoms) (a : ℕ) (bodies : List Body) (rest : List Literal) → IsSound p → has U a ≡ true →
    has (atoms_of p) a ≡ true → AreSupports p U bodies → AreParts p U bodies rest → Entailed p (T (var_of_atom p a) ∷ rest)
loop_entailed p U a bodies rest sound member stands supports parts = record { excused = λ S stable hit. absurd (broken S stable hit) }
  where
    outside : (s u v : Bool) → u ≡ true → v ≡ (s && u) → (not v && s) ≡ false
    outside true true true e f = refl
    outside true true false e f = absurd (false≢true f)
    outside false u true e f = refl
    outside false u false e f = refl
    outside true false v e f = absurd (false≢true e)

    broken : (S : Atoms) → is_stable p S ≡ true → hits (values p S) (T (var_of_atom p a) ∷ rest) ≡ true → ⊥
    broken S stable hit =
        let both = and_parts (is_true (values p S) (T (var_of_atom p a))) (hits (values p S) rest) hit in
        let V : Atoms = filter (has S) U in
        let W : Atoms = without V S in
        let in_S : has S a ≡ true = sym (atom-true p S a stands) ∙ both.0 in
        let in_V : has V a ≡ true = has-filter (has S) U a ∙ and_from (has S a) (has U a) in_S member in
        let apart : Apart S W U = record {
          within = without-subset V S;
          meets_not = λ b e. has-without V S b ∙ outside (has S b) (has U b) (has V b) e (has-filter (has S) U b);
        } in
        let founded = stable-founded p S V sound stable (λ b e. and_left (has S b) (has U b) (sym (has-filter (has S) U b) ∙ e)) a in_V in
        let rule = some (λ r. Among (rules_in_force p) r × AllByRecursion (λ c. has (atoms_of p) c ≡ true) (body_atoms r.body))
        (λ r. has (derived_heads S W r) founded.0) (rules_in_force p)
        (each_both (Among (rules_in_force p)) (λ r. AllByRecursion (λ c. has (atoms_of p) c ≡ true) (body_atoms r.body)) (rules_in_force p)
        (each_among (rules_in_force p)) (rules_in_force-bodies p))
        (sym (list_any-flat_map (λ b. eqb b founded.0) (derived_heads S W) (rules_in_force p)) ∙ sym (has-set_of (flat_map (derived_heads S W) (rules_in_force p)) founded.0) ∙ founded.2) in
        let derived = derived_parts S W rule.0 founded.0 rule.2 in
        let form : Body = normal rule.0.body in
        let in_U : has U founded.0 ≡ true = and_right (has S founded.0) (has U founded.0) (sym (has-filter (has S) U founded.0) ∙ founded.1) in
        let supported : supports_some p U form ≡ true =
        rule.1.0 (λ r. list_any (has U) (head_atoms r.head) && body_eq (normal r.body) form)
        (and_from (list_any (has U) (head_atoms rule.0.head)) (body_eq form form)
        (any_of (has U) (head_atoms rule.0.head) founded.0 derived.1 in_U) (body_eq-itself form)) in
        let part = parts_hit p S U form bodies rest (supports form ∙ supported) parts both.1 in
        part_hit p S W U form part.0 (stable-read p S sound stable) (rule_has_form p rule.0 rule.1.0)
        (normal-stands (atoms_of p) rule.0.body rule.1.1) (form_weighted p rule.0 sound rule.1.0) apart
        (body_holds_between-normal S W rule.0.body ∙ derived.0) part.1 part.2
