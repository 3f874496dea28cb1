-- A body that isn't what its literal says breaks a nogood of the completion.
use Rattle.std.proofs.Common.{◌≡◌, ℕ, ◌+◌, ◌<◌, ◌≤◌, Bool, true, false, not, ◌&&◌, cond, List, [], ◌∷◌, ◌++◌, map, length, Some, refl, sym, ap, ◌∙◌, subst, arith, inl, inr}
use Rattle.std.specs.Prelude.{ℤ}
use Rattle.std.specs.List.{list_any, flat_map, AllByRecursion}
use Rattle.std.specs.Bool.{beq}
use Rattle.std.proofs.lemmas.Bool.{false≢true, and_from, cases_lt}
use Rattle.asp_model.specs.declared.program.Body.{Body}
use Rattle.asp_model.specs.declared.program.Body.TheVariants as body
use Rattle.asp_model.specs.declared.program.Head.{Head}
use Rattle.asp_model.specs.declared.program.Head.TheVariants as head
use Rattle.asp_model.specs.declared.program.Rule.{Rule}
use Rattle.asp_model.specs.declared.program.Program.{Program}
use Rattle.asp_model.specs.Sets.{Atoms}
use Rattle.asp_model.specs.Holding.{holds, all_hold, body_holds}
use Rattle.asp_model.specs.Models.{rules_in_force, atoms_of}
use Rattle.asp_model.specs.Sound.{IsSound}
use Rattle.asp_model.proofs.MemberLaws.{each-front, each-map}
use Rattle.asp_model.proofs.ReadingLaws.{same_body}
use Rattle.asp_vars.specs.declared.nogood.Base.TheVariants as base
use Rattle.asp_vars.specs.Literals.{Literal, complement, is_true, hits}
use Rattle.asp_vars.specs.Numbering.{body_eq, bodies_of, is_wide, place_of, literal_of_form, literal_of_body, literal_of, values, nth_body, IsReadBy}
use Rattle.asp_vars.specs.Entailment.{Entailed}
use Rattle.asp_vars.specs.Completion.{is_barred, normal_nogoods, body_nogoods, rule_nogoods, atom_nogoods, completion}
use Rattle.asp_vars.specs.Tabled.{Stands}
use Rattle.asp_vars.proofs.LiteralLaws.{is_true-complement}
use Rattle.asp_vars.proofs.PlaceLaws.{at_each, place_of-within}
use Rattle.asp_vars.proofs.SupportLaws.{at_form}
use Rattle.asp_vars.proofs.StandingLaws.{each_among, each_both, each-unmap, back-append, bodies_of-themselves, form-stands}
use Rattle.asp_vars.proofs.CompletionLaws.{literal-holds, hits-literals, weight-true, body_nogoods-wide, normal_nogoods-barred, normal_nogoods-defining, barred_by, each-unflat_map, completion_entailed}
use Rattle.asp_loop.proofs.WeightedLaws.{body_stands}
use Rattle.asp_found.specs.Marks.{Shows, marks_hold}
use Rattle.asp_found.specs.Misnamed.{first_false, complements, holding_literals, lacking_literals, misnamed_literals}
use Rattle.asp_found.specs.Verdicts.{IsListed, IsBroken}
use Rattle.asp_found.proofs.LeastLaws.{marks_link}
use Rattle.asp_found.proofs.ValueLaws.{values_show}

-- ---- nogoods of the completion
abbrev IsNogood : Program → List Literal → Type 0
IsNogood p n = IsListed p n × Entailed p n

abbrev AreNogoods : Program → List (List Literal) → Type 0
AreNogoods p ns = AllByRecursion (IsNogood p) ns

-- those of each rule
abbrev AreOfRules : Program → Type 0
AreOfRules p = AllByRecursion (λ (r : Rule). AreNogoods p (rule_nogoods p (literal_of_body p r.body) r.head)) (rules_in_force p)

all_nogoods : (p : Program) → IsSound p → AreNogoods p (completion p)
all_nogoods p sound = each_both (IsListed p) (Entailed p) (completion p) (each_among (completion p)) (completion_entailed p sound)

of_bodies : (p : Program) → IsSound p → AllByRecursion (λ b. AreNogoods p (body_nogoods p b)) (bodies_of p)
of_bodies p sound =
    let bodies : List (List Literal) = flat_map (body_nogoods p) (bodies_of p) in
    let rules : List (List Literal) = flat_map (λ (r : Rule). rule_nogoods p (literal_of_body p r.body) r.head) (rules_in_force p) in
    let atoms : List (List Literal) = flat_map (atom_nogoods p) (atoms_of p) in
    each-unflat_map (IsNogood p) (body_nogoods p) (bodies_of p) (each-front (IsNogood p) bodies rules (each-front (IsNogood p) (bodies ++ rules) atoms (all_nogoods p sound)))

of_rules : (p : Program) → IsSound p → AreOfRules p
of_rules p sound =
    let bodies : List (List Literal) = flat_map (body_nogoods p) (bodies_of p) in
    let rules : List (List Literal) = flat_map (λ (r : Rule). rule_nogoods p (literal_of_body p r.body) r.head) (rules_in_force p) in
    let atoms : List (List Literal) = flat_map (atom_nogoods p) (atoms_of p) in
    each-unflat_map (IsNogood p) (λ (r : Rule). rule_nogoods p (literal_of_body p r.body) r.head) (rules_in_force p)
    (back-append (IsNogood p) bodies rules (each-front (IsNogood p) (bodies ++ rules) atoms (all_nogoods p sound)))

-- the set breaks the nogood of these literals
abbrev Breaks : Program → Atoms → List Literal → Type 0
Breaks p S n = IsBroken p S (record { lits = n; base = base.Pure })

broken_by : (p : Program) (S : Atoms) (n : List Literal) → IsNogood p n → hits (values p S) n ≡ true → Breaks p S n
broken_by p S n is hit = record { pure = refl; listed = is.0; entailed = is.1; hit = hit }

-- ---- a body that holds, whose literal is false
holding_broken : (p : Program) (S : Atoms) (ls : List ℤ) → is_wide (body.All ls) ≡ true → AreNogoods p (body_nogoods p (body.All ls)) →
    Stands (atoms_of p) (body.All ls) → all_hold S ls ≡ true → is_true (values p S) (literal_of_form p (body.All ls)) ≡ false →
    Breaks p S (holding_literals p (body.All ls))
holding_broken p S ls wide nogoods stand all lacks = cases (is_barred p (body.All ls)) refl
  where
    lit : Literal
    lit = literal_of_form p (body.All ls)

    parts : List Literal
    parts = map (literal_of p) ls

    normal : AreNogoods p (normal_nogoods p ls)
    normal = subst (AreNogoods p) (body_nogoods-wide p ls wide) nogoods

    all_true : hits (values p S) parts ≡ true
    all_true = hits-literals p S ls stand ∙ all

    cases : (t : Bool) → t ≡ is_barred p (body.All ls) → Breaks p S (cond (is_barred p (body.All ls)) parts (complement lit ∷ parts))
    cases true e =
        subst (λ (b : Bool). Breaks p S (cond b parts (complement lit ∷ parts))) e
        (broken_by p S parts (subst (AreNogoods p) (normal_nogoods-barred p ls (sym e)) normal).0 all_true)
    cases false e =
        subst (λ (b : Bool). Breaks p S (cond b parts (complement lit ∷ parts))) e
        (broken_by p S (complement lit ∷ parts) (subst (AreNogoods p) (normal_nogoods-defining p ls (sym e)) normal).0
        (and_from (is_true (values p S) (complement lit)) (hits (values p S) parts) (is_true-complement (values p S) lit ∙ ap not lacks) all_true))

-- ---- a body that doesn't hold, whose literal is true
-- where not all are true, one is the first that isn't
found_false : (P : Literal → Type 0) (v : List Bool) (ls : List Literal) → AllByRecursion P ls → hits v ls ≡ false → (l : Literal) × (first_false v ls ≡ Some l) × (is_true v l ≡ false) × P l
found_false P v [] h e = absurd (false≢true (sym e))
found_false P v (l ∷ ls) h e = cases (is_true v l) refl (found_false P v ls h.1)
  where
    cases : (t : Bool) → t ≡ is_true v l → (hits v ls ≡ false → (k : Literal) × (first_false v ls ≡ Some k) × (is_true v k ≡ false) × P k) →
        (k : Literal) × (first_false v (l ∷ ls) ≡ Some k) × (is_true v k ≡ false) × P k
    cases true q f =
        let found = f (ap (λ t. t && hits v ls) q ∙ e) in
        (found.0, ap (λ t. cond t (first_false v ls) (Some l)) (sym q) ∙ found.1, found.2, found.3)
    cases false q f = (l, ap (λ t. cond t (first_false v ls) (Some l)) (sym q), sym q, h.0)

lacking_broken : (p : Program) (S : Atoms) (ls : List ℤ) → is_wide (body.All ls) ≡ true → AreOfRules p → AreNogoods p (body_nogoods p (body.All ls)) →
    Stands (atoms_of p) (body.All ls) → all_hold S ls ≡ false → is_true (values p S) (literal_of_form p (body.All ls)) ≡ true →
    Breaks p S (lacking_literals p (values p S) (body.All ls))
lacking_broken p S ls wide rules nogoods stand fails stays = cases (is_barred p (body.All ls)) refl
  where
    lit : Literal
    lit = literal_of_form p (body.All ls)

    parts : List Literal
    parts = map (literal_of p) ls

    normal : AreNogoods p (normal_nogoods p ls)
    normal = subst (AreNogoods p) (body_nogoods-wide p ls wide) nogoods

    barred : is_barred p (body.All ls) ≡ true → IsNogood p (lit ∷ [])
    barred =
        barred_by (λ (r : Rule). AreNogoods p (rule_nogoods p (literal_of_body p r.body) r.head)) (IsNogood p (lit ∷ [])) p (body.All ls) rules (λ r u is same.
        (subst (λ (c : Body). AreNogoods p (rule_nogoods p (literal_of_form p c) head.Never)) same
        (subst (λ (h : Head). AreNogoods p (rule_nogoods p (literal_of_body p r.body) h)) is u)).0)

    cases : (t : Bool) → t ≡ is_barred p (body.All ls) → Breaks p S (lit ∷ cond (is_barred p (body.All ls)) [] (complements (first_false (values p S) parts)))
    cases true e =
        subst (λ (b : Bool). Breaks p S (lit ∷ cond b [] (complements (first_false (values p S) parts)))) e
        (broken_by p S (lit ∷ []) (barred (sym e)) (ap (λ t. t && true) stays))
    cases false e =
        let each : AllByRecursion (λ k. IsNogood p (lit ∷ complement k ∷ [])) parts =
        each-map (λ k. IsNogood p (lit ∷ complement k ∷ [])) (literal_of p) ls
        (each-unmap (IsNogood p) (λ l. lit ∷ complement (literal_of p l) ∷ []) ls (subst (AreNogoods p) (normal_nogoods-defining p ls (sym e)) normal).1) in
        let found = found_false (λ k. IsNogood p (lit ∷ complement k ∷ [])) (values p S) parts each (hits-literals p S ls stand ∙ fails) in
        let other : Literal = complement found.0 in
        let broken : Breaks p S (lit ∷ other ∷ []) =
        broken_by p S (lit ∷ other ∷ []) found.3
        (and_from (is_true (values p S) lit) (is_true (values p S) other && true) stays
        (ap (λ t. t && true) (is_true-complement (values p S) found.0 ∙ ap not found.2))) in
        subst (λ (b : Bool). Breaks p S (lit ∷ cond b [] (complements (first_false (values p S) parts)))) e
        (subst (λ o. Breaks p S (lit ∷ complements o)) (sym found.1) broken)

-- ---- any body
no_self : (a : Bool) → a ≡ not a → ⊥
no_self true e = false≢true (sym e)
no_self false e = false≢true e

and_true : (a : Bool) → (a && true) ≡ a
and_true true = refl
and_true false = refl

wide_broken : (p : Program) (S : Atoms) (ls : List ℤ) → is_wide (body.All ls) ≡ true → AreOfRules p → AreNogoods p (body_nogoods p (body.All ls)) →
    Stands (atoms_of p) (body.All ls) → (t : Bool) → t ≡ all_hold S ls → is_true (values p S) (literal_of_form p (body.All ls)) ≡ not t →
    Breaks p S (misnamed_literals p (values p S) (body.All ls) t)
wide_broken p S ls wide rules nogoods stand true is differs = holding_broken p S ls wide nogoods stand (sym is) differs
wide_broken p S ls wide rules nogoods stand false is differs = lacking_broken p S ls wide rules nogoods stand (sym is) differs

form_broken : (p : Program) (S : Atoms) (b : Body) → list_any (body_eq b) (bodies_of p) ≡ true → AreOfRules p → AreNogoods p (body_nogoods p b) →
    Stands (atoms_of p) b → (t : Bool) → t ≡ body_holds S b → is_true (values p S) (literal_of_form p b) ≡ not t →
    Breaks p S (misnamed_literals p (values p S) b t)
form_broken p S (body.All []) listed rules nogoods stand t is differs = wide_broken p S [] refl rules nogoods stand t is differs
form_broken p S (body.All (l ∷ [])) listed rules nogoods stand t is differs =
    absurd (no_self t (is ∙ and_true (holds S l) ∙ sym (literal-holds p S l stand.0) ∙ differs))
form_broken p S (body.All (l ∷ k ∷ ks)) listed rules nogoods stand t is differs = wide_broken p S (l ∷ k ∷ ks) refl rules nogoods stand t is differs
form_broken p S (body.AtLeast bound items) listed rules nogoods stand t is differs = absurd (no_self t (is ∙ sym (weight-true p S bound items listed) ∙ differs))

-- ---- by the number of the body
pub value_at : (p : Program) (S : Atoms) (v : List Bool) (j : ℕ) → v ≡ values p S → j < length (bodies_of p) → marks_hold p v v (nth_body p j) ≡ body_holds S (nth_body p j)
value_at p S v j is lt =
    let shows : Shows p S v = values_show p S v is in
    marks_link p S S v v (nth_body p j) shows shows (body_stands p j lt) ∙ same_body S (nth_body p j)

pub misnamed_broken : (p : Program) (S : Atoms) (v : List Bool) (j : ℕ) (t : Bool) → IsSound p → v ≡ values p S → j < length (bodies_of p) →
    t ≡ marks_hold p v v (nth_body p j) → is_true v (literal_of_form p (nth_body p j)) ≡ not t →
    IsBroken p S (record { lits = misnamed_literals p v (nth_body p j) t; base = base.Pure })
misnamed_broken p S v j t sound is lt holds differs =
    let b : Body = nth_body p j in
    let listed : list_any (body_eq b) (bodies_of p) ≡ true = at_each (λ c. list_any (body_eq c) (bodies_of p) ≡ true) (bodies_of p) j (body.All []) (bodies_of-themselves p) lt in
    let nogoods : AreNogoods p (body_nogoods p b) = at_each (λ c. AreNogoods p (body_nogoods p c)) (bodies_of p) j (body.All []) (of_bodies p sound) lt in
    subst (λ (w : List Bool). Breaks p S (misnamed_literals p w b t)) (sym is)
    (form_broken p S b listed (of_rules p sound) nogoods (form-stands p b listed) t (holds ∙ value_at p S v j is lt) (ap (λ w. is_true w (literal_of_form p b)) (sym is) ∙ differs))

-- of the bodies up to here each is what its literal says
abbrev pub AreReadBelow : Program → Atoms → List Bool → ℕ → Type 0
AreReadBelow p S v n = (k : ℕ) → k < n → is_true v (literal_of_form p (nth_body p k)) ≡ body_holds S (nth_body p k)

pub read_all : (p : Program) (S : Atoms) (v : List Bool) (n : ℕ) → v ≡ values p S → length (bodies_of p) ≤ n → AreReadBelow p S v n → IsReadBy p S
read_all p S v n is end read b listed =
    let j : ℕ = place_of (body_eq b) (bodies_of p) in
    let within = place_of-within (body_eq b) (bodies_of p) listed in
    subst (λ (c : Body). is_true (values p S) (literal_of_form p c) ≡ body_holds S c) (at_form b (bodies_of p) (body.All []) listed)
    (ap (λ w. is_true w (literal_of_form p (nth_body p j))) (sym is) ∙ read j (omega (arith, within, end)))

pub read_more : (p : Program) (S : Atoms) (v : List Bool) (n : ℕ) → AreReadBelow p S v n → is_true v (literal_of_form p (nth_body p n)) ≡ body_holds S (nth_body p n) → AreReadBelow p S v (n + 1)
read_more p S v n before here k lt = elim (cases_lt k n) [
  | inl below ↦ before k below
  | inr above ↦ let same : n ≡ k = omega (arith, above, lt) in subst (λ (j : ℕ). is_true v (literal_of_form p (nth_body p j)) ≡ body_holds S (nth_body p j)) same here
]

-- ---- what a test of two values says
pub differ_is : (a t : Bool) → not (beq a t) ≡ true → a ≡ not t
differ_is true true e = sym e
differ_is true false e = refl
differ_is false true e = refl
differ_is false false e = e

pub same_is : (a t : Bool) → not (beq a t) ≡ false → a ≡ t
same_is true true e = refl
same_is true false e = e
same_is false true e = sym e
same_is false false e = refl
