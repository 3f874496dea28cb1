-- What a set that hits no nogood of the completion has beyond the least model of its reduct is unfounded.
use Rattle.std.proofs.Common.{◌≡◌, ℕ, suc, ◌+◌, ◌<◌, Bool, true, false, not, cond, ◌&&◌, ◌||◌, eqb, ltb, List, [], ◌∷◌, map, length, Some, None, refl, sym, ap, ◌∙◌, arith}
use Rattle.std.specs.Prelude.{ℤ, pos, negsuc, ◌+ℤ◌, int_lt, int_le}
use Rattle.std.specs.List.{list_all, list_any, flat_map, AllByRecursion}
use Rattle.std.proofs.lemmas.Bool.{false≢true, and_from, eq-eqb}
use Rattle.std.proofs.lemmas.Bool.Decides.{nat_tests}
use Rattle.std.proofs.lemmas.Int.{ints}
use Rattle.std.proofs.lemmas.List.{get_or-map}
use Rattle.std.proofs.Common.{length-append}
use Rattle.std.proofs.lemmas.List.{length-map}
use Rattle.asp_model.specs.declared.program.Body.{Body}
use Rattle.asp_model.specs.declared.program.Body.TheVariants as body
use Rattle.asp_model.specs.declared.program.Head.{Head}
use Rattle.asp_model.specs.declared.program.Head.TheVariants as head
use Rattle.asp_model.specs.declared.program.Rule.{Rule}
use Rattle.asp_model.specs.declared.program.Program.{Program}
use Rattle.asp_model.specs.Sets.{Atoms, IsAscending, has, IsSubset}
use Rattle.asp_model.specs.Holding.{atom_of, holds, all_hold, body_holds, body_atoms}
use Rattle.asp_model.specs.Reduct.{reduct_heads}
use Rattle.asp_model.specs.Reading.{holds_between, weight_between, body_holds_between, derived_heads}
use Rattle.asp_model.specs.Models.{rules_in_force, atoms_of, is_stable, least_model, head_atoms}
use Rattle.asp_model.specs.Sound.{IsSound}
use Rattle.asp_model.proofs.SetLaws.{has-set_of}
use Rattle.asp_model.proofs.MemberLaws.{list_any-flat_map, each_weaker}
use Rattle.asp_model.proofs.ModelLaws.{least_model-derived}
use Rattle.asp_model.proofs.ReadingLaws.{step_read}
use Rattle.asp_vars.specs.Literals.{Literal, complement, is_true, agrees, holds_in}
use Rattle.asp_vars.specs.Numbering.{normal, body_eq, bodies_of, apart_bodies, place_of, var_of_atom, literal_of_form, literal_of, values, IsReadBy}
use Rattle.asp_vars.specs.Completion.{completion}
use Rattle.asp_vars.specs.Unfounded.{assigned, is_false, is_inside, outside_weight, needs, is_excused, is_unfounded}
use Rattle.asp_vars.proofs.LiteralLaws.{and_left, and_right, is_true-complement}
use Rattle.asp_vars.proofs.NormalLaws.{body_holds_between-normal}
use Rattle.asp_vars.specs.Tabled.{Stands}
use Rattle.asp_vars.proofs.StandingLaws.{Among, each_among, rule_has_form, normal-stands, rules_in_force-bodies, each_both}
use Rattle.asp_vars.proofs.CompletionLaws.{literal-holds, form-false}
use Rattle.asp_vars.proofs.RowLaws.{form_literal}
use Rattle.asp_found.specs.Rests.{rest}
use Rattle.asp_found.proofs.RestLaws.{NoneHit, read_by, least-within, stable_without_rest, has-filter_from, has-filtered}

-- ---- what the least model derives
least-read : (p : Program) (S : Atoms) (a : ℕ) → IsSound p → has (least_model p S) a ≡ list_any (λ r. has (derived_heads S (least_model p S) r) a) (rules_in_force p)
least-read p S a sound =
    ap (λ T. has T a) (sym (least_model-derived p S sound) ∙ step_read S (least_model p S) (rules_in_force p))
    ∙ has-set_of (flat_map (derived_heads S (least_model p S)) (rules_in_force p)) a
    ∙ list_any-flat_map (λ b. eqb b a) (derived_heads S (least_model p S)) (rules_in_force p)

reduct_from_heads : (S : Atoms) (a : ℕ) (x : Head) → has (head_atoms x) a ≡ true → has S a ≡ true → has (reduct_heads S x) a ≡ true
reduct_from_heads S a (head.One b) e f = e
reduct_from_heads S a (head.Choice xs) e f = has-filter_from (has S) xs a e f
reduct_from_heads S a head.Never e f = e

pub body_fails : (p : Program) (S : Atoms) (r : Rule) (a : ℕ) → IsSound p → Among (rules_in_force p) r → has (head_atoms r.head) a ≡ true →
    has S a ≡ true → has (least_model p S) a ≡ false → body_holds_between S (least_model p S) r.body ≡ false
body_fails p S r a sound m in_head in_set lacks = cases (body_holds_between S (least_model p S) r.body) refl
  where
    cases : (b : Bool) → b ≡ body_holds_between S (least_model p S) r.body → body_holds_between S (least_model p S) r.body ≡ false
    cases false q = sym q
    cases true q =
        let derives : has (derived_heads S (least_model p S) r) a ≡ true = ap (λ b. has (cond b (reduct_heads S r.head) []) a) (sym q) ∙ reduct_from_heads S a r.head in_head in_set in
        absurd (false≢true (sym lacks ∙ least-read p S a sound ∙ m (λ r. has (derived_heads S (least_model p S) r) a) derives))

-- ---- the whole assignment
place_of-lt : {X : Type 0} (test : X → Bool) (xs : List X) → list_any test xs ≡ true → place_of test xs < length xs
place_of-lt test [] e = absurd (false≢true e)
place_of-lt test (x ∷ xs) e = cases (test x) refl (place_of-lt test xs)
  where
    cases : (b : Bool) → b ≡ test x → (list_any test xs ≡ true → place_of test xs < length xs) → cond b 0 (suc (place_of test xs)) < suc (length xs)
    cases true q f = omega arith
    cases false q f = let h = f (ap (λ b. b || list_any test xs) q ∙ e) in omega (arith, h)

length-values : (p : Program) (S : Atoms) → length (values p S) ≡ suc (length (atoms_of p) + length (apart_bodies p))
length-values p S =
    let a = length-append (map (has S) (atoms_of p)) (map (body_holds S) (apart_bodies p)) in
    let b = length-map (atoms_of p) (has S) in
    let c = length-map (apart_bodies p) (body_holds S) in
    omega (arith, a, b, c)

form_within : (p : Program) (S : Atoms) (b : Body) → list_any (body_eq b) (bodies_of p) ≡ true → (literal_of_form p b).var < length (values p S)
form_within p S b e = let is = form_literal p b e in let within = is.1 in omega (arith, length-values p S, within)

atom_within : (p : Program) (S : Atoms) (a : ℕ) → has (atoms_of p) a ≡ true → var_of_atom p a < length (values p S)
atom_within p S a e = omega (arith, length-values p S, place_of-lt (λ b. eqb b a) (atoms_of p) e)

assigned-holds : (p : Program) (S : Atoms) (l : Literal) → l.var < length (values p S) → holds_in (assigned p S) l ≡ is_true (values p S) l
assigned-holds p S l lt = ap (λ o. agrees o l) (get_or-map (λ (b : Bool). Some b) (values p S) l.var false None lt)

is_false-holds : (p : Program) (S : Atoms) (l : ℤ) → has (atoms_of p) (atom_of l) ≡ true → is_false p (assigned p S) l ≡ not (holds S l)
is_false-holds p S l e =
    assigned-holds p S (complement (literal_of p l)) (atom_within p S (atom_of l) e)
    ∙ is_true-complement (values p S) (literal_of p l) ∙ ap not (literal-holds p S l e)

-- ---- literals inside the rest
inside_rest : (p : Program) (S : Atoms) (l : ℤ) → holds S l ≡ true → holds_between S (least_model p S) l ≡ false → is_inside (rest p S) l ≡ true
inside_rest p S (pos a) h e = has-filter_from (λ x. not (has (least_model p S) x)) S a h (ap not e)
inside_rest p S (negsuc a) h e = absurd (false≢true (sym e ∙ h))

needs_rest : (p : Program) (S : Atoms) (ls : List ℤ) → all_hold S ls ≡ true → list_all (holds_between S (least_model p S)) ls ≡ false → list_any (is_inside (rest p S)) ls ≡ true
needs_rest p S [] h e = absurd (false≢true (sym e))
needs_rest p S (l ∷ ls) h e = cases (holds_between S (least_model p S) l) refl (needs_rest p S ls (and_right (holds S l) (all_hold S ls) h))
  where
    cases : (b : Bool) → b ≡ holds_between S (least_model p S) l →
        (list_all (holds_between S (least_model p S)) ls ≡ false → list_any (is_inside (rest p S)) ls ≡ true) →
        (is_inside (rest p S) l || list_any (is_inside (rest p S)) ls) ≡ true
    cases true q f = skip (is_inside (rest p S) l) (list_any (is_inside (rest p S)) ls) (f (ap (λ b. b && list_all (holds_between S (least_model p S)) ls) q ∙ e))
      where
        skip : (b c : Bool) → c ≡ true → (b || c) ≡ true
        skip true c e = refl
        skip false c e = e
    cases false q f = ap (λ b. b || list_any (is_inside (rest p S)) ls) (inside_rest p S l (and_left (holds S l) (all_hold S ls) h) (sym q))

has-rest : (p : Program) (S : Atoms) (a : ℕ) → has S a ≡ true → has (rest p S) a ≡ not (has (least_model p S) a)
has-rest p S a h = cases (has (least_model p S) a) (has (rest p S) a) refl refl
  where
    cases : (b c : Bool) → b ≡ has (least_model p S) a → c ≡ has (rest p S) a → has (rest p S) a ≡ not (has (least_model p S) a)
    cases false c q r = has-filter_from (λ x. not (has (least_model p S) x)) S a h (ap not (sym q)) ∙ ap not q
    cases true false q r = sym r ∙ ap not q
    cases true true q r = absurd (false≢true (ap not q ∙ (has-filtered (λ x. not (has (least_model p S) x)) S a (sym r)).1))

counts_outside : (p : Program) (S : Atoms) (l : ℤ) → IsSubset (least_model p S) S → has (atoms_of p) (atom_of l) ≡ true →
    (is_false p (assigned p S) l || is_inside (rest p S) l) ≡ not (holds_between S (least_model p S) l)
counts_outside p S (pos a) within e = ap (λ b. b || has (rest p S) a) (is_false-holds p S (pos a) e) ∙ cases (has S a) refl
  where
    cases : (b : Bool) → b ≡ has S a → (not (has S a) || has (rest p S) a) ≡ not (has (least_model p S) a)
    cases true q = ap (λ b. not b || has (rest p S) a) (sym q) ∙ has-rest p S a (sym q)
    cases false q = ap (λ b. not b || has (rest p S) a) (sym q) ∙ lacks (has (least_model p S) a) refl
      where
        lacks : (c : Bool) → c ≡ has (least_model p S) a → true ≡ not (has (least_model p S) a)
        lacks false r = ap not r
        lacks true r = absurd (false≢true (q ∙ within a (sym r)))
counts_outside p S (negsuc a) within e = ap (λ b. b || false) (is_false-holds p S (negsuc a) e) ∙ plain (not (holds S (negsuc a)))
  where
    plain : (b : Bool) → (b || false) ≡ b
    plain true = refl
    plain false = refl

outside-rest : (p : Program) (S : Atoms) (items : List (ℤ × ℤ)) → IsSubset (least_model p S) S →
    AllByRecursion (λ i. has (atoms_of p) (atom_of i.0) ≡ true) items →
    outside_weight p (assigned p S) (rest p S) items ≡ weight_between S (least_model p S) items
outside-rest p S [] within h = refl
outside-rest p S (i ∷ items) within h =
    ap (λ b. cond b (pos 0) i.1 +ℤ outside_weight p (assigned p S) (rest p S) items) (counts_outside p S i.0 within h.0)
    ∙ ap (λ x. cond (not (holds_between S (least_model p S) i.0)) (pos 0) i.1 +ℤ x) (outside-rest p S items within h.1)
    ∙ ap (λ x. x +ℤ weight_between S (least_model p S) items) (turned (holds_between S (least_model p S) i.0))
  where
    turned : (b : Bool) → cond (not b) (pos 0) i.1 ≡ cond b i.1 (pos 0)
    turned true = refl
    turned false = refl

below_bound : (c w : ℤ) → int_le c w ≡ false → int_lt w c ≡ true
below_bound c w e = grind (arith, ints)

body_needs : (p : Program) (S : Atoms) (b : Body) → IsSubset (least_model p S) S → Stands (atoms_of p) b → body_holds S b ≡ true →
    body_holds_between S (least_model p S) b ≡ false → needs p (assigned p S) (rest p S) b ≡ true
body_needs p S (body.All ls) within stands h e = needs_rest p S ls h e
body_needs p S (body.AtLeast c items) within stands h e =
    ap (λ w. int_lt w c) (outside-rest p S items within stands) ∙ below_bound c (weight_between S (least_model p S) items) e

body_excused : (p : Program) (S : Atoms) (b : Body) → IsReadBy p S → IsSubset (least_model p S) S → Stands (atoms_of p) b →
    list_any (body_eq b) (bodies_of p) ≡ true → body_holds_between S (least_model p S) b ≡ false → is_excused p (assigned p S) (rest p S) b ≡ true
body_excused p S b read within stands has_var e = cases (body_holds S b) refl
  where
    first : holds_in (assigned p S) (complement (literal_of_form p b)) ≡ not (body_holds S b)
    first = assigned-holds p S (complement (literal_of_form p b)) (form_within p S b has_var) ∙ form-false p S read b has_var

    skip : (x y : Bool) → y ≡ true → (x || y) ≡ true
    skip true y e = refl
    skip false y e = e

    cases : (t : Bool) → t ≡ body_holds S b → is_excused p (assigned p S) (rest p S) b ≡ true
    cases false q = ap (λ x. x || needs p (assigned p S) (rest p S) b) (first ∙ ap not (sym q))
    cases true q = skip (holds_in (assigned p S) (complement (literal_of_form p b))) (needs p (assigned p S) (rest p S) b) (body_needs p S b within stands (sym q) e)

-- ---- the whole set
any_member : (q : ℕ → Bool) (xs : List ℕ) → list_any q xs ≡ true → (a : ℕ) × (has xs a ≡ true) × (q a ≡ true)
any_member q [] e = absurd (false≢true e)
any_member q (x ∷ xs) e = cases (q x) refl (any_member q xs)
  where
    skip : (b c : Bool) → c ≡ true → (b || c) ≡ true
    skip true c e = refl
    skip false c e = e

    cases : (t : Bool) → t ≡ q x → (list_any q xs ≡ true → (a : ℕ) × (has xs a ≡ true) × (q a ≡ true)) → (a : ℕ) × (has (x ∷ xs) a ≡ true) × (q a ≡ true)
    cases true p f = (x, ap (λ t. t || has xs x) (eq-eqb x x refl), sym p)
    cases false p f = let found = f (ap (λ t. t || list_any q xs) p ∙ e) in (found.0, skip (eqb x found.0) (has xs found.0) found.1, found.2)

all_pass : {X : Type 0} (q : X → Bool) (xs : List X) → AllByRecursion (λ x. q x ≡ true) xs → list_all q xs ≡ true
all_pass q [] h = refl
all_pass q (x ∷ xs) h = and_from (q x) (list_all q xs) h.0 (all_pass q xs h.1)

or_when : (a b : Bool) → (a ≡ true → b ≡ true) → (not a || b) ≡ true
or_when true b f = f refl
or_when false b f = refl

nonempty : (xs : List ℕ) → (xs ≡ [] → ⊥) → ltb 0 (length xs) ≡ true
nonempty [] f = absurd (f refl)
nonempty (x ∷ xs) f = grind (arith, nat_tests)

rule_excused : (p : Program) (S : Atoms) (r : Rule) → IsSound p → IsReadBy p S → IsSubset (least_model p S) S → Among (rules_in_force p) r →
    Stands (atoms_of p) (normal r.body) → list_any (has (rest p S)) (head_atoms r.head) ≡ true →
    is_excused p (assigned p S) (rest p S) (normal r.body) ≡ true
rule_excused p S r sound read within m stands e =
    let found = any_member (has (rest p S)) (head_atoms r.head) e in
    let parts = has-filtered (λ x. not (has (least_model p S) x)) S found.0 found.2 in
    let lacks : has (least_model p S) found.0 ≡ false = not_true (has (least_model p S) found.0) parts.1 in
    let fails : body_holds_between S (least_model p S) r.body ≡ false = body_fails p S r found.0 sound m found.1 parts.0 lacks in
    body_excused p S (normal r.body) read within stands (rule_has_form p r m) (body_holds_between-normal S (least_model p S) r.body ∙ fails)
  where
    not_true : (b : Bool) → not b ≡ true → b ≡ false
    not_true true e = absurd (false≢true e)
    not_true false e = refl

pub rest_unfounded : (p : Program) (S : Atoms) → IsSound p → IsAscending S → NoneHit p S (completion p) → is_stable p S ≡ false → is_unfounded p (assigned p S) (rest p S) ≡ true
rest_unfounded p S sound up unhit unstable =
    let within : IsSubset (least_model p S) S = least-within p S sound unhit in
    and_from (ltb 0 (length (rest p S))) (list_all (λ r. not (list_any (has (rest p S)) (head_atoms r.head)) || is_excused p (assigned p S) (rest p S) (normal r.body)) (rules_in_force p))
    (nonempty (rest p S) (λ none. false≢true (sym unstable ∙ stable_without_rest p S sound up unhit none)))
    (all_pass (λ r. not (list_any (has (rest p S)) (head_atoms r.head)) || is_excused p (assigned p S) (rest p S) (normal r.body)) (rules_in_force p)
    (each_weaker (λ r. Among (rules_in_force p) r × AllByRecursion (λ a. has (atoms_of p) a ≡ true) (body_atoms r.body))
    (λ r. (not (list_any (has (rest p S)) (head_atoms r.head)) || is_excused p (assigned p S) (rest p S) (normal r.body)) ≡ true) (λ r f.
    or_when (list_any (has (rest p S)) (head_atoms r.head)) (is_excused p (assigned p S) (rest p S) (normal r.body))
    (rule_excused p S r sound (read_by p S unhit) within f.0 (normal-stands (atoms_of p) r.body f.1))) (rules_in_force p)
    (each_both (Among (rules_in_force p)) (λ r. AllByRecursion (λ a. has (atoms_of p) a ≡ true) (body_atoms r.body)) (rules_in_force p) (each_among (rules_in_force p)) (rules_in_force-bodies p))))
