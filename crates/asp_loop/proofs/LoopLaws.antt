-- From the parts of the bodies to the loop nogood of the set.
use Rattle.std.proofs.Common.{◌≡◌, ℕ, zero, suc, ◌+◌, ◌-◌, ◌<◌, ◌≤◌, Bool, true, false, not, ◌&&◌, ◌||◌, eqb, ltb, List, [], ◌∷◌, ◌++◌, map, length, get_or, take, Option, refl, sym, ap, ◌∙◌, subst, arith, append_assoc}
use Rattle.std.specs.Prelude.{All}
use Rattle.std.specs.List.{list_any, list_all, flat_map, AllByRecursion}
use Rattle.std.proofs.lemmas.Bool.{false≢true, and_parts, and_from, eqb-true, eq-eqb}
use Rattle.std.proofs.lemmas.Bool.Decides.{nat_tests}
use Rattle.std.proofs.lemmas.List.{take_more, map-append}
use Rattle.std.proofs.lemmas.List.Folds.{list_any_at, list_all-append}
use Rattle.std.proofs.lemmas.List.Elements.{All-head, All-tail}
use Rattle.asp_model.specs.declared.program.Body.{Body}
use Rattle.asp_model.specs.declared.program.Body.TheVariants as body
use Rattle.asp_model.specs.declared.program.Rule.{Rule}
use Rattle.asp_model.specs.declared.program.Program.{Program}
use Rattle.asp_model.specs.Sets.{Atoms, has, set_of}
use Rattle.asp_model.specs.Models.{rules_in_force, atoms_of, head_atoms}
use Rattle.asp_model.specs.Sound.{IsSound}
use Rattle.asp_model.proofs.SetLaws.{has-set_of}
use Rattle.asp_model.proofs.MemberLaws.{list_any-flat_map}
use Rattle.asp_vars.specs.declared.nogood.Base.TheVariants as base
use Rattle.asp_vars.specs.Literals.{Literal, T, holds_in}
use Rattle.asp_vars.specs.Numbering.{normal, body_eq, bodies_of, place_of, var_of_atom, number_of_form, nth_atom, nth_body}
use Rattle.asp_vars.specs.Completion.{supports}
use Rattle.asp_vars.specs.Tabled.{IsBodyNumber}
use Rattle.asp_vars.specs.Unfounded.{is_excused, is_unfounded}
use Rattle.asp_vars.specs.Entailment.{Entailed}
use Rattle.asp_vars.proofs.NumberingLaws.{same_body, body_eq-itself}
use Rattle.asp_vars.proofs.StandingLaws.{Among, each_among, rule_has_form}
use Rattle.asp_vars.proofs.RowLaws.{support_numbers}
use Rattle.asp_vars.proofs.SupportLaws.{some, or_left, or_right, in_map, map_in, at_place, same_atom, form_in, in_forms, form_at-number}
use Rattle.asp_loop.specs.LoopNogoods.{supports_some, IsPart, AreParts, AreSupports, IsLoopNogood}
use Rattle.asp_loop.specs.Weighing.{AreVarsOf}
use Rattle.asp_loop.specs.Parts.{Adds, form_of, AddsAll, HasFirm}
use Rattle.asp_loop.proofs.EntailedLaws.{loop_entailed, any_of}
use Rattle.asp_loop.proofs.WeighLaws.{take_whole}
use Rattle.asp_loop.proofs.WeightedLaws.{by_recursion}

-- ---- one more part
parts-push : (p : Program) (U : Atoms) (bodies : List Body) (rest : List Literal) (b : Body) (part : List Literal) → AreParts p U bodies rest →
    IsPart p U b part → AreParts p U (bodies ++ b ∷ []) (rest ++ part)
parts-push p U [] rest b part h k = (part, [], ap (λ ls. ls ++ part) h ∙ append_nil part, k, refl)
  where
    append_nil : (xs : List Literal) → xs ≡ xs ++ []
    append_nil [] = refl
    append_nil (x ∷ xs) = ap (λ ys. x ∷ ys) (append_nil xs)
parts-push p U (c ∷ bodies) rest b part h k =
    (h.0, h.1 ++ part, ap (λ ls. ls ++ part) h.2 ∙ append_assoc h.0 h.1 part, h.3, parts-push p U bodies h.1 b part h.4 k)

each-push : {X : Type 0} (P : X → Type 0) (xs : List X) (x : X) → AllByRecursion P xs → P x → AllByRecursion P (xs ++ x ∷ [])
each-push P [] x h k = (k, tt)
each-push P (y ∷ xs) x h k = (h.0, each-push P xs x h.1 k)

adds_more : (p : Program) (x : List (Option Bool)) (U : Atoms) (bodies : List Body) (b : Body) (old middle new : List Literal) →
    AddsAll p x U bodies old middle → Adds p x U b middle new → AddsAll p x U (bodies ++ b ∷ []) old new
adds_more p x U bodies b old middle new h k = record {
  rest = h.rest ++ k.part;
  is = k.is ∙ ap (λ ls. ls ++ k.part) h.is ∙ append_assoc old h.rest k.part;
  shapes = parts-push p U bodies h.rest b k.part h.shapes k.shape;
  hold = list_all-append (holds_in x) h.rest k.part ∙ and_from (list_all (holds_in x) h.rest) (list_all (holds_in x) k.part) h.hold k.hold;
  excused = each-push (λ b. is_excused p x U b ≡ true) bodies b h.excused k.excused;
}

pub adds_next : (p : Program) (x : List (Option Bool)) (U : Atoms) (vars : List ℕ) (i j : ℕ) (old middle new : List Literal) → i < length vars →
    j ≡ get_or vars i 0 - length (atoms_of p) - 1 → AddsAll p x U (map (form_of p) (take i vars)) old middle → Adds p x U (nth_body p j) middle new →
    AddsAll p x U (map (form_of p) (take (i + 1) vars)) old new
adds_next p x U vars i j old middle new lt at h k =
    let longer : map (form_of p) (take i vars) ++ form_of p (get_or vars i 0) ∷ [] ≡ map (form_of p) (take (i + 1) vars) =
    sym (map-append (form_of p) (take i vars) (get_or vars i 0 ∷ [])) ∙ ap (map (form_of p)) (sym (take_more vars i 0 lt)) in
    subst (λ (bs : List Body). AddsAll p x U bs old new) longer
    (adds_more p x U (map (form_of p) (take i vars)) (form_of p (get_or vars i 0)) old middle new h (subst (λ (b : Body). Adds p x U b middle new) (ap (nth_body p) at) k))

pub adds_whole : (p : Program) (x : List (Option Bool)) (U : Atoms) (vars : List ℕ) (i : ℕ) (old new : List Literal) → length vars ≤ i →
    AddsAll p x U (map (form_of p) (take i vars)) old new → AddsAll p x U (map (form_of p) vars) old new
adds_whole p x U vars i old new end h = subst (λ (vs : List ℕ). AddsAll p x U (map (form_of p) vs) old new) (take_whole vars i end) h

pub one_firm : (p : Program) (x : List (Option Bool)) (U : Atoms) (vars : List ℕ) (i j : ℕ) → i < length vars →
    j ≡ get_or vars i 0 - length (atoms_of p) - 1 → is_excused p x U (nth_body p j) ≡ false → HasFirm p x U (map (form_of p) vars)
one_firm p x U vars i j lt at e = record {
  form = form_of p (get_or vars i 0);
  among = mapped vars ∙ list_any_at (λ v. body_eq (form_of p (get_or vars i 0)) (form_of p v)) vars i 0 lt (body_eq-itself (form_of p (get_or vars i 0)));
  firm = sym (ap (λ n. is_excused p x U (nth_body p n)) at) ∙ e;
}
  where
    mapped : (vs : List ℕ) → list_any (body_eq (form_of p (get_or vars i 0))) (map (form_of p) vs) ≡ list_any (λ v. body_eq (form_of p (get_or vars i 0)) (form_of p v)) vs
    mapped [] = refl
    mapped (v ∷ vs) = ap (λ b. body_eq (form_of p (get_or vars i 0)) (form_of p v) || b) (mapped vs)

-- ---- the set's variables
same_when : (a b : Bool) → (a ≡ true → b ≡ true) → (b ≡ true → a ≡ true) → a ≡ b
same_when true b f g = sym (f refl)
same_when false true f g = g refl
same_when false false f g = refl

pub members : (xs : List ℕ) → AllByRecursion (λ x. has xs x ≡ true) xs
members xs = sub xs xs (λ x e. e)
  where
    sub : (ys zs : List ℕ) → ((x : ℕ) → has zs x ≡ true → has ys x ≡ true) → AllByRecursion (λ x. has ys x ≡ true) zs
    sub ys [] f = tt
    sub ys (z ∷ zs) f = (f z (or_left (eqb z z) (has zs z) (eq-eqb z z refl)), sub ys zs (λ x e. f x (or_right (eqb z x) (has zs x) e)))

both_each : {X : Type 0} (P Q : X → Type 0) (xs : List X) → AllByRecursion P xs → AllByRecursion Q xs → AllByRecursion (λ x. P x × Q x) xs
both_each P Q [] h k = tt
both_each P Q (x ∷ xs) h k = ((h.0, k.0), both_each P Q xs h.1 k.1)

pub vars_are : (p : Program) (U vars : Atoms) → All (λ a. has (atoms_of p) a ≡ true) U → vars ≡ set_of (map (var_of_atom p) U) → AreVarsOf p U vars
vars_are p U vars stand is a stands =
    ap (λ vs. has vs (var_of_atom p a)) is ∙ has-set_of (map (var_of_atom p) U) (var_of_atom p a)
    ∙ same_when (has (map (var_of_atom p) U) (var_of_atom p a)) (has U a) forth (map_in (var_of_atom p) U a)
  where
    forth : has (map (var_of_atom p) U) (var_of_atom p a) ≡ true → has U a ≡ true
    forth e =
        let found = in_map (λ c. (has (atoms_of p) c ≡ true) × (has U c ≡ true)) (var_of_atom p) U (var_of_atom p a)
        (both_each (λ c. has (atoms_of p) c ≡ true) (λ c. has U c ≡ true) U (by_recursion (λ c. has (atoms_of p) c ≡ true) U stand) (members U)) e
        in
        subst (λ (c : ℕ). has U c ≡ true) (same_atom p found.0 a found.1.0 stands found.2) found.1.1

-- ---- the supporting bodies
in_flat : (f : ℕ → List ℕ) (xs : List ℕ) (v : ℕ) → has (flat_map f xs) v ≡ list_any (λ a. has (f a) v) xs
in_flat f xs v = list_any-flat_map (λ b. eqb b v) f xs

pub supports_are : (p : Program) (U vars : Atoms) → vars ≡ set_of (flat_map (supports p) U) → AreSupports p U (map (form_of p) vars)
supports_are p U vars is b = same_when (list_any (body_eq b) (map (form_of p) vars)) (supports_some p U b) forth back
  where
    mapped : (vs : List ℕ) → list_any (body_eq b) (map (form_of p) vs) ≡ list_any (λ v. body_eq b (form_of p v)) vs
    mapped [] = refl
    mapped (v ∷ vs) = ap (λ t. body_eq b (form_of p v) || t) (mapped vs)

    of_var : (v : ℕ) → has vars v ≡ list_any (λ a. has (supports p a) v) U
    of_var v = ap (λ vs. has vs v) is ∙ has-set_of (flat_map (supports p) U) v ∙ in_flat (supports p) U v

    forth : list_any (body_eq b) (map (form_of p) vars) ≡ true → supports_some p U b ≡ true
    forth e =
        let v = some (λ v. has vars v ≡ true) (λ v. body_eq b (form_of p v)) vars (members vars) (sym (mapped vars) ∙ e) in
        let a = some (λ a. has U a ≡ true) (λ a. has (supports p a) v.0) U (members U) (sym (of_var v.0) ∙ v.1) in
        let form = in_forms p a.0 v.0 a.2 in
        let same : form.0 ≡ b = sym (form_at-number p form.0 form.1.0.0) ∙ ap (form_of p) form.2 ∙ sym (same_body b (form_of p v.0) v.2) in
        let rule = some (Among (rules_in_force p)) (λ (r : Rule). has (head_atoms r.head) a.0 && body_eq (normal r.body) form.0) (rules_in_force p) (each_among (rules_in_force p)) form.1.1 in
        let parts = and_parts (has (head_atoms rule.0.head) a.0) (body_eq (normal rule.0.body) form.0) rule.2 in
        rule.1 (λ r. list_any (has U) (head_atoms r.head) && body_eq (normal r.body) b)
        (and_from (list_any (has U) (head_atoms rule.0.head)) (body_eq (normal rule.0.body) b)
        (any_of (has U) (head_atoms rule.0.head) a.0 parts.0 a.1) (ap (body_eq (normal rule.0.body)) (sym same) ∙ parts.1))

    back : supports_some p U b ≡ true → list_any (body_eq b) (map (form_of p) vars) ≡ true
    back e =
        let rule = some (Among (rules_in_force p)) (λ r. list_any (has U) (head_atoms r.head) && body_eq (normal r.body) b) (rules_in_force p) (each_among (rules_in_force p)) e in
        let parts = and_parts (list_any (has U) (head_atoms rule.0.head)) (body_eq (normal rule.0.body) b) rule.2 in
        let same : normal rule.0.body ≡ b = same_body (normal rule.0.body) b parts.1 in
        let listed : list_any (body_eq b) (bodies_of p) ≡ true = ap (λ c. list_any (body_eq c) (bodies_of p)) (sym same) ∙ rule_has_form p rule.0 rule.1 in
        let a = some (λ a. has (head_atoms rule.0.head) a ≡ true) (has U) (head_atoms rule.0.head) (members (head_atoms rule.0.head)) parts.0 in
        let test : Body → Bool = λ c. list_any (λ (r : Rule). has (head_atoms r.head) a.0 && body_eq (normal r.body) c) (rules_in_force p) in
        let passes : test b ≡ true =
        rule.1 (λ r. has (head_atoms r.head) a.0 && body_eq (normal r.body) b)
        (and_from (has (head_atoms rule.0.head) a.0) (body_eq (normal rule.0.body) b) a.1 parts.1) in
        let supported : has (supports p a.0) (number_of_form p b) ≡ true = form_in p test b (bodies_of p) listed passes in
        let there : has vars (number_of_form p b) ≡ true = of_var (number_of_form p b) ∙ any_of (λ c. has (supports p c) (number_of_form p b)) U a.0 a.2 supported in
        mapped vars ∙ any_of (λ v. body_eq b (form_of p v)) vars (number_of_form p b) there (ap (body_eq b) (form_at-number p b listed) ∙ body_eq-itself b)

is_at : (xs : List ℕ) (k : ℕ) (d : ℕ) → k < length xs → has xs (get_or xs k d) ≡ true
is_at [] k d lt = absurd (omega arith)
is_at (x ∷ xs) zero d lt = or_left (eqb x x) (has xs x) (eq-eqb x x refl)
is_at (x ∷ xs) (suc k) d lt = or_right (eqb x (get_or xs k d)) (has xs (get_or xs k d)) (is_at xs k d (omega arith))

pub vars_of_bodies : (p : Program) (U vars : Atoms) → vars ≡ set_of (flat_map (supports p) U) → All (IsBodyNumber p) vars
vars_of_bodies p U vars is k d lt =
    let v : ℕ = get_or vars k d in
    let a = some (λ a. has U a ≡ true) (λ a. has (supports p a) v) U (members U)
    (sym (ap (λ vs. has vs v) is ∙ has-set_of (flat_map (supports p) U) v ∙ in_flat (supports p) U v) ∙ is_at vars k d lt) in
    let found = some (IsBodyNumber p) (λ w. eqb w v) (supports p a.0) (support_numbers p a.0) a.2 in
    subst (IsBodyNumber p) (eqb-true found.0 v found.2) found.1

pub supports_more : (p : Program) (xs : List ℕ) (i v : ℕ) (old new row : List ℕ) → i < length xs → has (atoms_of p) (get_or xs i 0) ≡ true →
    v ≡ var_of_atom p (get_or xs i 0) → row ≡ supports p (nth_atom p (v - 1)) → old ≡ flat_map (supports p) (take i xs) → new ≡ old ++ row →
    new ≡ flat_map (supports p) (take (i + 1) xs)
supports_more p xs i v old new row lt stands at is before after =
    let back : v - 1 ≡ place_of (λ b. eqb b (get_or xs i 0)) (atoms_of p) = omega (arith, at) in
    let same : row ≡ supports p (get_or xs i 0) = is ∙ ap (λ n. supports p (nth_atom p n)) back ∙ ap (supports p) (at_place (atoms_of p) (get_or xs i 0) stands) in
    after ∙ ap (λ ys. ys ++ row) before ∙ ap (λ ys. flat_map (supports p) (take i xs) ++ ys) (same ∙ append_nil (supports p (get_or xs i 0)))
    ∙ sym (flat-append (take i xs) (get_or xs i 0 ∷ [])) ∙ ap (flat_map (supports p)) (sym (take_more xs i 0 lt))
  where
    append_nil : (ys : List ℕ) → ys ≡ ys ++ []
    append_nil [] = refl
    append_nil (y ∷ ys) = ap (λ zs. y ∷ zs) (append_nil ys)

    flat-append : (ys zs : List ℕ) → flat_map (supports p) (ys ++ zs) ≡ flat_map (supports p) ys ++ flat_map (supports p) zs
    flat-append [] zs = refl
    flat-append (y ∷ ys) zs = ap (λ r. supports p y ++ r) (flat-append ys zs) ∙ sym (append_assoc (supports p y) (flat_map (supports p) ys) (flat_map (supports p) zs))

-- ---- unfounded or not
nonempty : (U : Atoms) (a : ℕ) → has U a ≡ true → ltb 0 (length U) ≡ true
nonempty [] a e = absurd (false≢true e)
nonempty (x ∷ U) a e = grind (arith, nat_tests)

all_pass : {X : Type 0} (q : X → Bool) (xs : List X) → AllByRecursion (λ x. q x ≡ true) xs → list_all q xs ≡ true
all_pass q [] h = refl
all_pass q (x ∷ xs) h = and_from (q x) (list_all q xs) h.0 (all_pass q xs h.1)

each_weaker : {X : Type 0} (P Q : X → Type 0) → ((x : X) → P x → Q x) → (xs : List X) → AllByRecursion P xs → AllByRecursion Q xs
each_weaker P Q f [] h = tt
each_weaker P Q f (x ∷ xs) h = (f x h.0, each_weaker P Q f xs h.1)

abbrev pub rule_excused : Program → List (Option Bool) → Atoms → Rule → Bool
rule_excused p x U r = not (list_any (has U) (head_atoms r.head)) || is_excused p x U (normal r.body)

pub all_excused : (p : Program) (x : List (Option Bool)) (U : Atoms) (a : ℕ) (bodies : List Body) → has U a ≡ true → AreSupports p U bodies →
    AllByRecursion (λ b. is_excused p x U b ≡ true) bodies → is_unfounded p x U ≡ true
all_excused p x U a bodies member supports_ excused =
    and_from (ltb 0 (length U)) (list_all (rule_excused p x U) (rules_in_force p)) (nonempty U a member)
    (all_pass (rule_excused p x U) (rules_in_force p) (each_weaker (Among (rules_in_force p)) (λ r. rule_excused p x U r ≡ true)
    (λ r m. cases r m (list_any (has U) (head_atoms r.head)) refl) (rules_in_force p) (each_among (rules_in_force p))))
  where
    cases : (r : Rule) → Among (rules_in_force p) r → (t : Bool) → t ≡ list_any (has U) (head_atoms r.head) → rule_excused p x U r ≡ true
    cases r m false q = ap (λ t. not t || is_excused p x U (normal r.body)) (sym q)
    cases r m true q =
        let supported : supports_some p U (normal r.body) ≡ true =
        m (λ s. list_any (has U) (head_atoms s.head) && body_eq (normal s.body) (normal r.body))
        (and_from (list_any (has U) (head_atoms r.head)) (body_eq (normal r.body) (normal r.body)) (sym q) (body_eq-itself (normal r.body))) in
        let found = some (λ b. is_excused p x U b ≡ true) (body_eq (normal r.body)) bodies excused (supports_ (normal r.body) ∙ supported) in
        or_right (not (list_any (has U) (head_atoms r.head))) (is_excused p x U (normal r.body)) (ap (is_excused p x U) (same_body (normal r.body) found.0 found.2) ∙ found.1)

pub firm_founded : (p : Program) (x : List (Option Bool)) (U : Atoms) (bodies : List Body) → AreSupports p U bodies → HasFirm p x U bodies → is_unfounded p x U ≡ false
firm_founded p x U bodies supports_ h =
    let rule = some (Among (rules_in_force p)) (λ r. list_any (has U) (head_atoms r.head) && body_eq (normal r.body) h.form) (rules_in_force p)
    (each_among (rules_in_force p)) (sym (supports_ h.form) ∙ h.among) in
    let parts = and_parts (list_any (has U) (head_atoms rule.0.head)) (body_eq (normal rule.0.body) h.form) rule.2 in
    let fails : rule_excused p x U rule.0 ≡ false = ap (λ t. not t || is_excused p x U (normal rule.0.body)) parts.0 ∙ ap (is_excused p x U) (same_body (normal rule.0.body) h.form parts.1) ∙ h.firm in
    cases rule.0 rule.1 fails (is_unfounded p x U) refl
  where
    cases : (r : Rule) → Among (rules_in_force p) r → rule_excused p x U r ≡ false → (t : Bool) → t ≡ is_unfounded p x U → is_unfounded p x U ≡ false
    cases r m fails false q = sym q
    cases r m fails true q =
        let all : list_all (rule_excused p x U) (rules_in_force p) ≡ true = (and_parts (ltb 0 (length U)) (list_all (rule_excused p x U) (rules_in_force p)) (sym q)).1 in
        let found = some (λ s. rule_excused p x U s ≡ true) (λ s. not (rule_excused p x U s)) (rules_in_force p) (each_passes (rules_in_force p) all)
        (m (λ s. not (rule_excused p x U s)) (ap not fails)) in
        absurd (false≢true (sym (ap not found.1) ∙ found.2))
      where
        each_passes : (rs : List Rule) → list_all (rule_excused p x U) rs ≡ true → AllByRecursion (λ s. rule_excused p x U s ≡ true) rs
        each_passes [] e = tt
        each_passes (s ∷ rs) e = let both = and_parts (rule_excused p x U s) (list_all (rule_excused p x U) rs) e in (both.0, each_passes rs both.1)

pub loop_nogood_is : (p : Program) (x : List (Option Bool)) (U vars : Atoms) (a : ℕ) (start lits : List Literal) → IsSound p → has U a ≡ true →
    has (atoms_of p) a ≡ true → vars ≡ set_of (flat_map (supports p) U) → start ≡ T (var_of_atom p a) ∷ [] →
    AddsAll p x U (map (form_of p) vars) start lits → IsLoopNogood p x U a (record { lits = lits; base = base.Pure })
loop_nogood_is p x U vars a start lits sound member stands is first h =
    let shape : lits ≡ T (var_of_atom p a) ∷ h.rest = h.is ∙ ap (λ ls. ls ++ h.rest) first in
    let supports_ : AreSupports p U (map (form_of p) vars) = supports_are p U vars is in
    record {
      unfounded = all_excused p x U a (map (form_of p) vars) member supports_ h.excused;
      pure = refl;
      bodies = map (form_of p) vars;
      rest = h.rest;
      are_supports = supports_;
      literals = shape;
      parts = h.shapes;
      hold = h.hold;
      entailed = subst (λ (ls : List Literal). Entailed p ls) (sym shape) (loop_entailed p U a (map (form_of p) vars) h.rest sound member stands supports_ h.shapes);
    }

pub member_stands : (p : Program) (U : Atoms) (a : ℕ) → All (λ b. has (atoms_of p) b ≡ true) U → has U a ≡ true → has (atoms_of p) a ≡ true
member_stands p [] a h e = absurd (false≢true e)
member_stands p (x ∷ U) a h e = cases (eqb x a) refl (member_stands p U a (All-tail (λ b. has (atoms_of p) b ≡ true) x U h))
  where
    cases : (t : Bool) → t ≡ eqb x a → (has U a ≡ true → has (atoms_of p) a ≡ true) → has (atoms_of p) a ≡ true
    cases true q later = subst (λ (y : ℕ). has (atoms_of p) y ≡ true) (eqb-true x a (sym q)) (All-head (λ b. has (atoms_of p) b ≡ true) x U h)
    cases false q later = later (ap (λ t. t || has U a) q ∙ e)

abbrev pub form_of-all : Program → List ℕ → List Body
form_of-all p vars = map (form_of p) vars
