-- Whether a set is stable, by what was derived of it.
use Rattle.std.proofs.Common.{◌≡◌, ℕ, ◌+◌, ◌<◌, ◌≤◌, Bool, true, false, not, cond, ◌&&◌, ◌||◌, eqb, List, [], ◌∷◌, filter, length, set, Option, Some, None, refl, sym, ap, ◌∙◌, subst, arith, add-one}
use Rattle.std.specs.Prelude.{is_none}
use Rattle.std.specs.List.{list_any, list_all, flat_map, AllByRecursion}
use Rattle.std.proofs.lemmas.Bool.{false≢true, and_parts, and_from, eqb-true, eq-eqb}
use Rattle.std.proofs.lemmas.List.{length-set, get_or-set_same, get_or-set_other}
use Rattle.asp_model.specs.declared.program.Body.{Body}
use Rattle.asp_model.specs.declared.program.Head.{Head}
use Rattle.asp_model.specs.declared.program.Head.TheVariants as head
use Rattle.asp_model.specs.declared.program.Rule.{Rule}
use Rattle.asp_model.specs.declared.program.Program.{Program}
use Rattle.asp_model.specs.Sets.{Atoms, has, same_set, IsAscending, IsSubset}
use Rattle.asp_model.specs.Holding.{body_holds, body_atoms}
use Rattle.asp_model.specs.Reduct.{reduct, reduct_heads, step}
use Rattle.asp_model.specs.Reading.{body_holds_between, derived_heads}
use Rattle.asp_model.specs.Models.{rules_in_force, atoms_of, mentions, least_model, head_atoms, is_never, is_violated, is_stable}
use Rattle.asp_model.specs.Sound.{IsSound}
use Rattle.asp_model.proofs.SetLaws.{has-set_of, IsAscending-set_of, same_from_has}
use Rattle.asp_model.proofs.MemberLaws.{HasAll, HasAll-itself, list_any-flat_map, each_passes}
use Rattle.asp_model.proofs.ListedLaws.{same_set-itself}
use Rattle.asp_model.proofs.StepLaws.{closed_from_step}
use Rattle.asp_model.proofs.ModelLaws.{least_model-least, least_model-ascends, least_model-derived, stable-least, same_bools}
use Rattle.asp_model.proofs.ReadingLaws.{step_read, same_body}
use Rattle.asp_model.proofs.ReductLaws.{rules_in_force-heads}
use Rattle.asp_vars.specs.Literals.{T, F, agrees, value_of, holds_in}
use Rattle.asp_vars.specs.Numbering.{normal, body_eq, bodies_of, nth_atom, place_of, var_count, var_of_atom}
use Rattle.asp_vars.specs.Tabled.{heads_of}
use Rattle.asp_vars.proofs.NumberingLaws.{same_body as equal_body, body_eq-itself}
use Rattle.asp_vars.proofs.NormalLaws.{body_holds_between-normal}
use Rattle.asp_vars.proofs.PlaceLaws.{place_of-within, at_each, var_of_nth_atom}
use Rattle.asp_vars.proofs.StandingLaws.{Among, each_among, each_both, rule_has_form, normal-stands, rules_in_force-bodies}
use Rattle.asp_vars.proofs.SupportLaws.{some, map_in, member, at_place}
use Rattle.asp_loop.proofs.FoundedLaws.{has-filter}
use Rattle.asp_found.specs.Verdicts.{is_kept}
use Rattle.asp_found.proofs.RestLaws.{none_passes}
use Rattle.asp_found.proofs.VerdictLaws.{and_parts'}
use Rattle.asp_member.specs.Founding.{passes, derived, AreFounded, AreWhole, is_done, keeps}
use Rattle.asp_member.proofs.FoundingLaws.{not_both, some_true, some_value, has-derived, body_link, steps_to, in_least, within_least}

-- ---- lists
-- an element that fails the test
fails : {X : Type 0} (P : X → Type 0) (q : X → Bool) (xs : List X) → AllByRecursion P xs → list_all q xs ≡ false → (x : X) × P x × (q x ≡ false)
fails P q [] h e = absurd (false≢true (sym e))
fails {X = X} P q (x ∷ xs) h e = cases (q x) refl (fails P q xs h.1)
  where
    cases : (t : Bool) → t ≡ q x → (list_all q xs ≡ false → (y : X) × P y × (q y ≡ false)) → (y : X) × P y × (q y ≡ false)
    cases false s later = (x, h.0, sym s)
    cases true s later = later (ap (λ t. t && list_all q xs) s ∙ e)

-- what passes for all passes for a member
all_has : (q : ℕ → Bool) (xs : List ℕ) (v : ℕ) → list_all q xs ≡ true → has xs v ≡ true → q v ≡ true
all_has q [] v e h = absurd (false≢true h)
all_has q (x ∷ xs) v e h = cases (eqb x v) refl (all_has q xs v (and_parts (q x) (list_all q xs) e).1)
  where
    cases : (t : Bool) → t ≡ eqb x v → (has xs v ≡ true → q v ≡ true) → q v ≡ true
    cases true s later = subst (λ (u : ℕ). q u ≡ true) (eqb-true x v (sym s)) (and_parts (q x) (list_all q xs) e).0
    cases false s later = later (ap (λ t. t || has xs v) s ∙ h)

above-filter : (q : ℕ → Bool) (a : ℕ) (xs : List ℕ) → AllByRecursion (λ b. a < b) xs → AllByRecursion (λ b. a < b) (filter q xs)
above-filter q a [] h = tt
above-filter q a (x ∷ xs) h = cases (q x) refl (above-filter q a xs h.1)
  where
    cases : (t : Bool) → t ≡ q x → AllByRecursion (λ b. a < b) (filter q xs) → AllByRecursion (λ b. a < b) (filter q (x ∷ xs))
    cases true e rest = rw (← e) (h.0, rest)
    cases false e rest = rw (← e) rest

IsAscending-filter : (q : ℕ → Bool) (S : Atoms) → IsAscending S → IsAscending (filter q S)
IsAscending-filter q [] h = tt
IsAscending-filter q (a ∷ S) h = cases (q a) refl (IsAscending-filter q S h.1)
  where
    cases : (t : Bool) → t ≡ q a → IsAscending (filter q S) → IsAscending (filter q (a ∷ S))
    cases true e rest = rw (← e) (above-filter q a S h.0, rest)
    cases false e rest = rw (← e) rest

-- ---- rules
-- what is known of each rule
record Sure (p : Program) (r : Rule) : Type 0 where
  pub among : Among (rules_in_force p) r
  pub heads : HasAll (atoms_of p) (head_atoms r.head)
  pub bodies : HasAll (atoms_of p) (body_atoms r.body)

sure : (p : Program) → AllByRecursion (Sure p) (rules_in_force p)
sure p = joined (rules_in_force p) (each_among (rules_in_force p)) (rules_in_force-heads p) (rules_in_force-bodies p)
  where
    joined : (rs : List Rule) → AllByRecursion (Among (rules_in_force p)) rs →
        AllByRecursion (λ (r : Rule). HasAll (atoms_of p) (head_atoms r.head)) rs →
        AllByRecursion (λ (r : Rule). HasAll (atoms_of p) (body_atoms r.body)) rs → AllByRecursion (Sure p) rs
    joined [] a h b = tt
    joined (r ∷ rs) a h b = (record { among = a.0; heads = h.0; bodies = b.0 }, joined rs a.1 h.1 b.1)

derived_by : (S D : Atoms) (r : Rule) (a : ℕ) → has (derived_heads S D r) a ≡ true → (body_holds_between S D r.body ≡ true) × (has (reduct_heads S r.head) a ≡ true)
derived_by S D r a e = cases (body_holds_between S D r.body) refl
  where
    cases : (b : Bool) → b ≡ body_holds_between S D r.body → (body_holds_between S D r.body ≡ true) × (has (reduct_heads S r.head) a ≡ true)
    cases true q = (sym q, ap (λ b. has (cond b (reduct_heads S r.head) []) a) q ∙ e)
    cases false q = absurd (false≢true (ap (λ b. has (cond b (reduct_heads S r.head) []) a) q ∙ e))

-- a rule by which a step comes to an atom
stepped : (p : Program) (S D : Atoms) (a : ℕ) (P : Rule → Type 0) → AllByRecursion P (rules_in_force p) →
    has (step (reduct S (rules_in_force p)) D) a ≡ true → (r : Rule) × P r ×
    ((body_holds_between S D r.body ≡ true) × (has (reduct_heads S r.head) a ≡ true))
stepped p S D a P all e =
    let rule = some P (λ r. has (derived_heads S D r) a) (rules_in_force p) all
    (sym (list_any-flat_map (λ b. eqb b a) (derived_heads S D) (rules_in_force p))
    ∙ sym (has-set_of (flat_map (derived_heads S D) (rules_in_force p)) a) ∙ sym (ap (λ U. has U a) (step_read S D (rules_in_force p))) ∙ e)
    in
    (rule.0, rule.1, derived_by S D rule.0 a rule.2)

kept_in : (S : Atoms) (h : Head) (a : ℕ) → has (reduct_heads S h) a ≡ true → is_kept S h ≡ true → has S a ≡ true
kept_in S (head.One b) a e k = cases (eqb b a) refl
  where
    cases : (t : Bool) → t ≡ eqb b a → has S a ≡ true
    cases true q = subst (λ (x : ℕ). has S x ≡ true) (eqb-true b a (sym q)) k
    cases false q = absurd (false≢true (ap (λ t. t || false) q ∙ e))
kept_in S (head.Choice atoms) a e k = (and_parts (has S a) (has atoms a) (sym (has-filter (has S) atoms a) ∙ e)).0
kept_in S head.Never a e k = absurd (false≢true e)

in_head : (S : Atoms) (h : Head) (a : ℕ) → has (reduct_heads S h) a ≡ true → has (head_atoms h) a ≡ true
in_head S (head.One b) a e = e
in_head S (head.Choice atoms) a e = (and_parts (has S a) (has atoms a) (sym (has-filter (has S) atoms a) ∙ e)).1
in_head S head.Never a e = e

implied : (a b : Bool) → (not a || b) ≡ true → a ≡ true → b ≡ true
implied true b e f = e
implied false b e f = absurd (false≢true f)

unviolated : (S : Atoms) (h : Head) (b : Bool) → (not b || is_kept S h) ≡ true → (is_never h && b) ≡ false
unviolated S (head.One a) b e = refl
unviolated S (head.Choice atoms) b e = refl
unviolated S head.Never true e = absurd (false≢true e)
unviolated S head.Never false e = refl

-- ---- where all atoms have values
value_at : (p : Program) (x : List (Option Bool)) (a : ℕ) → AreWhole x (length (atoms_of p)) → has (atoms_of p) a ≡ true → is_none (value_of x (var_of_atom p a)) ≡ false
value_at p x a whole stands =
    let k : ℕ = place_of (λ b. eqb b a) (atoms_of p) in
    ap (λ v. is_none (value_of x v)) (sym (add-one k)) ∙ whole k (place_of-within (λ b. eqb b a) (atoms_of p) stands)

whole_same : (p : Program) (S : Atoms) (x : List (Option Bool)) → AreFounded p S x → AreWhole x (length (atoms_of p)) → IsAscending S → IsSubset S (atoms_of p) → derived p x ≡ S
whole_same p S x h whole up within =
    same_from_has (derived p x) S (IsAscending-filter (λ c. holds_in x (T (var_of_atom p c))) (atoms_of p) (IsAscending-set_of (mentions p))) up (λ a.
    same_bools (has (derived p x) a) (has S a) (to a) (from a))
  where
    to : (a : ℕ) → has (derived p x) a ≡ true → has S a ≡ true
    to a e =
        let parts = and_parts (holds_in x (T (var_of_atom p a))) (has (atoms_of p) a) (sym (has-filter (λ c. holds_in x (T (var_of_atom p c))) (atoms_of p) a) ∙ e) in
        cases (has S a) refl parts.0 parts.1
      where
        cases : (t : Bool) → t ≡ has S a → holds_in x (T (var_of_atom p a)) ≡ true → has (atoms_of p) a ≡ true → has S a ≡ true
        cases true q held stands = sym q
        cases false q held stands = absurd (not_both (value_of x (var_of_atom p a)) (var_of_atom p a) held (h.outside a stands ∙ ap not (sym q)))

    from : (a : ℕ) → has S a ≡ true → has (derived p x) a ≡ true
    from a e =
        let stands = within a e in
        has-derived p x a stands ∙ some_true (value_of x (var_of_atom p a)) (var_of_atom p a) (value_at p x a whole stands) (h.outside a stands ∙ ap not e)

-- then a rule's body holds by the values where it holds in the set
held_is : (p : Program) (S : Atoms) (x : List (Option Bool)) (r : Rule) → AreFounded p S x → derived p x ≡ S → Sure p r → passes p (holds_in x) (normal r.body) ≡ body_holds S r.body
held_is p S x r h same s =
    body_link p S x (normal r.body) h (normal-stands (atoms_of p) r.body s.bodies) ∙ ap (λ D. body_holds_between S D (normal r.body)) same ∙ body_holds_between-normal S S r.body ∙ same_body S r.body

kept_stable : (p : Program) (S : Atoms) (x : List (Option Bool)) → IsSound p → IsAscending S → IsSubset S (atoms_of p) → AreFounded p S x →
    AreWhole x (length (atoms_of p)) → list_all (keeps p S x) (rules_in_force p) ≡ true → is_stable p S ≡ true
kept_stable p S x sound up within h whole kept =
    and_from (same_set S (least_model p S)) (not (list_any (is_violated S) (rules_in_force p)))
    (ap (same_set S) (sym least) ∙ same_set-itself S) (ap not unviolated_)
  where
    same : derived p x ≡ S
    same = whole_same p S x h whole up within

    each : AllByRecursion (λ r. Sure p r × (keeps p S x r ≡ true)) (rules_in_force p)
    each = each_both (Sure p) (λ r. keeps p S x r ≡ true) (rules_in_force p) (sure p) (each_passes (keeps p S x) (rules_in_force p) kept)

    held : (r : Rule) → Sure p r × (keeps p S x r ≡ true) → (not (body_holds S r.body) || is_kept S r.head) ≡ true
    held r s = ap (λ b. not b || is_kept S r.head) (sym (held_is p S x r h same s.0)) ∙ s.1

    closed : IsSubset (step (reduct S (rules_in_force p)) S) S
    closed a e =
        let rule = stepped p S S a (λ r. Sure p r × (keeps p S x r ≡ true)) each e in
        kept_in S rule.0.head a rule.2.1 (implied (body_holds S rule.0.body) (is_kept S rule.0.head) (held rule.0 rule.1) (sym (same_body S rule.0.body) ∙ rule.2.0))

    least : S ≡ least_model p S
    least =
        same_from_has S (least_model p S) up (least_model-ascends p S) (λ a.
        same_bools (has S a) (has (least_model p S) a)
        (λ e. within_least p S x h a (ap (λ D. has D a) same ∙ e))
        (least_model-least p S S sound (closed_from_step (reduct S (rules_in_force p)) S closed) a))

    unviolated_ : list_any (is_violated S) (rules_in_force p) ≡ false
    unviolated_ =
        none_passes (is_violated S) (rules_in_force p)
        (each_unviolated (rules_in_force p) each)
      where
        each_unviolated : (rs : List Rule) → AllByRecursion (λ r. Sure p r × (keeps p S x r ≡ true)) rs → AllByRecursion (λ r. is_violated S r ≡ false) rs
        each_unviolated [] k = tt
        each_unviolated (r ∷ rs) k = (unviolated S r.head (body_holds S r.body) (held r k.0), each_unviolated rs k.1)

unless : (b : Bool) → (b ≡ true → ⊥) → b ≡ false
unless true f = absurd (f refl)
unless false f = refl

unkept_unstable : (p : Program) (S : Atoms) (x : List (Option Bool)) → IsSound p → IsAscending S → IsSubset S (atoms_of p) → AreFounded p S x →
    AreWhole x (length (atoms_of p)) → list_all (keeps p S x) (rules_in_force p) ≡ false → is_stable p S ≡ false
unkept_unstable p S x sound up within h whole kept = unless (is_stable p S) (λ stable.
    let rule = fails (Sure p) (keeps p S x) (rules_in_force p) (sure p) kept in
    let parts = and_parts' (passes p (holds_in x) (normal rule.0.body)) (is_kept S rule.0.head) rule.2 in
    refuted rule.0 rule.0.head refl rule.1.among (sym (held_is p S x rule.0 h (whole_same p S x h whole up within) rule.1) ∙ parts.0) parts.1 stable)
  where
    refuted : (r : Rule) (k : Head) → r.head ≡ k → Among (rules_in_force p) r → body_holds S r.body ≡ true → is_kept S k ≡ false → is_stable p S ≡ true → ⊥
    refuted r (head.One a) is m held unkept stable =
        let heads : has (reduct_heads S r.head) a ≡ true = ap (λ (k : Head). has (reduct_heads S k) a) is ∙ ap (λ t. t || false) (eq-eqb a a refl) in
        let up = steps_to p S S r a m (same_body S r.body ∙ held) heads in
        let least = stable-least p S stable in
        let here : has S a ≡ true = ap (λ U. has U a) (least ∙ sym (least_model-derived p S sound) ∙ ap (step (reduct S (rules_in_force p))) (sym least)) ∙ up in
        false≢true (sym unkept ∙ here)
    refuted r (head.Choice atoms) is m held unkept stable = false≢true (sym unkept)
    refuted r head.Never is m held unkept stable =
        let violated : list_any (is_violated S) (rules_in_force p) ≡ true = m (is_violated S) (ap (λ (k : Head). is_never k && body_holds S r.body) is ∙ held) in
        let clear = (and_parts (same_set S (least_model p S)) (not (list_any (is_violated S) (rules_in_force p))) stable).1 in
        false≢true (sym (ap not violated) ∙ clear)

-- so the rules decide
pub whole_decides : (p : Program) (S : Atoms) (x : List (Option Bool)) → IsSound p → IsAscending S → IsSubset S (atoms_of p) → AreFounded p S x →
    AreWhole x (length (atoms_of p)) → list_all (keeps p S x) (rules_in_force p) ≡ is_stable p S
whole_decides p S x sound up within h whole = cases (list_all (keeps p S x) (rules_in_force p)) refl
  where
    cases : (t : Bool) → t ≡ list_all (keeps p S x) (rules_in_force p) → list_all (keeps p S x) (rules_in_force p) ≡ is_stable p S
    cases true q = sym q ∙ sym (kept_stable p S x sound up within h whole (sym q))
    cases false q = sym q ∙ sym (unkept_unstable p S x sound up within h whole (sym q))

-- ---- where some have none, and no body derives more
heads_have : (p : Program) (r : Rule) (a : ℕ) → Among (rules_in_force p) r → has (head_atoms r.head) a ≡ true → has (heads_of p (normal r.body)) (var_of_atom p a) ≡ true
heads_have p r a m e =
    let b : Body = normal r.body in
    let f : Rule → List ℕ = λ s. cond (body_eq (normal s.body) b) (head_atoms s.head) [] in
    map_in (var_of_atom p) (flat_map f (rules_in_force p)) a
    (list_any-flat_map (λ c. eqb c a) f (rules_in_force p)
    ∙ m (λ s. has (cond (body_eq (normal s.body) b) (head_atoms s.head) []) a)
    (ap (λ t. has (cond t (head_atoms r.head) []) a) (body_eq-itself b) ∙ e))

pub closed_unstable : (p : Program) (S : Atoms) (x : List (Option Bool)) → IsSound p → AreFounded p S x →
    list_all (is_done p x) (bodies_of p) ≡ true → (AreWhole x (length (atoms_of p)) → ⊥) → is_stable p S ≡ false
closed_unstable p S x sound h done broken = unless (is_stable p S) (λ stable. broken (λ v lt. whole stable v lt))
  where
    form_done : (r : Rule) → Sure p r → is_done p x (normal r.body) ≡ true
    form_done r s =
        let found = some (λ b. is_done p x b ≡ true) (body_eq (normal r.body)) (bodies_of p) (each_passes (is_done p x) (bodies_of p) done) (rule_has_form p r s.among) in
        ap (is_done p x) (equal_body (normal r.body) found.0 found.2) ∙ found.1

    closed : is_stable p S ≡ true → IsSubset (step (reduct S (rules_in_force p)) (derived p x)) (derived p x)
    closed stable a e =
        let in_set : has S a ≡ true = ap (λ U. has U a) (stable-least p S stable) ∙ in_least p S (derived p x) a sound (within_least p S x h) e in
        let rule = stepped p S (derived p x) a (Sure p) (sure p) e in
        let head_ = in_head S rule.0.head a rule.2.1 in
        let stands = member (atoms_of p) (head_atoms rule.0.head) a rule.1.heads head_ in
        let held : passes p (holds_in x) (normal rule.0.body) ≡ true =
        body_link p S x (normal rule.0.body) h (normal-stands (atoms_of p) rule.0.body rule.1.bodies) ∙ body_holds_between-normal S (derived p x) rule.0.body ∙ rule.2.0 in
        let all : list_all (λ v. not (is_none (value_of x v))) (heads_of p (normal rule.0.body)) ≡ true =
        implied (passes p (holds_in x) (normal rule.0.body)) (list_all (λ v. not (is_none (value_of x v))) (heads_of p (normal rule.0.body)))
        (form_done rule.0 rule.1) held in
        let value = all_has (λ v. not (is_none (value_of x v))) (heads_of p (normal rule.0.body)) (var_of_atom p a) all (heads_have p rule.0 a rule.1.among head_) in
        has-derived p x a stands ∙ some_true (value_of x (var_of_atom p a)) (var_of_atom p a) (is_not (is_none (value_of x (var_of_atom p a))) value) (h.outside a stands ∙ ap not in_set)
      where
        is_not : (b : Bool) → not b ≡ true → b ≡ false
        is_not true f = absurd (false≢true f)
        is_not false f = refl

    whole : is_stable p S ≡ true → (v : ℕ) → v < length (atoms_of p) → is_none (value_of x (v + 1)) ≡ false
    whole stable v lt =
        let a : ℕ = nth_atom p v in
        let stands : has (atoms_of p) a ≡ true = at_each (λ b. has (atoms_of p) b ≡ true) (atoms_of p) v 0 (HasAll-itself (atoms_of p)) lt in
        let var : v + 1 ≡ var_of_atom p a = add-one v ∙ sym (var_of_nth_atom p v lt) in
        ap (λ w. is_none (value_of x w)) var ∙ cases a stands (has S a) refl
      where
        cases : (a : ℕ) → has (atoms_of p) a ≡ true → (t : Bool) → t ≡ has S a → is_none (value_of x (var_of_atom p a)) ≡ false
        cases a stands true q =
            let in_least_ : has (least_model p S) a ≡ true = ap (λ U. has U a) (sym (stable-least p S stable)) ∙ sym q in
            let in_derived = least_model-least p S (derived p x) sound (closed_from_step (reduct S (rules_in_force p)) (derived p x) (closed stable)) a in_least_ in
            some_value (value_of x (var_of_atom p a)) (T (var_of_atom p a)) (sym (has-derived p x a stands) ∙ in_derived)
        cases a stands false q = some_value (value_of x (var_of_atom p a)) (F (var_of_atom p a)) (h.outside a stands ∙ ap not (sym q))

-- ---- the beginning
-- The first n atoms are false where they aren't in the set, and nothing else has a value.
pub record IsOutside (p : Program) (S : Atoms) (x : List (Option Bool)) (n : ℕ) : Type 0 where
  pub size : length x ≡ var_count p + 1
  pub before : (k : ℕ) → k < n → value_of x (k + 1) ≡ cond (has S (nth_atom p k)) None (Some false)
  pub after : (v : ℕ) → n < v → value_of x v ≡ None

pub outside_more : (p : Program) (S : Atoms) (x y : List (Option Bool)) (i a : ℕ) → i < length (atoms_of p) → a ≡ nth_atom p i →
    y ≡ cond (has S a) x (set x (i + 1) (Some false)) → IsOutside p S x i → IsOutside p S y (i + 1)
outside_more p S x y i a lt is e h = cases (has S a) refl
  where
    inside : i + 1 < length x
    inside = let s = h.size in omega (arith, s, lt)

    cases : (t : Bool) → t ≡ has S a → IsOutside p S y (i + 1)
    cases true q = subst (λ w. IsOutside p S w (i + 1)) (sym (e ∙ ap (λ t. cond t x (set x (i + 1) (Some false))) (sym q))) record {
      size = h.size;
      before = λ k less. at k less (eqb k i) refl;
      after = λ v less. h.after v (omega (arith, less));
    }
      where
        at : (k : ℕ) → k < i + 1 → (t : Bool) → t ≡ eqb k i → value_of x (k + 1) ≡ cond (has S (nth_atom p k)) None (Some false)
        at k less true s =
            let same : k ≡ i = eqb-true k i (sym s) in
            h.after (k + 1) (omega (arith, same)) ∙ sym (ap (λ t. cond t None (Some false)) (ap (λ j. has S (nth_atom p j)) same ∙ ap (has S) (sym is) ∙ sym q))
        at k less false s = let other : k ≡ i → ⊥ = λ z. false≢true (s ∙ eq-eqb k i z) in h.before k (omega arith)
    cases false q = subst (λ w. IsOutside p S w (i + 1)) (sym (e ∙ ap (λ t. cond t x (set x (i + 1) (Some false))) (sym q))) record {
      size = length-set x (i + 1) (Some false) ∙ h.size;
      before = λ k less. at k less (eqb k i) refl;
      after = λ v less. get_or-set_other x (i + 1) v (Some false) None (λ z. absurd (omega (arith, less, z))) ∙ h.after v (omega (arith, less));
    }
      where
        at : (k : ℕ) → k < i + 1 → (t : Bool) → t ≡ eqb k i → value_of (set x (i + 1) (Some false)) (k + 1) ≡ cond (has S (nth_atom p k)) None (Some false)
        at k less true s =
            let same : k ≡ i = eqb-true k i (sym s) in
            ap (λ j. value_of (set x (i + 1) (Some false)) (j + 1)) same ∙ get_or-set_same x (i + 1) (Some false) None inside
            ∙ sym (ap (λ t. cond t None (Some false)) (ap (λ j. has S (nth_atom p j)) same ∙ ap (has S) (sym is) ∙ sym q))
        at k less false s =
            let other : k ≡ i → ⊥ = λ z. false≢true (s ∙ eq-eqb k i z) in
            get_or-set_other x (i + 1) (k + 1) (Some false) None (λ z. other (omega (arith, z))) ∙ h.before k (omega arith)

pub outside_founded : (p : Program) (S : Atoms) (x : List (Option Bool)) (i : ℕ) → length (atoms_of p) ≤ i → IsOutside p S x i → AreFounded p S x
outside_founded p S x i le h = record {
  outside = λ a stands. ap (λ o. agrees o (F (var_of_atom p a))) (value a stands) ∙ falsehood (has S a) (var_of_atom p a);
  founded = λ a stands e. absurd (never (has S a) (var_of_atom p a) (sym (ap (λ o. agrees o (T (var_of_atom p a))) (value a stands)) ∙ e));
}
  where
    value : (a : ℕ) → has (atoms_of p) a ≡ true → value_of x (var_of_atom p a) ≡ cond (has S a) None (Some false)
    value a stands =
        let k : ℕ = place_of (λ b. eqb b a) (atoms_of p) in
        let lt = place_of-within (λ b. eqb b a) (atoms_of p) stands in
        ap (value_of x) (sym (add-one k)) ∙ h.before k (omega (arith, lt, le)) ∙ ap (λ c. cond (has S c) None (Some false)) (at_place (atoms_of p) a stands)

    falsehood : (b : Bool) (v : ℕ) → agrees (cond b None (Some false)) (F v) ≡ not b
    falsehood true v = refl
    falsehood false v = refl

    never : (b : Bool) (v : ℕ) → agrees (cond b None (Some false)) (T v) ≡ true → ⊥
    never true v e = false≢true e
    never false v e = false≢true e

-- each of the set's atoms stands
pub all_within : (p : Program) (S : Atoms) → list_all (has (atoms_of p)) S ≡ true → IsSubset S (atoms_of p)
all_within p S e a h = all_has (has (atoms_of p)) S a e h
