-- A set that hits no nogood of the completion is stable, or what it has beyond the least model of its reduct is unfounded.
use Rattle.std.proofs.Common.{◌≡◌, ℕ, Bool, true, false, not, cond, ◌&&◌, ◌||◌, eqb, List, [], ◌∷◌, filter, refl, sym, ap, ◌∙◌, subst}
use Rattle.std.specs.List.{list_any, flat_map, AllByRecursion}
use Rattle.std.proofs.lemmas.Bool.{false≢true, and_from, or_parts, eqb-true, eq-eqb}
use Rattle.asp_model.specs.declared.program.Head.{Head}
use Rattle.asp_model.specs.declared.program.Head.TheVariants as head
use Rattle.asp_model.specs.declared.program.Rule.{Rule}
use Rattle.asp_model.specs.declared.program.Program.{Program}
use Rattle.asp_model.specs.Sets.{Atoms, IsAscending, has, same_set, IsSubset}
use Rattle.asp_model.specs.Holding.{body_holds}
use Rattle.asp_model.specs.Reduct.{reduct, reduct_heads}
use Rattle.asp_model.specs.Reading.{body_holds_between, derived_heads}
use Rattle.asp_model.specs.Models.{rules_in_force, atoms_of, is_stable, least_model, head_atoms, is_violated, is_never}
use Rattle.asp_model.specs.Sound.{IsSound}
use Rattle.asp_model.proofs.SetLaws.{has-set_of, same_from_has}
use Rattle.asp_model.proofs.MemberLaws.{list_any-flat_map, each_weaker, one_passes}
use Rattle.asp_model.proofs.StepLaws.{closed_from_step}
use Rattle.asp_model.proofs.ModelLaws.{least_model-least, least_model-ascends}
use Rattle.asp_model.proofs.ReductLaws.{rules_in_force-heads}
use Rattle.asp_model.proofs.ReadingLaws.{step_read, same_body}
use Rattle.asp_vars.specs.Literals.{Literal, T, F, literal_eq, is_true, hits}
use Rattle.asp_vars.specs.Numbering.{var_of_atom, literal_of_body, values, IsReadBy}
use Rattle.asp_vars.specs.Completion.{rule_nogoods, completion}
use Rattle.asp_vars.proofs.LiteralLaws.{same_literal}
use Rattle.asp_vars.proofs.StandingLaws.{Among, each_among, each_both}
use Rattle.asp_vars.proofs.CompletionLaws.{all_unhit, atom-true, atom-false, rule-true, unhit-read}
use Rattle.asp_found.specs.Rests.{rest}

-- no nogood of the list is hit
abbrev pub NoneHit : Program → Atoms → List (List Literal) → Type 0
NoneHit p S ns = AllByRecursion (λ n. hits (values p S) n ≡ false) ns

pub none_hit : (p : Program) (S : Atoms) (ns : List (List Literal)) → list_any (hits (values p S)) ns ≡ false → NoneHit p S ns
none_hit p S [] e = tt
none_hit p S (n ∷ ns) e =
    let parts = or_parts (hits (values p S) n) (list_any (hits (values p S)) ns) e in (parts.0, none_hit p S ns parts.1)

pub none_passes : {X : Type 0} (q : X → Bool) (xs : List X) → AllByRecursion (λ x. q x ≡ false) xs → list_any q xs ≡ false
none_passes q [] h = refl
none_passes q (x ∷ xs) h = ap (λ b. b || list_any q xs) h.0 ∙ none_passes q xs h.1

-- names say of the set which bodies hold
pub read_by : (p : Program) (S : Atoms) → NoneHit p S (completion p) → IsReadBy p S
read_by p S unhit = unhit-read p S (none_passes (hits (values p S)) (completion p) unhit)

-- the rules' nogoods
rules_unhit : (p : Program) (S : Atoms) → NoneHit p S (completion p) → AllByRecursion (λ (r : Rule). NoneHit p S (rule_nogoods p (literal_of_body p r.body) r.head)) (rules_in_force p)
rules_unhit p S unhit = (all_unhit p (values p S) (none_passes (hits (values p S)) (completion p) unhit)).1

not_false : (b : Bool) → (not b && true) ≡ false → b ≡ true
not_false true e = refl
not_false false e = absurd (false≢true (sym e))

-- what a rule derives from S is in S
rule_keeps : (p : Program) (S : Atoms) (r : Rule) (h : Head) (a : ℕ) → IsReadBy p S → Among (rules_in_force p) r → has (head_atoms h) a ≡ true →
    AllByRecursion (λ x. has (atoms_of p) x ≡ true) (head_atoms h) → NoneHit p S (rule_nogoods p (literal_of_body p r.body) h) →
    body_holds S r.body ≡ true → has (reduct_heads S h) a ≡ true → has S a ≡ true
rule_keeps p S r (head.One b) a read m in_head stand unhit holds_body in_reduct = cases (eqb b a) refl in_head
  where
    lit : Literal
    lit = literal_of_body p r.body

    first : is_true (values p S) lit ≡ true
    first = rule-true p S read r m ∙ holds_body

    -- where the head is the body's name, the body's literal is the head's
    head_in : (t : Bool) → t ≡ literal_eq lit (T (var_of_atom p b)) → has S b ≡ true
    head_in true q = sym (atom-true p S b stand.0) ∙ ap (is_true (values p S)) (sym (same_literal lit (T (var_of_atom p b)) (sym q))) ∙ first
    head_in false q =
        let listed : NoneHit p S ((lit ∷ F (var_of_atom p b) ∷ []) ∷ []) = subst (λ (t : Bool). NoneHit p S (cond t [] ((lit ∷ F (var_of_atom p b) ∷ []) ∷ []))) (sym q) unhit in
        let second : (is_true (values p S) (F (var_of_atom p b)) && true) ≡ false = sym (ap (λ x. x && (is_true (values p S) (F (var_of_atom p b)) && true)) first) ∙ listed.0 in
        not_false (has S b) (sym (ap (λ x. x && true) (atom-false p S b stand.0)) ∙ second)

    cases : (t : Bool) → t ≡ eqb b a → (eqb b a || false) ≡ true → has S a ≡ true
    cases true q e = subst (λ (x : ℕ). has S x ≡ true) (eqb-true b a (sym q)) (head_in (literal_eq lit (T (var_of_atom p b))) refl)
    cases false q e = absurd (false≢true (ap (λ x. x || false) q ∙ e))
rule_keeps p S r (head.Choice xs) a read m in_head stand unhit holds_body in_reduct = filtered xs in_reduct
  where
    filtered : (ys : List ℕ) → has (filter (has S) ys) a ≡ true → has S a ≡ true
    filtered [] e = absurd (false≢true e)
    filtered (y ∷ ys) e = cases (has S y) refl (filtered ys)
      where
        cases : (t : Bool) → t ≡ has S y → (has (filter (has S) ys) a ≡ true → has S a ≡ true) → has S a ≡ true
        cases true q f = here (eqb y a) refl (ap (λ t. has (cond t (y ∷ filter (has S) ys) (filter (has S) ys)) a) q ∙ e)
          where
            here : (t : Bool) → t ≡ eqb y a → (eqb y a || has (filter (has S) ys) a) ≡ true → has S a ≡ true
            here true u g = subst (λ (x : ℕ). has S x ≡ true) (eqb-true y a (sym u)) (sym q)
            here false u g = f (ap (λ t. t || has (filter (has S) ys) a) u ∙ g)
        cases false q f = f (ap (λ t. has (cond t (y ∷ filter (has S) ys) (filter (has S) ys)) a) q ∙ e)
rule_keeps p S r head.Never a read m in_head stand unhit holds_body in_reduct = absurd (false≢true in_head)

derived_split : (S L : Atoms) (r : Rule) (a : ℕ) → has (derived_heads S L r) a ≡ true → (body_holds_between S L r.body ≡ true) × (has (reduct_heads S r.head) a ≡ true)
derived_split S L r a h = cases (body_holds_between S L r.body) refl
  where
    cases : (b : Bool) → b ≡ body_holds_between S L r.body → (body_holds_between S L r.body ≡ true) × (has (reduct_heads S r.head) a ≡ true)
    cases true q = (sym q, ap (λ b. has (cond b (reduct_heads S r.head) []) a) q ∙ h)
    cases false q = absurd (false≢true (ap (λ b. has (cond b (reduct_heads S r.head) []) a) q ∙ h))

-- members of a filter
pub has-filtered : (q : ℕ → Bool) (xs : List ℕ) (a : ℕ) → has (filter q xs) a ≡ true → (has xs a ≡ true) × (q a ≡ true)
has-filtered q [] a e = absurd (false≢true e)
has-filtered q (x ∷ xs) a e = cases (q x) refl (has-filtered q xs a)
  where
    later : (has xs a ≡ true) × (q a ≡ true) → (has (x ∷ xs) a ≡ true) × (q a ≡ true)
    later both = (skip (eqb x a) (has xs a) both.0, both.1)
      where
        skip : (b c : Bool) → c ≡ true → (b || c) ≡ true
        skip true c e = refl
        skip false c e = e

    cases : (t : Bool) → t ≡ q x → (has (filter q xs) a ≡ true → (has xs a ≡ true) × (q a ≡ true)) → (has (x ∷ xs) a ≡ true) × (q a ≡ true)
    cases true p f = here (eqb x a) refl (ap (λ t. has (cond t (x ∷ filter q xs) (filter q xs)) a) p ∙ e)
      where
        here : (t : Bool) → t ≡ eqb x a → (eqb x a || has (filter q xs) a) ≡ true → (has (x ∷ xs) a ≡ true) × (q a ≡ true)
        here true u g = (ap (λ t. t || has xs a) (sym u), subst (λ (y : ℕ). q y ≡ true) (eqb-true x a (sym u)) (sym p))
        here false u g = later (f (ap (λ t. t || has (filter q xs) a) u ∙ g))
    cases false p f = later (f (ap (λ t. has (cond t (x ∷ filter q xs) (filter q xs)) a) p ∙ e))

pub has-filter_from : (q : ℕ → Bool) (xs : List ℕ) (a : ℕ) → has xs a ≡ true → q a ≡ true → has (filter q xs) a ≡ true
has-filter_from q [] a e p = absurd (false≢true e)
has-filter_from q (x ∷ xs) a e p = cases (q x) (eqb x a) refl refl (has-filter_from q xs a)
  where
    cases : (t u : Bool) → t ≡ q x → u ≡ eqb x a → (has xs a ≡ true → q a ≡ true → has (filter q xs) a ≡ true) → has (cond (q x) (x ∷ filter q xs) (filter q xs)) a ≡ true
    cases true true qt qu f = ap (λ t. has (cond t (x ∷ filter q xs) (filter q xs)) a) (sym qt) ∙ ap (λ t. t || has (filter q xs) a) (sym qu)
    cases true false qt qu f =
        ap (λ t. has (cond t (x ∷ filter q xs) (filter q xs)) a) (sym qt) ∙ ap (λ t. t || has (filter q xs) a) (sym qu)
        ∙ f (ap (λ t. t || has xs a) qu ∙ e) p
    cases false true qt qu f = absurd (false≢true (qt ∙ ap q (eqb-true x a (sym qu)) ∙ p))
    cases false false qt qu f = ap (λ t. has (cond t (x ∷ filter q xs) (filter q xs)) a) (sym qt) ∙ f (ap (λ t. t || has xs a) qu ∙ e) p

pub rest-subset : (p : Program) (S : Atoms) → IsSubset (rest p S) S
rest-subset p S a h = (has-filtered (λ x. not (has (least_model p S) x)) S a h).0

-- ---- the least model is within the set
heads_stand : (p : Program) → AllByRecursion (λ (r : Rule). AllByRecursion (λ x. has (atoms_of p) x ≡ true) (head_atoms r.head)) (rules_in_force p)
heads_stand p = rules_in_force-heads p

reduct_in_heads : (S : Atoms) (a : ℕ) (x : Head) → has (reduct_heads S x) a ≡ true → has (head_atoms x) a ≡ true
reduct_in_heads S a (head.One b) e = e
reduct_in_heads S a (head.Choice atoms) e = (has-filtered (has S) atoms a e).0
reduct_in_heads S a head.Never e = e

pub least-within : (p : Program) (S : Atoms) → IsSound p → NoneHit p S (completion p) → IsSubset (least_model p S) S
least-within p S sound unhit =
    least_model-least p S S sound (closed_from_step (reduct S (rules_in_force p)) S (λ a h.
    one_passes (has S a ≡ true) (λ r. has (derived_heads S S r) a) (rules_in_force p)
    (each_weaker (λ r. (Among (rules_in_force p) r × AllByRecursion (λ x. has (atoms_of p) x ≡ true) (head_atoms r.head)) × NoneHit p S (rule_nogoods p (literal_of_body p r.body) r.head))
    (λ r. has (derived_heads S S r) a ≡ true → has S a ≡ true) (λ r f e.
    let parts = derived_split S S r a e in
    rule_keeps p S r r.head a (read_by p S unhit) f.0.0 (reduct_in_heads S a r.head parts.1) f.0.1 f.1 (sym (same_body S r.body) ∙ parts.0) parts.1) (rules_in_force p)
    (each_both (λ r. Among (rules_in_force p) r × AllByRecursion (λ x. has (atoms_of p) x ≡ true) (head_atoms r.head))
    (λ r. NoneHit p S (rule_nogoods p (literal_of_body p r.body) r.head)) (rules_in_force p)
    (each_both (Among (rules_in_force p)) (λ r. AllByRecursion (λ x. has (atoms_of p) x ≡ true) (head_atoms r.head)) (rules_in_force p)
    (each_among (rules_in_force p)) (heads_stand p)) (rules_unhit p S unhit)))
    (sym (list_any-flat_map (λ b. eqb b a) (derived_heads S S) (rules_in_force p))
    ∙ sym (has-set_of (flat_map (derived_heads S S) (rules_in_force p)) a) ∙ ap (λ T. has T a) (sym (step_read S S (rules_in_force p))) ∙ h)))

-- ---- no constraint is broken
never_fails : (p : Program) (S : Atoms) (r : Rule) (h : Head) → IsReadBy p S → Among (rules_in_force p) r →
    NoneHit p S (rule_nogoods p (literal_of_body p r.body) h) → (is_never h && body_holds S r.body) ≡ false
never_fails p S r (head.One a) read m u = refl
never_fails p S r (head.Choice xs) read m u = refl
never_fails p S r head.Never read m u =
    sym (rule-true p S read r m) ∙ true_last (is_true (values p S) (literal_of_body p r.body)) ∙ u.0
  where
    true_last : (b : Bool) → b ≡ (b && true)
    true_last true = refl
    true_last false = refl

unviolated : (p : Program) (S : Atoms) → NoneHit p S (completion p) → list_any (is_violated S) (rules_in_force p) ≡ false
unviolated p S unhit =
    none_passes (is_violated S) (rules_in_force p)
    (each_weaker (λ r. Among (rules_in_force p) r × NoneHit p S (rule_nogoods p (literal_of_body p r.body) r.head)) (λ r. is_violated S r ≡ false)
    (λ r f. never_fails p S r r.head (read_by p S unhit) f.0 f.1) (rules_in_force p)
    (each_both (Among (rules_in_force p)) (λ r. NoneHit p S (rule_nogoods p (literal_of_body p r.body) r.head)) (rules_in_force p) (each_among (rules_in_force p)) (rules_unhit p S unhit)))

-- ---- no rest
filter_none : (q : ℕ → Bool) (xs : List ℕ) (a : ℕ) → filter q xs ≡ [] → has xs a ≡ true → q a ≡ false
filter_none q xs a e h = cases (q a) refl
  where
    cases : (b : Bool) → b ≡ q a → q a ≡ false
    cases false p = sym p
    cases true p = absurd (false≢true (ap (λ ys. has ys a) (sym e) ∙ has-filter_from q xs a h (sym p)))

not_not : (b : Bool) → not b ≡ false → b ≡ true
not_not true e = refl
not_not false e = absurd (false≢true (sym e))

same_when : (a b : Bool) → (a ≡ true → b ≡ true) → (b ≡ true → a ≡ true) → a ≡ b
same_when true b f g = sym (f refl)
same_when false true f g = g refl
same_when false false f g = refl

same_set-itself : (S : Atoms) → same_set S S ≡ true
same_set-itself [] = refl
same_set-itself (a ∷ S) = and_from (eqb a a) (same_set S S) (eq-eqb a a refl) (same_set-itself S)

pub stable_without_rest : (p : Program) (S : Atoms) → IsSound p → IsAscending S → NoneHit p S (completion p) → rest p S ≡ [] → is_stable p S ≡ true
stable_without_rest p S sound up unhit none =
    let same : S ≡ least_model p S = same_from_has S (least_model p S) up (least_model-ascends p S) (λ a.
    same_when (has S a) (has (least_model p S) a) (λ h. not_not (has (least_model p S) a) (filter_none (λ x. not (has (least_model p S) x)) S a none h)) (least-within p S sound unhit a)) in
    and_from (same_set S (least_model p S)) (not (list_any (is_violated S) (rules_in_force p)))
    (subst (λ (T : Atoms). same_set S T ≡ true) same (same_set-itself S)) (ap not (unviolated p S unhit))
