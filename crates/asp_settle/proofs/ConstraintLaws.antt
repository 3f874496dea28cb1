-- Rules for atoms that are assumed false may as well be constraints: the answers are the same.
use Rattle.std.proofs.Common.{◌≡◌, ℕ, suc, Bool, true, false, not, cond, ◌&&◌, ◌||◌, eqb, nat_lt, List, [], ◌∷◌, ◌++◌, map, filter, flat_map, ℤ, pos, negsuc, refl, sym, ap, ◌∙◌, inl, inr, ◌⊎◌, Contains}
use Rattle.std.specs.List.{AllByRecursion, list_any}
use Rattle.std.proofs.lemmas.Bool.{and_from, and_parts, both_ways, eq-eqb, eqb-true, false≢true, false_from_ne_true, ne_eqb, not-true, or_cases, or_from, or_left, or_parts}
use Rattle.std.proofs.lemmas.List.{map-append}
use Rattle.std.proofs.lemmas.List.Folds.{list_any-append}
use Rattle.asp_model.specs.declared.program.Body.TheVariants as body
use Rattle.asp_model.specs.declared.program.Head.{Head}
use Rattle.asp_model.specs.declared.program.Head.TheVariants as head
use Rattle.asp_model.specs.declared.program.ExternalValue.{ExternalValue}
use Rattle.asp_model.specs.declared.program.ExternalValue.TheVariants as value
use Rattle.asp_model.specs.declared.program.Program.{Program}
use Rattle.asp_model.specs.declared.program.Rule.{Rule}
use Rattle.asp_model.specs.Sets.{Atoms, IsSubset, has, same_set, set_of}
use Rattle.asp_model.specs.Holding.{all_hold, body_holds, holds}
use Rattle.asp_model.specs.Reading.{body_holds_between}
use Rattle.asp_model.specs.Reduct.{reduct, reduct_heads, step}
use Rattle.asp_model.specs.Models.{answers, external_rule, head_atoms, is_never, is_stable, is_violated, last_value, least_model, open_atoms, rules_in_force}
use Rattle.asp_model.specs.Opening.{opened_rules}
use Rattle.asp_model.specs.Sound.{IsSound}
use Rattle.asp_model.proofs.SetLaws.{has-set_of, same_from_has}
use Rattle.asp_model.proofs.MemberLaws.{HasAll-itself, each-filter, each_of, each_weaker, list_any-map, list_any-weaker}
use Rattle.asp_model.proofs.StepLaws.{closed_from_step, step-subset}
use Rattle.asp_model.proofs.ReadingLaws.{same_body}
use Rattle.asp_model.proofs.ListedLaws.{same_from_members}
use Rattle.asp_model.proofs.ModelLaws.{answers-are, answers-rise, least_model-ascends, least_model-least, monotone, same_bools, stable-least}
use Rattle.asp_model.proofs.ConsequenceLaws.{filter-atoms, has-filter}
use Rattle.asp_settle.specs.Constraints.{constrained, constrained_by, constrained_head, constrained_rule, denied_by, denied_of, is_barred, reach}
use Rattle.asp_settle.specs.Settled.{heads_of}
use Rattle.asp_settle.proofs.RuleLaws.{derives_at, has-step}
use Rattle.asp_settle.proofs.StableLaws.{IsApart, derived-has}
use Rattle.asp_settle.proofs.SoundLaws.{all-filter}
use Rattle.asp_settle.proofs.MentionLaws.{none-among}
use Rattle.asp_settle.proofs.ResultLaws.{any-same}
use Rattle.asp_settle.proofs.LimitLaws.{sound-constrained}

-- ---- heads
other_one : (N : Atoms) (a b : ℕ) (c : Bool) → has N a ≡ false → has N b ≡ c → has (head_atoms (cond c head.Never (head.One b))) a ≡ (eqb b a || false)
other_one N a b true out e = sym (ap (λ c. c || false) (ne_eqb b a (λ same. both_ways (has N a) out (ap (has N) (sym same) ∙ e))))
other_one N a b false out e = refl

-- An atom that isn't in N is in a head as before.
head-other : (N : Atoms) (a : ℕ) (h : Head) → has N a ≡ false → has (head_atoms (constrained_head N h)) a ≡ has (head_atoms h) a
head-other N a (head.One b) out = other_one N a b (has N b) out refl
head-other N a (head.Choice atoms) out = has-filter (λ b. not (has N b)) atoms a ∙ ap (λ c. not c && has atoms a) out
head-other N a head.Never out = refl

derived_one : (S N : Atoms) (a b : ℕ) (c : Bool) → has N a ≡ false → has N b ≡ c → has (reduct_heads S (cond c head.Never (head.One b))) a ≡ (eqb b a || false)
derived_one S N a b true out e = sym (ap (λ c. c || false) (ne_eqb b a (λ same. both_ways (has N a) out (ap (has N) (sym same) ∙ e))))
derived_one S N a b false out e = refl

reduct-other : (N S : Atoms) (a : ℕ) (h : Head) → has N a ≡ false → has (reduct_heads S (constrained_head N h)) a ≡ has (reduct_heads S h) a
reduct-other N S a (head.One b) out = derived_one S N a b (has N b) out refl
reduct-other N S a (head.Choice atoms) out =
    has-filter (has S) (filter (λ b. not (has N b)) atoms) a
    ∙ ap (λ c. has S a && c) (has-filter (λ b. not (has N b)) atoms a ∙ ap (λ c. not c && has atoms a) out)
    ∙ sym (has-filter (has S) atoms a)
reduct-other N S a head.Never out = refl

denied_one : (S N : Atoms) (a b : ℕ) (c : Bool) → has N a ≡ true → has N b ≡ c → has (reduct_heads S (cond c head.Never (head.One b))) a ≡ false
denied_one S N a b true e k = refl
denied_one S N a b false e k = ap (λ c. c || false) (ne_eqb b a (λ same. both_ways (has N a) (ap (has N) (sym same) ∙ k) e))

and-false : (c : Bool) → (c && false) ≡ false
and-false true = refl
and-false false = refl

-- None of N is in a head.
reduct-denied : (N S : Atoms) (a : ℕ) (h : Head) → has N a ≡ true → has (reduct_heads S (constrained_head N h)) a ≡ false
reduct-denied N S a (head.One b) e = denied_one S N a b (has N b) e refl
reduct-denied N S a (head.Choice atoms) e =
    has-filter (has S) (filter (λ b. not (has N b)) atoms) a
    ∙ ap (λ c. has S a && c) (has-filter (λ b. not (has N b)) atoms a ∙ ap (λ c. not c && has atoms a) e)
    ∙ and-false (has S a)
reduct-denied N S a head.Never e = refl

-- ---- rules in force
abbrev named : Program → List ℕ
named p = map (λ e. e.atom) p.externals

-- What N is: no external names an atom of it, and none holds where the assumptions do.
pub record IsDenied (N : Atoms) (p : Program) : Type 0 where
  pub free : (a : ℕ) → has (map (λ e. e.atom) p.externals) a ≡ true → has N a ≡ false
  pub out : (S : Atoms) → all_hold S p.assumptions ≡ true → IsApart N S
  pub whole : IsSound p

heads-other : (N : Atoms) (rs : List Rule) (a : ℕ) → has N a ≡ false → has (heads_of (map (constrained_rule N) rs)) a ≡ has (heads_of rs) a
heads-other N [] a out = refl
heads-other N (r ∷ rs) a out =
    list_any-append (λ b. eqb b a) (head_atoms (constrained_head N r.head)) (heads_of (map (constrained_rule N) rs))
    ∙ ap (λ c. c || has (heads_of (map (constrained_rule N) rs)) a) (head-other N a r.head out)
    ∙ ap (λ c. has (head_atoms r.head) a || c) (heads-other N rs a out)
    ∙ sym (list_any-append (λ b. eqb b a) (head_atoms r.head) (heads_of rs))

named-free : (N : Atoms) (p : Program) → IsDenied N p → (a : ℕ) → has (set_of (named p)) a ≡ true → has N a ≡ false
named-free N p d a h = d.free a (sym (has-set_of (named p) a) ∙ h)

open-same : (N : Atoms) (p : Program) → IsDenied N p → open_atoms (constrained_by N p) ≡ open_atoms p
open-same N p d =
    filter-atoms (λ a. not (has (heads_of (map (constrained_rule N) p.rules)) a)) (λ a. not (has (heads_of p.rules) a)) (set_of (named p)) (λ a h.
    ap not (heads-other N p.rules a (named-free N p d a h)))

external-same : (N : Atoms) (a : ℕ) (v : ExternalValue) → has N a ≡ false → map (constrained_rule N) (external_rule a v) ≡ external_rule a v
external-same N a value.Free out = ap (λ c. record { head = head.Choice (cond (not c) (a ∷ []) []); body = body.All [] } ∷ []) out
external-same N a value.True out = ap (λ c. record { head = cond c head.Never (head.One a); body = body.All [] } ∷ []) out
external-same N a value.False out = refl
external-same N a value.Release out = refl

opened-same : (N : Atoms) (v : ℕ → ExternalValue) (L : List ℕ) → AllByRecursion (λ a. has N a ≡ false) L →
    map (constrained_rule N) (flat_map (λ a. external_rule a (v a)) L) ≡ flat_map (λ a. external_rule a (v a)) L
opened-same N v [] free = refl
opened-same N v (a ∷ L) free =
    map-append (constrained_rule N) (external_rule a (v a)) (flat_map (λ b. external_rule b (v b)) L)
    ∙ ap (λ rs. rs ++ map (constrained_rule N) (flat_map (λ b. external_rule b (v b)) L)) (external-same N a (v a) free.0)
    ∙ ap (λ rs. external_rule a (v a) ++ rs) (opened-same N v L free.1)

force-same : (N : Atoms) (p : Program) → IsDenied N p → rules_in_force (constrained_by N p) ≡ map (constrained_rule N) (rules_in_force p)
force-same N p d =
    let left = map (constrained_rule N) p.rules in
    let free : AllByRecursion (λ a. has N a ≡ false) (open_atoms p) =
    each-filter (λ a. has N a ≡ false) (λ a. not (has (heads_of p.rules) a)) (set_of (named p))
    (each_weaker (λ a. has (set_of (named p)) a ≡ true) (λ a. has N a ≡ false) (named-free N p d) (set_of (named p))
    (HasAll-itself (set_of (named p)))) in
    ap (λ L. left ++ flat_map (λ a. external_rule a (last_value p.externals a)) L) (open-same N p d)
    ∙ ap (λ rs. left ++ rs) (sym (opened-same N (last_value p.externals) (open_atoms p) free))
    ∙ sym (map-append (constrained_rule N) p.rules (opened_rules p))

-- ---- what is derived
step-denied : (N S T : Atoms) (rs : List Rule) (a : ℕ) → has N a ≡ true → has (step (reduct S (map (constrained_rule N) rs)) T) a ≡ false
step-denied N S T rs a e =
    has-step S T (map (constrained_rule N) rs) a
    ∙ list_any-map (derives_at S T a) (constrained_rule N) rs
    ∙ none-among (λ r. derives_at S T a (constrained_rule N r)) rs
    (each_of (λ r. derives_at S T a (constrained_rule N r) ≡ false)
    (λ r. ap (λ c. c && body_holds_between S T r.body) (reduct-denied N S a r.head e)) rs)

step-other : (N S T : Atoms) (rs : List Rule) (a : ℕ) → has N a ≡ false → has (step (reduct S (map (constrained_rule N) rs)) T) a ≡ has (step (reduct S rs) T) a
step-other N S T rs a out =
    has-step S T (map (constrained_rule N) rs) a
    ∙ list_any-map (derives_at S T a) (constrained_rule N) rs
    ∙ any-same (λ r. derives_at S T a (constrained_rule N r)) (derives_at S T a) (λ r. ap (λ c. c && body_holds_between S T r.body) (reduct-other N S a r.head out)) rs
    ∙ sym (has-step S T rs a)

left-denied : (N : Atoms) (p : Program) → IsDenied N p → (S T : Atoms) (a : ℕ) → has N a ≡ true → has (step (reduct S (rules_in_force (constrained_by N p))) T) a ≡ false
left-denied N p d S T a e = ap (λ rs. has (step (reduct S rs) T) a) (force-same N p d) ∙ step-denied N S T (rules_in_force p) a e

left-other : (N : Atoms) (p : Program) → IsDenied N p → (S T : Atoms) (a : ℕ) → has N a ≡ false →
    has (step (reduct S (rules_in_force (constrained_by N p))) T) a ≡ has (step (reduct S (rules_in_force p)) T) a
left-other N p d S T a e = ap (λ rs. has (step (reduct S rs) T) a) (force-same N p d) ∙ step-other N S T (rules_in_force p) a e

-- ---- constraints
never_stays : (N : Atoms) (h : Head) → is_never h ≡ true → is_never (constrained_head N h) ≡ true
never_stays N (head.One b) e = absurd (false≢true e)
never_stays N (head.Choice atoms) e = absurd (false≢true e)
never_stays N head.Never e = refl

violated-stays : (N X : Atoms) (r : Rule) → is_violated X r ≡ true → is_violated X (constrained_rule N r) ≡ true
violated-stays N X r v =
    let parts = and_parts (is_never r.head) (body_holds X r.body) v in
    and_from (is_never (constrained_head N r.head)) (body_holds X r.body) (never_stays N r.head parts.0) parts.1

denied_never : (N X : Atoms) (a : ℕ) (h : Head) → has N a ≡ true → has X a ≡ false → has (reduct_heads X h) a ≡ true → is_never (constrained_head N h) ≡ true
denied_never N X a (head.One b) n out e = elim (or_cases (eqb b a) false e) [
  | inl k ↦ ap (λ c. is_never (cond c head.Never (head.One b))) (ap (has N) (eqb-true b a k) ∙ n)
  | inr k ↦ absurd (false≢true k)
]
denied_never N X a (head.Choice atoms) n out e = absurd (both_ways (has X a) out (and_parts (has X a) (has atoms a) (sym (has-filter (has X) atoms a) ∙ e)).0)
denied_never N X a head.Never n out e = absurd (false≢true e)

-- A rule that derives an atom of N is a constraint that is violated.
violated-denied : (N X : Atoms) (a : ℕ) (r : Rule) → has N a ≡ true → has X a ≡ false → derives_at X X a r ≡ true → is_violated X (constrained_rule N r) ≡ true
violated-denied N X a r n out e =
    let parts = and_parts (has (reduct_heads X r.head) a) (body_holds_between X X r.body) e in
    and_from (is_never (constrained_head N r.head)) (body_holds X r.body) (denied_never N X a r.head n out parts.0) (sym (same_body X r.body) ∙ parts.1)

-- what a head is that was made a constraint: it was one, or derives an atom of N
abbrev IsNoHead : Atoms → Atoms → Head → Type 0
IsNoHead N X h = (is_never h ≡ true) ⊎ ((a : ℕ) × (has N a ≡ true) × (has (reduct_heads X h) a ≡ true))

never_one : (N X : Atoms) (b : ℕ) (c : Bool) → has N b ≡ c → is_never (cond c head.Never (head.One b)) ≡ true → IsNoHead N X (head.One b)
never_one N X b true k e = inr (b, k, or_left (eqb b b) false (eq-eqb b b refl))
never_one N X b false k e = absurd (false≢true e)

never_from : (N X : Atoms) (h : Head) → is_never (constrained_head N h) ≡ true → IsNoHead N X h
never_from N X (head.One b) e = never_one N X b (has N b) refl e
never_from N X (head.Choice atoms) e = absurd (false≢true e)
never_from N X head.Never e = inl refl

unviolated : (N X : Atoms) (r : Rule) → is_violated X r ≡ false → ((a : ℕ) → has N a ≡ true → derives_at X X a r ≡ false) → is_violated X (constrained_rule N r) ≡ false
unviolated N X r none underived = false_from_ne_true (is_violated X (constrained_rule N r)) (λ v.
    let parts = and_parts (is_never (constrained_head N r.head)) (body_holds X r.body) v in
    let read : body_holds_between X X r.body ≡ true = same_body X r.body ∙ parts.1 in
    elim (never_from N X r.head parts.0) [
      | inl never ↦ both_ways (is_violated X r) none (and_from (is_never r.head) (body_holds X r.body) never parts.1)
      | inr k ↦ both_ways (derives_at X X k.0 r) (underived k.0 k.1) (and_from (has (reduct_heads X r.head) k.0) (body_holds_between X X r.body) k.2 read)
    ])

none-violated : (N X : Atoms) (rs : List Rule) → list_any (is_violated X) rs ≡ false →
    ((a : ℕ) → has N a ≡ true → list_any (derives_at X X a) rs ≡ false) → list_any (is_violated X) (map (constrained_rule N) rs) ≡ false
none-violated N X [] none underived = refl
none-violated N X (r ∷ rs) none underived =
    let parts = or_parts (is_violated X r) (list_any (is_violated X) rs) none in
    or_from (is_violated X (constrained_rule N r)) (list_any (is_violated X) (map (constrained_rule N) rs))
    (unviolated N X r parts.0 (λ a e. (or_parts (derives_at X X a r) (list_any (derives_at X X a) rs) (underived a e)).0))
    (none-violated N X rs parts.1 (λ a e. (or_parts (derives_at X X a r) (list_any (derives_at X X a) rs) (underived a e)).1))

-- ---- least models
sound-left : (N : Atoms) (p : Program) → IsDenied N p → IsSound (constrained_by N p)
sound-left N p d = sound-constrained N p d.whole

least-apart : (N : Atoms) (p : Program) → IsDenied N p → (X : Atoms) → IsApart N (least_model (constrained_by N p) X)
least-apart N p d X a e = sym (derived-has (constrained_by N p) X a (sound-left N p d)) ∙ left-denied N p d X (least_model (constrained_by N p) X) a e

least-within : (N : Atoms) (p : Program) → IsDenied N p → (X : Atoms) → IsSubset (least_model (constrained_by N p) X) (least_model p X)
least-within N p d X =
    least_model-least (constrained_by N p) X (least_model p X) (sound-left N p d) (closed_from_step (reduct X (rules_in_force (constrained_by N p))) (least_model p X) (λ a h. by a (has N a) refl h))
  where
    by : (a : ℕ) (c : Bool) → has N a ≡ c → has (step (reduct X (rules_in_force (constrained_by N p))) (least_model p X)) a ≡ true → has (least_model p X) a ≡ true
    by a true e h = absurd (both_ways _ (left-denied N p d X (least_model p X) a e) h)
    by a false e h = sym (derived-has p X a d.whole) ∙ sym (left-other N p d X (least_model p X) a e) ∙ h

-- the program derives no atom of N from the least model of what is left
abbrev IsUnderived : Atoms → Program → Atoms → Type 0
IsUnderived N p X = (a : ℕ) → has N a ≡ true → has (step (reduct X (rules_in_force p)) (least_model (constrained_by N p) X)) a ≡ true → ⊥

least-whole : (N : Atoms) (p : Program) → IsDenied N p → (X : Atoms) → IsUnderived N p X → IsSubset (least_model p X) (least_model (constrained_by N p) X)
least-whole N p d X none =
    least_model-least p X (least_model (constrained_by N p) X) d.whole (closed_from_step (reduct X (rules_in_force p)) (least_model (constrained_by N p) X) (λ a h. by a (has N a) refl h))
  where
    by : (a : ℕ) (c : Bool) → has N a ≡ c → has (step (reduct X (rules_in_force p)) (least_model (constrained_by N p) X)) a ≡ true → has (least_model (constrained_by N p) X) a ≡ true
    by a true e h = absurd (none a e h)
    by a false e h = sym (derived-has (constrained_by N p) X a (sound-left N p d)) ∙ left-other N p d X (least_model (constrained_by N p) X) a e ∙ h

same-least : (N : Atoms) (p : Program) → IsDenied N p → (X : Atoms) → IsUnderived N p X → least_model (constrained_by N p) X ≡ least_model p X
same-least N p d X none =
    same_from_has (least_model (constrained_by N p) X) (least_model p X) (least_model-ascends (constrained_by N p) X) (least_model-ascends p X) (λ a.
    same_bools (has (least_model (constrained_by N p) X) a) (has (least_model p X) a) (least-within N p d X a) (least-whole N p d X none a))

-- ---- stable models
-- what a stable model derives of itself
stable-derived : (p : Program) (X : Atoms) (a : ℕ) → IsSound p → X ≡ least_model p X → has (step (reduct X (rules_in_force p)) X) a ≡ has X a
stable-derived p X a sound q = ap (λ T. has (step (reduct X (rules_in_force p)) T) a) q ∙ derived-has p X a sound ∙ ap (λ T. has T a) (sym q)

stable-there : (N : Atoms) (p : Program) → IsDenied N p → (X : Atoms) → is_stable p X ≡ true → IsApart N X → is_stable (constrained_by N p) X ≡ true
stable-there N p d X stable apart =
    let c = constrained_by N p in
    let rules = rules_in_force p in
    let parts = and_parts (same_set X (least_model p X)) (not (list_any (is_violated X) rules)) stable in
    let q : X ≡ least_model p X = stable-least p X stable in
    let none : IsUnderived N p X = λ a e h.
    both_ways (has X a) (apart a e) (ap (λ T. has T a) q ∙ sym (derived-has p X a d.whole)
    ∙ step-subset (reduct X rules) (least_model c X) (least_model p X) (monotone p X d.whole) (least-within N p d X) a h) in
    and_from (same_set X (least_model c X)) (not (list_any (is_violated X) (rules_in_force c)))
    (ap (same_set X) (same-least N p d X none) ∙ parts.0)
    (ap not (ap (list_any (is_violated X)) (force-same N p d) ∙ none-violated N X rules (not-true (list_any (is_violated X) rules) parts.1) (λ a e.
    sym (has-step X X rules a) ∙ stable-derived p X a d.whole q ∙ apart a e)))

stable-apart : (N : Atoms) (p : Program) → IsDenied N p → (X : Atoms) → is_stable (constrained_by N p) X ≡ true → IsApart N X
stable-apart N p d X stable a e = ap (λ T. has T a) (stable-least (constrained_by N p) X stable) ∙ least-apart N p d X a e

stable-back : (N : Atoms) (p : Program) → IsDenied N p → (X : Atoms) → is_stable (constrained_by N p) X ≡ true → is_stable p X ≡ true
stable-back N p d X stable =
    let c = constrained_by N p in
    let rules = rules_in_force p in
    let parts = and_parts (same_set X (least_model c X)) (not (list_any (is_violated X) (rules_in_force c))) stable in
    let q : X ≡ least_model c X = stable-least c X stable in
    let apart : IsApart N X = stable-apart N p d X stable in
    let none : list_any (λ r. is_violated X (constrained_rule N r)) rules ≡ false =
    sym (list_any-map (is_violated X) (constrained_rule N) rules) ∙ sym (ap (list_any (is_violated X)) (force-same N p d)) ∙ not-true (list_any (is_violated X) (rules_in_force c)) parts.1 in
    let underived : IsUnderived N p X = λ a e h.
    both_ways (list_any (λ r. is_violated X (constrained_rule N r)) rules) none
    (list_any-weaker (derives_at X X a) (λ r. is_violated X (constrained_rule N r)) rules
    (each_of (λ r. derives_at X X a r ≡ true → is_violated X (constrained_rule N r) ≡ true) (λ r. violated-denied N X a r e (apart a e))
    rules)
    (sym (has-step X X rules a) ∙ ap (λ T. has (step (reduct X rules) T) a) q ∙ h)) in
    and_from (same_set X (least_model p X)) (not (list_any (is_violated X) rules))
    (ap (same_set X) (sym (same-least N p d X underived)) ∙ parts.0)
    (ap not (false_from_ne_true (list_any (is_violated X) rules)
    (λ v. both_ways (list_any (λ r. is_violated X (constrained_rule N r)) rules) none
    (list_any-weaker (is_violated X) (λ r. is_violated X (constrained_rule N r)) rules
    (each_of (λ r. is_violated X r ≡ true → is_violated X (constrained_rule N r) ≡ true) (violated-stays N X) rules) v))))

-- ---- assumptions
barred_holds : (N X : Atoms) (l : ℤ) → IsApart N X → is_barred N l ≡ true → holds X l ≡ true
barred_holds N X (pos a) apart e = absurd (false≢true e)
barred_holds N X (negsuc a) apart e = ap not (apart (suc a) e)

one_assumed : (N X : Atoms) (l : ℤ) (ls ks : List ℤ) (c : Bool) → IsApart N X → is_barred N l ≡ c → (all_hold X ks ≡ true → all_hold X ls ≡ true) →
    all_hold X (cond (not c) (l ∷ ks) ks) ≡ true → all_hold X (l ∷ ls) ≡ true
one_assumed N X l ls ks true apart e later h = and_from (holds X l) (all_hold X ls) (barred_holds N X l apart e) (later h)
one_assumed N X l ls ks false apart e later h = let parts = and_parts (holds X l) (all_hold X ks) h in and_from (holds X l) (all_hold X ls) parts.0 (later parts.1)

all_assumed : (N X : Atoms) (ls : List ℤ) → IsApart N X → all_hold X (filter (λ l. not (is_barred N l)) ls) ≡ true → all_hold X ls ≡ true
all_assumed N X [] apart h = refl
all_assumed N X (l ∷ ls) apart h = one_assumed N X l ls (filter (λ k. not (is_barred N k)) ls) (is_barred N l) apart refl (all_assumed N X ls apart) h

-- ---- answers
answers-same : (N : Atoms) (p : Program) → IsDenied N p → answers p ≡ answers (constrained_by N p)
answers-same N p d = same_from_members (answers p) (answers (constrained_by N p)) (answers-rise p) (answers-rise (constrained_by N p)) (λ X. (there X, back X))
  where
    there : (X : Atoms) → Contains (answers p) X → Contains (answers (constrained_by N p)) X
    there X h =
        let parts = (answers-are p X).0 h in
        (answers-are (constrained_by N p) X).1 (stable-there N p d X parts.0 (d.out X parts.1), all-filter (holds X) (λ l. not (is_barred N l)) p.assumptions parts.1)

    back : (X : Atoms) → Contains (answers (constrained_by N p)) X → Contains (answers p) X
    back X h =
        let parts = (answers-are (constrained_by N p) X).0 h in
        (answers-are p X).1 (stable-back N p d X parts.0, all_assumed N X p.assumptions (stable-apart N p d X parts.0) parts.1)

-- ---- the atoms that are assumed false
denied-out : (S : Atoms) (a : ℕ) (ls : List ℤ) → has (flat_map denied_by ls) a ≡ true → all_hold S ls ≡ true → has S a ≡ false
denied-out S a [] h k = absurd (false≢true h)
denied-out S a (pos b ∷ ls) h k = denied-out S a ls h (and_parts (holds S (pos b)) (all_hold S ls) k).1
denied-out S a (negsuc b ∷ ls) h k =
    let parts = and_parts (not (has S (suc b))) (all_hold S ls) k in
    elim (or_cases (eqb (suc b) a) (has (flat_map denied_by ls) a) h) [
      | inl e ↦ ap (has S) (sym (eqb-true (suc b) a e)) ∙ not-true (has S (suc b)) parts.0
      | inr e ↦ denied-out S a ls e parts.1
    ]

has-denied : (p : Program) (a : ℕ) → has (denied_of p) a ≡ ((nat_lt a (reach p) && not (has (named p) a)) && has (flat_map denied_by p.assumptions) a)
has-denied p a =
    has-filter (λ b. nat_lt b (reach p) && not (has (named p) b)) (set_of (flat_map denied_by p.assumptions)) a
    ∙ ap (λ b. (nat_lt a (reach p) && not (has (named p) a)) && b) (has-set_of (flat_map denied_by p.assumptions) a)

denied-is : (p : Program) → IsSound p → IsDenied (denied_of p) p
denied-is p sound = record {
  free = λ a h. false_from_ne_true (has (denied_of p) a) (λ e. both_ways (has (named p) a) (not-true (has (named p) a) (and_parts (nat_lt a (reach p)) (not (has (named p) a)) (parts a e).0).1) h);
  out = λ S k a e. denied-out S a p.assumptions (parts a e).1 k;
  whole = sound;
}
  where
    parts : (a : ℕ) → has (denied_of p) a ≡ true → ((nat_lt a (reach p) && not (has (named p) a)) ≡ true) × (has (flat_map denied_by p.assumptions) a ≡ true)
    parts a e = and_parts (nat_lt a (reach p) && not (has (named p) a)) (has (flat_map denied_by p.assumptions) a) (sym (has-denied p a) ∙ e)

pub answers-constrained : (p : Program) → IsSound p → answers p ≡ answers (constrained p)
answers-constrained p sound = answers-same (denied_of p) p (denied-is p sound)
