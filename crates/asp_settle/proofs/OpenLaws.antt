-- The rules in force of what is left are those of the program, each without the facts.
use Rattle.std.proofs.Common.{◌≡◌, ℕ, Bool, true, false, not, cond, ◌&&◌, ◌||◌, eqb, List, [], ◌∷◌, ◌++◌, map, filter, flat_map, fold, refl, sym, ap, ◌∙◌, inl, inr}
use Rattle.std.specs.List.{AllByRecursion, list_any}
use Rattle.std.proofs.lemmas.Bool.{and_parts, both_ways, false_from_ne_true, false≢true, ne_eqb, eqb-true, not-true, or_cases}
use Rattle.std.proofs.lemmas.List.Concat.{flat_map-append}
use Rattle.asp_model.specs.declared.program.Body.TheVariants as body
use Rattle.asp_model.specs.declared.program.Head.{Head}
use Rattle.asp_model.specs.declared.program.Head.TheVariants as head
use Rattle.asp_model.specs.declared.program.Rule.{Rule}
use Rattle.asp_model.specs.declared.program.External.{External}
use Rattle.asp_model.specs.declared.program.ExternalValue.{ExternalValue}
use Rattle.asp_model.specs.declared.program.ExternalValue.TheVariants as value
use Rattle.asp_model.specs.declared.program.Program.{Program}
use Rattle.asp_model.specs.Sets.{Atoms, IsSubset, has, set_of}
use Rattle.asp_model.specs.Models.{external_rule, head_atoms, last_value, open_atoms, rules_in_force}
use Rattle.asp_model.specs.Opening.{opened_rules}
use Rattle.asp_model.proofs.SetLaws.{IsAscending-set_of, has-set_of, same_from_has}
use Rattle.asp_model.proofs.MemberLaws.{each_weaker, list_any-flat_map, list_any-weaker, each_of}
use Rattle.asp_model.proofs.ConsequenceLaws.{ascends-filter, has-filter}
use Rattle.asp_settle.specs.Settled.{fact_of, facts_in, heads_of, is_always, left_in, settled_head, settled_rule, single}
use Rattle.asp_settle.proofs.RuleLaws.{parts-read}
use Rattle.asp_settle.proofs.FactLaws.{fact-given}

-- ---- heads of what is left
head_kept : (F : Atoms) (a : ℕ) (h : Head) → list_any (λ x. has (head_atoms x) a) (settled_head F h) ≡ true → has (head_atoms h) a ≡ true
head_kept F a (head.One b) e = by (has F b) e
  where
    by : (c : Bool) → list_any (λ x. has (head_atoms x) a) (cond c [] (head.One b ∷ [])) ≡ true → (eqb b a || false) ≡ true
    by true k = absurd (false≢true k)
    by false k = elim (or_cases (eqb b a || false) false k) [ inl x ↦ x | inr x ↦ absurd (false≢true x) ]
head_kept F a (head.Choice atoms) e = elim (or_cases (has (filter (λ b. not (has F b)) atoms) a) false e) [
  | inl x ↦ (and_parts (not (has F a)) (has atoms a) (sym (has-filter (λ b. not (has F b)) atoms a) ∙ x)).1
  | inr x ↦ absurd (false≢true x)
]
head_kept F a head.Never e = absurd (false≢true e)

and-false : (c : Bool) → (c && false) ≡ false
and-false true = refl
and-false false = refl

and-true : (c : Bool) → c ≡ (c && true)
and-true true = refl
and-true false = refl

heads_by_rule : (rs : List Rule) (a : ℕ) → has (heads_of rs) a ≡ list_any (λ (r : Rule). has (head_atoms r.head) a && true) rs
heads_by_rule [] a = refl
heads_by_rule (r ∷ rs) a =
    list_any-flat_map (λ b. eqb b a) (λ (x : Rule). head_atoms x.head) (r ∷ rs)
    ∙ ap (λ c. c || list_any (λ (x : Rule). has (head_atoms x.head) a) rs) (and-true (has (head_atoms r.head) a))
    ∙ ap (λ c. (has (head_atoms r.head) a && true) || c) (sym (list_any-flat_map (λ b. eqb b a) (λ (x : Rule). head_atoms x.head) rs) ∙ heads_by_rule rs a)

pub heads-left : (F : Atoms) (rs : List Rule) → IsSubset (heads_of (flat_map (settled_rule F) rs)) (heads_of rs)
heads-left F rs a h =
    heads_by_rule rs a
    ∙ list_any-weaker (λ r. list_any (λ (x : Rule). has (head_atoms x.head) a && true) (settled_rule F r))
    (λ (r : Rule). has (head_atoms r.head) a && true) rs
    (each_of (λ (r : Rule). list_any (λ (x : Rule). has (head_atoms x.head) a && true) (settled_rule F r) ≡ true →
    (has (head_atoms r.head) a && true) ≡ true) (λ r e.
    sym (and-true (has (head_atoms r.head) a))
    ∙ head_kept F a r.head (and_parts (list_any (λ x. has (head_atoms x) a) (settled_head F r.head)) _ (sym (parts-read F (λ x. has (head_atoms x) a) (λ b. true) r) ∙ e)).0) rs)
    (sym (list_any-flat_map (λ (x : Rule). has (head_atoms x.head) a && true) (settled_rule F) rs) ∙ sym (heads_by_rule (flat_map (settled_rule F) rs) a) ∙ h)

-- ---- externals of what is left
abbrev is_open : Atoms → External → Bool
is_open H e = not (has H e.atom)

pub open-set : (H : List ℕ) (es : List External) → filter (λ e. not (has (set_of H) e.atom)) es ≡ filter (λ e. not (has H e.atom)) es
open-set H [] = refl
open-set H (e ∷ es) =
    ap (λ b. cond (not b) (e ∷ filter (λ x. not (has (set_of H) x.atom)) es) (filter (λ x. not (has (set_of H) x.atom)) es)) (has-set_of H e.atom)
    ∙ ap (λ xs. cond (is_open H e) (e ∷ xs) xs) (open-set H es)

-- what the externals on an atom say in the end, where v was said before
abbrev last_from : List External → ℕ → ExternalValue → ExternalValue
last_from es a v = fold (λ u e. cond (eqb e.atom a) e.value u) v es

last_one : (H : Atoms) (a : ℕ) (e : External) (es : List External) (v : ExternalValue) (c : Bool) → has H a ≡ false → has H e.atom ≡ c →
    ((u : ExternalValue) → last_from (filter (is_open H) es) a u ≡ last_from es a u) →
    last_from (cond (not c) (e ∷ filter (is_open H) es) (filter (is_open H) es)) a v ≡ last_from es a (cond (eqb e.atom a) e.value v)
last_one H a e es v true out h later =
    later v ∙ ap (last_from es a) (sym (ap (λ b. cond b e.value v) (ne_eqb e.atom a (λ same. both_ways (has H a) out (ap (has H) (sym same) ∙ h)))))
last_one H a e es v false out h later = later (cond (eqb e.atom a) e.value v)

last-left : (H : Atoms) (a : ℕ) → has H a ≡ false → (es : List External) (v : ExternalValue) → last_from (filter (is_open H) es) a v ≡ last_from es a v
last-left H a out [] v = refl
last-left H a out (e ∷ es) v = last_one H a e es v (has H e.atom) out refl (last-left H a out es)

-- the atoms that externals name
abbrev named : List External → List ℕ
named es = map (λ e. e.atom) es

named-kept : (H : Atoms) (a : ℕ) (e : External) (es : List External) (c : Bool) → has (named (cond c (e ∷ es) es)) a ≡ ((c && eqb e.atom a) || has (named es) a)
named-kept H a e es true = refl
named-kept H a e es false = refl

both_open : (c n r t : Bool) → (t ≡ true → c ≡ n) → ((c && t) || (n && r)) ≡ (n && (t || r))
both_open true true r true h = refl
both_open false false r true h = refl
both_open true false r true h = absurd (false≢true (sym (h refl)))
both_open false true r true h = absurd (false≢true (h refl))
both_open true n r false h = refl
both_open false n r false h = refl

open_there : (H : Atoms) (a : ℕ) (es : List External) → has (named (filter (is_open H) es)) a ≡ (not (has H a) && has (named es) a)
open_there H a [] = sym (and-false (not (has H a)))
open_there H a (e ∷ es) =
    named-kept H a e (filter (is_open H) es) (is_open H e)
    ∙ ap (λ b. (is_open H e && eqb e.atom a) || b) (open_there H a es)
    ∙ both_open (is_open H e) (not (has H a)) (has (named es) a) (eqb e.atom a) (λ t. ap (λ b. not (has H b)) (eqb-true e.atom a t))

twice : (f h e : Bool) → (f ≡ true → h ≡ true) → (not f && (not h && e)) ≡ (not h && e)
twice true true e k = refl
twice true false e k = absurd (false≢true (k refl))
twice false h e k = refl

-- the heads of the program, and of what is left
abbrev heads : Program → List ℕ
heads p = heads_of p.rules

abbrev heads' : Program → List ℕ
heads' p = heads_of (flat_map (settled_rule (facts_in p)) p.rules)

pub open-left : (p : Program) → open_atoms (left_in p) ≡ open_atoms p
open-left p = same_from_has (open_atoms (left_in p)) (open_atoms p)
    (ascends-filter (λ a. not (has (heads' p) a)) (set_of (named (filter (is_open (heads p)) p.externals)))
    (IsAscending-set_of (named (filter (is_open (heads p)) p.externals))))
    (ascends-filter (λ a. not (has (heads p) a)) (set_of (named p.externals)) (IsAscending-set_of (named p.externals))) (λ a.
    has-filter (λ b. not (has (heads' p) b)) (set_of (named (filter (is_open (heads p)) p.externals))) a
    ∙ ap (λ b. not (has (heads' p) a) && b) (has-set_of (named (filter (is_open (heads p)) p.externals)) a ∙ open_there (heads p) a p.externals)
    ∙ twice (has (heads' p) a) (has (heads p) a) (has (named p.externals) a) (heads-left (facts_in p) p.rules a)
    ∙ ap (λ b. not (has (heads p) a) && b) (sym (has-set_of (named p.externals) a))
    ∙ sym (has-filter (λ b. not (has (heads p) b)) (set_of (named p.externals)) a))

-- ---- rules of externals
rule-left : (F : Atoms) (a : ℕ) (v : ExternalValue) → has F a ≡ false → flat_map (settled_rule F) (external_rule a v) ≡ external_rule a v
rule-left F a value.Free out = ap (λ c. record { head = head.Choice (cond (not c) (a ∷ []) []); body = body.All [] } ∷ []) out
rule-left F a value.True out = ap (λ f. flat_map (λ h. map (λ b. record { head = h; body = b }) (body.All [] ∷ [])) (cond f [] (head.One a ∷ [])) ++ []) out
rule-left F a value.False out = refl
rule-left F a value.Release out = refl

-- the atom is no head, and so no fact
abbrev IsFreeAtom : Atoms → List ℕ → ℕ → Type 0
IsFreeAtom F H a = (has F a ≡ false) × (has H a ≡ false)

rules-left : (F H : Atoms) (es : List External) (L : List ℕ) → AllByRecursion (IsFreeAtom F H) L →
    flat_map (settled_rule F) (flat_map (λ a. external_rule a (last_value es a)) L) ≡ flat_map (λ a. external_rule a (last_value (filter (is_open H) es) a)) L
rules-left F H es [] free = refl
rules-left F H es (a ∷ L) free =
    flat_map-append (settled_rule F) (external_rule a (last_value es a)) (flat_map (λ b. external_rule b (last_value es b)) L)
    ∙ ap (λ rs. rs ++ flat_map (settled_rule F) (flat_map (λ b. external_rule b (last_value es b)) L))
    (rule-left F a (last_value es a) free.0.0 ∙ ap (external_rule a) (sym (last-left H a free.0.1 es value.Release)))
    ∙ ap (λ rs. external_rule a (last_value (filter (is_open H) es) a) ++ rs) (rules-left F H es L free.1)

pass_one : (q : ℕ → Bool) (x : ℕ) (xs : List ℕ) (c : Bool) → q x ≡ c → AllByRecursion (λ a. q a ≡ true) xs → AllByRecursion (λ a. q a ≡ true) (cond c (x ∷ xs) xs)
pass_one q x xs true e all = (e, all)
pass_one q x xs false e all = all

passing : (q : ℕ → Bool) (xs : List ℕ) → AllByRecursion (λ a. q a ≡ true) (filter q xs)
passing q [] = tt
passing q (x ∷ xs) = pass_one q x (filter q xs) (q x) refl (passing q xs)

single_head : (a : ℕ) (r : Rule) → has (fact_of r) a ≡ true → has (head_atoms r.head) a ≡ true
single_head a r e = by (is_always r.body) r.head e
  where
    by : (c : Bool) (h : Head) → has (cond c (single h) []) a ≡ true → has (head_atoms h) a ≡ true
    by true (head.One b) k = k
    by true (head.Choice atoms) k = absurd (false≢true k)
    by true head.Never k = absurd (false≢true k)
    by false h k = absurd (false≢true k)

pub facts-heads : (p : Program) → IsSubset (facts_in p) (heads_of p.rules)
facts-heads p a h =
    list_any-flat_map (λ b. eqb b a) (λ (r : Rule). head_atoms r.head) p.rules
    ∙ list_any-weaker (λ (r : Rule). has (fact_of r) a) (λ (r : Rule). has (head_atoms r.head) a) p.rules
    (each_of (λ r. has (fact_of r) a ≡ true → has (head_atoms r.head) a ≡ true) (single_head a) p.rules)
    (sym (list_any-flat_map (λ b. eqb b a) fact_of p.rules) ∙ fact-given p a h)

free : (p : Program) (a : ℕ) → not (has (heads p) a) ≡ true → IsFreeAtom (facts_in p) (heads p) a
free p a e =
    let out : has (heads p) a ≡ false = not-true (has (heads p) a) e in
    (false_from_ne_true (has (facts_in p) a) (λ fact. both_ways (has (heads p) a) out (facts-heads p a fact)), out)

pub force-left : (p : Program) → rules_in_force (left_in p) ≡ flat_map (settled_rule (facts_in p)) (rules_in_force p)
force-left p =
    let F = facts_in p in
    ap (λ L. flat_map (settled_rule F) p.rules ++ flat_map (λ a. external_rule a (last_value (filter (is_open (heads p)) p.externals) a)) L) (open-left p)
    ∙ ap (λ rs. flat_map (settled_rule F) p.rules ++ rs)
    (sym (rules-left F (heads p) p.externals (open_atoms p)
    (each_weaker (λ a. not (has (heads p) a) ≡ true) (IsFreeAtom F (heads p)) (free p) (open_atoms p)
    (passing (λ a. not (has (heads p) a)) (set_of (named p.externals))))))
    ∙ sym (flat_map-append (settled_rule F) p.rules (opened_rules p))
