-- In a stable set an atom that one rule alone derives is there where the one literal of this rule's body holds.
use Rattle.std.proofs.Common.{◌≡◌, ℕ, zero, suc, ◌<◌, ◌⊎◌, Bool, true, false, not, cond, ◌&&◌, ◌||◌, eqb, ltb, List, [], ◌∷◌, flat_map, map, refl, sym, ap, ◌∙◌, subst, ℤ, pos, negsuc, neg_ℤ, inl, inr, Option, Some, None, arith}
use Rattle.std.specs.List.{list_any, list_all}
use Rattle.std.proofs.lemmas.Bool.{and_parts, eq-eqb, eqb-true, false_from_ne_true, false≢true, ltb-true, or_cases}
use Rattle.std.proofs.lemmas.List.Folds.{list_any-append}
use Rattle.asp_model.specs.declared.program.Body.{Body}
use Rattle.asp_model.specs.declared.program.Body.TheVariants as body
use Rattle.asp_model.specs.declared.program.Head.{Head}
use Rattle.asp_model.specs.declared.program.Head.TheVariants as head
use Rattle.asp_model.specs.declared.program.Rule.{Rule}
use Rattle.asp_model.specs.declared.program.External.{External}
use Rattle.asp_model.specs.declared.program.ExternalValue.{ExternalValue}
use Rattle.asp_model.specs.declared.program.ExternalValue.TheVariants as value
use Rattle.asp_model.specs.declared.program.Program.{Program}
use Rattle.asp_model.specs.Sets.{Atoms, has, set_of}
use Rattle.asp_model.specs.Holding.{atom_of, holds, is_positive}
use Rattle.asp_model.specs.Models.{external_rule, head_atoms, is_stable, last_value, least_model, open_atoms, rules_in_force}
use Rattle.asp_model.specs.Reading.{body_holds_between, derived_heads, holds_between}
use Rattle.asp_model.specs.Reduct.{reduct, reduct_heads, step}
use Rattle.asp_model.specs.Sound.{IsSound, is_literal, is_sound_rule}
use Rattle.asp_model.proofs.ConsequenceLaws.{has-filter}
use Rattle.asp_model.proofs.MemberLaws.{each_of, list_any-flat_map, list_any-weaker}
use Rattle.asp_model.proofs.ModelLaws.{least_model-derived, stable-least}
use Rattle.asp_model.proofs.ReadingLaws.{step_read}
use Rattle.asp_model.proofs.SetLaws.{has-set_of}
use Rattle.asp_unfold.specs.Unfolded.{literal_by, literal_of, replaced, rules_for, unfolded_literal}
use Rattle.asp_unfold.proofs.ListLaws.{all_passing, any_kept, any_passing, first_passes}

-- ---- the rule that defines an atom
abbrev pub defining : ℕ → ℤ → Rule
defining a m = record { head = head.One a; body = body.All (m ∷ []) }

shape : (a : ℕ) (m : ℤ) (h : Head) (b : Body) → literal_by h b ≡ Some m → has (head_atoms h) a ≡ true → (h ≡ head.One a) × (b ≡ body.All (m ∷ []))
shape a m (head.One c) (body.All []) e k = absurd cc
shape a m (head.One c) (body.All (n ∷ [])) e k =
    let same : c ≡ a = elim (or_cases (eqb c a) false k) [ inl x ↦ eqb-true c a x | inr x ↦ absurd (false≢true x) ] in
    let is : n ≡ m = cc in
    (ap (λ (x : ℕ). head.One x) same, ap (λ (x : ℤ). body.All (x ∷ [])) is)
shape a m (head.One c) (body.All (n ∷ l ∷ ls)) e k = absurd cc
shape a m (head.One c) (body.AtLeast bound items) e k = absurd cc
shape a m (head.Choice atoms) b e k = absurd cc
shape a m head.Never b e k = absurd cc

-- it is the one rule that derives the atom
pub defined : (rules : List Rule) (a : ℕ) (m : ℤ) → literal_of (rules_for a rules) ≡ Some m → rules_for a rules ≡ defining a m ∷ []
defined rules a m e = by (rules_for a rules) refl e
  where
    by : (rs : List Rule) → rules_for a rules ≡ rs → literal_of rs ≡ Some m → rules_for a rules ≡ defining a m ∷ []
    by [] is of = absurd cc
    by (r ∷ []) is of =
        let parts = shape a m r.head r.body of (first_passes (λ (x : Rule). has (head_atoms x.head) a) rules r [] is) in
        is ∙ ap (λ (h : Head). (record { head = h; body = r.body }) ∷ []) parts.0 ∙ ap (λ (b : Body). (record { head = head.One a; body = b }) ∷ []) parts.1
    by (r ∷ s ∷ rs) is of = absurd cc

-- its literal has an atom
pub defined-literal : (p : Program) (a : ℕ) (m : ℤ) → IsSound p → literal_of (rules_for a p.rules) ≡ Some m → is_literal m ≡ true
defined-literal p a m sound e =
    let all = all_passing is_sound_rule (λ (r : Rule). has (head_atoms r.head) a) p.rules sound.rules in
    let one : list_all is_sound_rule (defining a m ∷ []) ≡ true = ap (list_all is_sound_rule) (sym (defined p.rules a m e)) ∙ all in
    (and_parts (is_literal m) true (and_parts _ _ (and_parts (is_sound_rule (defining a m)) true one).0).1).0

pub literal-above : (m : ℤ) → is_literal m ≡ true → 0 < atom_of m
literal-above m e = ltb-true 0 (atom_of m) (and_parts (ltb 0 (atom_of m)) _ e).0

-- ---- what derives an atom of a stable set
abbrev derives : Atoms → ℕ → Rule → Bool
derives S a r = has (derived_heads S S r) a

heads-derive : (S : Atoms) (a : ℕ) (b : Bool) (h : Head) → has (cond b (reduct_heads S h) []) a ≡ true → has (head_atoms h) a ≡ true
heads-derive S a true (head.One c) e = e
heads-derive S a true (head.Choice atoms) e = (and_parts (has S a) (has atoms a) (sym (has-filter (has S) atoms a) ∙ e)).1
heads-derive S a true head.Never e = e
heads-derive S a false h e = absurd (false≢true e)

derives-heads : (S : Atoms) (a : ℕ) (r : Rule) → derives S a r ≡ true → has (head_atoms r.head) a ≡ true
derives-heads S a r e = heads-derive S a (body_holds_between S S r.body) r.head e

only-one : (b : Bool) → (b || false) ≡ true → b ≡ true
only-one true e = refl
only-one false e = e

external-derives : (S : Atoms) (a b : ℕ) (v : ExternalValue) → list_any (derives S a) (external_rule b v) ≡ true → eqb b a ≡ true
external-derives S a b value.Free e = only-one (eqb b a) (derives-heads S a (record { head = head.Choice (b ∷ []); body = body.All [] }) (only-one _ e))
external-derives S a b value.True e = only-one (eqb b a) (derives-heads S a (record { head = head.One b; body = body.All [] }) (only-one _ e))
external-derives S a b value.False e = absurd (false≢true e)
external-derives S a b value.Release e = absurd (false≢true e)

-- no external speaks of an atom of a head
no-external : (S : Atoms) (a : ℕ) (p : Program) → has (flat_map (λ (r : Rule). head_atoms r.head) p.rules) a ≡ true →
    list_any (derives S a) (flat_map (λ b. external_rule b (last_value p.externals b)) (open_atoms p)) ≡ false
no-external S a p headed = false_from_ne_true _ (λ some.
    let each : list_any (λ b. list_any (derives S a) (external_rule b (last_value p.externals b))) (open_atoms p) ≡ true =
    sym (list_any-flat_map (derives S a) (λ b. external_rule b (last_value p.externals b)) (open_atoms p)) ∙ some in
    let open_is : has (open_atoms p) a ≡ true =
    list_any-weaker (λ b. list_any (derives S a) (external_rule b (last_value p.externals b))) (λ b. eqb b a) (open_atoms p)
    (each_of (λ b. list_any (derives S a) (external_rule b (last_value p.externals b)) ≡ true → eqb b a ≡ true)
    (λ b e. external-derives S a b (last_value p.externals b) e) (open_atoms p)) each in
    let parts = and_parts (not (has (flat_map (λ (r : Rule). head_atoms r.head) p.rules) a)) _
    (sym (has-filter (λ b. not (has (flat_map (λ (r : Rule). head_atoms r.head) p.rules) b)) (set_of (map (λ (e : External). e.atom) p.externals))
    a) ∙ open_is) in
    false≢true (sym (ap not headed) ∙ parts.0))

stable-derives : (p : Program) (S : Atoms) (a : ℕ) → IsSound p → is_stable p S ≡ true → has S a ≡ list_any (derives S a) (rules_in_force p)
stable-derives p S a sound stable =
    let least : S ≡ least_model p S = stable-least p S stable in
    let fixed : step (reduct S (rules_in_force p)) S ≡ S = subst (λ (T : Atoms). step (reduct S (rules_in_force p)) T ≡ T) (sym least) (least_model-derived p S sound) in
    ap (λ (T : Atoms). has T a) (sym fixed)
    ∙ (ap (λ (T : Atoms). has T a) (step_read S S (rules_in_force p))
    ∙ (has-set_of (flat_map (derived_heads S S) (rules_in_force p)) a
    ∙ list_any-flat_map (λ b. eqb b a) (derived_heads S S) (rules_in_force p)))

-- ---- the rule that defines it
pub has-heads : (rules : List Rule) (a : ℕ) (m : ℤ) → literal_of (rules_for a rules) ≡ Some m → has (flat_map (λ (r : Rule). head_atoms r.head) rules) a ≡ true
has-heads rules a m e =
    let here : list_any (λ (r : Rule). has (head_atoms r.head) a) (defining a m ∷ []) ≡ true = ap (λ (b : Bool). (b || false) || false) (eq-eqb a a refl) in
    list_any-flat_map (λ b. eqb b a) (λ (r : Rule). head_atoms r.head) rules
    ∙ any_passing (λ (r : Rule). has (head_atoms r.head) a) (λ (r : Rule). has (head_atoms r.head) a) rules (ap (list_any (λ (r : Rule). has (head_atoms r.head) a)) (defined rules a m e) ∙ here)

between-itself : (S : Atoms) (m : ℤ) → holds_between S S m ≡ holds S m
between-itself S (pos n) = refl
between-itself S (negsuc n) = refl

one-derives : (S : Atoms) (a : ℕ) (m : ℤ) → list_any (derives S a) (defining a m ∷ []) ≡ holds S m
one-derives S a m = by (holds_between S S m) ∙ between-itself S m
  where
    by : (b : Bool) → (has (cond (b && true) (a ∷ []) []) a || false) ≡ b
    by true = ap (λ (b : Bool). (b || false) || false) (eq-eqb a a refl)
    by false = refl

or-none : (b c : Bool) → c ≡ false → (b || c) ≡ b
or-none true c e = refl
or-none false c e = e

pub has-defined : (p : Program) (S : Atoms) (a : ℕ) (m : ℤ) → IsSound p → is_stable p S ≡ true → literal_of (rules_for a p.rules) ≡ Some m → has S a ≡ holds S m
has-defined p S a m sound stable e =
    let others = flat_map (λ b. external_rule b (last_value p.externals b)) (open_atoms p) in
    stable-derives p S a sound stable
    ∙ (list_any-append (derives S a) p.rules others
    ∙ (or-none (list_any (derives S a) p.rules) (list_any (derives S a) others) (no-external S a p (has-heads p.rules a m e))
    ∙ (any_kept (derives S a) (λ (r : Rule). has (head_atoms r.head) a) (λ r d. derives-heads S a r d) p.rules
    ∙ (ap (list_any (derives S a)) (defined p.rules a m e) ∙ one-derives S a m))))

-- ---- literals
twice-not : (b : Bool) → b ≡ not (not b)
twice-not true = refl
twice-not false = refl

holds-complement : (S : Atoms) (m : ℤ) → 0 < atom_of m → holds S (neg_ℤ m) ≡ not (holds S m)
holds-complement S (pos zero) above = absurd (omega (arith, above))
holds-complement S (pos (suc n)) above = refl
holds-complement S (negsuc n) above = twice-not (has S (suc n))

pub atom-complement : (m : ℤ) → atom_of (neg_ℤ m) ≡ atom_of m
atom-complement (pos zero) = refl
atom-complement (pos (suc n)) = refl
atom-complement (negsuc n) = refl

replaced-holds : (S : Atoms) (l : ℤ) (o : Option ℤ) → ((m : ℤ) → o ≡ Some m → (has S (atom_of l) ≡ holds S m) × (0 < atom_of m)) → holds S (replaced l o) ≡ holds S l
replaced-holds S l None h = refl
replaced-holds S (pos a) (Some m) h = by (ltb (atom_of m) a)
  where
    by : (b : Bool) → holds S (cond b m (pos a)) ≡ has S a
    by true = sym (h m refl).0
    by false = refl
replaced-holds S (negsuc k) (Some m) h = by (ltb (atom_of m) (suc k))
  where
    by : (b : Bool) → holds S (cond b (neg_ℤ m) (negsuc k)) ≡ not (has S (suc k))
    by true = holds-complement S m (h m refl).1 ∙ ap not (sym (h m refl).0)
    by false = refl

pub unfolded-holds : (p : Program) (S : Atoms) (l : ℤ) → IsSound p → is_stable p S ≡ true → holds S (unfolded_literal p.rules l) ≡ holds S l
unfolded-holds p S l sound stable = by (ltb (atom_of l) _)
  where
    by : (b : Bool) → holds S (cond b (replaced l (literal_of (rules_for (atom_of l) p.rules))) l) ≡ holds S l
    by true = replaced-holds S l (literal_of (rules_for (atom_of l) p.rules)) (λ m e. (has-defined p S (atom_of l) m sound stable e, literal-above m (defined-literal p (atom_of l) m sound e)))
    by false = refl

-- a literal stays, or has the atom of the one that defines its own
replaced-is : (l : ℤ) (o : Option ℤ) → (replaced l o ≡ l) ⊎ ((m : ℤ) × (o ≡ Some m) × (atom_of (replaced l o) ≡ atom_of m))
replaced-is l None = inl refl
replaced-is l (Some m) = by (ltb (atom_of m) (atom_of l)) (is_positive l)
  where
    by : (b c : Bool) → (cond b (cond c m (neg_ℤ m)) l ≡ l) ⊎ ((n : ℤ) × (Some m ≡ Some n) × (atom_of (cond b (cond c m (neg_ℤ m)) l) ≡ atom_of n))
    by true true = inr (m, refl, refl)
    by true false = inr (m, refl, atom-complement m)
    by false c = inl refl

pub unfolded-is : (rules : List Rule) (l : ℤ) → (unfolded_literal rules l ≡ l) ⊎ ((m : ℤ) × (literal_of (rules_for (atom_of l) rules) ≡ Some m) × (atom_of (unfolded_literal rules l) ≡ atom_of m))
unfolded-is rules l = by (ltb (atom_of l) _)
  where
    by : (b : Bool) → (cond b (replaced l (literal_of (rules_for (atom_of l) rules))) l ≡ l) ⊎
        ((m : ℤ) × (literal_of (rules_for (atom_of l) rules) ≡ Some m) ×
        (atom_of (cond b (replaced l (literal_of (rules_for (atom_of l) rules))) l) ≡ atom_of m))
    by true = replaced-is l (literal_of (rules_for (atom_of l) rules))
    by false = inl refl
