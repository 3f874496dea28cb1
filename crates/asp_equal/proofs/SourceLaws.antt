-- An atom that copies another one is derived exactly where that is.
use Rattle.std.proofs.Common.{◌≡◌, ℕ, Bool, true, false, not, cond, ◌&&◌, ◌||◌, eqb, List, [], ◌∷◌, flat_map, fold, ℤ, pos, negsuc, int_lt, refl, sym, ap, ◌∙◌, arith}
use Rattle.std.specs.List.{list_any}
use Rattle.std.proofs.lemmas.Bool.{and_parts, both_ways, false≢true, false_from_ne_true, ne_eqb, or_from}
use Rattle.std.proofs.lemmas.Int.{ints}
use Rattle.std.proofs.lemmas.List.Folds.{list_any-append}
use Rattle.asp_model.specs.declared.program.Body.{Body}
use Rattle.asp_model.specs.declared.program.Body.TheVariants as body
use Rattle.asp_model.specs.declared.program.Head.{Head}
use Rattle.asp_model.specs.declared.program.Head.TheVariants as head
use Rattle.asp_model.specs.declared.program.Rule.{Rule}
use Rattle.asp_model.specs.declared.program.ExternalValue.{ExternalValue}
use Rattle.asp_model.specs.declared.program.ExternalValue.TheVariants as value
use Rattle.asp_model.specs.declared.program.Program.{Program}
use Rattle.asp_model.specs.Sets.{Atoms, has, set_of}
use Rattle.asp_model.specs.Holding.{atom_of}
use Rattle.asp_model.specs.Models.{external_rule, head_atoms, last_value, least_model, open_atoms, rules_in_force}
use Rattle.asp_model.specs.Opening.{opened_rules}
use Rattle.asp_model.specs.Reading.{body_holds_between, holds_between}
use Rattle.asp_model.specs.Reduct.{reduct, reduct_heads, step}
use Rattle.asp_model.specs.Sound.{IsSound}
use Rattle.asp_model.proofs.SetLaws.{has-set_of}
use Rattle.asp_model.proofs.MemberLaws.{each_of, list_any-flat_map, list_any-weaker}
use Rattle.asp_model.proofs.ModelLaws.{least_model-derived}
use Rattle.asp_model.proofs.ConsequenceLaws.{has-filter}
use Rattle.asp_equal.specs.Copies.{copied, named, noted, only_atom, source}
use Rattle.asp_equal.proofs.RuleLaws.{derives_at, has-step}

-- ---- rules without the atom in their heads
abbrev pub has_head : ℕ → Rule → Bool
has_head a r = has (head_atoms r.head) a

pub head_kept : (S : Atoms) (a : ℕ) (h : Head) → has (reduct_heads S h) a ≡ true → has (head_atoms h) a ≡ true
head_kept S a (head.One b) e = e
head_kept S a (head.Choice atoms) e = (and_parts (has S a) (has atoms a) (sym (has-filter (has S) atoms a) ∙ e)).1
head_kept S a head.Never e = e

derives_head : (S T : Atoms) (a : ℕ) (r : Rule) → derives_at S T a r ≡ true → has_head a r ≡ true
derives_head S T a r e = head_kept S a r.head (and_parts (has (reduct_heads S r.head) a) (body_holds_between S T r.body) e).0

pub derived-head : (S T : Atoms) (a : ℕ) (rs : List Rule) → list_any (derives_at S T a) rs ≡ true → list_any (has_head a) rs ≡ true
derived-head S T a rs e = list_any-weaker (derives_at S T a) (has_head a) rs (each_of (λ r. derives_at S T a r ≡ true → has_head a r ≡ true) (derives_head S T a) rs) e

pub underived : (S T : Atoms) (a : ℕ) (rs : List Rule) → list_any (has_head a) rs ≡ false → list_any (derives_at S T a) rs ≡ false
underived S T a rs out = false_from_ne_true (list_any (derives_at S T a) rs) (λ e. both_ways (list_any (has_head a) rs) out (derived-head S T a rs e))

-- ---- what is known of an atom, rule by rule

noted-itself : (a : ℕ) → (a ≡ 0 → ⊥) → (r : Rule) → noted a a r ≡ a
noted-itself a some r = by (has_head a r)
  where
    by : (c : Bool) → cond c (cond (eqb a 0) (copied a r.head r.body) a) a ≡ a
    by true = ap (λ b. cond b (copied a r.head r.body) a) (ne_eqb a 0 some)
    by false = refl

known-itself : (a : ℕ) → (a ≡ 0 → ⊥) → (rs : List Rule) → fold (noted a) a rs ≡ a
known-itself a some [] = refl
known-itself a some (r ∷ rs) = ap (λ s. fold (noted a) s rs) (noted-itself a some r) ∙ known-itself a some rs

kept_step : (a b s : ℕ) → (a ≡ 0 → ⊥) → (s ≡ 0 → ⊥) → (b ≡ a → ⊥) → (r : Rule) (rs : List Rule) (c : Bool) →
    (fold (noted a) s rs ≡ b → (s ≡ b) × (list_any (has_head a) rs ≡ false)) → has_head a r ≡ c →
    fold (noted a) (cond c (cond (eqb s 0) (copied a r.head r.body) a) s) rs ≡ b → (s ≡ b) × ((has_head a r || list_any (has_head a) rs) ≡ false)
kept_step a b s some known other r rs true later t k =
    absurd (other (sym (sym (known-itself a some rs) ∙ ap (λ x. fold (noted a) x rs) (sym (ap (λ x. cond x (copied a r.head r.body) a) (ne_eqb s 0 known))) ∙ k)))
kept_step a b s some known other r rs false later t k = let parts = later k in (parts.0, or_from (has_head a r) (list_any (has_head a) rs) t parts.1)

-- Where a copy is known in the end, no later rule has the atom in its head.
pub known-kept : (a b s : ℕ) → (a ≡ 0 → ⊥) → (s ≡ 0 → ⊥) → (b ≡ a → ⊥) → (rs : List Rule) → fold (noted a) s rs ≡ b → (s ≡ b) × (list_any (has_head a) rs ≡ false)
known-kept a b s some known other [] e = (e, refl)
known-kept a b s some known other (r ∷ rs) e = kept_step a b s some known other r rs (has_head a r) (known-kept a b s some known other rs) refl e

only-known : (a : ℕ) → (a ≡ 0 → ⊥) → (b : Body) → only_atom a b ≡ 0 → ⊥
only-known a some (body.All []) e = some e
only-known a some (body.All (l ∷ [])) e = by (int_lt (pos 0) l) refl e
  where
    atom-known : (k : ℤ) → int_lt (pos 0) k ≡ true → atom_of k ≡ 0 → ⊥
    atom-known k t z = grind (arith, ints)

    by : (c : Bool) → int_lt (pos 0) l ≡ c → cond c (atom_of l) a ≡ 0 → ⊥
    by true t z = atom-known l t z
    by false t z = some z
only-known a some (body.All (l ∷ k ∷ ls)) e = some e
only-known a some (body.AtLeast bound items) e = some e

pub copied-known : (a : ℕ) → (a ≡ 0 → ⊥) → (h : Head) (b : Body) → copied a h b ≡ 0 → ⊥
copied-known a some (head.One c) b e = only-known a some b e
copied-known a some (head.Choice atoms) b e = some e
copied-known a some head.Never b e = some e

-- ---- what a copying rule derives
and-true : (c : Bool) → (c && true) ≡ c
and-true true = refl
and-true false = refl

one-holds : (S T : Atoms) (a b : ℕ) (l : ℤ) → (b ≡ a → ⊥) → cond (int_lt (pos 0) l) (atom_of l) a ≡ b → holds_between S T l ≡ has T b
one-holds S T a b (pos d) other e = by (int_lt (pos 0) (pos d)) e
  where
    by : (c : Bool) → cond c d a ≡ b → has T d ≡ has T b
    by true k = ap (has T) k
    by false k = absurd (other (sym k))
one-holds S T a b (negsuc d) other e = absurd (other (sym e))

copy_derives : (S T : Atoms) (a b : ℕ) (h : Head) (x : Body) → (b ≡ a → ⊥) → has (head_atoms h) a ≡ true → copied a h x ≡ b → (has (reduct_heads S h) a && body_holds_between S T x) ≡ has T b
copy_derives S T a b (head.One c) (body.All []) other there e = absurd (other (sym e))
copy_derives S T a b (head.One c) (body.All (l ∷ [])) other there e = ap (λ t. t && (holds_between S T l && true)) there ∙ and-true (holds_between S T l) ∙ one-holds S T a b l other e
copy_derives S T a b (head.One c) (body.All (l ∷ k ∷ ls)) other there e = absurd (other (sym e))
copy_derives S T a b (head.One c) (body.AtLeast bound items) other there e = absurd (other (sym e))
copy_derives S T a b (head.Choice atoms) x other there e = absurd (other (sym e))
copy_derives S T a b head.Never x other there e = absurd (other (sym e))

or-nil : (b : Bool) → (b || false) ≡ b
or-nil true = refl
or-nil false = refl

sole_step : (S T : Atoms) (a b : ℕ) → (a ≡ 0 → ⊥) → (b ≡ a → ⊥) → (r : Rule) (rs : List Rule) (c : Bool) →
    (fold (noted a) 0 rs ≡ b → list_any (derives_at S T a) rs ≡ has T b) → has_head a r ≡ c →
    fold (noted a) (cond c (copied a r.head r.body) 0) rs ≡ b → (derives_at S T a r || list_any (derives_at S T a) rs) ≡ has T b
sole_step S T a b some other r rs true later t k =
    let parts = known-kept a b (copied a r.head r.body) some (copied-known a some r.head r.body) other rs k in
    ap (λ x. derives_at S T a r || x) (underived S T a rs parts.1) ∙ or-nil (derives_at S T a r) ∙ copy_derives S T a b r.head r.body other t parts.0
sole_step S T a b some other r rs false later t k =
    ap (λ x. x || list_any (derives_at S T a) rs) (false_from_ne_true (derives_at S T a r) (λ d. both_ways (has_head a r) t (derives_head S T a r d))) ∙ later k

pub sole-derives : (S T : Atoms) (a b : ℕ) → (a ≡ 0 → ⊥) → (b ≡ 0 → ⊥) → (b ≡ a → ⊥) → (rs : List Rule) → fold (noted a) 0 rs ≡ b → list_any (derives_at S T a) rs ≡ has T b
sole-derives S T a b some known other [] e = absurd (known (sym e))
sole-derives S T a b some known other (r ∷ rs) e = sole_step S T a b some other r rs (has_head a r) (sole-derives S T a b some known other rs) refl e

-- ---- least models
external_head : (a x : ℕ) (v : ExternalValue) → list_any (has_head a) (external_rule x v) ≡ true → eqb x a ≡ true
external_head a x value.Free e = sym (or-nil (eqb x a)) ∙ sym (or-nil (eqb x a || false)) ∙ e
external_head a x value.True e = sym (or-nil (eqb x a)) ∙ sym (or-nil (eqb x a || false)) ∙ e
external_head a x value.False e = absurd (false≢true e)
external_head a x value.Release e = absurd (false≢true e)

pub opened-named : (p : Program) (a : ℕ) → list_any (has_head a) (opened_rules p) ≡ true → has (named p) a ≡ true
opened-named p a e =
    let opened : has (open_atoms p) a ≡ true =
    list_any-weaker (λ x. list_any (has_head a) (external_rule x (last_value p.externals x))) (λ x. eqb x a) (open_atoms p)
    (each_of (λ x. list_any (has_head a) (external_rule x (last_value p.externals x)) ≡ true → eqb x a ≡ true)
    (λ x. external_head a x (last_value p.externals x)) (open_atoms p))
    (sym (list_any-flat_map (has_head a) (λ x. external_rule x (last_value p.externals x)) (open_atoms p)) ∙ e) in
    let heads : List ℕ = flat_map (λ (r : Rule). head_atoms r.head) p.rules in
    sym (has-set_of (named p) a) ∙ (and_parts (not (has heads a)) (has (set_of (named p)) a) (sym (has-filter (λ b. not (has heads b)) (set_of (named p)) a) ∙ opened)).1

pub derived-has : (p : Program) (S : Atoms) (a : ℕ) → IsSound p → has (step (reduct S (rules_in_force p)) (least_model p S)) a ≡ has (least_model p S) a
derived-has p S a sound = ap (λ T. has T a) (least_model-derived p S sound)

pub copy-derived : (p : Program) (S : Atoms) (a b : ℕ) → IsSound p → (a ≡ 0 → ⊥) → (b ≡ 0 → ⊥) → (b ≡ a → ⊥) → has (named p) a ≡ false →
    source p.rules a ≡ b → has (least_model p S) a ≡ has (least_model p S) b
copy-derived p S a b sound some known other out e =
    let L = least_model p S in
    let D = derives_at S L a in
    sym (derived-has p S a sound)
    ∙ has-step S L (rules_in_force p) a
    ∙ list_any-append D p.rules (opened_rules p)
    ∙ ap (λ x. list_any D p.rules || x) (underived S L a (opened_rules p) (false_from_ne_true (list_any (has_head a) (opened_rules p)) (λ h. both_ways (has (named p) a) out (opened-named p a h))))
    ∙ or-nil (list_any D p.rules)
    ∙ sole-derives S L a b some known other p.rules e
