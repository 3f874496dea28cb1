-- The merged rules derive what the rules do, read through the atoms by which others go, and are violated where the rules are.
use Rattle.std.proofs.Common.{◌≡◌, ℕ, Bool, true, false, not, cond, ◌&&◌, ◌||◌, eqb, List, [], ◌∷◌, flat_map, ℤ, pos, negsuc, refl, sym, ap, ◌∙◌, ◌⊎◌, inl, inr}
use Rattle.std.specs.List.{list_any}
use Rattle.std.proofs.lemmas.Bool.{and_from, and_parts, eqb-true, false≢true, or_cases, or_left, or_right}
use Rattle.std.proofs.lemmas.List.Folds.{list_any-append}
use Rattle.asp_model.specs.declared.program.Body.{Body}
use Rattle.asp_model.specs.declared.program.Body.TheVariants as body
use Rattle.asp_model.specs.declared.program.Head.{Head}
use Rattle.asp_model.specs.declared.program.Head.TheVariants as head
use Rattle.asp_model.specs.declared.program.Rule.{Rule}
use Rattle.asp_model.specs.Sets.{Atoms, has}
use Rattle.asp_model.specs.Holding.{body_holds}
use Rattle.asp_model.specs.Reading.{body_holds_between, derived_heads, holds_between}
use Rattle.asp_model.specs.Reduct.{reduct, reduct_heads, step}
use Rattle.asp_model.specs.Models.{is_never, is_violated}
use Rattle.asp_model.proofs.SetLaws.{has-set_of}
use Rattle.asp_model.proofs.MemberLaws.{list_any-flat_map}
use Rattle.asp_model.proofs.ReadingLaws.{step_read}
use Rattle.asp_equal.specs.Merged.{is_copying, is_same, merged_rule, renamed_body, renamed_head, renamed_rule}
use Rattle.asp_equal.proofs.ReadLaws.{IsProper, Reads, body-between, body-read, head-back, head-there, never-read}

-- ---- what rules derive
-- whether the rule's part of the reduct by S derives the atom from T
abbrev pub derives_at : Atoms → Atoms → ℕ → Rule → Bool
derives_at S T a r = has (reduct_heads S r.head) a && body_holds_between S T r.body

and-true : (c : Bool) → c ≡ (c && true)
and-true true = refl
and-true false = refl

and-false : (c : Bool) → false ≡ (c && false)
and-false true = refl
and-false false = refl

derived_by : (b : Bool) (xs : List ℕ) (a : ℕ) → has (cond b xs []) a ≡ (has xs a && b)
derived_by true xs a = and-true (has xs a)
derived_by false xs a = and-false (has xs a)

pub has-step : (S T : Atoms) (rs : List Rule) (a : ℕ) → has (step (reduct S rs) T) a ≡ list_any (derives_at S T a) rs
has-step S T rs a =
    ap (λ U. has U a) (step_read S T rs)
    ∙ has-set_of (flat_map (derived_heads S T) rs) a
    ∙ list_any-flat_map (λ b. eqb b a) (derived_heads S T) rs
    ∙ each rs
  where
    each : (xs : List Rule) → list_any (λ x. has (derived_heads S T x) a) xs ≡ list_any (derives_at S T a) xs
    each [] = refl
    each (x ∷ xs) =
        ap (λ b. b || list_any (λ y. has (derived_heads S T y) a) xs) (derived_by (body_holds_between S T x.body) (reduct_heads S x.head) a)
        ∙ ap (λ b. derives_at S T a x || b) (each xs)

-- ---- rules that derive an atom from one that is the same
same_read : (m : ℕ → ℕ) (X Y T : Atoms) → Reads m Y T → (b a : ℕ) (l : ℤ) → is_same m b l ≡ true → b ≡ a → holds_between X Y l ≡ true → has Y a ≡ true
same_read m X Y T s b a (pos d) same is holding =
    let e : m d ≡ m b = eqb-true (m d) (m b) (and_parts (not (eqb d b)) (eqb (m d) (m b)) same).1 in
    s a ∙ ap (λ c. has T (m c)) (sym is) ∙ ap (has T) (sym e) ∙ sym (s d) ∙ holding
same_read m X Y T s b a (negsuc d) same is holding = absurd (false≢true same)

or-nil : (b : Bool) → (b || false) ≡ b
or-nil true = refl
or-nil false = refl

pub copying-held : (m : ℕ → ℕ) (X Y T : Atoms) → Reads m Y T → (h : Head) (b : Body) (a : ℕ) → is_copying m h b ≡ true →
    has (reduct_heads X h) a ≡ true → body_holds_between X Y b ≡ true → has Y a ≡ true
copying-held m X Y T s (head.One c) (body.All []) a copy there holding = absurd (false≢true copy)
copying-held m X Y T s (head.One c) (body.All (l ∷ [])) a copy there holding =
    same_read m X Y T s c a l copy (eqb-true c a (sym (or-nil (eqb c a)) ∙ there)) (and_parts (holds_between X Y l) true holding).0
copying-held m X Y T s (head.One c) (body.All (l ∷ k ∷ ls)) a copy there holding = absurd (false≢true copy)
copying-held m X Y T s (head.One c) (body.AtLeast bound items) a copy there holding = absurd (false≢true copy)
copying-held m X Y T s (head.Choice atoms) b a copy there holding = absurd (false≢true copy)
copying-held m X Y T s head.Never b a copy there holding = absurd (false≢true copy)

never-copying : (m : ℕ → ℕ) (h : Head) (b : Body) → is_copying m h b ≡ true → is_never h ≡ false
never-copying m (head.One c) b copy = refl
never-copying m (head.Choice atoms) b copy = refl
never-copying m head.Never b copy = absurd (false≢true copy)

-- ---- one rule
pub rule-there : (m : ℕ → ℕ) (X S Y T : Atoms) → IsProper m → Reads m X S → Reads m Y T → (a : ℕ) (r : Rule) → derives_at X Y a r ≡ true →
    (list_any (derives_at S T (m a)) (merged_rule m r) ≡ true) ⊎ (has Y a ≡ true)
rule-there m X S Y T proper r s a rule h = by (is_copying m rule.head rule.body) refl
  where
    parts : (has (reduct_heads X rule.head) a ≡ true) × (body_holds_between X Y rule.body ≡ true)
    parts = and_parts (has (reduct_heads X rule.head) a) (body_holds_between X Y rule.body) h

    derived : derives_at S T (m a) (renamed_rule m rule) ≡ true
    derived = and_from (has (reduct_heads S (renamed_head m rule.head)) (m a)) (body_holds_between S T (renamed_body m rule.body))
        (head-there m X S r rule.head a parts.0) (body-between m X S Y T proper r s rule.body ∙ parts.1)

    by : (c : Bool) → is_copying m rule.head rule.body ≡ c → (list_any (derives_at S T (m a)) (cond c [] (renamed_rule m rule ∷ [])) ≡ true) ⊎ (has Y a ≡ true)
    by true e = inr (copying-held m X Y T s rule.head rule.body a e parts.0 parts.1)
    by false e = inl (or_left (derives_at S T (m a) (renamed_rule m rule)) false derived)

-- The rule derives one of the atoms that go by what the merged one derives.
pub rule-back : (m : ℕ → ℕ) (X S Y T : Atoms) → IsProper m → Reads m X S → Reads m Y T → (c : ℕ) (r : Rule) →
    list_any (derives_at S T c) (merged_rule m r) ≡ true → (a : ℕ) × (m a ≡ c) × (derives_at X Y a r ≡ true)
rule-back m X S Y T proper r s c rule h = by (is_copying m rule.head rule.body) h
  where
    by : (b : Bool) → list_any (derives_at S T c) (cond b [] (renamed_rule m rule ∷ [])) ≡ true → (a : ℕ) × (m a ≡ c) × (derives_at X Y a rule ≡ true)
    by true e = absurd (false≢true e)
    by false e =
        let parts = and_parts (has (reduct_heads S (renamed_head m rule.head)) c) (body_holds_between S T (renamed_body m rule.body)) (sym (or-nil (derives_at S T c (renamed_rule m rule))) ∙ e) in
        let t = head-back m S rule.head c parts.0 in
        (t.0, t.1, and_from (has (reduct_heads X rule.head) t.0) (body_holds_between X Y rule.body) (t.2 X r) (sym (body-between m X S Y T proper r s rule.body) ∙ parts.1))

-- What a merged rule derives doesn't go.
pub rule-fixed : (m : ℕ → ℕ) (S T : Atoms) → ((a : ℕ) → m (m a) ≡ m a) → (c : ℕ) (r : Rule) → list_any (derives_at S T c) (merged_rule m r) ≡ true → m c ≡ c
rule-fixed m S T twice c rule h = by (is_copying m rule.head rule.body) h
  where
    by : (b : Bool) → list_any (derives_at S T c) (cond b [] (renamed_rule m rule ∷ [])) ≡ true → m c ≡ c
    by true e = absurd (false≢true e)
    by false e =
        let parts = and_parts (has (reduct_heads S (renamed_head m rule.head)) c) (body_holds_between S T (renamed_body m rule.body)) (sym (or-nil (derives_at S T c (renamed_rule m rule))) ∙ e) in
        let t = head-back m S rule.head c parts.0 in
        ap m (sym t.1) ∙ twice t.0 ∙ t.1

pub rule-violated : (m : ℕ → ℕ) (X S : Atoms) → IsProper m → Reads m X S → (r : Rule) → list_any (is_violated S) (merged_rule m r) ≡ is_violated X r
rule-violated m X S proper r rule = by (is_copying m rule.head rule.body) refl
  where
    by : (c : Bool) → is_copying m rule.head rule.body ≡ c → list_any (is_violated S) (cond c [] (renamed_rule m rule ∷ [])) ≡ is_violated X rule
    by true e = sym (ap (λ b. b && body_holds X rule.body) (never-copying m rule.head rule.body e))
    by false e =
        or-nil (is_violated S (renamed_rule m rule))
        ∙ ap (λ b. b && body_holds S (renamed_body m rule.body)) (never-read m rule.head)
        ∙ ap (λ b. is_never rule.head && b) (body-read m X S proper r rule.body)

-- ---- all rules
pub rules-there : (m : ℕ → ℕ) (X S Y T : Atoms) → IsProper m → Reads m X S → Reads m Y T → (a : ℕ) (rs : List Rule) →
    list_any (derives_at X Y a) rs ≡ true → (list_any (derives_at S T (m a)) (flat_map (merged_rule m) rs) ≡ true) ⊎ (has Y a ≡ true)
rules-there m X S Y T proper r s a [] h = absurd (false≢true h)
rules-there m X S Y T proper r s a (x ∷ rs) h =
    let D = derives_at S T (m a) in
    let rest = flat_map (merged_rule m) rs in
    let whole = list_any-append D (merged_rule m x) rest in
    elim (or_cases (derives_at X Y a x) (list_any (derives_at X Y a) rs) h) [
      | inl e ↦ elim (rule-there m X S Y T proper r s a x e) [
        | inl d ↦ inl (whole ∙ or_left (list_any D (merged_rule m x)) (list_any D rest) d)
        | inr d ↦ inr d
      ]
      | inr e ↦ elim (rules-there m X S Y T proper r s a rs e) [
        | inl d ↦ inl (whole ∙ or_right (list_any D (merged_rule m x)) (list_any D rest) d)
        | inr d ↦ inr d
      ]
    ]

pub rules-back : (m : ℕ → ℕ) (X S Y T : Atoms) → IsProper m → Reads m X S → Reads m Y T → (c : ℕ) (rs : List Rule) →
    list_any (derives_at S T c) (flat_map (merged_rule m) rs) ≡ true → (a : ℕ) × (m a ≡ c) × (list_any (derives_at X Y a) rs ≡ true)
rules-back m X S Y T proper r s c [] h = absurd (false≢true h)
rules-back m X S Y T proper r s c (x ∷ rs) h =
    let D = derives_at S T c in
    elim (or_cases (list_any D (merged_rule m x)) (list_any D (flat_map (merged_rule m) rs)) (sym (list_any-append D (merged_rule m x) (flat_map (merged_rule m) rs)) ∙ h)) [
      | inl e ↦ let t = rule-back m X S Y T proper r s c x e in (t.0, t.1, or_left (derives_at X Y t.0 x) (list_any (derives_at X Y t.0) rs) t.2)
      | inr e ↦ let t = rules-back m X S Y T proper r s c rs e in (t.0, t.1, or_right (derives_at X Y t.0 x) (list_any (derives_at X Y t.0) rs) t.2)
    ]

pub rules-fixed : (m : ℕ → ℕ) (S T : Atoms) → ((a : ℕ) → m (m a) ≡ m a) → (c : ℕ) (rs : List Rule) → list_any (derives_at S T c) (flat_map (merged_rule m) rs) ≡ true → m c ≡ c
rules-fixed m S T twice c [] h = absurd (false≢true h)
rules-fixed m S T twice c (x ∷ rs) h =
    let D = derives_at S T c in
    elim (or_cases (list_any D (merged_rule m x)) (list_any D (flat_map (merged_rule m) rs)) (sym (list_any-append D (merged_rule m x) (flat_map (merged_rule m) rs)) ∙ h)) [
      | inl e ↦ rule-fixed m S T twice c x e
      | inr e ↦ rules-fixed m S T twice c rs e
    ]

pub rules-violated : (m : ℕ → ℕ) (X S : Atoms) → IsProper m → Reads m X S → (rs : List Rule) → list_any (is_violated S) (flat_map (merged_rule m) rs) ≡ list_any (is_violated X) rs
rules-violated m X S proper r [] = refl
rules-violated m X S proper r (x ∷ rs) =
    list_any-append (is_violated S) (merged_rule m x) (flat_map (merged_rule m) rs)
    ∙ ap (λ b. b || list_any (is_violated S) (flat_map (merged_rule m) rs)) (rule-violated m X S proper r x)
    ∙ ap (λ b. is_violated X x || b) (rules-violated m X S proper r rs)
