-- What is left of a rule derives what the rule does, but for the facts, and is violated where the rule is.
use Rattle.std.proofs.Common.{◌≡◌, ℕ, Bool, true, false, not, cond, ◌&&◌, ◌||◌, eqb, List, [], ◌∷◌, map, filter, flat_map, refl, sym, ap, ◌∙◌}
use Rattle.std.specs.List.{AllByRecursion, list_any}
use Rattle.std.proofs.lemmas.Bool.{both_ways, ne_eqb}
use Rattle.asp_model.specs.declared.program.Body.{Body}
use Rattle.asp_model.specs.declared.program.Head.{Head}
use Rattle.asp_model.specs.declared.program.Head.TheVariants as head
use Rattle.asp_model.specs.declared.program.Rule.{Rule}
use Rattle.asp_model.specs.Sets.{Atoms, has}
use Rattle.asp_model.specs.Holding.{body_holds}
use Rattle.asp_model.specs.Reading.{body_holds_between, derived_heads}
use Rattle.asp_model.specs.Reduct.{reduct, reduct_heads, step}
use Rattle.asp_model.specs.Models.{is_never, is_violated}
use Rattle.asp_model.specs.Sound.{is_sound_body}
use Rattle.asp_model.proofs.SetLaws.{has-set_of}
use Rattle.asp_model.proofs.MemberLaws.{each_of, each_weaker, list_any-flat_map, list_any-map}
use Rattle.asp_model.proofs.ReadingLaws.{same_body, step_read}
use Rattle.asp_model.proofs.ConsequenceLaws.{has-filter}
use Rattle.asp_settle.specs.Settled.{settled_body, settled_head, settled_rule, united}
use Rattle.asp_settle.proofs.ReadLaws.{body-read, has-united, or-false}

-- ---- a test of heads and one of bodies
both_under : {X : Type 0} (c : Bool) (p : X → Bool) (xs : List X) → list_any (λ x. c && p x) xs ≡ (c && list_any p xs)
both_under true p [] = refl
both_under false p [] = refl
both_under true p (x ∷ xs) = ap (λ b. p x || b) (both_under true p xs)
both_under false p (x ∷ xs) = both_under false p xs

each_or : (a b c : Bool) → ((a && c) || (b && c)) ≡ ((a || b) && c)
each_or true true true = refl
each_or true true false = refl
each_or true false true = refl
each_or true false false = refl
each_or false b c = refl

with_both : {X : Type 0} (p : X → Bool) (c : Bool) (xs : List X) → list_any (λ x. p x && c) xs ≡ (list_any p xs && c)
with_both p c [] = refl
with_both p c (x ∷ xs) = ap (λ b. (p x && c) || b) (with_both p c xs) ∙ each_or (p x) (list_any p xs) c

abbrev test_of : (Head → Bool) → (Body → Bool) → Rule → Bool
test_of P Q r = P r.head && Q r.body

abbrev rules_with : List Body → Head → List Rule
rules_with bs h = map (λ b. record { head = h; body = b }) bs

one_head : (P : Head → Bool) (Q : Body → Bool) (bs : List Body) (h : Head) → list_any (test_of P Q) (rules_with bs h) ≡ (P h && list_any Q bs)
one_head P Q bs h = list_any-map (test_of P Q) (λ b. record { head = h; body = b }) bs ∙ both_under (P h) Q bs

all_heads : (P : Head → Bool) (Q : Body → Bool) (bs : List Body) (hs : List Head) → list_any (test_of P Q) (flat_map (rules_with bs) hs) ≡ (list_any P hs && list_any Q bs)
all_heads P Q bs [] = refl
all_heads P Q bs (h ∷ hs) =
    list_any-flat_map (test_of P Q) (rules_with bs) (h ∷ hs)
    ∙ ap (λ b. b || list_any (λ x. list_any (test_of P Q) (rules_with bs x)) hs) (one_head P Q bs h)
    ∙ ap (λ b. (P h && list_any Q bs) || b) (sym (list_any-flat_map (test_of P Q) (rules_with bs) hs) ∙ all_heads P Q bs hs)
    ∙ each_or (P h) (list_any P hs) (list_any Q bs)

pub parts-read : (F : Atoms) (P : Head → Bool) (Q : Body → Bool) (r : Rule) →
    list_any (λ x. P x.head && Q x.body) (settled_rule F r) ≡ (list_any P (settled_head F r.head) && list_any Q (settled_body F r.body))
parts-read F P Q r = all_heads P Q (settled_body F r.body) (settled_head F r.head)

-- ---- what rules derive
-- whether the rule's part of the reduct by S derives the atom from T
abbrev pub derives_at : Atoms → Atoms → ℕ → Rule → Bool
derives_at S T a r = has (reduct_heads S r.head) a && body_holds_between S T r.body

and-true : (c : Bool) → (c && true) ≡ c
and-true true = refl
and-true false = refl

and-false : (c : Bool) → (c && false) ≡ false
and-false true = refl
and-false false = refl

derived_by : (b : Bool) (xs : List ℕ) (a : ℕ) → has (cond b xs []) a ≡ (has xs a && b)
derived_by true xs a = sym (and-true (has xs a))
derived_by false xs a = sym (and-false (has xs a))

pub has-step : (S T : Atoms) (rs : List Rule) (a : ℕ) → has (step (reduct S rs) T) a ≡ list_any (derives_at S T a) rs
has-step S T rs a =
    ap (λ U. has U a) (step_read S T rs)
    ∙ has-set_of (flat_map (derived_heads S T) rs) a
    ∙ list_any-flat_map (λ b. eqb b a) (derived_heads S T) rs
    ∙ each rs
  where
    each : (xs : List Rule) → list_any (λ x. has (derived_heads S T x) a) xs ≡ list_any (derives_at S T a) xs
    each [] = refl
    each (x ∷ xs) =
        ap (λ b. b || list_any (λ y. has (derived_heads S T y) a) xs) (derived_by (body_holds_between S T x.body) (reduct_heads S x.head) a)
        ∙ ap (λ b. derives_at S T a x || b) (each xs)

-- An atom that isn't in F is a head as before.
other_head : (F S : Atoms) (a : ℕ) (h : Head) → has F a ≡ false → list_any (λ x. has (reduct_heads S x) a) (settled_head F h) ≡ has (reduct_heads (united F S) h) a
other_head F S a (head.One b) out = by (has F b) refl
  where
    by : (c : Bool) → has F b ≡ c → list_any (λ x. has (reduct_heads S x) a) (cond c [] (head.One b ∷ [])) ≡ (eqb b a || false)
    by true e = sym (ap (λ c. c || false) (ne_eqb b a (λ same. both_ways (has F a) out (ap (has F) (sym same) ∙ e))))
    by false e = or-false (eqb b a || false)
other_head F S a (head.Choice atoms) out =
    or-false _ ∙ has-filter (has S) (filter (λ b. not (has F b)) atoms) a
    ∙ ap (λ b. has S a && b) (has-filter (λ b. not (has F b)) atoms a)
    ∙ by (has F a) out
    ∙ sym (has-filter (has (united F S)) atoms a ∙ ap (λ b. b && has atoms a) (has-united F S a))
  where
    by : (c : Bool) → c ≡ false → (has S a && (not c && has atoms a)) ≡ ((has S a || c) && has atoms a)
    by true e = absurd (both_ways true e refl)
    by false e = ap (λ b. b && has atoms a) (sym (or-false (has S a)))
other_head F S a head.Never out = refl

-- None of F is a head.
no_head : (F S : Atoms) (a : ℕ) (h : Head) → has F a ≡ true → list_any (λ x. has (reduct_heads S x) a) (settled_head F h) ≡ false
no_head F S a (head.One b) fact = by (has F b) refl
  where
    by : (c : Bool) → has F b ≡ c → list_any (λ x. has (reduct_heads S x) a) (cond c [] (head.One b ∷ [])) ≡ false
    by true e = refl
    by false e = ap (λ c. (c || false) || false) (ne_eqb b a (λ same. both_ways (has F a) (ap (has F) (sym same) ∙ e) fact))
no_head F S a (head.Choice atoms) fact =
    ap (λ b. b || false) (has-filter (has S) (filter (λ b. not (has F b)) atoms) a
    ∙ ap (λ b. has S a && b) (has-filter (λ b. not (has F b)) atoms a ∙ ap (λ b. not b && has atoms a) fact) ∙ and-false (has S a))
no_head F S a head.Never fact = refl

pub other-derived : (F S T : Atoms) (a : ℕ) → has F a ≡ false → (r : Rule) → is_sound_body r.body ≡ true → list_any (derives_at S T a) (settled_rule F r) ≡ derives_at (united F S) (united F T) a r
other-derived F S T a out r sound =
    parts-read F (λ h. has (reduct_heads S h) a) (body_holds_between S T) r
    ∙ ap (λ b. b && list_any (body_holds_between S T) (settled_body F r.body)) (other_head F S a r.head out)
    ∙ ap (λ b. has (reduct_heads (united F S) r.head) a && b) (body-read F S T r.body sound)

pub fact-underived : (F S T : Atoms) (a : ℕ) → has F a ≡ true → (r : Rule) → list_any (derives_at S T a) (settled_rule F r) ≡ false
fact-underived F S T a fact r =
    parts-read F (λ h. has (reduct_heads S h) a) (body_holds_between S T) r
    ∙ ap (λ b. b && list_any (body_holds_between S T) (settled_body F r.body)) (no_head F S a r.head fact)

-- ---- constraints
never_left : (F : Atoms) (h : Head) → list_any is_never (settled_head F h) ≡ is_never h
never_left F (head.One b) = by (has F b)
  where
    by : (c : Bool) → list_any is_never (cond c [] (head.One b ∷ [])) ≡ false
    by true = refl
    by false = refl
never_left F (head.Choice atoms) = refl
never_left F head.Never = refl

same_bodies : (S : Atoms) (bs : List Body) → list_any (body_holds S) bs ≡ list_any (body_holds_between S S) bs
same_bodies S [] = refl
same_bodies S (b ∷ bs) = ap (λ c. c || list_any (body_holds S) bs) (sym (same_body S b)) ∙ ap (λ c. body_holds_between S S b || c) (same_bodies S bs)

pub violated-left : (F S : Atoms) (r : Rule) → is_sound_body r.body ≡ true → list_any (is_violated S) (settled_rule F r) ≡ is_violated (united F S) r
violated-left F S r sound =
    parts-read F is_never (body_holds S) r
    ∙ ap (λ b. b && list_any (body_holds S) (settled_body F r.body)) (never_left F r.head)
    ∙ ap (λ b. is_never r.head && b) (same_bodies S (settled_body F r.body) ∙ body-read F S S r.body sound ∙ same_body (united F S) r.body)

-- ---- all rules
abbrev pub HaveSoundBodies : List Rule → Type 0
HaveSoundBodies rs = AllByRecursion (λ r. is_sound_body r.body ≡ true) rs

any-left : (F : Atoms) (p q : Rule → Bool) (rs : List Rule) → AllByRecursion (λ r. list_any p (settled_rule F r) ≡ q r) rs → list_any p (flat_map (settled_rule F) rs) ≡ list_any q rs
any-left F p q [] h = refl
any-left F p q (r ∷ rs) h =
    list_any-flat_map p (settled_rule F) (r ∷ rs)
    ∙ ap (λ b. b || list_any (λ x. list_any p (settled_rule F x)) rs) h.0
    ∙ ap (λ b. q r || b) (sym (list_any-flat_map p (settled_rule F) rs) ∙ any-left F p q rs h.1)

pub step-left : (F S T : Atoms) (rs : List Rule) (a : ℕ) → HaveSoundBodies rs → has F a ≡ false →
    has (step (reduct S (flat_map (settled_rule F) rs)) T) a ≡ has (step (reduct (united F S) rs) (united F T)) a
step-left F S T rs a sound out =
    has-step S T (flat_map (settled_rule F) rs) a
    ∙ any-left F (derives_at S T a) (derives_at (united F S) (united F T) a) rs
    (each_weaker (λ (r : Rule). is_sound_body r.body ≡ true)
    (λ r. list_any (derives_at S T a) (settled_rule F r) ≡ derives_at (united F S) (united F T) a r) (other-derived F S T a out) rs sound)
    ∙ sym (has-step (united F S) (united F T) rs a)

pub step-apart : (F S T : Atoms) (rs : List Rule) (a : ℕ) → has F a ≡ true → has (step (reduct S (flat_map (settled_rule F) rs)) T) a ≡ false
step-apart F S T rs a fact =
    has-step S T (flat_map (settled_rule F) rs) a
    ∙ any-left F (derives_at S T a) (λ r. false) rs (each_of (λ r. list_any (derives_at S T a) (settled_rule F r) ≡ false) (fact-underived F S T a fact) rs)
    ∙ none rs
  where
    none : (xs : List Rule) → list_any (λ (x : Rule). false) xs ≡ false
    none [] = refl
    none (x ∷ xs) = none xs

pub all-violated : (F S : Atoms) (rs : List Rule) → HaveSoundBodies rs → list_any (is_violated S) (flat_map (settled_rule F) rs) ≡ list_any (is_violated (united F S)) rs
all-violated F S rs sound =
    any-left F (is_violated S) (is_violated (united F S)) rs
    (each_weaker (λ (r : Rule). is_sound_body r.body ≡ true) (λ r. list_any (is_violated S) (settled_rule F r) ≡ is_violated (united F S) r)
    (violated-left F S) rs sound)
