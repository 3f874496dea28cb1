-- What is renamed reads in two sets as it did in the sets with the atoms that went.
use Rattle.std.proofs.Common.{◌≡◌, ℕ, zero, suc, Bool, true, false, not, cond, ◌&&◌, ◌||◌, eqb, List, [], ◌∷◌, map, ℤ, pos, negsuc, neg_ℤ, ◌+ℤ◌, int_le, refl, sym, ap, ◌∙◌, inl, inr}
use Rattle.std.specs.List.{list_all}
use Rattle.std.proofs.lemmas.Bool.{and_from, and_parts, eq-eqb, eqb-true, false≢true, or_cases, or_left, or_right}
use Rattle.asp_model.specs.declared.program.Body.{Body}
use Rattle.asp_model.specs.declared.program.Body.TheVariants as body
use Rattle.asp_model.specs.declared.program.Head.{Head}
use Rattle.asp_model.specs.declared.program.Head.TheVariants as head
use Rattle.asp_model.specs.Sets.{Atoms, has}
use Rattle.asp_model.specs.Holding.{all_hold, body_holds, holds, weight_of}
use Rattle.asp_model.specs.Models.{is_never}
use Rattle.asp_model.specs.Reading.{body_holds_between, holds_between, weight_between}
use Rattle.asp_model.specs.Reduct.{reduct_heads}
use Rattle.asp_model.proofs.ReadingLaws.{same_body, same_weight}
use Rattle.asp_model.proofs.ConsequenceLaws.{has-filter}
use Rattle.asp_equal.specs.Merged.{renamed, renamed_body, renamed_head, renamed_item}

-- X has an atom where S has the one by which it goes.
abbrev pub Reads : (ℕ → ℕ) → Atoms → Atoms → Type 0
Reads m X S = (a : ℕ) → has X a ≡ has S (m a)

-- No atom but 0 goes by 0, which has no negative literal.
abbrev pub IsProper : (ℕ → ℕ) → Type 0
IsProper m = (a : ℕ) → m (suc a) ≡ 0 → ⊥

-- ---- literals
absent : (S : Atoms) (k : ℕ) → (k ≡ 0 → ⊥) → holds S (neg_ℤ (pos k)) ≡ not (has S k)
absent S zero h = absurd (h refl)
absent S (suc k) h = refl

absent_between : (S T : Atoms) (k : ℕ) → (k ≡ 0 → ⊥) → holds_between S T (neg_ℤ (pos k)) ≡ not (has S k)
absent_between S T zero h = absurd (h refl)
absent_between S T (suc k) h = refl

pub literal-read : (m : ℕ → ℕ) (X S : Atoms) → IsProper m → Reads m X S → (l : ℤ) → holds S (renamed m l) ≡ holds X l
literal-read m X S proper r (pos a) = sym (r a)
literal-read m X S proper r (negsuc a) = absent S (m (suc a)) (proper a) ∙ ap not (sym (r (suc a)))

pub between-read : (m : ℕ → ℕ) (X S Y T : Atoms) → IsProper m → Reads m X S → Reads m Y T → (l : ℤ) → holds_between S T (renamed m l) ≡ holds_between X Y l
between-read m X S Y T proper r s (pos a) = sym (s a)
between-read m X S Y T proper r s (negsuc a) = absent_between S T (m (suc a)) (proper a) ∙ ap not (sym (r (suc a)))

all-read : (m : ℕ → ℕ) (f g : ℤ → Bool) → ((l : ℤ) → f (renamed m l) ≡ g l) → (ls : List ℤ) → list_all f (map (renamed m) ls) ≡ list_all g ls
all-read m f g h [] = refl
all-read m f g h (l ∷ ls) = ap (λ b. b && list_all f (map (renamed m) ls)) (h l) ∙ ap (λ b. g l && b) (all-read m f g h ls)

pub literals-read : (m : ℕ → ℕ) (X S : Atoms) → IsProper m → Reads m X S → (ls : List ℤ) → all_hold S (map (renamed m) ls) ≡ all_hold X ls
literals-read m X S proper r ls = all-read m (holds S) (holds X) (literal-read m X S proper r) ls

-- ---- weights
weights-between : (m : ℕ → ℕ) (X S Y T : Atoms) → IsProper m → Reads m X S → Reads m Y T → (items : List (ℤ × ℤ)) → weight_between S T (map (renamed_item m) items) ≡ weight_between X Y items
weights-between m X S Y T proper r s [] = refl
weights-between m X S Y T proper r s (i ∷ items) =
    ap (λ b. cond b i.1 (pos 0) +ℤ weight_between S T (map (renamed_item m) items)) (between-read m X S Y T proper r s i.0)
    ∙ ap (λ z. cond (holds_between X Y i.0) i.1 (pos 0) +ℤ z) (weights-between m X S Y T proper r s items)

pub weight-read : (m : ℕ → ℕ) (X S : Atoms) → IsProper m → Reads m X S → (items : List (ℤ × ℤ)) → weight_of S (map (renamed_item m) items) ≡ weight_of X items
weight-read m X S proper r items = sym (same_weight S (map (renamed_item m) items)) ∙ weights-between m X S X S proper r r items ∙ same_weight X items

-- ---- bodies
pub body-between : (m : ℕ → ℕ) (X S Y T : Atoms) → IsProper m → Reads m X S → Reads m Y T → (b : Body) → body_holds_between S T (renamed_body m b) ≡ body_holds_between X Y b
body-between m X S Y T proper r s (body.All literals) = all-read m (holds_between S T) (holds_between X Y) (between-read m X S Y T proper r s) literals
body-between m X S Y T proper r s (body.AtLeast bound items) = ap (int_le bound) (weights-between m X S Y T proper r s items)

pub body-read : (m : ℕ → ℕ) (X S : Atoms) → IsProper m → Reads m X S → (b : Body) → body_holds S (renamed_body m b) ≡ body_holds X b
body-read m X S proper r b = sym (same_body S (renamed_body m b)) ∙ body-between m X S X S proper r r b ∙ same_body X b

-- ---- heads
pub has-map : (m : ℕ → ℕ) (atoms : List ℕ) (a : ℕ) → has atoms a ≡ true → has (map m atoms) (m a) ≡ true
has-map m [] a h = absurd (false≢true h)
has-map m (b ∷ atoms) a h = elim (or_cases (eqb b a) (has atoms a) h) [
  | inl e ↦ or_left (eqb (m b) (m a)) (has (map m atoms) (m a)) (eq-eqb (m b) (m a) (ap m (eqb-true b a e)))
  | inr e ↦ or_right (eqb (m b) (m a)) (has (map m atoms) (m a)) (has-map m atoms a e)
]

pub map-has : (m : ℕ → ℕ) (atoms : List ℕ) (c : ℕ) → has (map m atoms) c ≡ true → (a : ℕ) × (m a ≡ c) × (has atoms a ≡ true)
map-has m [] c h = absurd (false≢true h)
map-has m (b ∷ atoms) c h = elim (or_cases (eqb (m b) c) (has (map m atoms) c) h) [
  | inl e ↦ (b, eqb-true (m b) c e, or_left (eqb b b) (has atoms b) (eq-eqb b b refl))
  | inr e ↦ let t = map-has m atoms c e in (t.0, t.1, or_right (eqb b t.0) (has atoms t.0) t.2)
]

one_there : (m : ℕ → ℕ) (b a : ℕ) → (eqb b a || false) ≡ true → (eqb (m b) (m a) || false) ≡ true
one_there m b a h = has-map m (b ∷ []) a h

pub head-there : (m : ℕ → ℕ) (X S : Atoms) → Reads m X S → (h : Head) (a : ℕ) → has (reduct_heads X h) a ≡ true → has (reduct_heads S (renamed_head m h)) (m a) ≡ true
head-there m X S r (head.One b) a e = one_there m b a e
head-there m X S r (head.Choice atoms) a e =
    let parts = and_parts (has X a) (has atoms a) (sym (has-filter (has X) atoms a) ∙ e) in
    has-filter (has S) (map m atoms) (m a) ∙ and_from (has S (m a)) (has (map m atoms) (m a)) (sym (r a) ∙ parts.0) (has-map m atoms a parts.1)
head-there m X S r head.Never a e = absurd (false≢true e)

-- An atom that a renamed head derives is one by which a head of the rule goes.
pub head-back : (m : ℕ → ℕ) (S : Atoms) (h : Head) (c : ℕ) → has (reduct_heads S (renamed_head m h)) c ≡ true → (a : ℕ) × (m a ≡ c) × ((X : Atoms) → Reads m X S → has (reduct_heads X h) a ≡ true)
head-back m S (head.One b) c e = let t = map-has m (b ∷ []) c e in (t.0, t.1, λ X r. t.2)
head-back m S (head.Choice atoms) c e =
    let parts = and_parts (has S c) (has (map m atoms) c) (sym (has-filter (has S) (map m atoms) c) ∙ e) in
    let t = map-has m atoms c parts.1 in
    (t.0, t.1, λ X r. has-filter (has X) atoms t.0 ∙ and_from (has X t.0) (has atoms t.0) (r t.0 ∙ ap (has S) t.1 ∙ parts.0) t.2)
head-back m S head.Never c e = absurd (false≢true e)

pub never-read : (m : ℕ → ℕ) (h : Head) → is_never (renamed_head m h) ≡ is_never h
never-read m (head.One a) = refl
never-read m (head.Choice atoms) = refl
never-read m head.Never = refl
