-- Two sets that agree below a number are the same to literals and rules whose atoms are below it.
use Rattle.std.proofs.Common.{◌≡◌, ℕ, suc, ◌<◌, ◌≤◌, Bool, true, false, not, cond, ◌&&◌, ◌||◌, eqb, List, [], ◌∷◌, ◌++◌, map, flat_map, ℤ, pos, negsuc, ◌+ℤ◌, int_le, refl, sym, ap, ◌∙◌, subst, arith, inl, inr}
use Rattle.std.specs.List.{AllByRecursion, list_any, list_all}
use Rattle.std.proofs.lemmas.Bool.{eq-eqb, eqb-true, false_from_ne_true, false≢true, or_cases, or_left, or_right}
use Rattle.asp_model.specs.declared.program.Body.{Body}
use Rattle.asp_model.specs.declared.program.Body.TheVariants as body
use Rattle.asp_model.specs.declared.program.Head.{Head}
use Rattle.asp_model.specs.declared.program.Head.TheVariants as head
use Rattle.asp_model.specs.declared.program.Rule.{Rule}
use Rattle.asp_model.specs.Sets.{Atoms, has}
use Rattle.asp_model.specs.Holding.{atom_of, body_atoms, holds}
use Rattle.asp_model.specs.Models.{head_atoms, is_never, is_violated}
use Rattle.asp_model.specs.Reduct.{reduct_heads}
use Rattle.asp_model.specs.Reading.{body_holds_between, derived_heads, holds_between, weight_between}
use Rattle.asp_model.proofs.MemberLaws.{each-filter, each-flat_map, each-front, each_weaker}
use Rattle.asp_model.proofs.ReadingLaws.{same_body}
use Rattle.asp_model.proofs.ConsequenceLaws.{filter-atoms}

-- ---- lists
abbrev pub Below : ℕ → List ℕ → Type 0
Below a xs = AllByRecursion (λ b. b < a) xs

pub below-has : (a : ℕ) (xs : List ℕ) (b : ℕ) → Below a xs → has xs b ≡ true → b < a
below-has a [] b h e = absurd (false≢true e)
below-has a (x ∷ xs) b h e = elim (or_cases (eqb x b) (has xs b) e) [
  | inl same ↦ subst (λ n. n < a) (eqb-true x b same) h.0
  | inr more ↦ below-has a xs b h.1 more
]

pub below-from : (a : ℕ) (xs : List ℕ) → ((b : ℕ) → has xs b ≡ true → b < a) → Below a xs
below-from a [] h = tt
below-from a (x ∷ xs) h = (h x (or_left (eqb x x) (has xs x) (eq-eqb x x refl)), below-from a xs (λ b e. h b (or_right (eqb x b) (has xs b) e)))

pub absent-above : (a : ℕ) (xs : List ℕ) (b : ℕ) → Below a xs → a ≤ b → has xs b ≡ false
absent-above a xs b h le = false_from_ne_true (has xs b) (λ e. let lt : b < a = below-has a xs b h e in let no : ⊥ = omega (arith, le, lt) in no)

pub each-back : {X : Type 0} (P : X → Type 0) (xs ys : List X) → AllByRecursion P (xs ++ ys) → AllByRecursion P ys
each-back P [] ys h = h
each-back P (x ∷ xs) ys h = each-back P xs ys h.1

pub each-part : {X Y : Type 0} (P : Y → Type 0) (f : X → List Y) (xs : List X) → AllByRecursion P (flat_map f xs) → AllByRecursion (λ x. AllByRecursion P (f x)) xs
each-part P f [] h = tt
each-part P f (x ∷ xs) h = (each-front P (f x) (flat_map f xs) h, each-part P f xs (each-back P (f x) (flat_map f xs) h))

-- ---- two sets
abbrev pub Agree : ℕ → Atoms → Atoms → Type 0
Agree a S T = (b : ℕ) → b < a → has S b ≡ has T b

literal-agrees : (a : ℕ) (S S' T T' : Atoms) → Agree a S S' → Agree a T T' → (l : ℤ) → atom_of l < a → holds_between S T l ≡ holds_between S' T' l
literal-agrees a S S' T T' s t (pos c) lt = t c lt
literal-agrees a S S' T T' s t (negsuc c) lt = ap not (s (suc c) lt)

pub all-agree : (a : ℕ) (S S' T T' : Atoms) → Agree a S S' → Agree a T T' → (ls : List ℤ) → Below a (map atom_of ls) → list_all (holds_between S T) ls ≡ list_all (holds_between S' T') ls
all-agree a S S' T T' s t [] h = refl
all-agree a S S' T T' s t (l ∷ ls) h =
    ap (λ (b : Bool). b && list_all (holds_between S T) ls) (literal-agrees a S S' T T' s t l h.0)
    ∙ ap (λ (b : Bool). holds_between S' T' l && b) (all-agree a S S' T T' s t ls h.1)

holds-between : (S : Atoms) (l : ℤ) → holds_between S S l ≡ holds S l
holds-between S (pos c) = refl
holds-between S (negsuc c) = refl

pub all-between : (S : Atoms) (ls : List ℤ) → list_all (holds_between S S) ls ≡ list_all (holds S) ls
all-between S [] = refl
all-between S (l ∷ ls) = ap (λ (b : Bool). b && list_all (holds_between S S) ls) (holds-between S l) ∙ ap (λ (b : Bool). holds S l && b) (all-between S ls)

pub all-same : (a : ℕ) (S T : Atoms) → Agree a S T → (ls : List ℤ) → Below a (map atom_of ls) → list_all (holds S) ls ≡ list_all (holds T) ls
all-same a S T s ls h = sym (all-between S ls) ∙ all-agree a S T S T s s ls h ∙ all-between T ls

weights-agree : (a : ℕ) (S S' T T' : Atoms) → Agree a S S' → Agree a T T' → (items : List (ℤ × ℤ)) →
    Below a (map (λ (i : ℤ × ℤ). atom_of i.0) items) → weight_between S T items ≡ weight_between S' T' items
weights-agree a S S' T T' s t [] h = refl
weights-agree a S S' T T' s t (i ∷ items) h =
    ap (λ (b : Bool). cond b i.1 (pos 0) +ℤ weight_between S T items) (literal-agrees a S S' T T' s t i.0 h.0)
    ∙ ap (λ (z : ℤ). cond (holds_between S' T' i.0) i.1 (pos 0) +ℤ z) (weights-agree a S S' T T' s t items h.1)

body-agrees : (a : ℕ) (S S' T T' : Atoms) → Agree a S S' → Agree a T T' → (b : Body) → Below a (body_atoms b) → body_holds_between S T b ≡ body_holds_between S' T' b
body-agrees a S S' T T' s t (body.All ls) h = all-agree a S S' T T' s t ls h
body-agrees a S S' T T' s t (body.AtLeast bound items) h = ap (int_le bound) (weights-agree a S S' T T' s t items h)

heads-agree : (a : ℕ) (S S' : Atoms) → Agree a S S' → (h : Head) → Below a (head_atoms h) → reduct_heads S h ≡ reduct_heads S' h
heads-agree a S S' s (head.One c) h = refl
heads-agree a S S' s (head.Choice atoms) h = filter-atoms (has S) (has S') atoms (λ c e. s c (below-has a atoms c h e))
heads-agree a S S' s head.Never h = refl

-- ---- rules
abbrev pub atoms_at : Rule → List ℕ
atoms_at r = head_atoms r.head ++ body_atoms r.body

abbrev pub AreBelow : ℕ → List Rule → Type 0
AreBelow a rs = AllByRecursion (λ r. Below a (atoms_at r)) rs

rule-agrees : (a : ℕ) (S S' T T' : Atoms) → Agree a S S' → Agree a T T' → (r : Rule) → Below a (atoms_at r) → derived_heads S T r ≡ derived_heads S' T' r
rule-agrees a S S' T T' s t r h =
    ap (λ (b : Bool). cond b (reduct_heads S r.head) []) (body-agrees a S S' T T' s t r.body (each-back (λ b. b < a) (head_atoms r.head) (body_atoms r.body) h))
    ∙ ap (λ (xs : List ℕ). cond (body_holds_between S' T' r.body) xs []) (heads-agree a S S' s r.head (each-front (λ b. b < a) (head_atoms r.head) (body_atoms r.body) h))

pub rules-agree : (a : ℕ) (S S' T T' : Atoms) → Agree a S S' → Agree a T T' → (rs : List Rule) → AreBelow a rs → flat_map (derived_heads S T) rs ≡ flat_map (derived_heads S' T') rs
rules-agree a S S' T T' s t [] h = refl
rules-agree a S S' T T' s t (r ∷ rs) h =
    ap (λ (xs : List ℕ). xs ++ flat_map (derived_heads S T) rs) (rule-agrees a S S' T T' s t r h.0)
    ∙ ap (λ (xs : List ℕ). derived_heads S' T' r ++ xs) (rules-agree a S S' T T' s t rs h.1)

kept-below : (a : ℕ) (S : Atoms) (h : Head) → Below a (head_atoms h) → Below a (reduct_heads S h)
kept-below a S (head.One c) h = h
kept-below a S (head.Choice atoms) h = each-filter (λ b. b < a) (has S) atoms h
kept-below a S head.Never h = tt

if-below : (a : ℕ) (c : Bool) (xs : List ℕ) → Below a xs → Below a (cond c xs [])
if-below a true xs h = h
if-below a false xs h = tt

pub derived-below : (a : ℕ) (S T : Atoms) (rs : List Rule) → AreBelow a rs → Below a (flat_map (derived_heads S T) rs)
derived-below a S T rs h =
    each-flat_map (λ b. b < a) (derived_heads S T) rs (each_weaker (λ (r : Rule). Below a (atoms_at r)) (λ r. Below a (derived_heads S T r)) (λ r b.
    if-below a (body_holds_between S T r.body) (reduct_heads S r.head) (kept-below a S r.head (each-front (λ c. c < a) (head_atoms r.head) (body_atoms r.body) b))) rs h)

violated-agrees : (a : ℕ) (S T : Atoms) → Agree a S T → (r : Rule) → Below a (atoms_at r) → is_violated S r ≡ is_violated T r
violated-agrees a S T s r h =
    ap (λ (b : Bool). is_never r.head && b) (sym (same_body S r.body) ∙ body-agrees a S T S T s s r.body (each-back (λ b. b < a) (head_atoms r.head) (body_atoms r.body) h) ∙ same_body T r.body)

pub violations-agree : (a : ℕ) (S T : Atoms) → Agree a S T → (rs : List Rule) → AreBelow a rs → list_any (is_violated S) rs ≡ list_any (is_violated T) rs
violations-agree a S T s [] h = refl
violations-agree a S T s (r ∷ rs) h =
    ap (λ (b : Bool). b || list_any (is_violated S) rs) (violated-agrees a S T s r h.0)
    ∙ ap (λ (b : Bool). is_violated T r || b) (violations-agree a S T s rs h.1)
