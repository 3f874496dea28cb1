-- What is searched shows of a set with all that went what the program shows of it.
use Rattle.std.proofs.Common.{◌≡◌, ℕ, suc, Bool, true, false, not, cond, ◌&&◌, ◌||◌, eqb, List, [], ◌∷◌, ◌++◌, map, filter, fold, ℤ, pos, negsuc, int_lt, refl, sym, ap, ◌∙◌, arith, inl, inr}
use Rattle.std.specs.List.{list_any}
use Rattle.std.proofs.lemmas.Bool.{and_from, both_ways, cases_eq, eq-eqb, or_left, or_right}
use Rattle.std.proofs.lemmas.List.Folds.{list_any-append}
use Rattle.asp_model.specs.declared.program.Body.{Body}
use Rattle.asp_model.specs.declared.program.Body.TheVariants as body
use Rattle.asp_model.specs.declared.program.Head.{Head}
use Rattle.asp_model.specs.declared.program.Head.TheVariants as head
use Rattle.asp_model.specs.declared.program.Output.{Output}
use Rattle.asp_model.specs.declared.program.Program.{Program}
use Rattle.asp_model.specs.declared.program.Rule.{Rule}
use Rattle.asp_model.specs.Sets.{Atoms, has}
use Rattle.asp_model.specs.Holding.{all_hold, atom_of, body_atoms, holds}
use Rattle.asp_model.specs.Models.{atoms_of, head_atoms, mentions}
use Rattle.asp_model.specs.Texts.{shown}
use Rattle.asp_model.proofs.SetLaws.{has-set_of}
use Rattle.asp_model.proofs.MemberLaws.{each_of, list_any-flat_map, list_any-weaker}
use Rattle.asp_model.proofs.ModelLaws.{same_bools}
use Rattle.asp_model.proofs.ConsequenceLaws.{filter-every}
use Rattle.asp_settle.specs.Settled.{facts_of, left_of, united}
use Rattle.asp_settle.proofs.ReadLaws.{has-united}
use Rattle.asp_settle.proofs.SettledLaws.{facts-apart, shown-left}
use Rattle.asp_equal.specs.Copies.{copied, noted, places, source}
use Rattle.asp_equal.specs.Merged.{copies_of, extended}
use Rattle.asp_equal.specs.Reduced.{none_aside, reduced, restored, whole}
use Rattle.asp_equal.proofs.SourceLaws.{copied-known, has_head, known-kept}
use Rattle.asp_equal.proofs.SameLaws.{IsAlone, MayCopy, alone-itself, alone-same, root-copied, same-twice}
use Rattle.asp_equal.proofs.WholeLaws.{goes_by, reads-whole, shown-whole}

-- ---- sets with the same atoms show the same
holds-same : (S T : Atoms) → ((a : ℕ) → has S a ≡ has T a) → (l : ℤ) → holds S l ≡ holds T l
holds-same S T h (pos a) = h a
holds-same S T h (negsuc a) = ap not (h (suc a))

all-same : (S T : Atoms) → ((a : ℕ) → has S a ≡ has T a) → (ls : List ℤ) → all_hold S ls ≡ all_hold T ls
all-same S T h [] = refl
all-same S T h (l ∷ ls) = ap (λ (b : Bool). b && all_hold S ls) (holds-same S T h l) ∙ ap (λ (b : Bool). holds T l && b) (all-same S T h ls)

texts-same : (S T : Atoms) → ((a : ℕ) → has S a ≡ has T a) → (os : List Output) →
    map (λ (o : Output). o.text) (filter (λ (o : Output). all_hold S o.condition) os) ≡ map (λ (o : Output). o.text)
    (filter (λ (o : Output). all_hold T o.condition) os)
texts-same S T h [] = refl
texts-same S T h (o ∷ os) =
    ap (λ (b : Bool). map (λ (x : Output). x.text) (cond b (o ∷ filter (λ (x : Output). all_hold S x.condition) os) (filter (λ (x : Output). all_hold S x.condition) os))) (all-same S T h o.condition)
    ∙ by (all_hold T o.condition) (filter (λ (x : Output). all_hold S x.condition) os) (filter (λ (x : Output). all_hold T x.condition) os) (texts-same S T h os)
  where
    by : (b : Bool) (xs ys : List Output) → map (λ (x : Output). x.text) xs ≡ map (λ (x : Output). x.text) ys →
        map (λ (x : Output). x.text) (cond b (o ∷ xs) xs) ≡ map (λ (x : Output). x.text) (cond b (o ∷ ys) ys)
    by true xs ys e = ap (λ (ts : List (List ℕ)). o.text ∷ ts) e
    by false xs ys e = e

pub shown-same : (p : Program) (S T : Atoms) → ((a : ℕ) → has S a ≡ has T a) → shown p S ≡ shown p T
shown-same p S T h = texts-same S T h p.outputs

-- ---- copies and what they copy stand in the program
copied_stands : (a b : ℕ) (h : Head) (x : Body) → (b ≡ a → ⊥) → copied a h x ≡ b → has (body_atoms x) b ≡ true
copied_stands a b (head.One c) (body.All []) other e = absurd (other (sym e))
copied_stands a b (head.One c) (body.All (l ∷ [])) other e = by (int_lt (pos 0) l) e
  where
    by : (t : Bool) → cond t (atom_of l) a ≡ b → (eqb (atom_of l) b || false) ≡ true
    by true k = or_left (eqb (atom_of l) b) false (eq-eqb (atom_of l) b k)
    by false k = absurd (other (sym k))
copied_stands a b (head.One c) (body.All (l ∷ k ∷ ls)) other e = absurd (other (sym e))
copied_stands a b (head.One c) (body.AtLeast bound items) other e = absurd (other (sym e))
copied_stands a b (head.Choice atoms) x other e = absurd (other (sym e))
copied_stands a b head.Never x other e = absurd (other (sym e))

-- whether the rule has the one atom in its head and the other in its body
abbrev joins : ℕ → ℕ → Rule → Bool
joins a b r = has_head a r && has (body_atoms r.body) b

joined_step : (a b : ℕ) → (a ≡ 0 → ⊥) → (b ≡ a → ⊥) → (r : Rule) (rs : List Rule) (c : Bool) →
    (fold (noted a) 0 rs ≡ b → list_any (joins a b) rs ≡ true) → has_head a r ≡ c → fold (noted a) (cond c (copied a r.head r.body) 0) rs ≡ b →
    (joins a b r || list_any (joins a b) rs) ≡ true
joined_step a b some other r rs true later t k =
    or_left (joins a b r) (list_any (joins a b) rs)
    (and_from (has_head a r) (has (body_atoms r.body) b) t
    (copied_stands a b r.head r.body other (known-kept a b (copied a r.head r.body) some (copied-known a some r.head r.body) other rs k).0))
joined_step a b some other r rs false later t k = or_right (joins a b r) (list_any (joins a b) rs) (later k)

joined : (a b : ℕ) → (a ≡ 0 → ⊥) → (b ≡ 0 → ⊥) → (b ≡ a → ⊥) → (rs : List Rule) → fold (noted a) 0 rs ≡ b → list_any (joins a b) rs ≡ true
joined a b some known other [] e = absurd (known (sym e))
joined a b some known other (r ∷ rs) e = joined_step a b some other r rs (has_head a r) (joined a b some known other rs) refl e

-- the atoms of a rule
abbrev rule_atoms : Rule → List ℕ
rule_atoms r = head_atoms r.head ++ body_atoms r.body

stands-rules : (p : Program) (a : ℕ) → list_any (λ r. has (rule_atoms r) a) p.rules ≡ true → has (atoms_of p) a ≡ true
stands-rules p a h =
    has-set_of (mentions p) a
    ∙ list_any-append (λ b. eqb b a) _ _ ∙ or_left _ _
    (list_any-append (λ b. eqb b a) _ _ ∙ or_left _ _
    (list_any-append (λ b. eqb b a) _ _ ∙ or_left _ _
    (list_any-append (λ b. eqb b a) _ _ ∙ or_left _ _ (list_any-flat_map (λ b. eqb b a) rule_atoms p.rules ∙ h))))

head-stands : (a b : ℕ) (r : Rule) → joins a b r ≡ true → has (rule_atoms r) a ≡ true
head-stands a b r h = list_any-append (λ c. eqb c a) (head_atoms r.head) (body_atoms r.body) ∙ grind arith

body-stands : (a b : ℕ) (r : Rule) → joins a b r ≡ true → has (rule_atoms r) b ≡ true
body-stands a b r h = list_any-append (λ c. eqb c b) (head_atoms r.head) (body_atoms r.body) ∙ grind arith

copy-stands : (n : ℕ) (p : Program) (a b : ℕ) → MayCopy n p a b → source p.rules a ≡ b → (b ≡ a → ⊥) → (has (atoms_of p) a ≡ true) × (has (atoms_of p) b ≡ true)
copy-stands n p a b may e other =
    let any = joined a b (λ z. omega (arith, may.some)) (λ z. omega (arith, may.other)) other p.rules e in (
      stands-rules p a (list_any-weaker (joins a b) (λ r. has (rule_atoms r) a) p.rules (each_of (λ r. joins a b r ≡ true → has (rule_atoms r) a ≡ true) (head-stands a b) p.rules) any),
      stands-rules p b (list_any-weaker (joins a b) (λ r. has (rule_atoms r) b) p.rules (each_of (λ r. joins a b r ≡ true → has (rule_atoms r) b ≡ true) (body-stands a b) p.rules) any),
    )

absent-alone : (n : ℕ) (p : Program) (a : ℕ) → has (atoms_of p) a ≡ false → IsAlone n p a
absent-alone n p a out = (
  elim (root-copied n p a) [
    | inl e ↦ e
    | inr c ↦ elim (cases_eq (source p.rules a) a) [
      | inl e ↦ c.0 ∙ e
      | inr e ↦ absurd (both_ways (has (atoms_of p) a) out (copy-stands n p a (source p.rules a) c.1 refl e).0)
    ]
  ],
  λ x e. elim (root-copied n p x) [
    | inl t ↦ sym t ∙ e
    | inr c ↦ elim (cases_eq (source p.rules x) x) [
      | inl t ↦ sym (c.0 ∙ t) ∙ e
      | inr t ↦ absurd (both_ways (has (atoms_of p) a) out (ap (has (atoms_of p)) (sym (sym c.0 ∙ e)) ∙ (copy-stands n p x (source p.rules x) c.1 refl t).1))
    ]
  ],
)

-- ---- sets with all that went
-- The facts stay as they are where copies go.
facts-stay : (p : Program) (a : ℕ) → has (facts_of p) (goes_by (left_of p) a) ≡ has (facts_of p) a
facts-stay p a =
    let q = left_of p in
    let b = goes_by q a in
    same_bools (has (facts_of p) b) (has (facts_of p) a)
    (λ h. ap (has (facts_of p)) (alone-same (places q) q b (absent-alone (places q) q b (facts-apart p b h)) a refl) ∙ h)
    (λ h. ap (has (facts_of p)) (alone-itself (places q) q a (absent-alone (places q) q a (facts-apart p a h))) ∙ h)

whole-again : (p : Program) (S : Atoms) (a : ℕ) → has (extended (copies_of (left_of p)) (whole p S)) a ≡ has (whole p S) a
whole-again p S a =
    let q = left_of p in
    let x = extended (copies_of q) in
    reads-whole q (whole p S) a
    ∙ has-united (facts_of p) (x S) (goes_by q a)
    ∙ ap (λ b. b || has (facts_of p) (goes_by q a)) (reads-whole q S (goes_by q a) ∙ ap (has S) (same-twice (places q) q a) ∙ sym (reads-whole q S a))
    ∙ ap (λ b. has (x S) a || b) (facts-stay p a)
    ∙ sym (has-united (facts_of p) (x S) a)

or-twice : (a b : Bool) → ((a || b) || b) ≡ (a || b)
or-twice true b = refl
or-twice false true = refl
or-twice false false = refl

pub shown-again : (p : Program) (S : Atoms) → shown (reduced p) (whole p S) ≡ shown p (whole p S)
shown-again p S =
    let F = facts_of p in
    let q = left_of p in
    let T = extended (copies_of q) S in
    let U = whole p S in
    sym (shown-whole q U)
    ∙ shown-same q (extended (copies_of q) U) U (whole-again p S)
    ∙ sym (shown-left p U)
    ∙ shown-same p (united F U) U (λ a. has-united F U a ∙ ap (λ (b : Bool). b || has F a) (has-united F T a) ∙ or-twice (has T a) (has F a) ∙ sym (has-united F T a))

-- A set stays as it is where nothing was set aside.
pub restored-none : (S : Atoms) → restored none_aside S ≡ S
restored-none S = filter-every (λ a. not (has [] a)) S (λ a. refl)
