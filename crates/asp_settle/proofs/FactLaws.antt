-- The facts are in each least model, and no literal of an assumption or a minimize statement is theirs.
use Rattle.std.proofs.Common.{◌≡◌, ℕ, true, false, not, cond, ◌&&◌, ◌||◌, eqb, nat_lt, List, [], ◌∷◌, ◌++◌, map, flat_map, ℤ, pos, ◌+ℤ◌, refl, sym, ap, ◌∙◌}
use Rattle.std.specs.List.{list_any}
use Rattle.std.proofs.lemmas.Bool.{and_from, and_parts, both_ways, eq-eqb, false≢true, false_from_ne_true, not-true, or_left, or_right}
use Rattle.std.proofs.lemmas.List.Folds.{list_any-append}
use Rattle.asp_model.specs.declared.program.Body.{Body}
use Rattle.asp_model.specs.declared.program.Body.TheVariants as body
use Rattle.asp_model.specs.declared.program.Head.{Head}
use Rattle.asp_model.specs.declared.program.Head.TheVariants as head
use Rattle.asp_model.specs.declared.program.Minimize.{Minimize}
use Rattle.asp_model.specs.declared.program.Program.{Program}
use Rattle.asp_model.specs.declared.program.Rule.{Rule}
use Rattle.asp_model.specs.Sets.{Atoms, IsAscending, IsSubset, has, set_of}
use Rattle.asp_model.specs.Holding.{all_hold, atom_of, holds, is_positive, weight_of}
use Rattle.asp_model.specs.Costs.{cost, cost_at, priorities}
use Rattle.asp_model.specs.Reading.{body_holds_between}
use Rattle.asp_model.specs.Reduct.{reduct_heads}
use Rattle.asp_model.specs.Models.{least_model, rules_in_force}
use Rattle.asp_model.specs.Opening.{opened_rules}
use Rattle.asp_model.specs.Sound.{IsSound}
use Rattle.std.specs.Ordering.{int_eq}
use Rattle.asp_model.proofs.SetLaws.{IsAscending-set_of, has-set_of}
use Rattle.asp_model.proofs.MemberLaws.{each_of, list_any-flat_map, list_any-weaker}
use Rattle.asp_model.proofs.ModelLaws.{least_model-derived}
use Rattle.asp_model.proofs.ConsequenceLaws.{ascends-filter, has-filter}
use Rattle.asp_settle.specs.Constraints.{reach}
use Rattle.asp_settle.specs.Settled.{fact_of, facts_in, is_always, left_in, needed, single, united}
use Rattle.asp_settle.proofs.ReadLaws.{holds-united}
use Rattle.asp_settle.proofs.RuleLaws.{derives_at, has-step}

pub facts-ascend : (p : Program) → IsAscending (facts_in p)
facts-ascend p = ascends-filter (λ a. nat_lt a (reach p) && not (has (needed p) a)) (set_of (flat_map fact_of p.rules)) (IsAscending-set_of (flat_map fact_of p.rules))

pub has-facts : (p : Program) (a : ℕ) → has (facts_in p) a ≡ ((nat_lt a (reach p) && not (has (needed p) a)) && has (flat_map fact_of p.rules) a)
has-facts p a =
    has-filter (λ b. nat_lt b (reach p) && not (has (needed p) b)) (set_of (flat_map fact_of p.rules)) a
    ∙ ap (λ b. (nat_lt a (reach p) && not (has (needed p) a)) && b) (has-set_of (flat_map fact_of p.rules) a)

pub fact-given : (p : Program) (a : ℕ) → has (facts_in p) a ≡ true → has (flat_map fact_of p.rules) a ≡ true
fact-given p a h = (and_parts _ (has (flat_map fact_of p.rules) a) (sym (has-facts p a) ∙ h)).1

pub fact-unneeded : (p : Program) (a : ℕ) → has (facts_in p) a ≡ true → has (needed p) a ≡ false
fact-unneeded p a h =
    not-true (has (needed p) a) (and_parts (nat_lt a (reach p)) _ (and_parts (nat_lt a (reach p) && not (has (needed p) a)) _ (sym (has-facts p a) ∙ h)).0).1

pub needed-apart : (p : Program) (a : ℕ) → has (needed p) a ≡ true → has (facts_in p) a ≡ false
needed-apart p a h = false_from_ne_true (has (facts_in p) a) (λ fact. both_ways (has (needed p) a) (fact-unneeded p a fact) h)

-- ---- facts are derived
fact_derived : (S T : Atoms) (a : ℕ) (h : Head) (b : Body) → has (cond (is_always b) (single h) []) a ≡ true → (has (reduct_heads S h) a && body_holds_between S T b) ≡ true
fact_derived S T a (head.One x) (body.All []) e = and_from (eqb x a || false) true e refl
fact_derived S T a (head.Choice atoms) (body.All []) e = absurd (false≢true e)
fact_derived S T a head.Never (body.All []) e = absurd (false≢true e)
fact_derived S T a h (body.All (l ∷ ls)) e = absurd (false≢true e)
fact_derived S T a h (body.AtLeast bound items) e = absurd (false≢true e)

pub facts-derived : (p : Program) → IsSound p → (S : Atoms) → IsSubset (facts_in p) (least_model p S)
facts-derived p sound S a h =
    let L = least_model p S in
    let by_rule : list_any (λ (r : Rule). has (fact_of r) a) p.rules ≡ true = sym (list_any-flat_map (λ b. eqb b a) fact_of p.rules) ∙ fact-given p a h in
    let derived : list_any (derives_at S L a) p.rules ≡ true =
    list_any-weaker (λ (r : Rule). has (fact_of r) a) (derives_at S L a) p.rules
    (each_of (λ r. has (fact_of r) a ≡ true → derives_at S L a r ≡ true) (λ r. fact_derived S L a r.head r.body) p.rules) by_rule in
    ap (λ T. has T a) (sym (least_model-derived p S sound))
    ∙ has-step S L (rules_in_force p) a
    ∙ list_any-append (derives_at S L a) p.rules (opened_rules p)
    ∙ or_left (list_any (derives_at S L a) p.rules) (list_any (derives_at S L a) (opened_rules p)) derived

-- ---- literals that aren't theirs
abbrev IsClear : Atoms → List ℕ → Type 0
IsClear F atoms = (a : ℕ) → has atoms a ≡ true → has F a ≡ false

first-clear : (F : Atoms) (a : ℕ) (atoms : List ℕ) → IsClear F (a ∷ atoms) → has F a ≡ false
first-clear F a atoms clear = clear a (or_left (eqb a a) (has atoms a) (eq-eqb a a refl))

later-clear : (F : Atoms) (a : ℕ) (atoms : List ℕ) → IsClear F (a ∷ atoms) → IsClear F atoms
later-clear F a atoms clear b h = clear b (or_right (eqb a b) (has atoms b) h)

clear-left : (F : Atoms) (xs ys : List ℕ) → IsClear F (xs ++ ys) → IsClear F xs
clear-left F xs ys clear a h = clear a (list_any-append (λ b. eqb b a) xs ys ∙ or_left (has xs a) (has ys a) h)

clear-right : (F : Atoms) (xs ys : List ℕ) → IsClear F (xs ++ ys) → IsClear F ys
clear-right F xs ys clear a h = clear a (list_any-append (λ b. eqb b a) xs ys ∙ or_right (has xs a) (has ys a) h)

literal-clear : (F S : Atoms) (l : ℤ) → has F (atom_of l) ≡ false → holds (united F S) l ≡ holds S l
literal-clear F S l e = holds-united F S l ∙ ap (λ b. cond b (is_positive l) (holds S l)) e

all-clear : (F S : Atoms) (ls : List ℤ) → IsClear F (map atom_of ls) → all_hold (united F S) ls ≡ all_hold S ls
all-clear F S [] clear = refl
all-clear F S (l ∷ ls) clear =
    ap (λ b. b && all_hold (united F S) ls) (literal-clear F S l (first-clear F (atom_of l) (map atom_of ls) clear))
    ∙ ap (λ b. holds S l && b) (all-clear F S ls (later-clear F (atom_of l) (map atom_of ls) clear))

pub assumed-left : (p : Program) (S : Atoms) → all_hold (united (facts_in p) S) p.assumptions ≡ all_hold S (left_in p).assumptions
assumed-left p S = all-clear (facts_in p) S p.assumptions (clear-right (facts_in p) _ (map atom_of p.assumptions) (needed-apart p))

weight-clear : (F S : Atoms) (items : List (ℤ × ℤ)) → IsClear F (map (λ item. atom_of item.0) items) → weight_of (united F S) items ≡ weight_of S items
weight-clear F S [] clear = refl
weight-clear F S (i ∷ items) clear =
    ap (λ b. cond b i.1 (pos 0) +ℤ weight_of (united F S) items) (literal-clear F S i.0 (first-clear F (atom_of i.0) (map (λ item. atom_of item.0) items) clear))
    ∙ ap (λ z. cond (holds S i.0) i.1 (pos 0) +ℤ z) (weight-clear F S items (later-clear F (atom_of i.0) (map (λ item. atom_of item.0) items) clear))

abbrev minimized : List Minimize → List ℕ
minimized ms = flat_map (λ m. map (λ item. atom_of item.0) m.items) ms

cost-clear : (F S : Atoms) (ms : List Minimize) (q : ℤ) → IsClear F (minimized ms) → cost_at (united F S) ms q ≡ cost_at S ms q
cost-clear F S [] q clear = refl
cost-clear F S (m ∷ ms) q clear =
    ap (λ z. cond (int_eq m.priority q) z (pos 0) +ℤ cost_at (united F S) ms q) (weight-clear F S m.items (clear-left F (map (λ item. atom_of item.0) m.items) (minimized ms) clear))
    ∙ ap (λ z. cond (int_eq m.priority q) (weight_of S m.items) (pos 0) +ℤ z) (cost-clear F S ms q (clear-right F (map (λ item. atom_of item.0) m.items) (minimized ms) clear))

map-same : (f g : ℤ → ℤ) (qs : List ℤ) → ((q : ℤ) → f q ≡ g q) → map f qs ≡ map g qs
map-same f g [] h = refl
map-same f g (q ∷ qs) h = ap (λ z. z ∷ map f qs) (h q) ∙ ap (λ zs. g q ∷ zs) (map-same f g qs h)

pub cost-left : (p : Program) (S : Atoms) → cost p (united (facts_in p) S) ≡ cost (left_in p) S
cost-left p S =
    map-same (cost_at (united (facts_in p) S) p.minimize) (cost_at S p.minimize) (priorities p.minimize)
    (λ q. cost-clear (facts_in p) S p.minimize q (clear-left (facts_in p) (minimized p.minimize) (map atom_of p.assumptions) (needed-apart p)))
