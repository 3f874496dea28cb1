-- The rules in force of a program whose outputs have atoms from a on: those of the program, whose atoms are below a, and those for the outputs.
use Rattle.std.proofs.Common.{◌≡◌, ℕ, ◌+◌, ◌<◌, ◌≤◌, Bool, true, false, not, cond, ◌||◌, eqb, List, [], ◌∷◌, ◌++◌, map, flat_map, refl, sym, ap, ◌∙◌, subst, arith}
use Rattle.std.specs.List.{AllByRecursion}
use Rattle.std.proofs.lemmas.Bool.{eqb-true, false_from_ne_true, or_from}
use Rattle.std.proofs.lemmas.List.Concat.{flat_map-append}
use Rattle.std.proofs.lemmas.List.Folds.{list_any-append}
use Rattle.asp_model.specs.declared.program.Body.TheVariants as body
use Rattle.asp_model.specs.declared.program.Head.TheVariants as head
use Rattle.asp_model.specs.declared.program.Rule.{Rule}
use Rattle.asp_model.specs.declared.program.Minimize.{Minimize}
use Rattle.asp_model.specs.declared.program.Output.{Output}
use Rattle.asp_model.specs.declared.program.External.{External}
use Rattle.asp_model.specs.declared.program.ExternalValue.{ExternalValue}
use Rattle.asp_model.specs.declared.program.ExternalValue.TheVariants as value
use Rattle.asp_model.specs.declared.program.Program.{Program}
use Rattle.asp_model.specs.Sets.{has, set_of}
use Rattle.asp_model.specs.Holding.{atom_of}
use Rattle.asp_model.specs.Models.{atoms_of, external_rule, head_atoms, last_value, mentions, open_atoms, rules_in_force}
use Rattle.asp_model.specs.Opening.{opened_rules}
use Rattle.asp_model.proofs.SetLaws.{has-set_of}
use Rattle.asp_model.proofs.MemberLaws.{each-filter, each-flat_map, each-front, each_weaker}
use Rattle.asp_model.proofs.ConsequenceLaws.{filter-atoms}
use Rattle.asp_named.specs.Named.{is_plain, named_from, naming_rule, naming_rules}
use Rattle.asp_named.proofs.BelowLaws.{AreBelow, Below, atoms_at, below-from, below-has, each-back, each-part}

-- All atoms of the program are below a.
abbrev pub IsUnder : ℕ → Program → Type 0
IsUnder a p = (b : ℕ) → has (atoms_of p) b ≡ true → b < a

-- ---- the program's atoms, list by list
abbrev rule_atoms : Program → List ℕ
rule_atoms p = flat_map atoms_at p.rules

abbrev cost_atoms : Program → List ℕ
cost_atoms p = flat_map (λ (m : Minimize). map (λ item. atom_of item.0) m.items) p.minimize

abbrev output_atoms : Program → List ℕ
output_atoms p = flat_map (λ (o : Output). map atom_of o.condition) p.outputs

abbrev external_atoms : Program → List ℕ
external_atoms p = map (λ (e : External). e.atom) p.externals

abbrev assumed_atoms : Program → List ℕ
assumed_atoms p = map atom_of p.assumptions

all-below : (a : ℕ) (p : Program) → IsUnder a p → Below a (mentions p)
all-below a p under = below-from a (mentions p) (λ b e. under b (has-set_of (mentions p) b ∙ e))

abbrev Low : ℕ → ℕ → Type 0
Low a b = b < a

without_assumed : (a : ℕ) (p : Program) → IsUnder a p → Below a (rule_atoms p ++ cost_atoms p ++ output_atoms p ++ external_atoms p)
without_assumed a p under = each-front (Low a) (rule_atoms p ++ cost_atoms p ++ output_atoms p ++ external_atoms p) (assumed_atoms p) (all-below a p under)

without_externals : (a : ℕ) (p : Program) → IsUnder a p → Below a (rule_atoms p ++ cost_atoms p ++ output_atoms p)
without_externals a p under = each-front (Low a) (rule_atoms p ++ cost_atoms p ++ output_atoms p) (external_atoms p) (without_assumed a p under)

pub rules-below : (a : ℕ) (p : Program) → IsUnder a p → AreBelow a p.rules
rules-below a p under =
    each-part (Low a) atoms_at p.rules (each-front (Low a) (rule_atoms p) (cost_atoms p) (each-front (Low a) (rule_atoms p ++ cost_atoms p) (output_atoms p) (without_externals a p under)))

pub outputs-below : (a : ℕ) (p : Program) → IsUnder a p → AllByRecursion (λ (o : Output). Below a (map atom_of o.condition)) p.outputs
outputs-below a p under =
    each-part (Low a) (λ (o : Output). map atom_of o.condition) p.outputs (each-back (Low a) (rule_atoms p ++ cost_atoms p) (output_atoms p) (without_externals a p under))

externals-below : (a : ℕ) (p : Program) → IsUnder a p → Below a (external_atoms p)
externals-below a p under = each-back (Low a) (rule_atoms p ++ cost_atoms p ++ output_atoms p) (external_atoms p) (without_assumed a p under)

pub assumed-below : (a : ℕ) (p : Program) → IsUnder a p → Below a (assumed_atoms p)
assumed-below a p under = each-back (Low a) (rule_atoms p ++ cost_atoms p ++ output_atoms p ++ external_atoms p) (assumed_atoms p) (all-below a p under)

-- ---- the heads of the rules for outputs are from a on
abbrev heads_in : List Rule → List ℕ
heads_in rs = flat_map (λ (r : Rule). head_atoms r.head) rs

abbrev High : ℕ → List ℕ → Type 0
High a xs = AllByRecursion (λ b. a ≤ b) xs

one_head : (a : ℕ) (o : Output) → High a (heads_in (naming_rule a o))
one_head a o = by (is_plain o.condition)
  where
    by : (c : Bool) → High a (heads_in (cond c [] (record { head = head.One a; body = body.All o.condition } ∷ [])))
    by true = tt
    by false = (omega arith, tt)

both-high : (a : ℕ) (xs ys : List ℕ) → High a xs → High a ys → High a (xs ++ ys)
both-high a [] ys h k = k
both-high a (x ∷ xs) ys h k = (h.0, both-high a xs ys h.1 k)

naming-high : (a : ℕ) (os : List Output) → High a (heads_in (naming_rules a os))
naming-high a [] = tt
naming-high a (o ∷ os) =
    subst (High a) (sym (flat_map-append (λ (r : Rule). head_atoms r.head) (naming_rule a o) (naming_rules (a + 1) os)))
    (both-high a (heads_in (naming_rule a o)) (heads_in (naming_rules (a + 1) os)) (one_head a o)
    (each_weaker (λ b. a + 1 ≤ b) (λ b. a ≤ b) (λ b le. omega (arith, le)) (heads_in (naming_rules (a + 1) os)) (naming-high (a + 1) os)))

pub absent-below : (a : ℕ) (xs : List ℕ) (b : ℕ) → High a xs → b < a → has xs b ≡ false
absent-below a [] b h lt = refl
absent-below a (x ∷ xs) b h lt = or_from (eqb x b) (has xs b)
    (false_from_ne_true (eqb x b) (λ e. let same : x ≡ b = eqb-true x b e in let le = h.0 in let no : ⊥ = omega (arith, same, le, lt) in no))
    (absent-below a xs b h.1 lt)

pub or-none : (x : Bool) → (x || false) ≡ x
or-none true = refl
or-none false = refl

same-heads : (a : ℕ) (p : Program) (b : ℕ) → b < a → has (heads_in (p.rules ++ naming_rules a p.outputs)) b ≡ has (heads_in p.rules) b
same-heads a p b lt =
    ap (λ (xs : List ℕ). has xs b) (flat_map-append (λ (r : Rule). head_atoms r.head) p.rules (naming_rules a p.outputs))
    ∙ list_any-append (λ c. eqb c b) (heads_in p.rules) (heads_in (naming_rules a p.outputs))
    ∙ ap (λ (c : Bool). has (heads_in p.rules) b || c) (absent-below a (heads_in (naming_rules a p.outputs)) b (naming-high a p.outputs) lt)
    ∙ or-none (has (heads_in p.rules) b)

-- ---- externals
open-same : (a : ℕ) (p : Program) → IsUnder a p → open_atoms (named_from a p) ≡ open_atoms p
open-same a p under =
    filter-atoms (λ b. not (has (heads_in (p.rules ++ naming_rules a p.outputs)) b)) (λ b. not (has (heads_in p.rules) b)) (set_of (external_atoms p)) (λ b e.
    ap not (same-heads a p b (below-has a (external_atoms p) b (externals-below a p under) (sym (has-set_of (external_atoms p) b) ∙ e))))

pub rules-named : (a : ℕ) (p : Program) → IsUnder a p → rules_in_force (named_from a p) ≡ (p.rules ++ naming_rules a p.outputs) ++ opened_rules p
rules-named a p under = ap (λ (xs : List ℕ). (p.rules ++ naming_rules a p.outputs) ++ flat_map (λ b. external_rule b (last_value p.externals b)) xs) (open-same a p under)

opened-one : (a b : ℕ) (v : ExternalValue) → b < a → AreBelow a (external_rule b v)
opened-one a b value.Free lt = ((lt, tt), tt)
opened-one a b value.True lt = ((lt, tt), tt)
opened-one a b value.False lt = tt
opened-one a b value.Release lt = tt

pub opened-below : (a : ℕ) (p : Program) → IsUnder a p → AreBelow a (opened_rules p)
opened-below a p under =
    let named = below-from a (set_of (external_atoms p)) (λ b e. below-has a (external_atoms p) b (externals-below a p under) (sym (has-set_of (external_atoms p) b) ∙ e)) in
    each-flat_map (λ (r : Rule). Below a (atoms_at r)) (λ b. external_rule b (last_value p.externals b)) (open_atoms p)
    (each_weaker (Low a) (λ b. AreBelow a (external_rule b (last_value p.externals b))) (λ b lt.
    opened-one a b (last_value p.externals b) lt) (open_atoms p) (each-filter (Low a) (λ b. not (has (heads_in p.rules) b)) (set_of (external_atoms p)) named))
