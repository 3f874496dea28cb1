-- The atoms that are facts, and the program that is left without them.
use Rattle.std.specs.Prelude.{ℕ, nat_lt, Bool, true, false, not, ◌&&◌, if◌then◌else◌, List, [], ◌∷◌, ◌++◌, map, filter, flat_map, ℤ, pos, ◌+ℤ◌, ◌-ℤ◌, int_le}
use Rattle.std.specs.List.{list_any}
use Rattle.asp_model.specs.declared.program.Body.{Body}
use Rattle.asp_model.specs.declared.program.Body.TheVariants as body
use Rattle.asp_model.specs.declared.program.Head.{Head}
use Rattle.asp_model.specs.declared.program.Head.TheVariants as head
use Rattle.asp_model.specs.declared.program.Rule.{Rule}
use Rattle.asp_model.specs.declared.program.Output.{Output}
use Rattle.asp_model.specs.declared.program.Program.{Program}
use Rattle.asp_model.specs.Sets.{Atoms, has, with_atoms, set_of}
use Rattle.asp_model.specs.Holding.{atom_of, is_positive}
use Rattle.asp_model.specs.Models.{head_atoms}
use Rattle.asp_settle.specs.Constraints.{constrained, is_barred, reach}

-- ---- which atoms are settled
abbrev pub is_always : Body → Bool
is_always (body.All []) = true
is_always (body.All (l ∷ ls)) = false
is_always (body.AtLeast bound items) = false

abbrev pub single : Head → List ℕ
single (head.One a) = a ∷ []
single (head.Choice atoms) = []
single head.Never = []

-- the atom that the rule makes a fact, if it does
abbrev pub fact_of : Rule → List ℕ
fact_of r = if is_always r.body then single r.head else []

-- the atoms that costs and assumptions speak of, which stay
abbrev pub needed : Program → List ℕ
needed p = flat_map (λ m. map (λ item. atom_of item.0) m.items) p.minimize ++ map atom_of p.assumptions

-- the facts of a program as it is
abbrev pub facts_in : Program → Atoms
facts_in p = filter (λ a. nat_lt a (reach p) && not (has (needed p) a)) (set_of (flat_map fact_of p.rules))

-- ---- what is left where the atoms of F hold
-- the literals without those of F; none of them can hold together where one can't
abbrev pub settled_literals : Atoms → List ℤ → List (List ℤ)
settled_literals F ls = if list_any (is_barred F) ls then [] else filter (λ l. not (has F (atom_of l))) ls ∷ []

abbrev pub settled_items : Atoms → List (ℤ × ℤ) → List (ℤ × ℤ)
settled_items F items = filter (λ i. not (has F (atom_of i.0))) items

-- the weights of the positive literals of F, which hold
abbrev pub settled_weight : Atoms → List (ℤ × ℤ) → ℤ
settled_weight F [] = pos 0
settled_weight F (i ∷ items) = (if is_positive i.0 && has F (atom_of i.0) then i.1 else pos 0) +ℤ settled_weight F items

-- a bound behind some weights that hold; to 0 at least, since no sum is below
abbrev pub lowered : ℤ → ℤ → ℤ
lowered bound weight = if int_le (bound -ℤ weight) (pos 0) then pos 0 else bound -ℤ weight

abbrev pub settled_body : Atoms → Body → List Body
settled_body F (body.All literals) = map (λ ls. body.All ls) (settled_literals F literals)
settled_body F (body.AtLeast bound items) = body.AtLeast (lowered bound (settled_weight F items)) (settled_items F items) ∷ []

-- a choice keeps the atoms that aren't in F
abbrev pub settled_head : Atoms → Head → List Head
settled_head F (head.One a) = if has F a then [] else head.One a ∷ []
settled_head F (head.Choice atoms) = head.Choice (filter (λ a. not (has F a)) atoms) ∷ []
settled_head F head.Never = head.Never ∷ []

abbrev pub settled_rule : Atoms → Rule → List Rule
settled_rule F r = flat_map (λ h. map (λ b. record { head = h; body = b }) (settled_body F r.body)) (settled_head F r.head)

abbrev pub settled_output : Atoms → Output → List Output
settled_output F o = map (λ ls. record { text = o.text; condition = ls }) (settled_literals F o.condition)

abbrev pub heads_of : List Rule → List ℕ
heads_of rules = flat_map (λ r. head_atoms r.head) rules

-- Externals on atoms of heads say nothing, and go with the rules.
abbrev pub left_by : Atoms → Program → Program
left_by F p = record {
  rules = flat_map (settled_rule F) p.rules;
  minimize = p.minimize;
  outputs = flat_map (settled_output F) p.outputs;
  externals = filter (λ e. not (has (heads_of p.rules) e.atom)) p.externals;
  assumptions = p.assumptions;
}

-- what is left of a program as it is
abbrev pub left_in : Program → Program
left_in p = left_by (facts_in p) p

-- ---- a program as it is settled: first rules for atoms that are assumed false are constraints
-- the facts that are settled
abbrev pub facts_of : Program → Atoms
facts_of p = facts_in (constrained p)

-- the program that is left
abbrev pub left_of : Program → Program
left_of p = left_in (constrained p)

-- a set with the facts
abbrev pub united : Atoms → Atoms → Atoms
united F S = with_atoms S F

-- a set without the facts
abbrev pub without : Atoms → Atoms → Atoms
without F S = filter (λ a. not (has F a)) S
