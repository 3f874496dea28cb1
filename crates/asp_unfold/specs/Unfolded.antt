-- The literal that defines an atom, and the program whose minimise statements say it in place of the atom.
use Rattle.std.specs.Prelude.{ℕ, ◌+◌, ◌*◌, nat_lt, if◌then◌else◌, List, [], ◌∷◌, map, filter, length, ℤ, neg_ℤ, Option, None, Some}
use Rattle.asp_model.specs.declared.program.Body.{Body}
use Rattle.asp_model.specs.declared.program.Body.TheVariants as body
use Rattle.asp_model.specs.declared.program.Head.{Head}
use Rattle.asp_model.specs.declared.program.Head.TheVariants as head
use Rattle.asp_model.specs.declared.program.Minimize.{Minimize}
use Rattle.asp_model.specs.declared.program.Rule.{Rule}
use Rattle.asp_model.specs.declared.program.Program.{Program}
use Rattle.asp_model.specs.Sets.{has}
use Rattle.asp_model.specs.Holding.{atom_of, is_positive}
use Rattle.asp_model.specs.Models.{head_atoms}

-- the one literal of a body, if it is one
abbrev pub sole_literal : Body → Option ℤ
sole_literal (body.All []) = None
sole_literal (body.All (m ∷ [])) = Some m
sole_literal (body.All (m ∷ n ∷ ls)) = None
sole_literal (body.AtLeast bound items) = None

-- the literal by which the rule defines its atom, if no other rule derives this
abbrev pub literal_by : Head → Body → Option ℤ
literal_by (head.One a) b = sole_literal b
literal_by (head.Choice atoms) b = None
literal_by head.Never b = None

-- the rules that derive the atom, or may
abbrev pub rules_for : ℕ → List Rule → List Rule
rules_for a rules = filter (λ r. has (head_atoms r.head) a) rules

-- the literal that these rules say the atom is, if it is one rule
abbrev pub literal_of : List Rule → Option ℤ
literal_of [] = None
literal_of (r ∷ []) = literal_by r.head r.body
literal_of (r ∷ s ∷ rs) = None

-- the literal that says what a literal of the program does: m, or its complement, in place of an atom whose one rule has the body m. It
-- is one of a smaller atom, so of two atoms that define each other one stays.
abbrev pub replaced : ℤ → Option ℤ → ℤ
replaced l None = l
replaced l (Some m) = if nat_lt (atom_of m) (atom_of l) then (if is_positive l then m else neg_ℤ m) else l

-- Atoms with great numbers stay, so that a table of them is no longer than the rules are.
abbrev pub unfolded_literal : List Rule → ℤ → ℤ
unfolded_literal rules l = if nat_lt (atom_of l) (16 * (length rules + 1)) then replaced l (literal_of (rules_for (atom_of l) rules)) else l

abbrev pub unfolded_minimize : List Rule → Minimize → Minimize
unfolded_minimize rules m = record { priority = m.priority; items = map (λ i. (unfolded_literal rules i.0, i.1)) m.items }

-- the program whose minimise statements speak of the literals that define atoms
abbrev pub unfolded : Program → Program
unfolded p = record {
  rules = p.rules;
  minimize = map (unfolded_minimize p.rules) p.minimize;
  outputs = p.outputs;
  externals = p.externals;
  assumptions = p.assumptions;
}
