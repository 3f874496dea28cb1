-- How many atoms and literals statements have, and which atoms.
use Rattle.std.specs.Prelude.{ℕ, ◌+◌, List, [], ◌∷◌, ◌++◌, length, map, sum_by}
use Rattle.asp_model.specs.declared.program.Head.{Head}
use Rattle.asp_model.specs.declared.program.Head.TheVariants.{One, Choice, Never}
use Rattle.asp_model.specs.declared.program.Body.{Body}
use Rattle.asp_model.specs.declared.program.Body.TheVariants.{All, AtLeast}
use Rattle.asp_model.specs.declared.program.Rule.{Rule}
use Rattle.asp_model.specs.declared.program.Program.{Program}
use Rattle.asp_model.specs.Holding.{atom_of, body_atoms}
use Rattle.asp_model.specs.Models.{head_atoms}
use Rattle.asp_read.specs.declared.statement.Statement.{Statement}
use Rattle.asp_read.specs.declared.statement.Statement.TheVariants as say

abbrev pub head_size : Head → ℕ
head_size (One a) = 1
head_size (Choice atoms) = length atoms
head_size Never = 0

abbrev pub body_size : Body → ℕ
body_size (All literals) = length literals
body_size (AtLeast bound items) = length items

abbrev pub rule_size : Rule → ℕ
rule_size r = head_size r.head + body_size r.body

-- the sum of all counts
abbrev pub program_size : Program → ℕ
program_size p = sum_by rule_size p.rules + sum_by (λ m. length m.items) p.minimize + sum_by (λ o. length o.condition) p.outputs + length p.assumptions

abbrev pub statement_size : Statement → ℕ
statement_size (say.Rule r) = rule_size r
statement_size (say.Minimize m) = length m.items
statement_size (say.Output o) = length o.condition
statement_size (say.Assume ls) = length ls
statement_size s = 0

-- the atoms of a statement, in the order of the line
abbrev pub statement_atoms : Statement → List ℕ
statement_atoms (say.Rule r) = head_atoms r.head ++ body_atoms r.body
statement_atoms (say.Minimize m) = map (λ item. atom_of item.0) m.items
statement_atoms (say.Output o) = map atom_of o.condition
statement_atoms (say.External e) = e.atom ∷ []
statement_atoms (say.Assume ls) = map atom_of ls
statement_atoms s = []

-- the program without statements
abbrev pub empty_program : Program
empty_program = record { rules = []; minimize = []; outputs = []; externals = []; assumptions = [] }
