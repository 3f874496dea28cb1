-- Texts of worked rows.
use Rattle.std.specs.Prelude.{ℕ, List, [], ◌∷◌, ◌++◌, codes}
use Rattle.asp_model.specs.declared.program.Rule.{Rule}
use Rattle.asp_model.specs.declared.program.Program.{Program}
use Rattle.asp_read.specs.Sizes.{empty_program}

-- what follows the rules where there are no symbols and no assumptions
abbrev pub after_rules : List ℕ
after_rules = codes "0\n0\nB+\n0\nB-\n0\n1\n"

-- this line as the one rule
abbrev pub one_rule : List ℕ → List ℕ
one_rule line = line ++ codes "\n" ++ after_rules

-- this line as the one symbol
abbrev pub one_symbol : List ℕ → List ℕ
one_symbol line = codes "0\n" ++ line ++ codes "\n0\nB+\n0\nB-\n0\n1\n"

abbrev pub rule_program : Rule → Program
rule_program r = record empty_program { rules = r ∷ [] }
