-- Parts of a loop's test.
use Rattle.std.specs.Prelude.{ℕ, Bool, not, ◌||◌, List}
use Rattle.std.specs.List.{list_any}
use Rattle.asp_model.specs.declared.program.Program.{Program}
use Rattle.asp_model.specs.declared.program.Rule.{Rule}
use Rattle.asp_model.specs.Sets.{Atoms, has}
use Rattle.asp_model.specs.Models.{head_atoms}
use Rattle.asp_vars.specs.Literals.{Literal, T, has_literal}
use Rattle.asp_vars.specs.Numbering.{normal, var_of_atom}
use Rattle.asp_checker.specs.Lines.{is_answered}

-- The rule has no head atom in the set, or its body is answered.
abbrev pub is_answered_rule : Program → Atoms → List Literal → Rule → Bool
is_answered_rule p U n r = not (list_any (has U) (head_atoms r.head)) || is_answered p U n (normal r.body)

-- The nogood says that the atom is true.
abbrev pub has_head : Program → List Literal → ℕ → Bool
has_head p n a = has_literal n (T (var_of_atom p a))
