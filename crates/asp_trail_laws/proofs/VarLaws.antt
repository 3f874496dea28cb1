-- The completion's literals are of the program's variables.
use Rattle.std.specs.List.{AllByRecursion}
use Rattle.std.proofs.lemmas.List.Elements.{All-from_recursion}
use Rattle.asp_model.specs.declared.program.Program.{Program}
use Rattle.asp_model.proofs.MemberLaws.{each_weaker}
use Rattle.asp_vars.specs.Completion.{completion}
use Rattle.asp_vars.specs.Numbering.{var_count}
use Rattle.asp_vars.specs.Tabled.{IsLiteral}
use Rattle.asp_vars.proofs.VarLaws.{Each, completion_vars}
use Rattle.asp_trail_laws.specs.Whole.{AreVars}

pub completion_are_vars : (p : Program) → AllByRecursion (AreVars (var_count p)) (completion p)
completion_are_vars p = each_weaker (Each p) (AreVars (var_count p)) (λ n h. All-from_recursion (IsLiteral p) n h) (completion p) (completion_vars p)
