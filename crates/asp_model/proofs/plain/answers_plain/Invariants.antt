use Rattle.std.proofs.Common.{◌≡◌, ◌++◌, filter, length}
use Rattle.asp_model.specs.Models.{answers}
use Rattle.asp_model.specs.Walks.{is_answer}
use Rattle.asp_model.proofs.plain.answers_plain.Given as goal

abbrev pub invariant-sets : goal.invariant-sets
invariant-sets l = l.found.items ++ filter (is_answer l.program) l.subsets ≡ answers l.program

abbrev pub decreases-sets : goal.decreases-sets
decreases-sets l = length l.subsets
