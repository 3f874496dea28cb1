use Rattle.asp_equal.proofs.ReducedLaws.{all-consequences, chosen-reduced, optima-chosen, optima-reduced, optimum-reduced, some-consequences}
use Rattle.asp_equal.proofs.laws.reduced_results_are_the_same.Goals as goal

pub returns : goal.returns
returns c = record {
  optima = optima-reduced;
  optimum = optimum-reduced;
  some = chosen-reduced;
  some_optima = optima-chosen;
  consequences = all-consequences;
  some_consequences = some-consequences;
}
