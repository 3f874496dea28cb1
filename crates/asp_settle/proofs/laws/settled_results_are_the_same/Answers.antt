use Rattle.asp_settle.proofs.SettledLaws.{all-consequences, chosen-left, consequences-left, optima-chosen, optima-left, optimum-left}
use Rattle.asp_settle.proofs.laws.settled_results_are_the_same.Goals as goal

pub returns : goal.returns
returns c = record {
  optima = optima-left;
  optimum = optimum-left;
  some = chosen-left;
  some_optima = optima-chosen;
  consequences = all-consequences;
  some_consequences = consequences-left;
}
