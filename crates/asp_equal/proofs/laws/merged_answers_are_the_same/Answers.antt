use Rattle.asp_equal.specs.Merged.{copies_of, extended, merged_of}
use Rattle.asp_equal.proofs.NoneLaws.{merged-none}
use Rattle.asp_equal.proofs.ResultLaws.{same-answers}
use Rattle.asp_equal.proofs.WholeLaws.{cost-whole, goes_by, has-results, shown-again, shown-whole, sound-whole}
use Rattle.asp_equal.proofs.laws.merged_answers_are_the_same.Goals as goal

pub returns : goal.returns
returns c = record {
  answers = λ p s. same-answers (goes_by p) (extended (copies_of p)) p (merged_of p) (has-results p s);
  shown = shown-whole;
  again = shown-again;
  costs = cost-whole;
  same = merged-none;
  sound = sound-whole;
}
