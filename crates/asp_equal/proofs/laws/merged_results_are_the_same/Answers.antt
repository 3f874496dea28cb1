use Rattle.asp_equal.specs.Merged.{copies_of, extended, merged_of}
use Rattle.asp_equal.proofs.ResultLaws.{all-consequences, chosen-merged, optima-chosen, optima-merged, optimum-merged, some-consequences}
use Rattle.asp_equal.proofs.WholeLaws.{goes_by, has-results}
use Rattle.asp_equal.proofs.laws.merged_results_are_the_same.Goals as goal

pub returns : goal.returns
returns c = record {
  optima = λ p s. optima-merged (goes_by p) (extended (copies_of p)) p (merged_of p) (has-results p s);
  optimum = λ p S d s o. optimum-merged (goes_by p) (extended (copies_of p)) p (merged_of p) (has-results p s) S d o;
  some = λ p f s. chosen-merged (goes_by p) (extended (copies_of p)) p (merged_of p) (has-results p s) f;
  some_optima = λ p f s. optima-chosen (goes_by p) (extended (copies_of p)) p (merged_of p) (has-results p s) f;
  consequences = λ p w s. all-consequences (goes_by p) (extended (copies_of p)) p (merged_of p) (has-results p s) w;
  some_consequences = λ p w f s. some-consequences (goes_by p) (extended (copies_of p)) p (merged_of p) (has-results p s) w f;
}
