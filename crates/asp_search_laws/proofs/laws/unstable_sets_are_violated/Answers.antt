use Rattle.asp_search_laws.proofs.FaultLaws.{whole_unfounded, broken_fault, loop_fault}
use Rattle.asp_search_laws.proofs.laws.unstable_sets_are_violated.Goals as goal

pub returns : goal.returns
returns c = record {
  unfounded = whole_unfounded;
  broken = λ p es w n b. broken_fault p es w (λ m. ⊥) n b;
  loops = λ p es w U a n sub has l. loop_fault p es w (λ m. ⊥) U a n sub has l;
}
