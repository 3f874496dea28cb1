use Rattle.asp_checker.proofs.StepLaws.{unit-forces, follow-more, violated-conflicts, propagated-refutes}
use Rattle.asp_checker.proofs.laws.steps_follow.Goals as goal

pub returns : goal.returns
returns c = record { unit = unit-forces; more = follow-more; violated = violated-conflicts; propagated = propagated-refutes }
