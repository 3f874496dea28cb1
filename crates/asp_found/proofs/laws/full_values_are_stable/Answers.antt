use Rattle.asp_found.proofs.ValuationLaws.{values_are, values_stable}
use Rattle.asp_found.proofs.laws.full_values_are_stable.Goals as goal

pub returns : goal.returns
returns c = record { same = values_are; stable = values_stable }
