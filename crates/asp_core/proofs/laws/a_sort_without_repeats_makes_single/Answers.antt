use Rattle.asp_core.proofs.SortingLaws.{once-is}
use Rattle.asp_core.proofs.laws.a_sort_without_repeats_makes_single.Goals as goal

pub returns : goal.returns
returns c = once-is
