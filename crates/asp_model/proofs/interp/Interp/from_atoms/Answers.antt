use Rattle.asp_model.proofs.SetLaws.{IsAscending-dedup, set_of-sorted}
use Rattle.asp_model.proofs.interp.Interp.from_atoms.Goals as goal

pub invariant_of-result : goal.invariant_of-result
invariant_of-result c = IsAscending-dedup _ _ c.sort_unstable.ensures.sorted c.dedup.ensures.filtered

pub returns-clause-value : goal.returns-clause-value
returns-clause-value c = set_of-sorted _ _ _ c.sort_unstable.ensures.permutation c.sort_unstable.ensures.sorted c.dedup.ensures.filtered

pub returns-clause-ascending : goal.returns-clause-ascending
returns-clause-ascending c = invariant_of-result c
