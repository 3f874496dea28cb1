use Rattle.std.proofs.Common.{◌∙◌, sym}
use Rattle.asp_series.proofs.ShrinkLaws.{no-reason}
use Rattle.asp_series.proofs.cores.core_of.Goals as goal

pub reason-requires-clause-none : goal.reason-requires-clause-none
reason-requires-clause-none g c = c.requires.none (sym c.is_refuted.ensures ∙ c.if-is_refuted.true)

pub returns-in_ok-core-clause-reason : goal.returns-in_ok-core-clause-reason
returns-in_ok-core-clause-reason g c = rw (sym c.is_refuted.ensures ∙ c.if-is_refuted.true) c.in_ok-core.ensures.reason

pub returns-else-is_refuted-clause-reason : goal.returns-else-is_refuted-clause-reason
returns-else-is_refuted-clause-reason g c = no-reason _ _ _ _ _ (sym c.is_refuted.ensures ∙ c.if-is_refuted.false)
