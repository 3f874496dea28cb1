use Rattle.std.proofs.Common.{subst}
use Rattle.asp_read.specs.Outcome.{outcome}
use Rattle.asp_read.specs.Stream.{ReadsText}
use Rattle.asp_smodels.specs.Outcome.{smodels_outcome}
use Rattle.asp_checker.proofs.RunLaws.{never_rose}
use Rattle.asp_checker.proofs.run.read_text.Goals as goal

pub returns-in-Aspif-clause-read : goal.returns-in-Aspif-clause-read
returns-in-Aspif-clause-read c = rw c.in-Aspif.is (subst (λ t. ReadsText c.read_program.result (outcome t)) c.new-source.ensures c.read_program.ensures.text)

pub returns-in-Aspif-clause-no_read : goal.returns-in-Aspif-clause-no_read
returns-in-Aspif-clause-no_read c = λ e. never_rose (c.read_program.ensures.cause e)

pub returns-in-Smodels-clause-read : goal.returns-in-Smodels-clause-read
returns-in-Smodels-clause-read c = rw c.in-Smodels.is (subst (λ t. ReadsText c.read_smodels.result (smodels_outcome t)) c.new-source.ensures c.read_smodels.ensures.text)

pub returns-in-Smodels-clause-no_read : goal.returns-in-Smodels-clause-no_read
returns-in-Smodels-clause-no_read c = λ e. never_rose (c.read_smodels.ensures.cause e)
