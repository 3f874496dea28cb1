use Rattle.std.proofs.Common.{arith}
use Rattle.asp_checkrun.proofs.RunLaws.{answers_idle}
use Rattle.asp_checkrun.proofs.runs.reply.Goals as goal

pub returns-in-Help-clause-replies : goal.returns-in-Help-clause-replies
returns-in-Help-clause-replies g c = rw c.in-Help.is (rw c.page.ensures at c.tell.ensures.tells)

pub returns-in-Version-clause-replies : goal.returns-in-Version-clause-replies
returns-in-Version-clause-replies g c = rw c.in-Version.is (rw c.version.ensures at c.tell-in-Version.ensures.tells)

pub returns-in-Usage-clause-write : goal.returns-in-Usage-clause-write
returns-in-Usage-clause-write g c = answers_idle _

pub returns-in-Usage-clause-no_read : goal.returns-in-Usage-clause-no_read
returns-in-Usage-clause-no_read g c = λ e. omega (arith, e)
