use Rattle.std.proofs.Common.{refl, arith}
use Rattle.asp_checkrun.proofs.runs.write_asked.Goals as goal

pub returns-in-Ok-clause-tells : goal.returns-in-Ok-clause-tells
returns-in-Ok-clause-tells g c = (c.in-Ok.ensures.all, c.in-Ok.ensures.sent)

pub returns-in-Ok-clause-write : goal.returns-in-Ok-clause-write
returns-in-Ok-clause-write g c = record { cause = λ e. absurd (omega (arith, e)); quiet = λ _. c.in-Ok.ensures.quiet }

pub returns-in-Ok-clause-no_read : goal.returns-in-Ok-clause-no_read
returns-in-Ok-clause-no_read g c = λ e. omega (arith, e)

pub returns-in-Err-clause-tells : goal.returns-in-Err-clause-tells
returns-in-Err-clause-tells g c = c.in-Err.ensures.front

pub returns-in-Err-clause-write : goal.returns-in-Err-clause-write
returns-in-Err-clause-write g c = record { cause = λ _. c.in-Err.ensures.cause; quiet = λ never. absurd (never refl) }

pub returns-in-Err-clause-no_read : goal.returns-in-Err-clause-no_read
returns-in-Err-clause-no_read g c = λ e. omega (arith, e)
