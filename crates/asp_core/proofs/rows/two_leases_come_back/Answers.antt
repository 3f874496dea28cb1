use Rattle.std.proofs.Common.{refl, arith}
use Rattle.asp_core.proofs.rows.two_leases_come_back.Goals as goal

pub returns-clause-lawful : goal.returns-clause-lawful
returns-clause-lawful c = (
  ((refl, refl), (omega arith, (omega arith, (refl, (omega arith, (refl, tt)))))),
  ((refl, refl), (omega arith, (omega arith, (refl, (omega arith, (refl, tt)))))),
)
