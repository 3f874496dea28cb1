use Rattle.std.proofs.Common.{arith}
use Rattle.asp_rows.proofs.PlaceLaws.{behind_last}
use Rattle.asp_rows.proofs.place.is_behind.Goals as goal

pub returns-else-place-eq0 : goal.returns-else-place-eq0
returns-else-place-eq0 c = λ e. behind_last c.args.atoms.now c.args.place c.args.atom c.requires (omega (arith, c.if-place-eq0.false)) c.if-place-atoms.true e
