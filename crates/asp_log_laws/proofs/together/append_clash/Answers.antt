use Rattle.asp_vault.specs.Seats.{view}
use Rattle.asp_log_laws.proofs.EntryLaws.{entry}
use Rattle.asp_log_laws.proofs.together.append_clash.Goals as goal

pub append-requires-clause-entry : goal.append-requires-clause-entry
append-requires-clause-entry g c = entry (view c.args.seat.now).about c.args.var c.in-Ok.nogood c.in-Ok.ensures c.requires.named
