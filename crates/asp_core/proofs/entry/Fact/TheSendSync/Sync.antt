-- A fact owns nothing, so any thread may share it.
use denote.Param.Send.{IsSync, part_keyless}
use Rattle.asp_core.specs.contracts.entry.Fact.{the_row}
use Rattle.asp_core.proofs.entry.Fact.TheSendSync.Send.{send}

pub sync : IsSync the_row
sync = record { shared = λ d b o κ q. part_keyless the_row send q d b o }
