-- A fact owns nothing, so any thread may share it.
use denote.Param.Send.{IsSync, part_keyless}
use Rattle.asp_trail.specs.contracts.told.Fact.{the_row}
use Rattle.asp_trail.proofs.told.Fact.TheSendSync.Send.{send}

pub sync : IsSync the_row
sync = record { shared = λ d b o κ q. part_keyless the_row send q d b o }
