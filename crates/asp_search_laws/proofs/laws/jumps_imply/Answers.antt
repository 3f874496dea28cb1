use Rattle.asp_search_laws.proofs.JumpLaws.{jump_none, jump_reason, jump_beside}
use Rattle.asp_search_laws.proofs.laws.jumps_imply.Goals as goal

pub returns : goal.returns
returns c = record { none = jump_none; reason = jump_reason; beside = jump_beside }
