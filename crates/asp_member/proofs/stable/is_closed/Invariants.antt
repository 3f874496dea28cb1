use Rattle.std.proofs.Common.{◌≡◌, true, take}
use Rattle.std.specs.List.{list_all}
use Rattle.asp_vars.specs.Numbering.{bodies_of}
use Rattle.asp_member.specs.Founding.{is_done}
use Rattle.asp_member.proofs.stable.is_closed.Given as goal

abbrev pub invariant-loop-body : goal.invariant-loop-body
invariant-loop-body l = list_all (is_done l.compiled l.values) (take l.body (bodies_of l.compiled)) ≡ true
