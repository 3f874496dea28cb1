use Rattle.std.proofs.Common.{◌≡◌, false, take}
use Rattle.std.specs.List.{list_any}
use Rattle.asp_source.specs.Marks.{is_marked}
use Rattle.asp_source.proofs.founding.is_some_loose.Given as goal

abbrev pub invariant-loop-var : goal.invariant-loop-var
invariant-loop-var l = list_any (is_marked l.loose) (take l.var-index l.vars) ≡ false
