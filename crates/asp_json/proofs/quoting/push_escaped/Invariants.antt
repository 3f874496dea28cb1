use Rattle.std.proofs.Common.{flat_map, take, ◌++◌, ◌≡◌}
use Rattle.asp_json.specs.Quoting.{escaped}
use Rattle.asp_json.proofs.quoting.push_escaped.Given as goal

abbrev pub invariant-loop-byte : goal.invariant-loop-byte
invariant-loop-byte l = l.bytes.items ≡ l.initial.bytes.items ++ flat_map escaped (take l.byte-index l.text)
