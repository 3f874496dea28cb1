use Rattle.std.proofs.Common.{◌≡◌, ◌++◌, flat_map, take}
use Rattle.asp_make.proofs.written.write_each.Given as goal

abbrev pub invariant-loop-entry : goal.invariant-loop-entry
invariant-loop-entry g l = l.out.items ≡ l.initial.out.items ++ flat_map g.W.Written.text (take l.entry-index l.entries)
