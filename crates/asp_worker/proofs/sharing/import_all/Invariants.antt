use Rattle.std.proofs.Common.{take}
use Rattle.asp_slots.specs.Shelves.{listed}
use Rattle.asp_worker.specs.Sharing.{ImportsAll}
use Rattle.asp_worker.proofs.sharing.import_all.Given as goal

abbrev pub invariant-loop-i : goal.invariant-loop-i
invariant-loop-i g l = ImportsAll (take l.i (listed l.entries)) l.initial.search l.search
