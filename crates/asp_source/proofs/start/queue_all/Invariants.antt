use Rattle.std.proofs.Common.{◌≡◌, length}
use Rattle.asp_model.specs.Models.{atoms_of}
use Rattle.asp_source.specs.Pointers.{AreMarked}
use Rattle.asp_source.proofs.start.queue_all.Given as goal

abbrev pub invariant-loop-atom : goal.invariant-loop-atom
invariant-loop-atom l = (length l.queue ≡ length (atoms_of l.compiled)) × AreMarked l.components l.atom l.queue
