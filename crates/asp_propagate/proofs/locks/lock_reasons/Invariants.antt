use Rattle.std.proofs.Common.{◌≡◌, take}
use Rattle.asp_propagate.specs.Locking.{lock_all}
use Rattle.asp_propagate.proofs.locks.lock_reasons.Given as goal

abbrev pub invariant-loop-i : goal.invariant-loop-i
invariant-loop-i l = l.store ≡ record l.fn.store { slots = lock_all l.locked (take l.i l.trail.entries) l.fn.store.slots }
