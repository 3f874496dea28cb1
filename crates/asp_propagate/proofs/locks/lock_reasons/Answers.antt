use Rattle.std.proofs.Common.{◌<◌, List, Option, None, true, length, get_or, sym, ap, ◌∙◌, arith}
use Rattle.asp_trail.specs.declared.trail.Entry.{Entry}
use Rattle.asp_store.specs.declared.stored_nogood.StoredNogood.{StoredNogood}
use Rattle.asp_store.specs.Storing.{Stored}
use Rattle.asp_propagate.specs.Locking.{lock_reason}
use Rattle.asp_propagate.proofs.LockLaws.{lock_next}
use Rattle.asp_propagate.proofs.locks.lock_reasons.Goals as goal

pub loop-i-preserved : goal.loop-i-preserved
loop-i-preserved c =
    let es = c.args.trail.now.entries in
    let old = c.args.store.now in
    let d : Entry = record { lit = record { var = 0; truth = true }; level = 0; reason = None } in
    let h : c.loop-i.i < length es = omega arith in
    let step : Stored → Stored = λ x. record x { slots = lock_reason c.args.locked x.slots (get_or es c.loop-i.i d).reason } in
    let with_slots : List (Option StoredNogood) → Stored = λ xs. record old { slots = xs } in
    c.lock_at.ensures d ∙ (ap step c.loop-i.invariant ∙ ap with_slots (sym (lock_next c.args.locked es old.slots c.loop-i.i d h)))
