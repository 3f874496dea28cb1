use Rattle.asp_propagate.proofs.locks.lock_at.Goals as goal
