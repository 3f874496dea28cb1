use Rattle.asp_vault.specs.Seats.{view, IsBeside}
use Rattle.asp_pool.specs.Pools.{IsOfPool}
use Rattle.asp_worker.specs.Seats.{Passes, IsFree}
use Rattle.asp_worker.proofs.find.take_other.Given as goal

abbrev pub invariant-loop-lane : goal.invariant-loop-lane
invariant-loop-lane g l = IsBeside l.initial.seat l.seat × Passes (view l.initial.seat) (view l.seat) × IsFree (view l.seat) × IsOfPool l.shared.pool l.pass
