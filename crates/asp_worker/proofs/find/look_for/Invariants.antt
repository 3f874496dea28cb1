use Rattle.asp_vault.specs.Seats.{view, IsBeside}
use Rattle.asp_pool.specs.Pools.{IsOfPool}
use Rattle.asp_worker.specs.Seats.{Passes, IsFree}
use Rattle.asp_worker.proofs.find.look_for.Given as goal

abbrev pub invariant-rounds : goal.invariant-rounds
invariant-rounds g l = IsBeside l.initial.seat l.seat × Passes (view l.initial.seat) (view l.seat) × IsFree (view l.seat) × IsOfPool l.shared.pool l.pass
