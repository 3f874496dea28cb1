use Rattle.asp_vault.specs.Seats.{view, IsBeside}
use Rattle.asp_worker.specs.Seats.{Passes, IsFree}
use Rattle.asp_worker.proofs.find.take_own.Given as goal

abbrev pub invariant-offers : goal.invariant-offers
invariant-offers g l = IsBeside l.initial.seat l.seat × Passes (view l.initial.seat) (view l.seat) × IsFree (view l.seat)
