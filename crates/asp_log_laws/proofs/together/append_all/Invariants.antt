use Rattle.std.proofs.Common.{◌≡◌, ◌≤◌, ◌-◌, length, take, map}
use Rattle.asp_vault.specs.Moments.{Stays}
use Rattle.asp_vault.specs.Seats.{view, IsBeside}
use Rattle.asp_log_laws.specs.Together.{clash, added}
use Rattle.asp_log_laws.proofs.together.append_all.Given as goal

abbrev pub invariant-loop-done : goal.invariant-loop-done
invariant-loop-done g l = IsBeside l.fn.seat l.seat × Stays (view l.fn.seat) (view l.seat) × (added (view l.seat).own ≡ map clash (take l.done l.vars)) × (l.done ≤ length l.vars)

abbrev pub decreases-loop-done : goal.decreases-loop-done
decreases-loop-done g l = length l.vars - l.done
