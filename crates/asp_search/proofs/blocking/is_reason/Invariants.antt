use Rattle.std.proofs.Common.{◌≢◌, Some, take}
use Rattle.std.specs.List.{All}
use Rattle.asp_trail.specs.Entries.{reason_in}
use Rattle.asp_search.proofs.blocking.is_reason.Given as goal

abbrev pub invariant-loop-lit : goal.invariant-loop-lit
invariant-loop-lit l = All (λ k. reason_in l.trail.entries k.var ≢ Some l.id) (take l.lit-index l.lits)
