use Rattle.std.proofs.Common.{◌≡◌, take}
use Rattle.asp_vars.specs.Numbering.{bodies_of}
use Rattle.asp_state.specs.SearchStates.{with_bodies}
use Rattle.asp_state.proofs.unlisted.begin_unlisted.Given as goal

abbrev pub invariant-loop-body : goal.invariant-loop-body
invariant-loop-body l = l.order ≡ with_bodies l.compiled l.initial.order (take l.body (bodies_of l.compiled))
