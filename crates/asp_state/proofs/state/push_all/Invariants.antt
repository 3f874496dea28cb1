use Rattle.std.proofs.Common.{◌≡◌, ◌++◌, take}
use Rattle.asp_state.proofs.state.push_all.Given as goal

abbrev pub invariant-loop-lit : goal.invariant-loop-lit
invariant-loop-lit l = l.lits ≡ l.fn.lits ++ take l.lit-index l.fn.more
