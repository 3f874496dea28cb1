use Rattle.std.proofs.Common.{◌≡◌, take}
use Rattle.asp_trail_laws.specs.Starts.{AreAssumed, AreAtZero}
use Rattle.asp_state.proofs.assume.assume_all.Given as goal

abbrev pub invariant-loop-lit : goal.invariant-loop-lit
invariant-loop-lit g l =
    (l.engine ≡ record l.fn.engine { entries = l.engine.entries }) × AreAssumed l.fn.cube l.engine.entries × AreAtZero (take l.lit-index l.fn.cube) l.engine.entries
