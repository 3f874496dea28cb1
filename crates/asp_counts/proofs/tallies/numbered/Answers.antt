use Rattle.std.proofs.Common.{◌+◌, subst, sym, refl}
use Rattle.asp_counts.specs.Telling.{AreNumbered}
use Rattle.asp_counts.proofs.Sums.{numbered_more}
use Rattle.asp_counts.proofs.tallies.numbered.Goals as goal

pub loop-i-preserved : goal.loop-i-preserved
loop-i-preserved c =
    subst (AreNumbered (c.loop-i.i + 1)) (sym c.in_ok-push.ensures.items) (numbered_more c.loop-i.i c.loop-i.all.items _ c.loop-i.invariant refl)
