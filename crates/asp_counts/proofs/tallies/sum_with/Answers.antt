use Rattle.std.proofs.Common.{◌+◌, subst, eq-eqb, sym}
use Rattle.asp_counts.specs.Telling.{IsSumWith}
use Rattle.asp_counts.proofs.Sums.{sum_with_more}
use Rattle.asp_counts.proofs.tallies.sum_with.Goals as goal

pub loop-i-preserved : goal.loop-i-preserved
loop-i-preserved g c =
    subst (IsSumWith (c.loop-i.i + 1) c.args.place c.args.own.now) (sym c.add.ensures)
    (sum_with_more c.loop-i.i c.args.place c.args.own.now c.loop-i.sum c.heard.result c.loop-i.invariant (λ e. c.heard.ensures (eq-eqb c.loop-i.i c.args.place e)))
