use Rattle.std.proofs.Common.{length, take, ap, arith}
use Rattle.asp_vars.specs.Literals.{Literal}
use Rattle.asp_order.specs.Heaps.{Ranking}
use Rattle.asp_order.proofs.HeapLaws.{all_bumped_alike}
use Rattle.asp_order.proofs.order.bump_all.Goals as goal

pub bump-requires : goal.bump-requires
bump-requires c =
    let i = c.loop-lit.lit-index in
    omega (
      arith,
      c.var.ensures,
      ap (λ (l : Literal). l.var) c.lit-item.is,
      c.requires i c.lit-item.result (omega arith),
      ap (λ (h : Ranking). length h.activities) c.loop-lit.invariant,
      (all_bumped_alike c.args.heap.now (take i c.args.lits.now)).vars,
    )
