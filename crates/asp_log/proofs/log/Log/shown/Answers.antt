use Rattle.std.proofs.Common.{◌≡◌, List, length, ap, ◌∙◌, arith}
use Rattle.asp_vars.specs.declared.nogood.Nogood.{Nogood}
use Rattle.asp_log.specs.Blocks.{stored}
use Rattle.asp_log.proofs.log.Log.shown.Goals as goal

pub of-requires-clause-few : goal.of-requires-clause-few
of-requires-clause-few c =
    let i = c.self.inside in
    let same : stored c.as_slice.result.now c.as_slice-2.result.now ≡ stored i.blocks.items i.tail.items =
    ap (λ l. stored l c.as_slice-2.result.now) c.as_slice.ensures.value ∙ ap (λ (l : List Nogood). stored i.blocks.items l) c.as_slice-2.ensures.value in
    omega (arith, ap (λ (l : List Nogood). length l) same, c.self.invariant.keeps.few, c.self.invariant.fits)
