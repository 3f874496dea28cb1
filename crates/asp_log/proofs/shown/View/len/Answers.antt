use Rattle.std.proofs.Common.{List, length, ap, arith}
use Rattle.std.proofs.lemmas.List.{length-drop}
use Rattle.asp_vars.specs.declared.nogood.Nogood.{Nogood}
use Rattle.asp_log.specs.Blocks.{stored}
use Rattle.asp_log.proofs.BlockLaws.{length-stored}
use Rattle.asp_log.proofs.shown.View.len.Goals as goal

pub overflow_mul-result : goal.overflow_mul-result
overflow_mul-result c = let i = c.self.inside in omega (arith, c.self.invariant.few, length-stored i.blocks.items i.tail.items, c.len.ensures)

pub overflow_add-result : goal.overflow_add-result
overflow_add-result c = let i = c.self.inside in omega (arith, c.self.invariant.few, length-stored i.blocks.items i.tail.items, c.len.ensures, c.len-2.ensures)

pub overflow_sub-result : goal.overflow_sub-result
overflow_sub-result c = let i = c.self.inside in omega (arith, c.self.invariant.skipped, length-stored i.blocks.items i.tail.items, c.len.ensures, c.len-2.ensures)

pub overflow_cast-result : goal.overflow_cast-result
overflow_cast-result c = let i = c.self.inside in omega (arith, c.self.invariant.few, length-stored i.blocks.items i.tail.items, c.len.ensures, c.len-2.ensures)

pub returns : goal.returns
returns c =
    let i = c.self.inside in
    omega (
      arith,
      ap (λ (x : List Nogood). length x) c.self.view_is,
      length-drop i.skipped (stored i.blocks.items i.tail.items),
      length-stored i.blocks.items i.tail.items,
      c.len.ensures,
      c.len-2.ensures,
    )
