use Rattle.std.proofs.Common.{length, ap, arith}
use Rattle.asp_log.specs.Entries.{Contents}
use Rattle.asp_log.proofs.BlockLaws.{length-stored}
use Rattle.asp_log.proofs.log.Log.count.Goals as goal

pub overflow_mul-result : goal.overflow_mul-result
overflow_mul-result c = let i = c.self.inside in omega (arith, c.self.invariant.keeps.few, length-stored i.blocks.items i.tail.items, c.len.ensures)

pub overflow_add-result : goal.overflow_add-result
overflow_add-result c = let i = c.self.inside in omega (arith, c.self.invariant.keeps.few, length-stored i.blocks.items i.tail.items, c.len.ensures, c.len-2.ensures)

pub overflow_cast-result : goal.overflow_cast-result
overflow_cast-result c = let i = c.self.inside in omega (arith, c.self.invariant.keeps.few, length-stored i.blocks.items i.tail.items, c.len.ensures, c.len-2.ensures)

pub returns-clause-count : goal.returns-clause-count
returns-clause-count c =
    let i = c.self.inside in
    omega (arith, ap (λ (x : Contents). length x.entries) c.self.view_is, length-stored i.blocks.items i.tail.items, c.len.ensures, c.len-2.ensures)
