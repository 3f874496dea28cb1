use Rattle.std.proofs.Common.{ℕ, List, length, ap, arith}
use Rattle.asp_table.proofs.TableLaws.{length-rows_from}
use Rattle.asp_table.proofs.table.Table.len.Goals as goal

pub returns : goal.returns
returns g c =
    let starts : List ℕ = c.self.inside.starts.items in
    let rows = length-rows_from starts c.self.inside.items.items c.self.invariant in
    let seen = ap length c.self.view_is in
    let same = ap length c.as_slice.ensures.value in
    let is = c.rows_of.ensures in
    omega (arith, rows, seen, same, is)
