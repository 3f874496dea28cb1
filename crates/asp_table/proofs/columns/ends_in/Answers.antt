use Rattle.std.proofs.Common.{eqb, sym, ap, ◌∙◌}
use Rattle.asp_table.specs.declared.columns.Occurrence.{Occurrence}
use Rattle.asp_table.proofs.ColumnLaws.{ends_in-at}
use Rattle.asp_table.proofs.columns.ends_in.Goals as goal

pub returns-in-Some : goal.returns-in-Some
returns-in-Some c =
    let item = c.in-Some.ensures.item in
    ap (λ (o : Occurrence). eqb o.body c.args.body) item.1 ∙ sym (ends_in-at c.args.cells.now c.in-Some.cell.now c.args.body item.3.0)
