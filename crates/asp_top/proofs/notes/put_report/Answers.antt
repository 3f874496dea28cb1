use Rattle.asp_top.proofs.notes.put_report.Goals as goal

pub returns : goal.returns
returns g c = rw c.report_items-items.ensures at c.put_items.ensures
