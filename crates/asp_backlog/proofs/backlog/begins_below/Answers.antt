use Rattle.std.proofs.Common.{◌≡◌, false}
use Rattle.std.specs.Ordering.{is_gt}
use Rattle.std.proofs.lemmas.List.Elements.{recursion_from_All}
use Rattle.asp_rows.specs.declared.row.Row.{Row}
use Rattle.asp_core.proofs.CountLaws.{row_cmp}
use Rattle.asp_backlog.proofs.BacklogLaws.{begins}
use Rattle.asp_backlog.proofs.backlog.begins_below.Goals as goal

pub returns-in-Some : goal.returns-in-Some
returns-in-Some c =
    begins c.args.atoms.now c.requires.ascending c.args.floor.now.set c.in-Some.row.now c.args.rows.now.keys c.requires.rows c.in-Some.ensures.first
    (recursion_from_All (λ (r : Row). is_gt (row_cmp c.in-Some.row.now r) ≡ false) c.args.rows.now.keys c.in-Some.ensures.all_from)
    c.is_before.result c.is_before.ensures
