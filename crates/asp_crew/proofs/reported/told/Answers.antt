use Rattle.std.proofs.Common.{ap, ◌∙◌}
use Rattle.asp_core.specs.Boards.{is_enough}
use Rattle.asp_core.specs.Sorting.{sorted_once}
use Rattle.asp_core.proofs.SortingLaws.{once-is}
use Rattle.asp_crew_laws.specs.Reports.{end_by}
use Rattle.asp_crew.proofs.ReportLaws.{told-by}
use Rattle.asp_crew.proofs.reported.told.Goals as goal

pub returns-clause-told : goal.returns-clause-told
returns-clause-told c =
    told-by c.args.book _ c.end-state.result.0 c.requires.idle c.requires.over c.end-state.ensures.state
    (c.from_rows.ensures
    ∙ once-is c.into_found-answers.result.0.sets c.make_single.ensures.sets.sorted c.make_single.new.self.sets c.make_single.ensures.sets.permutation
    c.make_single.ensures.sets.rising c.make_single.ensures.sets.once
    ∙ ap sorted_once c.into_found-answers.ensures.answers)
    c.into_found-answers.ensures.best c.into_found-answers.ensures.known (c.end_by-end.ensures ∙ ap (λ x. end_by x c.finished.result) c.enough.ensures
    ∙ ap (end_by (is_enough c.end-state.result.0)) c.finished.ensures.closed) c.leaves-leaves.ensures c.spent-spent.ensures
    c.end-state.ensures.fuel
