use Rattle.std.proofs.Common.{sym, ◌∙◌}
use Rattle.asp_search.specs.Beside.{left_to_show}
use Rattle.asp_crew.proofs.KnownLaws.{fewer-some}
use Rattle.asp_crew.proofs.known.take_over.Goals as goal

pub set_known-requires-clause-some : goal.set_known-requires-clause-some
set_known-requires-clause-some g c =
    let x = c.args.known in
    fewer-some x.reasoning x.program x.sets (left_to_show c.args.search.now) (sym c.show_more.ensures ∙ c.if-show_more.true)
