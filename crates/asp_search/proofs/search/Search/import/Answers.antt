use Rattle.std.proofs.Common.{sym, ◌∙◌}
use Rattle.asp_search_laws.specs.Searching.{used}
use Rattle.asp_search.proofs.OpenLaws.{shared_good, of_use_shared}
use Rattle.asp_search.proofs.search.Search.import.Goals as goal

pub keep-requires-clause-good : goal.keep-requires-clause-good
keep-requires-clause-good g c =
    let i = c.self.inside in
    let s = c.args.self.now in
    let n = c.args.nogood.now in
    shared_good s.program (used s) s.bound n.base n.lits (c.requires.good (of_use_shared i.mode i.bound n.base (sym c.is_of_use.ensures ∙ c.if-not-is_of_use.false)))
