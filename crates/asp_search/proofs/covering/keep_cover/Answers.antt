use Rattle.std.proofs.Common.{sym, subst}
use Rattle.asp_model.specs.declared.program.Program.{Program}
use Rattle.asp_vars.specs.declared.nogood.Nogood.{Nogood}
use Rattle.asp_search_laws.specs.Steps.{covering_nogood}
use Rattle.asp_state.specs.SearchStates.{AreOf}
use Rattle.asp_search.proofs.CoverLaws.{covering_vars}
use Rattle.asp_search.proofs.covering.keep_cover.Goals as goal

pub keep-requires : goal.keep-requires
keep-requires g c =
    let k = c.args.known.now in
    subst (λ (n : Nogood). AreOf c.args.state.now.program n.lits) (sym c.in_ok-nogood.ensures)
    (subst (λ (p : Program). AreOf p (covering_nogood k.reasoning c.args.compiled.now k.sets).lits) c.requires.counted (covering_vars k.reasoning c.args.compiled.now k.sets))
