use Rattle.std.proofs.Common.{refl, sym, subst}
use Rattle.asp_search_laws.specs.Keeping.{AreBlocking}
use Rattle.asp_search_laws.specs.Steps.{covering_nogood}
use Rattle.asp_state.specs.SearchStates.{SearchView}
use Rattle.asp_search.specs.Blocking.{Covers}
use Rattle.asp_search.proofs.CoverLaws.{all_stand, cover_done, kept_blocking_stand, undone_blocking, undone_same}
use Rattle.asp_search.proofs.covering.cover.Goals as goal

pub drop_all-requires : goal.drop_all-requires
drop_all-requires g c =
    undone_blocking c.keep_cover.new.state c.undo_to.new.self _ _ c.keep_cover.new.blocking.items c.undo_to.ensures.same
    (kept_blocking_stand c.args.state.now c.keep_cover.new.state c.in_ok-id.id _ c.args.blocking.now.items c.keep_cover.new.blocking.items
    c.requires.blocking c.in_ok-id.ensures.ok c.keep_cover.ensures.blocking)

pub prefer_shown-requires : goal.prefer_shown-requires
prefer_shown-requires g c =
    let k = c.args.known.now in
    all_stand k.reasoning k.program c.args.compiled.now k.sets c.unshown.result.now c.requires.program c.unshown.ensures

pub returns-clause-ok : goal.returns-clause-ok
returns-clause-ok g c =
    let k = c.args.known.now in
    let t : SearchView = c.args.state.now in
    subst (λ (u : SearchView). Covers (covering_nogood k.reasoning c.args.compiled.now k.sets) t u c.push_reserved.new.self.items) (sym c.prefer_shown.ensures)
    (cover_done (covering_nogood k.reasoning c.args.compiled.now k.sets) t c.keep_cover.new.state c.undo_to.new.self c.drop_all.new.state
    c.in_ok-id.id c.keep_cover.new.blocking.items c.drop_all.new.blocking.items c.push_reserved.new.self.items refl
    c.keep_cover.ensures.same c.in_ok-id.ensures.ok (undone_same c.keep_cover.new.state c.undo_to.new.self _ _ c.undo_to.ensures.same) c.drop_all.ensures.same
    (subst (AreBlocking t.slots) (sym c.keep_cover.ensures.blocking) c.requires.blocking) c.drop_all.ensures.spares c.push_reserved.ensures.items)
