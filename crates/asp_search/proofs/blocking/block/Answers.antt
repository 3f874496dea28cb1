use Rattle.std.proofs.Common.{◌-◌, List, length, sym, ap, ◌∙◌, subst}
use Rattle.asp_vars.specs.Literals.{Literal}
use Rattle.asp_vars.specs.Numbering.{var_count}
use Rattle.asp_vars.specs.declared.nogood.Nogood.{Nogood}
use Rattle.asp_search_laws.specs.Keeping.{AreBlocking}
use Rattle.asp_state.specs.SearchStates.{SearchView, AreOf}
use Rattle.asp_search.proofs.BlockLaws.{blocking_vars, block_blocking, block_done}
use Rattle.asp_search.proofs.blocking.block.Goals as goal

pub keep-requires : goal.keep-requires
keep-requires g c =
    let t = c.args.state.now in
    let q = c.requires.path.0 in
    let u = c.requires.path.1 in
    subst (λ (n : Nogood). AreOf t.program n.lits) (sym (c.in_ok-nogood.ensures q u.cube_is))
    (blocking_vars (var_count t.program) q t.decisions t.entries c.trail-trail.ensures.ordered (c.trail-trail.ensures.begun q u).starts)

pub drop_all-requires : goal.drop_all-requires
drop_all-requires g c =
    let t = c.args.state.now in
    block_blocking t c.keep.new.self c.undo_to.new.self c.saturating_sub.result c.in_ok-id.id c.in_ok-nogood.nogood c.reserve.new.self.items
    (subst (AreBlocking t.slots) (sym c.reserve.ensures.items) c.requires.blocking) c.in_ok-id.ensures.ok c.undo_to.ensures.same

pub returns-clause-ok : goal.returns-clause-ok
returns-clause-ok g c = λ q cube.
    let t = c.args.state.now in
    block_done t c.keep.new.self c.undo_to.new.self c.drop_all.new.state c.saturating_sub.result c.in_ok-id.id q c.in_ok-nogood.nogood
    c.as_slice.result.now c.reserve.new.self.items c.drop_all.new.blocking.items
    c.push_reserved.new.self.items (c.in_ok-nogood.ensures q cube) (c.as_slice.ensures.value ∙ c.in_ok-lits.ensures) (subst (AreBlocking t.slots) (sym c.reserve.ensures.items) c.requires.blocking)
    (c.saturating_sub.ensures ∙ ap (λ (ds : List Literal). length ds - 1)
    (c.decisions.ensures ∙ ap (λ (x : SearchView). x.decisions) c.in_ok-id.ensures.same)) c.in_ok-id.ensures.same c.in_ok-id.ensures.ok
    c.undo_to.ensures.same c.drop_all.ensures.same c.drop_all.ensures.drops c.push_reserved.ensures.items
