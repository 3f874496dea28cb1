use Rattle.std.proofs.Common.{◌≡◌, ◌∷◌, ◌++◌, List, Some, sym, ap, ◌∙◌, subst, []}
use Rattle.asp_model.specs.Sets.{Atoms}
use Rattle.asp_model.specs.declared.results.Mode.TheVariants as mode
use Rattle.asp_vars.specs.Literals.{Literal}
use Rattle.asp_search_laws.specs.Searching.{Searching}
use Rattle.asp_search_laws.specs.Steps.{Answers, blocking_nogood}
use Rattle.asp_search.specs.Invariants.{answers_known, used_in, view_of}
use Rattle.asp_search.specs.Stepping.{IsEntered, IsFound}
use Rattle.asp_search.proofs.BlockLaws.{block_thinned}
use Rattle.asp_search.proofs.MeetLaws.{known_more, settled_for, used_more}
use Rattle.asp_search.proofs.SearchLaws.{search_listed}
use Rattle.asp_search.proofs.StepsLaws.{same_cube, listed}
use Rattle.asp_search.proofs.search.Search.list.Goals as goal

pub invariant_of-self-2 : goal.invariant_of-self-2
invariant_of-self-2 g c =
    let i = c.self.inside in
    let q = c.requires.found.0 in
    let entered = subst (λ (s : Searching). IsEntered s q) (sym c.self.view_is) c.requires.found.1 in
    let found = subst (λ (s : Searching). IsFound s q c.args.interp.now) (sym c.self.view_is) c.requires.found.2 in
    let enum : i.mode ≡ mode.Enum = ap (λ (s : Searching). s.mode) c.self.view_is ∙ c.requires.mode in
    let more : c.push_reserved.new.self.items ≡ i.known.items ++ c.args.interp.now ∷ [] =
    c.push_reserved.ensures.items ∙ (ap (λ (xs : List Atoms). xs ++ c.of-answer.result ∷ []) c.reserve.ensures.items ∙ ap (λ (x : Atoms). i.known.items ++ x ∷ []) c.of-answer.ensures) in
    let blocks =
    block_thinned (blocking_nogood q i.state.decisions) i.state c.block.new.state c.thin.new.state c.in_ok-id.id c.block.new.blocking.items
    c.block.new.state.entries (c.in_ok-id.ensures.ok q entered.cube)
    c.thin.ensures.same c.thin.ensures.reduced in
    let K = used_in i.compiled.now i.mode i.known.items i.seen in
    let used : used_in i.compiled.now i.mode c.push_reserved.new.self.items i.seen ≡ K ++ c.args.interp.now ∷ [] =
    used_more i.mode i.compiled.now i.seen i.known.items c.push_reserved.new.self.items c.args.interp.now c.self.invariant.1 enum more in (
      search_listed i.compiled.now i.mode i.state c.thin.new.state i.learner i.checker K
          (used_in i.compiled.now i.mode c.push_reserved.new.self.items i.seen) c.in_ok-id.id i.blocking.items c.block.new.blocking.items i.bound
          i.last q c.args.interp.now
          enum entered.last used (settled_for i.compiled.now i.state i.mode (answers_known i.known.items i.seen) c.args.interp.now
          (q ++ i.state.decisions) c.self.invariant.0.program found.settled) found.hit blocks c.self.invariant.0,
      c.self.invariant.1,
    )

pub returns-clause-ok : goal.returns-clause-ok
returns-clause-ok g c = λ r f e.
    let i = c.self.inside in
    let q = c.requires.found.0 in
    let entered = subst (λ (s : Searching). IsEntered s q) (sym c.self.view_is) c.requires.found.1 in
    let found = subst (λ (s : Searching). IsFound s q c.args.interp.now) (sym c.self.view_is) c.requires.found.2 in
    let enum : i.mode ≡ mode.Enum = ap (λ (s : Searching). s.mode) c.self.view_is ∙ c.requires.mode in
    let more : c.push_reserved.new.self.items ≡ i.known.items ++ c.args.interp.now ∷ [] =
    c.push_reserved.ensures.items ∙ (ap (λ (xs : List Atoms). xs ++ c.of-answer.result ∷ []) c.reserve.ensures.items ∙ ap (λ (x : Atoms). i.known.items ++ x ∷ []) c.of-answer.ensures) in
    let new : Searching = view_of i.mode c.thin.new.state c.thin.new.pace (answers_known c.push_reserved.new.self.items i.seen) (Some c.in_ok-id.id) in
    let blocks =
    block_thinned (blocking_nogood q i.state.decisions) i.state c.block.new.state c.thin.new.state c.in_ok-id.id c.block.new.blocking.items
    c.block.new.state.entries (c.in_ok-id.ensures.ok q entered.cube)
    c.thin.ensures.same c.thin.ensures.reduced in
    let first = listed (g.P.Propagator.gives i.state.program i.state.bound) i.mode i.state c.thin.new.state i.pace c.thin.new.pace
    (answers_known i.known.items i.seen) (answers_known c.push_reserved.new.self.items i.seen) i.last q c.args.interp.now f
    c.in_ok-id.id c.block.new.blocking.items enum entered.last found
    (known_more i.mode i.compiled.now i.seen i.known.items c.push_reserved.new.self.items c.args.interp.now c.self.invariant.1 enum more) blocks
    c.thin.ensures.restarts c.thin.ensures.learnt in
    subst (λ (x : List Literal). Answers (g.P.Propagator.gives c.args.self.now.program c.args.self.now.bound) c.args.self.now new x f f c.args.interp.now)
    (same_cube c.args.self.now.cube q r c.requires.found.1.cube e)
    (subst (λ (s : Searching). Answers (g.P.Propagator.gives s.program s.bound) s new q f f c.args.interp.now) c.self.view_is first)
