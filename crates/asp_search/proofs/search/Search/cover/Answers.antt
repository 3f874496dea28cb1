use Rattle.std.proofs.Common.{◌≡◌, ℕ, List, Option, IsSome, ◌++◌, ◌∷◌, sym, ap, ◌∙◌, subst, []}
use Rattle.asp_model.specs.declared.program.Program.{Program}
use Rattle.asp_model.specs.declared.results.Reasoning.{Reasoning}
use Rattle.asp_model.specs.Asked.{reasoning_of}
use Rattle.asp_model.specs.Consequences.{common_sets}
use Rattle.asp_model.specs.Sets.{Atoms}
use Rattle.asp_search_laws.specs.Keeping.{IsLast}
use Rattle.asp_search_laws.specs.Searching.{Searching}
use Rattle.asp_search_laws.specs.Steps.{Answers, covering_nogood}
use Rattle.asp_search.specs.Blocking.{Covers}
use Rattle.asp_state.specs.SearchStates.{SearchView}
use Rattle.asp_search.specs.Invariants.{IsSearch, answers_known, used_in, view_of}
use Rattle.asp_search.specs.Stepping.{IsEntered, IsFound}
use Rattle.asp_search.proofs.CoverLaws.{covered_answer, search_covers, seen_by, seen_some, seen_with, some_with, still_seen, used_with}
use Rattle.asp_search.proofs.SearchLaws.{search_stays}
use Rattle.asp_search.proofs.StepsLaws.{always_err, same_cube}
use Rattle.asp_vars.specs.Literals.{Literal}
use Rattle.asp_search.proofs.search.Search.cover.Goals as goal

pub unreachable-requires : goal.unreachable-requires
unreachable-requires g c =
    let i = c.self.inside in
    seen_some i.mode i.compiled.now i.seen c.self.invariant.1 (subst (λ (s : Searching). IsSome (reasoning_of s.mode)) (sym c.self.view_is) c.requires.mode) c.in-None.is

pub cover-requires-clause-program : goal.cover-requires-clause-program
cover-requires-clause-program g c =
    let i = c.self.inside in
    (seen_with i.mode i.compiled.now c.in-Some.seen c.in_ok-known-in-Some.known c.args.interp.now
    (seen_by i.mode i.compiled.now i.seen c.in-Some.seen c.self.invariant.1 c.in-Some.is) c.in_ok-known-in-Some.ensures).0.program

pub cover-requires-clause-counted : goal.cover-requires-clause-counted
cover-requires-clause-counted g c = c.self.invariant.0.program

pub cover-requires-clause-blocking : goal.cover-requires-clause-blocking
cover-requires-clause-blocking g c = c.self.invariant.0.blocking_stand

pub invariant_of-self : goal.invariant_of-self
invariant_of-self g c =
    let i = c.self.inside in
    let e = c.in_err-cover.ensures.err.0 in (
      subst (λ (ids : List ℕ). IsSearch i.compiled.now i.mode c.cover.new.state i.learner i.checker
          (used_in i.compiled.now i.mode i.known.items i.seen) ids i.bound i.last) (sym c.in_err-cover.ensures.err.1)
          (search_stays i.compiled.now i.mode i.state c.cover.new.state i.learner i.checker (used_in i.compiled.now i.mode i.known.items i.seen) i.blocking.items i.bound i.last
          (ap (λ (y : SearchView). y.program) e) (ap (λ (y : SearchView). y.bound) e) (ap (λ (y : SearchView). y.slots) e) c.self.invariant.0),
      c.self.invariant.1,
    )

pub returns-in_err-cover-clause-err : goal.returns-in_err-cover-clause-err
returns-in_err-cover-clause-err g c =
    let i = c.self.inside in
    let new : Searching = view_of i.mode c.cover.new.state i.pace (answers_known i.known.items i.seen) i.last in
    always_err c.from_residual-in_err-cover.result (new ≡ c.args.self.now)
    (ap (λ (x : SearchView). view_of i.mode x i.pace (answers_known i.known.items i.seen) i.last) c.in_err-cover.ensures.err.0 ∙ c.self.view_is)

pub invariant_of-self-2 : goal.invariant_of-self-2
invariant_of-self-2 g c =
    let i = c.self.inside in
    let p : Program = i.compiled.now in
    let x = c.in-Some.seen in
    let y = c.in_ok-known-in-Some.known in
    let S : Atoms = c.args.interp.now in
    let entered = subst (λ (s : Searching). IsEntered s c.requires.found.0) (sym c.self.view_is) c.requires.found.1 in
    let sx = seen_by i.mode p i.seen x c.self.invariant.1 c.in-Some.is in
    let more = seen_with i.mode p x y S sx c.in_ok-known-in-Some.ensures in
    let K : List Atoms = answers_known i.known.items i.seen in
    let known : K ≡ x.sets = ap (answers_known i.known.items) c.in-Some.is in
    let sets : y.sets ≡ common_sets y.reasoning p (K ++ S ∷ []) =
    more.2 ∙ ap (λ (r : Reasoning). common_sets r p (x.sets ++ S ∷ [])) (sym more.1)
    ∙ ap (λ (L : List Atoms). common_sets y.reasoning p (L ++ S ∷ [])) (sym known) in (
      search_covers p i.mode y.reasoning i.state c.cover.new.state i.learner i.checker K y.sets i.blocking.items c.cover.new.blocking.items i.bound
          i.last i.last more.0.reasoning c.in_ok-cover.ensures.ok
          (used_with y.reasoning p K y.sets S sets) (some_with y.reasoning p K y.sets S sets) (subst (λ (o : Option ℕ). IsLast c.cover.new.state.slots o) (sym entered.last) tt) c.self.invariant.0,
      still_seen i.mode p y more.0,
    )

pub returns-clause-ok : goal.returns-clause-ok
returns-clause-ok g c = λ r f e.
    let i = c.self.inside in
    let q = c.requires.found.0 in
    let p : Program = i.compiled.now in
    let x = c.in-Some.seen in
    let y = c.in_ok-known-in-Some.known in
    let S : Atoms = c.args.interp.now in
    let entered = subst (λ (s : Searching). IsEntered s q) (sym c.self.view_is) c.requires.found.1 in
    let found = subst (λ (s : Searching). IsFound s q S) (sym c.self.view_is) c.requires.found.2 in
    let more = seen_with i.mode p x y S (seen_by i.mode p i.seen x c.self.invariant.1 c.in-Some.is) c.in_ok-known-in-Some.ensures in
    let K : List Atoms = answers_known i.known.items i.seen in
    let known : K ≡ x.sets = ap (answers_known i.known.items) c.in-Some.is in
    let sets : y.sets ≡ common_sets y.reasoning i.state.program (K ++ S ∷ []) =
    more.2 ∙ ap (λ (w : Reasoning). common_sets w p (x.sets ++ S ∷ [])) (sym more.1)
    ∙ ap (λ (L : List Atoms). common_sets y.reasoning p (L ++ S ∷ [])) (sym known)
    ∙ ap (λ (z : Program). common_sets y.reasoning z (K ++ S ∷ [])) c.self.invariant.0.program in
    let covers : Covers (covering_nogood y.reasoning i.state.program y.sets) i.state c.cover.new.state c.cover.new.blocking.items =
    subst (λ (z : Program). Covers (covering_nogood y.reasoning z y.sets) i.state c.cover.new.state c.cover.new.blocking.items) c.self.invariant.0.program c.in_ok-cover.ensures.ok in
    let new : Searching = view_of i.mode c.cover.new.state i.pace y.sets i.last in
    let first = covered_answer (g.P.Propagator.gives i.state.program i.state.bound) i.mode y.reasoning i.state c.cover.new.state i.pace K y.sets
    i.last q S f c.cover.new.blocking.items more.0.reasoning entered.last found sets covers in
    subst (λ (z : List Literal). Answers (g.P.Propagator.gives c.args.self.now.program c.args.self.now.bound) c.args.self.now new z f f S)
    (same_cube c.args.self.now.cube q r c.requires.found.1.cube e)
    (subst (λ (s : Searching). Answers (g.P.Propagator.gives s.program s.bound) s new q f f S) c.self.view_is first)
