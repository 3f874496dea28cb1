use Rattle.std.proofs.Common.{◌≡◌, ℕ, List, Some, None, sym, ap, ◌∙◌, subst}
use Rattle.asp_model.specs.declared.program.Program.{Program}
use Rattle.asp_model.specs.declared.results.Reasoning.{Reasoning}
use Rattle.asp_model.specs.Asked.{reasoning_of}
use Rattle.asp_model.specs.Consequences.{unshown}
use Rattle.asp_model.specs.Sets.{Atoms, IsSubset}
use Rattle.asp_model.proofs.ConsequenceLaws.{used-less}
use Rattle.asp_search_laws.specs.Searching.{Searching}
use Rattle.asp_search_laws.specs.Steps.{covering_nogood}
use Rattle.asp_state.specs.SearchStates.{SearchView}
use Rattle.asp_search.specs.Beside.{Adopts}
use Rattle.asp_search.specs.Blocking.{Covers}
use Rattle.asp_search.specs.Invariants.{IsSearch, answers_known, used_in, view_of}
use Rattle.asp_search.proofs.CoverLaws.{adopted, search_covers, still_seen}
use Rattle.asp_search.proofs.SearchLaws.{search_stays}
use Rattle.asp_search.proofs.search.Search.set_known.Goals as goal

pub renew-requires-clause-program : goal.renew-requires-clause-program
renew-requires-clause-program g c = c.requires.program ∙ sym (ap (λ (s : Searching). s.program) c.self.view_is) ∙ sym c.self.invariant.0.program

pub renew-requires-clause-counted : goal.renew-requires-clause-counted
renew-requires-clause-counted g c = c.self.invariant.0.program

pub renew-requires-clause-blocking : goal.renew-requires-clause-blocking
renew-requires-clause-blocking g c = c.self.invariant.0.blocking_stand

pub invariant_of-self : goal.invariant_of-self
invariant_of-self g c =
    let i = c.self.inside in
    let p : Program = i.compiled.now in
    let x = c.args.known in
    let r : Reasoning = x.reasoning in
    let K : List Atoms = answers_known i.known.items i.seen in
    let program : x.program ≡ p = c.requires.program ∙ sym (ap (λ (s : Searching). s.program) c.self.view_is) ∙ sym c.self.invariant.0.program in
    let sought : reasoning_of i.mode ≡ Some r = ap (λ (s : Searching). reasoning_of s.mode) c.self.view_is ∙ sym c.requires.reasoning in
    let less : IsSubset (unshown r p x.sets) (unshown r p K) =
    subst (λ (q : Program). IsSubset (unshown r q x.sets) (unshown r q K)) program
    (subst (λ (s : Searching). IsSubset (unshown r x.program x.sets) (unshown r x.program s.known)) (sym c.self.view_is) c.requires.all) in (
      search_covers p i.mode r i.state c.renew.new.state i.learner i.checker K x.sets i.blocking.items c.renew.new.blocking.items i.bound i.last None
          sought c.in-Ok.ensures.ok (used-less r p K x.sets less c.requires.some) c.requires.some tt c.self.invariant.0,
      still_seen i.mode p x (record { program = program; reasoning = sought }),
    )

pub returns-in-Ok-clause-ok : goal.returns-in-Ok-clause-ok
returns-in-Ok-clause-ok g c =
    let i = c.self.inside in
    let x = c.args.known in
    let sought : reasoning_of i.mode ≡ Some x.reasoning = ap (λ (s : Searching). reasoning_of s.mode) c.self.view_is ∙ sym c.requires.reasoning in
    subst (λ (s : Searching). Adopts s (view_of i.mode c.renew.new.state i.pace x.sets None) x.sets) c.self.view_is
    (adopted i.mode x.reasoning i.state c.renew.new.state i.pace (answers_known i.known.items i.seen) x.sets i.last c.renew.new.blocking.items sought c.renew.ensures.same
    (subst (λ (q : Program). Covers (covering_nogood x.reasoning q x.sets) i.state c.renew.new.state c.renew.new.blocking.items) c.self.invariant.0.program c.in-Ok.ensures.ok))

pub invariant_of-self-in-Err : goal.invariant_of-self-in-Err
invariant_of-self-in-Err g c =
    let i = c.self.inside in
    let e = c.in-Err.ensures.err.0 in (
      subst (λ (ids : List ℕ). IsSearch i.compiled.now i.mode c.renew.new.state i.learner i.checker
          (used_in i.compiled.now i.mode i.known.items i.seen) ids i.bound i.last) (sym c.in-Err.ensures.err.1)
          (search_stays i.compiled.now i.mode i.state c.renew.new.state i.learner i.checker (used_in i.compiled.now i.mode i.known.items i.seen) i.blocking.items i.bound i.last
          (ap (λ (y : SearchView). y.program) e) (ap (λ (y : SearchView). y.bound) e) (ap (λ (y : SearchView). y.slots) e) c.self.invariant.0),
      c.self.invariant.1,
    )
