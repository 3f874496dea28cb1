use Rattle.std.proofs.Common.{sym, ap, subst}
use Rattle.asp_store.specs.declared.stored_nogood.Kind.TheVariants as kind
use Rattle.asp_store.specs.Keeping.{IsAddedAt}
use Rattle.asp_vars.specs.declared.nogood.Nogood.{Nogood}
use Rattle.asp_propagate.specs.Useful.{IsUseful}
use Rattle.asp_search_laws.specs.Searching.{Searching, used}
use Rattle.asp_state.specs.SearchStates.{SearchView}
use Rattle.asp_search.specs.Beside.{Imports}
use Rattle.asp_search.specs.Invariants.{answers_known, used_in, view_of}
use Rattle.asp_search.proofs.BesideLaws.{of_use}
use Rattle.asp_search.proofs.MeetLaws.{useful_for}
use Rattle.asp_search.proofs.SearchLaws.{search_added, added_last}
use Rattle.asp_search.proofs.search.Search.keep.Goals as goal

pub invariant_of-self-2 : goal.invariant_of-self-2
invariant_of-self-2 g c =
    let i = c.self.inside in
    let s = c.args.self.now in
    let n = c.args.nogood.now in
    let e = c.in_ok-id.ensures.same in
    let a = c.in_ok-id.ensures.ok in
    let m = c.in_ok-copy.copy in
    let useful : IsUseful i.state.program (used_in i.compiled.now i.mode i.known.items i.seen) i.state.bound n =
    useful_for i.compiled.now i.state i.mode (answers_known i.known.items i.seen) n c.self.invariant.0.program
    (subst (λ (x : Searching). IsUseful x.program (used x) x.bound n) (sym c.self.view_is) (of_use s.program (used s) s.mode s.bound n c.requires.useful c.requires.good)) in (
      search_added i.compiled.now i.mode i.state c.keep.new.self i.learner i.checker (used_in i.compiled.now i.mode i.known.items i.seen)
          i.blocking.items i.bound i.last i.last c.in_ok-id.id m kind.Learnt (ap (λ (x : SearchView). x.program) e)
          (ap (λ (x : SearchView). x.bound) e) a (subst (IsUseful i.state.program (used_in i.compiled.now i.mode i.known.items i.seen) i.state.bound) (sym c.in_ok-copy.ensures) useful)
          (added_last i.state.slots c.keep.new.self.slots c.in_ok-id.id m kind.Learnt i.last a c.self.invariant.0.last_stands) c.self.invariant.0,
      c.self.invariant.1,
    )

pub returns-clause-ok : goal.returns-clause-ok
returns-clause-ok g c =
    let i = c.self.inside in
    let u : SearchView = c.keep.new.self in
    let new : Searching = view_of i.mode u i.pace (answers_known i.known.items i.seen) i.last in
    subst (λ (x : Searching). Imports x new c.args.nogood.now) c.self.view_is (record {
      same = ap (λ (x : SearchView). view_of i.mode x i.pace (answers_known i.known.items i.seen) i.last) c.in_ok-id.ensures.same;
      id = c.in_ok-id.id;
      added = subst (λ (n : Nogood). IsAddedAt i.state.slots u.slots c.in_ok-id.id n kind.Learnt) c.in_ok-copy.ensures c.in_ok-id.ensures.ok;
    })
