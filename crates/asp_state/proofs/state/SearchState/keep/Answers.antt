use Rattle.std.proofs.Common.{◌≡◌, ap, subst}
use Rattle.std.specs.Prelude.{is_some, option_map}
use Rattle.std.proofs.lemmas.Result.{IfOk-weaker}
use Rattle.asp_store.specs.Keeping.{IsAddedAt}
use Rattle.asp_propagate.specs.Propagating.{Propagating, Keeps}
use Rattle.asp_state.specs.SearchStates.{SearchView}
use Rattle.asp_state.proofs.KeepLaws.{kept_either, kept_same}
use Rattle.asp_state.proofs.state.SearchState.keep.Goals as goal

pub invariant_of-self : goal.invariant_of-self
invariant_of-self g c =
    let i = c.self.inside in (
      kept_either c.keep.result i.engine c.keep.new.self (option_map (λ q. q.items) i.cube) (is_some i.clash) i.decisions.items i.order c.args.nogood
          c.args.kind c.keep.ensures.ok c.keep.ensures.err c.self.invariant.0,
      c.self.invariant.1,
    )

pub returns-clause-same : goal.returns-clause-same
returns-clause-same g c =
    let i = c.self.inside in
    let u = c.keep.new.self in
    let view : Propagating → SearchView = λ f. record {
      program = f.program;
      bound = f.bound;
      cube = option_map (λ q. q.items) i.cube;
      clashing = is_some i.clash;
      decisions = i.decisions.items;
      entries = f.entries;
      slots = f.slots;
      ranking = i.order;
    } in
    subst (λ (x : SearchView). view u ≡ (let y : SearchView = record x { slots = u.slots } in y)) c.self.view_is
    (ap view (kept_same c.keep.result i.engine u c.args.nogood c.args.kind c.keep.ensures.ok c.keep.ensures.err))

pub returns-clause-ok : goal.returns-clause-ok
returns-clause-ok g c =
    let i = c.self.inside in
    let u = c.keep.new.self in
    IfOk-weaker c.keep.result (λ id. Keeps i.engine u id c.args.nogood c.args.kind) (λ id. IsAddedAt c.args.self.now.slots u.slots id c.args.nogood c.args.kind)
    (λ id k. subst (λ (x : SearchView). IsAddedAt x.slots u.slots id c.args.nogood c.args.kind) c.self.view_is k.slots) c.keep.ensures.ok
