use Rattle.std.proofs.Common.{List, Some, length, sym, ap, ◌∙◌, subst}
use Rattle.asp_vars.specs.Literals.{Literal}
use Rattle.asp_path.specs.Trees.{Node}
use Rattle.asp_core.specs.Invariant.{IsCube}
use Rattle.asp_crew.proofs.StepLaws.{cube-entered}
use Rattle.asp_stream.specs.Leaves.{EndsLeaf}
use Rattle.asp_stream.specs.declared.leaf.Left.{Left}
use Rattle.asp_stream.specs.declared.leaf.Left.TheVariants as left
use Rattle.asp_stream.proofs.CourseLaws.{entered-underway}
use Rattle.asp_stream.proofs.LeafLaws.{after-closed, after-divided, after-unpaid, after-unwanted, close-guard, longer-by-two, still-held, still-there}
use Rattle.asp_stream.proofs.PartLaws.{less-closed, less-divided, same-count, stream-closed, stream-front, stream-opened}
use Rattle.asp_stream.proofs.leaf.search_leaf.Goals as goal

-- ---- the path is entered
pub returns-in_err-cube-clause-front : goal.returns-in_err-cube-clause-front
returns-in_err-cube-clause-front g c = stream-front c.args.stream.now _ _ _ _ c.lawful.ensures.task c.lawful.ensures.journal c.requires.program c.requires.stream

pub returns-in_err-cube-clause-after : goal.returns-in_err-cube-clause-after
returns-in_err-cube-clause-after g c = g.met.R.Reader.begins c.args.reader.now

pub returns-in_err-cube-clause-heard : goal.returns-in_err-cube-clause-heard
returns-in_err-cube-clause-heard g c = g.met.W.Watch.begins c.args.watch.now

pub returns-in_err-enter-clause-front : goal.returns-in_err-enter-clause-front
returns-in_err-enter-clause-front g c = stream-front c.args.stream.now _ _ _ _ c.lawful.ensures.task c.lawful.ensures.journal c.requires.program c.requires.stream

pub returns-in_err-enter-clause-after : goal.returns-in_err-enter-clause-after
returns-in_err-enter-clause-after g c = g.met.R.Reader.begins c.args.reader.now

pub returns-in_err-enter-clause-heard : goal.returns-in_err-enter-clause-heard
returns-in_err-enter-clause-heard g c = g.met.W.Watch.begins c.args.watch.now

pub run-requires-clause-underway : goal.run-requires-clause-underway
run-requires-clause-underway g c =
    entered-underway c.args.stream.now.ledger c.args.search.now c.enter.new.self c.args.fuel.now c.as_slice.result.now c.requires.ready c.in_ok-enter.ensures.ok
    (subst (IsCube c.args.stream.now.ledger.task) (sym c.as_slice.ensures.value) c.in_ok-cube.ensures.cube)

pub run-requires-clause-cube : goal.run-requires-clause-cube
run-requires-clause-cube g c =
    cube-entered c.args.search.now c.enter.new.self c.as_slice.result.now c.in_ok-enter.ensures.ok ∙ ap (λ (q : List Literal). Some q) (c.as_slice.ensures.value ∙ c.in_ok-cube.ensures.value)

-- ---- nothing else is to be found
pub close-requires : goal.close-requires
close-requires g c =
    let guard =
    close-guard c.args.stream.now.ledger c.run.new.stream.ledger c.args.leaf c.enter.new.self c.run.new.search c.run.new.fuel c.as_slice.result.now c.requires.held
    (c.as_slice.ensures.value ∙ c.in_ok-cube.ensures.value) (cube-entered c.args.search.now c.enter.new.self c.as_slice.result.now c.in_ok-enter.ensures.ok) c.in-Closed.nogood
    (subst (λ (o : Left). EndsLeaf c.args.stream.now.ledger c.run.new.stream.ledger c.args.leaf c.enter.new.self c.run.new.search c.run.new.fuel o) c.in-Closed.is
    c.in_ok-nogood.ensures.ends) in
    record { held = guard.0; within = guard.1; settled = guard.2 }

pub returns-in-Closed-clause-leaves : goal.returns-in-Closed-clause-leaves
returns-in-Closed-clause-leaves g c =
    after-closed c.args.stream.now.ledger c.run.new.stream.ledger c.args.leaf c.enter.new.self c.run.new.search c.run.new.fuel c.as_slice.result.now c.requires.held
    (c.as_slice.ensures.value ∙ c.in_ok-cube.ensures.value) (cube-entered c.args.search.now c.enter.new.self c.as_slice.result.now c.in_ok-enter.ensures.ok) c.close.new.self
    c.in-Closed.nogood
    (subst (λ (o : Left). EndsLeaf c.args.stream.now.ledger c.run.new.stream.ledger c.args.leaf c.enter.new.self c.run.new.search c.run.new.fuel o) c.in-Closed.is
    c.in_ok-nogood.ensures.ends) c.in_ok-close-in-Closed.ensures.ok

pub returns-in-Closed-clause-less : goal.returns-in-Closed-clause-less
returns-in-Closed-clause-less g c = λ none.
    less-closed c.args.stream.now.ledger c.run.new.stream.ledger c.close.new.self c.args.leaf c.in-Closed.nogood.lits c.args.stream.now.parts.items c.run.new.stream.parts.items
    (ap (λ (ns : List Node). length ns) c.in_ok-nogood.ensures.ends.only.nodes) (same-count c.args.stream.now c.run.new.stream c.run.ensures.same.1) c.in_ok-close-in-Closed.ensures.ok

pub returns-in-Closed-clause-stream : goal.returns-in-Closed-clause-stream
returns-in-Closed-clause-stream g c =
    stream-closed c.run.new.stream c.close.new.self _ _ c.args.leaf c.in-Closed.nogood.lits _ c.in_ok-nogood.ensures.stream
    (close-guard c.args.stream.now.ledger c.run.new.stream.ledger c.args.leaf c.enter.new.self c.run.new.search c.run.new.fuel c.as_slice.result.now c.requires.held
    (c.as_slice.ensures.value ∙ c.in_ok-cube.ensures.value) (cube-entered c.args.search.now c.enter.new.self c.as_slice.result.now c.in_ok-enter.ensures.ok) c.in-Closed.nogood
    (subst (λ (o : Left). EndsLeaf c.args.stream.now.ledger c.run.new.stream.ledger c.args.leaf c.enter.new.self c.run.new.search c.run.new.fuel o) c.in-Closed.is
    c.in_ok-nogood.ensures.ends)) c.in_ok-close-in-Closed.ensures.ok

-- ---- too many answers wait
pub divide-requires : goal.divide-requires
divide-requires g c =
    let ends = (subst (λ (o : Left). EndsLeaf c.args.stream.now.ledger c.run.new.stream.ledger c.args.leaf c.enter.new.self c.run.new.search c.run.new.fuel o) c.in-Crowded.is
    c.in_ok-nogood.ensures.ends) in
    record {
      held = still-held c.args.stream.now.ledger c.run.new.stream.ledger c.args.leaf c.enter.new.self c.run.new.search c.run.new.fuel c.as_slice.result.now c.requires.held
          (c.as_slice.ensures.value ∙ c.in_ok-cube.ensures.value) (cube-entered c.args.search.now c.enter.new.self c.as_slice.result.now c.in_ok-enter.ensures.ok) (left.Crowded
          c.in-Crowded.lit) ends;
      knows = still-there c.args.stream.now.ledger c.run.new.stream.ledger c.args.leaf c.enter.new.self c.run.new.search c.run.new.fuel c.as_slice.result.now c.requires.held
          (c.as_slice.ensures.value ∙ c.in_ok-cube.ensures.value) (cube-entered c.args.search.now c.enter.new.self c.as_slice.result.now c.in_ok-enter.ensures.ok) (left.Crowded
          c.in-Crowded.lit) ends;
      program = c.in_ok-nogood.ensures.stream.program;
      «open» = ends.over.1;
      room = ends.over.0;
    }

pub returns-in-Crowded-clause-leaves : goal.returns-in-Crowded-clause-leaves
returns-in-Crowded-clause-leaves g c =
    let ends = (subst (λ (o : Left). EndsLeaf c.args.stream.now.ledger c.run.new.stream.ledger c.args.leaf c.enter.new.self c.run.new.search c.run.new.fuel o) c.in-Crowded.is
    c.in_ok-nogood.ensures.ends) in
    after-divided c.args.stream.now.ledger c.run.new.stream.ledger c.divide.new.stream.ledger c.args.leaf c.run.new.search c.run.new.fuel c.requires.held ends.ready ends.only
    c.in-Crowded.lit ends.over.0 ends.over.1 c.in_ok-divide-in-Crowded.ensures.ledger

pub returns-in-Crowded-clause-less : goal.returns-in-Crowded-clause-less
returns-in-Crowded-clause-less g c = λ none.
    let ends = (subst (λ (o : Left). EndsLeaf c.args.stream.now.ledger c.run.new.stream.ledger c.args.leaf c.enter.new.self c.run.new.search c.run.new.fuel o) c.in-Crowded.is
    c.in_ok-nogood.ensures.ends) in
    less-divided c.args.stream.now.ledger c.run.new.stream.ledger c.divide.new.stream.ledger c.args.stream.now.parts.items c.run.new.stream.parts.items c.divide.new.stream.parts.items
    (ap (λ (ns : List Node). length ns) ends.only.nodes) (same-count c.args.stream.now c.run.new.stream c.run.ensures.same.1) ends.over.0
    (longer-by-two c.args.stream.now.ledger c.run.new.stream.ledger c.divide.new.stream.ledger c.args.leaf c.run.new.search c.run.new.fuel c.requires.held ends.ready ends.only
    c.in-Crowded.lit ends.over.0 ends.over.1 c.in_ok-divide-in-Crowded.ensures.ledger) c.in_ok-divide-in-Crowded.ensures.parts

pub returns-in-Crowded-clause-stream : goal.returns-in-Crowded-clause-stream
returns-in-Crowded-clause-stream g c = c.in_ok-divide-in-Crowded.ensures.stream _ _ c.in_ok-nogood.ensures.stream

-- ---- no unit is left, or no more is wanted
pub release-requires : goal.release-requires
release-requires g c = still-held c.args.stream.now.ledger c.run.new.stream.ledger c.args.leaf c.enter.new.self c.run.new.search c.run.new.fuel c.as_slice.result.now c.requires.held
    (c.as_slice.ensures.value ∙ c.in_ok-cube.ensures.value) (cube-entered c.args.search.now c.enter.new.self c.as_slice.result.now c.in_ok-enter.ensures.ok) (left.Unpaid
    c.in-Unpaid.conflict)
    (subst (λ (o : Left). EndsLeaf c.args.stream.now.ledger c.run.new.stream.ledger c.args.leaf c.enter.new.self c.run.new.search c.run.new.fuel o) c.in-Unpaid.is
    c.in_ok-nogood.ensures.ends)

pub returns-in-Unpaid-clause-leaves : goal.returns-in-Unpaid-clause-leaves
returns-in-Unpaid-clause-leaves g c =
    after-unpaid c.args.stream.now.ledger c.run.new.stream.ledger c.args.leaf c.enter.new.self c.run.new.search c.run.new.fuel c.as_slice.result.now c.requires.held
    (c.as_slice.ensures.value ∙ c.in_ok-cube.ensures.value) (cube-entered c.args.search.now c.enter.new.self c.as_slice.result.now c.in_ok-enter.ensures.ok) c.release.new.self
    c.in-Unpaid.conflict
    (subst (λ (o : Left). EndsLeaf c.args.stream.now.ledger c.run.new.stream.ledger c.args.leaf c.enter.new.self c.run.new.search c.run.new.fuel o) c.in-Unpaid.is
    c.in_ok-nogood.ensures.ends) c.in_ok-release-in-Unpaid.ensures.ok

pub returns-in-Unpaid-clause-stream : goal.returns-in-Unpaid-clause-stream
returns-in-Unpaid-clause-stream g c =
    stream-opened c.run.new.stream c.release.new.self _ _ c.args.leaf _ c.in_ok-nogood.ensures.stream
    (still-held c.args.stream.now.ledger c.run.new.stream.ledger c.args.leaf c.enter.new.self c.run.new.search c.run.new.fuel c.as_slice.result.now c.requires.held
    (c.as_slice.ensures.value ∙ c.in_ok-cube.ensures.value) (cube-entered c.args.search.now c.enter.new.self c.as_slice.result.now c.in_ok-enter.ensures.ok) (left.Unpaid
    c.in-Unpaid.conflict)
    (subst (λ (o : Left). EndsLeaf c.args.stream.now.ledger c.run.new.stream.ledger c.args.leaf c.enter.new.self c.run.new.search c.run.new.fuel o) c.in-Unpaid.is
    c.in_ok-nogood.ensures.ends)) c.in_ok-release-in-Unpaid.ensures.ok

pub release-requires-in-Unwanted : goal.release-requires-in-Unwanted
release-requires-in-Unwanted g c = still-held c.args.stream.now.ledger c.run.new.stream.ledger c.args.leaf c.enter.new.self c.run.new.search c.run.new.fuel
    c.as_slice.result.now c.requires.held
    (c.as_slice.ensures.value ∙ c.in_ok-cube.ensures.value) (cube-entered c.args.search.now c.enter.new.self c.as_slice.result.now c.in_ok-enter.ensures.ok) left.Unwanted
    (subst (λ (o : Left). EndsLeaf c.args.stream.now.ledger c.run.new.stream.ledger c.args.leaf c.enter.new.self c.run.new.search c.run.new.fuel o) c.in-Unwanted.is
    c.in_ok-nogood.ensures.ends)

pub returns-clause-leaves : goal.returns-clause-leaves
returns-clause-leaves g c =
    let ends = (subst (λ (o : Left). EndsLeaf c.args.stream.now.ledger c.run.new.stream.ledger c.args.leaf c.enter.new.self c.run.new.search c.run.new.fuel o) c.in-Unwanted.is
    c.in_ok-nogood.ensures.ends) in
    after-unwanted c.args.stream.now.ledger c.run.new.stream.ledger c.release-in-Unwanted.new.self c.args.leaf c.run.new.search c.run.new.fuel c.requires.held ends.ready ends.only
    c.in_ok-release-in-Unwanted.ensures.ok

pub returns-clause-stream : goal.returns-clause-stream
returns-clause-stream g c =
    stream-opened c.run.new.stream c.release-in-Unwanted.new.self _ _ c.args.leaf _ c.in_ok-nogood.ensures.stream
    (still-held c.args.stream.now.ledger c.run.new.stream.ledger c.args.leaf c.enter.new.self c.run.new.search c.run.new.fuel c.as_slice.result.now c.requires.held
    (c.as_slice.ensures.value ∙ c.in_ok-cube.ensures.value) (cube-entered c.args.search.now c.enter.new.self c.as_slice.result.now c.in_ok-enter.ensures.ok) left.Unwanted
    (subst (λ (o : Left). EndsLeaf c.args.stream.now.ledger c.run.new.stream.ledger c.args.leaf c.enter.new.self c.run.new.search c.run.new.fuel o) c.in-Unwanted.is
    c.in_ok-nogood.ensures.ends)) c.in_ok-release-in-Unwanted.ensures.ok
