use Rattle.std.proofs.Common.{rules, ap, ◌∙◌, arith}
use Rattle.std.proofs.lemmas.Grind.{common_steps}
use Rattle.asp_propagate.specs.Propagating.{Propagating}
use Rattle.asp_state.proofs.SlotLaws.{adds_another}
use Rattle.asp_state.proofs.completed.keep_all.Goals as goal

pub loop-nogood-preserved : goal.loop-nogood-preserved
loop-nogood-preserved g c =
    let i = c.loop-nogood.invariant in
    let k = c.in_ok-keep.ensures.ok in
    let slots = c.keep.new.self.slots in
    record {
      items = first_of (search rules, grind (arith, common_steps));
      same = k.same ∙ ap (λ (f : Propagating). let e : Propagating = record f { slots = slots } in e) i.same;
      adds = adds_another c.loop-nogood.yielded c.args.engine.now.slots c.loop-nogood.engine.slots slots c.in_ok-keep.field-0 c.in-Some.nogood i.adds k.slots;
      len = first_of (search rules, grind (arith, common_steps));
    }
