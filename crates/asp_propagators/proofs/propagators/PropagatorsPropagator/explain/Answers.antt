use Rattle.std.proofs.Common.{◌∙◌, sym, ap, subst, take, get_or}
use Rattle.asp_model.specs.declared.program.Program.{Program}
use Rattle.asp_trail.specs.Told.{Told}
use Rattle.asp_weight.specs.Explained.{IsExplained as IsWeighed}
use Rattle.asp_bound.specs.Bounded.{Bounded}
use Rattle.asp_bound.specs.Explained.{IsExplained as IsBounded}
use Rattle.asp_propagators.specs.LateLaws.{follows-bounded, follows-weighed}
use Rattle.asp_propagators.proofs.propagators.PropagatorsPropagator.explain.Goals as goal

pub explain-requires-clause-explained : goal.explain-requires-clause-explained
explain-requires-clause-explained c d =
    let es = take c.args.place c.args.trail.now.entries in
    let l = (get_or c.args.trail.now.entries c.args.place d).lit in
    subst (λ (b : Bounded). IsBounded b.told.program b.bound es l) (sym c.self.view_is)
    (follows-bounded c.args.self.now.told.program c.args.self.now.bound es l c.args.name (c.requires.explained d) c.if-name-eq-BY_BOUND.true)

pub explain-requires-2-clause-explained : goal.explain-requires-2-clause-explained
explain-requires-2-clause-explained c d =
    let es = take c.args.place c.args.trail.now.entries in
    let l = (get_or c.args.trail.now.entries c.args.place d).lit in
    let same = ap (λ (t : Told). t.program) (c.self.invariant.0 ∙ ap (λ (b : Bounded). b.told) c.self.view_is) in
    subst (λ (p : Program). IsWeighed p es l c.args.name) (sym same)
    (follows-weighed c.args.self.now.told.program c.args.self.now.bound es l c.args.name (c.requires.explained d) c.if-name-eq-BY_BOUND.false)
