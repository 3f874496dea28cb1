use Rattle.std.proofs.Common.{ap, ◌∙◌}
use Rattle.asp_state.specs.SearchStates.{SearchView}
use Rattle.asp_split.proofs.FollowLaws.{prober_begins}
use Rattle.asp_split.proofs.divider.Divider.new.Goals as goal

pub invariant_of-result : goal.invariant_of-result
invariant_of-result g c =
    let e = c.in_ok-state.ensures.same in
    prober_begins c.args.compiled.now c.in_ok-state.state c.program-program.ensures.sound (ap (λ (x : SearchView). x.program) e)
    (ap (λ (x : SearchView). x.bound) e ∙ c.requires.unbounded) c.in_ok-state.ensures.slots
