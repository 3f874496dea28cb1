use Rattle.std.proofs.Common.{ap, ◌∙◌}
use Rattle.asp_state.specs.SearchStates.{SearchView}
use Rattle.asp_split.proofs.FollowLaws.{prober_begins}
use Rattle.asp_split.proofs.cubes.cubes.Goals as goal

pub parted-found-requires-clause-kept : goal.parted-found-requires-clause-kept
parted-found-requires-clause-kept g c =
    let e = c.in_ok-state.ensures.same in
    prober_begins c.args.compiled.now c.in_ok-state.state c.program-program.ensures.sound (ap (λ (x : SearchView). x.program) e)
    (ap (λ (x : SearchView). x.bound) e ∙ c.requires.unbounded) c.in_ok-state.ensures.slots
