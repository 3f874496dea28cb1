use Rattle.std.proofs.Common.{Some, refl, ◌∙◌}
use Rattle.asp_core.proofs.PriceLaws.{cost-priced}
use Rattle.asp_core.specs.declared.event.Event.TheVariants as event
use Rattle.asp_core.specs.declared.state.State.TheInside.{Inside}
use Rattle.asp_core.proofs.StateLaws.{IsState-happens}
use Rattle.asp_core.proofs.state.State.improve.Goals as goal

pub invariant_of-self : goal.invariant_of-self
invariant_of-self c =
    let i : Inside = c.self.inside in
    let I = c.self.invariant in
    IsState-happens i (record i { best = Some (c.args.set, c.in_ok-cost.cost) }) c.args.self.now (event.Improve c.args.by c.args.set) I c.self.view_is c.requires
    (refl)
    refl refl refl (c.in_ok-cost.ensures ∙ cost-priced i.prices i.program.value c.args.set I.priced) (I.sorted) I.seen I.seeded I.room
