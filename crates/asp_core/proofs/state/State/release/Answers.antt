use Rattle.std.proofs.Common.{◌+◌, ◌≤◌, List, length, refl, sym, ap, subst, arith}
use Rattle.std.specs.Vec.{vec_capacity}
use Rattle.asp_path.specs.declared.status.Status.TheVariants as status
use Rattle.asp_path.specs.Trees.{Node, held_count}
use Rattle.asp_core.specs.Boards.{Board}
use Rattle.asp_core.specs.Events.{Guard}
use Rattle.asp_core.specs.declared.event.Event.{Event}
use Rattle.asp_core.specs.declared.event.Event.TheVariants as event
use Rattle.asp_core.specs.declared.state.State.TheInside.{Inside}
use Rattle.asp_core.specs.Stored.{board_of}
use Rattle.asp_core.proofs.PlaceLaws.{held_count-changed}
use Rattle.asp_core.proofs.StateLaws.{IsState-happens}
use Rattle.asp_core.proofs.state.State.release.Goals as goal

pub invariant_of-self : goal.invariant_of-self
invariant_of-self c =
    let i : Inside = c.self.inside in
    let I = c.self.invariant in
    let e : Event = event.Release c.args.by c.args.leaf in
    let guard : Guard (board_of i) e = subst (λ (b : Board). Guard b e) (sym c.self.view_is) c.requires in
    let room : length i.reasons.items + held_count c.release.new.self ≤ vec_capacity i.reasons =
    omega (arith, I.room, ap held_count c.release.ensures, held_count-changed i.tree c.args.leaf (status.Held c.args.by) status.Open guard refl) in
    IsState-happens i (record i { tree = c.release.new.self }) c.args.self.now e I c.self.view_is c.requires
    (ap (λ (x : List Node). board_of (record i { tree = x })) c.release.ensures)
    refl refl refl (I.costed) (I.sorted) I.seen I.seeded room
