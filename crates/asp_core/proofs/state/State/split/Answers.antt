use Rattle.std.proofs.Common.{◌+◌, ◌≤◌, List, length, refl, sym, ap, subst, arith}
use Rattle.std.specs.Vec.{vec_capacity}
use Rattle.asp_path.specs.Trees.{Node, held_count}
use Rattle.asp_core.specs.Boards.{Board}
use Rattle.asp_core.specs.Events.{Guard}
use Rattle.asp_core.specs.declared.event.Event.{Event}
use Rattle.asp_core.specs.declared.event.Event.TheVariants as event
use Rattle.asp_core.specs.declared.state.State.TheInside.{Inside}
use Rattle.asp_core.specs.Stored.{board_of}
use Rattle.asp_core.proofs.PlaceLaws.{held_count-split}
use Rattle.asp_core.proofs.StateLaws.{IsState-happens}
use Rattle.asp_core.proofs.state.State.split.Goals as goal

pub invariant_of-self-2 : goal.invariant_of-self-2
invariant_of-self-2 c =
    let i : Inside = c.self.inside in
    let I = c.self.invariant in
    let e : Event = event.Split c.args.by c.args.leaf c.args.lit in
    let guard : Guard (board_of i) e = subst (λ (b : Board). Guard b e) (sym c.self.view_is) c.requires in
    let room : length i.reasons.items + held_count c.split.new.self ≤ vec_capacity i.reasons =
    omega (arith, I.room, ap held_count c.in_ok-_leaves.ensures.ok, held_count-split i.tree c.args.leaf c.args.by c.args.lit guard.0) in
    IsState-happens i (record i { tree = c.split.new.self }) c.args.self.now e I c.self.view_is c.requires
    (ap (λ (x : List Node). board_of (record i { tree = x })) c.in_ok-_leaves.ensures.ok)
    refl refl refl (I.costed) (I.sorted) I.seen I.seeded room
