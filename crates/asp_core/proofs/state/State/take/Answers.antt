use Rattle.std.proofs.Common.{◌+◌, ◌≤◌, length, refl, sym, ap, subst, arith}
use Rattle.std.specs.Vec.{vec_capacity}
use Rattle.asp_path.specs.declared.status.Status.TheVariants as status
use Rattle.asp_path.specs.Trees.{held_count}
use Rattle.asp_core.specs.declared.event.Event.TheVariants as event
use Rattle.asp_core.specs.Boards.{Board}
use Rattle.asp_core.specs.Events.{Guard}
use Rattle.asp_core.specs.declared.state.State.TheInside.{Inside}
use Rattle.asp_core.specs.Stored.{board_of}
use Rattle.asp_core.proofs.PlaceLaws.{held_count-changed}
use Rattle.asp_core.proofs.StateLaws.{IsState-happens}
use Rattle.asp_core.proofs.state.State.take.Goals as goal

pub invariant_of-self-2 : goal.invariant_of-self-2
invariant_of-self-2 c =
    let i : Inside = c.self.inside in
    let I = c.self.invariant in
    let guard : Guard (board_of i) (event.Take c.args.by c.args.leaf) = subst (λ (b : Board). Guard b (event.Take c.args.by c.args.leaf)) (sym c.self.view_is) c.requires in
    let room : length c.reserve.new.self.items + held_count c.hold.new.self ≤ vec_capacity c.reserve.new.self =
    omega (
      arith,
      c.in_ok-reserve.ensures,
      c.held_leaves.ensures,
      ap length c.in_ok-reserve.ensures.items,
      ap held_count c.hold.ensures,
      held_count-changed i.tree c.args.leaf status.Open (status.Held c.args.by) guard.0 refl,
    ) in
    IsState-happens i (record i { tree = c.hold.new.self; reasons = c.reserve.new.self }) c.args.self.now (event.Take c.args.by c.args.leaf) I c.self.view_is c.requires
    (λ k. record (board_of i) { nodes = c.hold.ensures k; reasons = c.in_ok-reserve.ensures.items k })
    refl refl refl (I.costed) (I.sorted) I.seen I.seeded room
