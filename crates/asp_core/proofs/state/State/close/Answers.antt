use Rattle.std.proofs.Common.{◌+◌, ◌≤◌, List, [], ◌∷◌, length, refl, sym, ap, ◌∙◌, subst, arith}
use Rattle.std.specs.Vec.{vec_capacity}
use Rattle.std.proofs.lemmas.List.{length-append}
use Rattle.asp_path.specs.declared.status.Status.TheVariants as status
use Rattle.asp_path.specs.Trees.{Node, with_status, held_count}
use Rattle.asp_core.specs.declared.reason.Reason.{Reason}
use Rattle.asp_core.specs.declared.event.Event.{Event}
use Rattle.asp_core.specs.declared.event.Event.TheVariants as event
use Rattle.asp_core.specs.Boards.{Board}
use Rattle.asp_core.specs.Events.{Guard}
use Rattle.asp_core.specs.declared.state.State.TheInside.{Inside}
use Rattle.asp_core.specs.Stored.{board_of}
use Rattle.asp_core.proofs.PlaceLaws.{held_count-changed}
use Rattle.asp_core.proofs.StateLaws.{IsState-happens}
use Rattle.asp_core.proofs.state.State.close.Goals as goal

pub push_reserved-requires : goal.push_reserved-requires
push_reserved-requires c =
    let i : Inside = c.self.inside in
    let e : Event = event.Close c.args.by c.args.leaf c.args.nogood in
    let guard : Guard (board_of i) e = subst (λ (b : Board). Guard b e) (sym c.self.view_is) c.requires in
    omega (arith, c.self.invariant.room, held_count-changed i.tree c.args.leaf (status.Held c.args.by) status.Closed guard.0 refl)

pub invariant_of-self : goal.invariant_of-self
invariant_of-self c =
    let i : Inside = c.self.inside in
    let I = c.self.invariant in
    let e : Event = event.Close c.args.by c.args.leaf c.args.nogood in
    let guard : Guard (board_of i) e = subst (λ (b : Board). Guard b e) (sym c.self.view_is) c.requires in
    let room : length c.push_reserved.new.self.items + held_count c.mark.new.self ≤ vec_capacity c.push_reserved.new.self =
    omega (
      arith,
      I.room,
      c.push_reserved.ensures.capacity,
      ap length c.push_reserved.ensures.items,
      length-append i.reasons.items (record { leaf = c.args.leaf; nogood = c.args.nogood } ∷ []),
      ap held_count c.mark.ensures,
      held_count-changed i.tree c.args.leaf (status.Held c.args.by) status.Closed guard.0 refl,
    ) in
    IsState-happens i (record i { tree = c.mark.new.self; reasons = c.push_reserved.new.self }) c.args.self.now e I c.self.view_is c.requires
    (ap (λ (x : List Node). record (board_of i) { nodes = x; reasons = c.push_reserved.new.self.items }) c.mark.ensures
    ∙ ap (λ (x : List Reason). record (board_of i) { nodes = with_status i.tree c.args.leaf status.Closed; reasons = x })
    c.push_reserved.ensures.items)
    refl refl refl (I.costed) (I.sorted) I.seen I.seeded room
