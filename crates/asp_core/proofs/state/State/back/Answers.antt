use Rattle.std.proofs.Common.{◌≡◌, ℕ, ◌+◌, List, refl, sym, ap, ◌∙◌, arith}
use Rattle.asp_core.specs.Boards.{Board}
use Rattle.asp_core.specs.Units.{out_of}
use Rattle.asp_core.proofs.UnitLaws.{out_of-le-total}
use Rattle.asp_core.specs.declared.event.Event.TheVariants as event
use Rattle.asp_core.specs.declared.state.State.TheInside.{Inside}
use Rattle.asp_core.specs.Stored.{board_of}
use Rattle.asp_core.proofs.StateLaws.{IsState-happens}
use Rattle.asp_core.proofs.state.State.back.Goals as goal

pub invariant_of-self : goal.invariant_of-self
invariant_of-self c =
    let i : Inside = c.self.inside in
    let I = c.self.invariant in
    IsState-happens i (record i { pool = i.pool + c.args.left; out = c.return_out.new.out; burnt = i.burnt + c.args.burnt }) c.args.self.now
    (event.Back c.args.by c.args.left c.args.burnt) I c.self.view_is c.requires
    (ap (λ (x : List (ℕ × ℕ)). record (board_of i) { pool = i.pool + c.args.left; out = x; burnt = i.burnt + c.args.burnt }) c.return_out.ensures)
    refl refl refl (I.costed) (I.sorted) I.seen I.seeded I.room

pub overflow_add-self : goal.overflow_add-self
overflow_add-self c =
    let i : Inside = c.self.inside in
    let given : c.args.left + c.args.burnt ≡ out_of i.out.items c.args.by = c.requires ∙ ap (λ (b : Board). out_of b.out c.args.by) (sym c.self.view_is) in
    omega (arith, c.self.invariant.board.units, out_of-le-total c.args.by i.out.items, given)

pub overflow_add-self-2 : goal.overflow_add-self-2
overflow_add-self-2 c =
    let i : Inside = c.self.inside in
    let given : c.args.left + c.args.burnt ≡ out_of i.out.items c.args.by = c.requires ∙ ap (λ (b : Board). out_of b.out c.args.by) (sym c.self.view_is) in
    omega (arith, c.self.invariant.board.units, out_of-le-total c.args.by i.out.items, given)
