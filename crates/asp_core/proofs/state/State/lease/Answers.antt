use Rattle.std.proofs.Common.{ℕ, ◌-◌, ◌≤◌, List, refl, ap, arith}
use Rattle.asp_core.specs.Boards.{Board}
use Rattle.asp_core.proofs.UnitLaws.{out_of-le-total}
use Rattle.asp_core.specs.declared.event.Event.TheVariants as event
use Rattle.asp_core.specs.declared.state.State.TheInside.{Inside}
use Rattle.asp_core.specs.Stored.{board_of}
use Rattle.asp_core.proofs.StateLaws.{IsState-happens}
use Rattle.asp_core.proofs.state.State.lease.Goals as goal

pub invariant_of-self-2 : goal.invariant_of-self-2
invariant_of-self-2 c =
    let i : Inside = c.self.inside in
    let I = c.self.invariant in
    IsState-happens i (record i { pool = i.pool - c.args.n; out = c.lease_out.new.out }) c.args.self.now (event.Lease c.args.by c.args.n) I c.self.view_is c.requires
    (ap (λ (x : List (ℕ × ℕ)). record (board_of i) { pool = i.pool - c.args.n; out = x }) c.in_ok-lease_out.ensures.ok)
    refl refl refl (I.costed) (I.sorted) I.seen I.seeded I.room

pub lease_out-requires : goal.lease_out-requires
lease_out-requires c =
    let i : Inside = c.self.inside in
    let may : c.args.n ≤ i.pool = omega (arith, c.requires, ap (λ (b : Board). b.pool) c.self.view_is) in
    omega (arith, c.self.invariant.board.units, out_of-le-total c.args.by i.out.items, may)
