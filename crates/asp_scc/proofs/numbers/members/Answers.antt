use Rattle.std.proofs.Common.{◌≡◌, ℕ, List, length, sym, subst, arith}
use Rattle.asp_scc.specs.Numbers.{HasMembers}
use Rattle.asp_scc.proofs.NumberLaws.{one_member}
use Rattle.asp_scc.proofs.numbers.members.Goals as goal

pub loop-place-preserved : goal.loop-place-preserved
loop-place-preserved c =
    one_member c.args.numbers.now c.args.count c.loop-place.place c.loop-place.rows c.push.new.self (omega (arith, c.loop-place.auto.place))
    (c.requires.within c.loop-place.place (omega (arith, c.loop-place.auto.place)) c.loop-place-test.true) c.in_ok-push.ensures c.loop-place.invariant

pub returns : goal.returns
returns c =
    let end : c.loop-place.place ≡ length c.args.numbers.now = omega (arith, c.loop-place-test.false, c.loop-place.auto.place-end, c.requires.some) in
    subst (λ (r : List (List ℕ)). HasMembers c.args.numbers.now c.args.count (length c.args.numbers.now) r) (sym c.in_ok-table.ensures)
    (subst (λ (i : ℕ). HasMembers c.args.numbers.now c.args.count i c.loop-place.rows) end c.loop-place.invariant)
