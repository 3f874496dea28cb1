use Rattle.std.proofs.Common.{◌≡◌, suc, ◌-◌, get_or, set, ap, ◌∙◌, arith}
use Rattle.asp_equal.specs.Copies.{least}
use Rattle.asp_equal.specs.Tables.{root_in}
use Rattle.asp_equal.proofs.PlaceLaws.{lower_step}
use Rattle.asp_equal.proofs.copies.lower.Goals as goal

pub loop-place-preserved : goal.loop-place-preserved
loop-place-preserved c = λ r lt.
    let f = root_in c.args.known.now c.args.named.now in
    let k = c.loop-place.place - 1 in
    let next : suc k ≡ c.loop-place.place = omega arith in
    ap (λ t. least f r k (get_or t r 0)) (c.set_atom.ensures ∙ ap (λ x. set c.loop-place.table x k) c.root.ensures)
    ∙ lower_step f c.loop-place.table k r (omega (arith, lt, c.requires.count, c.loop-place.auto.table))
    ∙ ap (λ j. least f r j (get_or c.loop-place.table r 0)) next
    ∙ c.loop-place.invariant r lt
