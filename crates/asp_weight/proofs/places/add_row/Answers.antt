use Rattle.std.proofs.Common.{ap, length, refl, take, arith}
use Rattle.std.proofs.lemmas.List.{get_or_read}
use Rattle.asp_vars.specs.Literals.{F}
use Rattle.asp_weight.specs.declared.item.Item.{Item}
use Rattle.asp_weight.specs.Placed.{bare}
use Rattle.asp_weight.proofs.PlaceLaws.{length-bare, length-put_row, put_row_more}
use Rattle.asp_weight.proofs.places.add_row.Goals as goal

pub push-requires : goal.push-requires
push-requires c =
    let i = c.loop-item.item-index in
    let is = get_or_read c.args.row.now i c.item-item.result c.loop-item-test.true c.item-item.is (record { weight = 0; lit = F 0 }) in
    omega (
      arith,
      c.var.ensures,
      ap length c.loop-item.invariant,
      length-bare c.loop-item.places,
      length-put_row c.args.body (bare c.args.places.now) (take i c.args.row.now),
      length-bare c.args.places.now,
      ap (λ (x : Item). x.lit.var) is,
      c.requires i (record { weight = 0; lit = F 0 }) c.loop-item-test.true,
    )

pub loop-item-preserved : goal.loop-item-preserved
loop-item-preserved c =
    let i = c.loop-item.item-index in
    let is = get_or_read c.args.row.now i c.item-item.result c.loop-item-test.true c.item-item.is (record { weight = 0; lit = F 0 }) in
    put_row_more c.args.body c.args.places.now c.loop-item.places c.push.new.self c.args.row.now i c.var.result c.item-item.result.weight c.loop-item.bit c.truth.result
    c.item-item.result (record { weight = 0; lit = F 0 }) c.loop-item-test.true is c.loop-item.invariant c.var.ensures refl c.truth.ensures c.in_ok-push.ensures
