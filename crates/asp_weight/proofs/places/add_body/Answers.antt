use Rattle.std.proofs.Common.{ap, length, arith}
use Rattle.std.proofs.lemmas.Result.{on_ok_weaker}
use Rattle.asp_weight.specs.Placed.{bare, put_row}
use Rattle.asp_weight.proofs.PlaceLaws.{length-bare, length-put_row, own_more}
use Rattle.asp_weight.proofs.places.add_body.Goals as goal

pub push-requires : goal.push-requires
push-requires c =
    omega (
      arith,
      c.requires.var,
      ap length c.in_ok-add_row.ensures,
      length-bare c.add_row.new.places,
      length-put_row c.args.body (bare c.args.places.now) c.args.row.now,
      length-bare c.args.places.now,
    )

pub returns : goal.returns
returns c = on_ok_weaker c.push.result (λ e. own_more c.args.body c.args.shape.now.var c.add_row.new.places c.push.new.self
    (put_row c.args.body (bare c.args.places.now) c.args.row.now) 4294967295 e c.in_ok-add_row.ensures) c.push.ensures
