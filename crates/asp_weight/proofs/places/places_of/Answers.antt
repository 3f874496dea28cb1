use Rattle.std.proofs.Common.{◌+◌, ◌<◌, ◌∙◌, [], length, refl, sym, ap, arith}
use Rattle.std.proofs.lemmas.List.{length-replicate}
use Rattle.std.proofs.lemmas.Result.{IfOk-weaker}
use Rattle.asp_weight.specs.Rows.{shape_at}
use Rattle.asp_weight.specs.Placed.{bare}
use Rattle.asp_weight.proofs.PlaceLaws.{length-bare, bare-none, placed_none, placed_next, placed_whole}
use Rattle.asp_weight.proofs.places.places_of.Goals as goal

pub loop-body-preserved : goal.loop-body-preserved
loop-body-preserved c =
    let n = c.loop-body.body in
    let within : n < length c.args.rows.now = omega (arith, c.requires.shaped, c.loop-body-test.true) in
    let next = placed_next c.args.shapes.now c.args.rows.now (bare c.loop-body.places) (bare c.add_body.new.places) c.args.vars n (shape_at c.args.shapes.now n) c.row-row.result.now
    c.requires within (length-bare c.loop-body.places ∙ c.loop-body.invariant.whole) c.loop-body.invariant.placed refl c.row-row.ensures c.in_ok-add_body.ensures in
    record { whole = sym (length-bare c.add_body.new.places) ∙ next.0; placed = next.1 }

pub loop-body-init : goal.loop-body-init
loop-body-init c =
    let none = ap bare c.in_ok-places.ensures ∙ bare-none (c.args.vars + 1) in
    record {
      whole = ap length c.in_ok-places.ensures ∙ length-replicate (c.args.vars + 1) [];
      placed = placed_none [] [] (bare c.in_ok-places.places) (c.args.vars + 1) none refl;
    }

pub returns : goal.returns
returns c =
    IfOk-weaker c.into_table.result _ _
    (λ t e. placed_whole c.args.shapes.now c.args.rows.now c.loop-body.places t c.loop-body.body c.requires.shaped c.loop-body-test.false c.loop-body.invariant.placed e) c.into_table.ensures
