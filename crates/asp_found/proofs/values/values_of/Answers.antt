use Rattle.std.proofs.Common.{◌<◌, length, arith}
use Rattle.asp_vars.specs.Numbering.{bodies_of}
use Rattle.asp_found.proofs.ValueLaws.{value_more}
use Rattle.asp_found.proofs.values.values_of.Goals as goal

pub loop-body-preserved : goal.loop-body-preserved
loop-body-preserved c =
    let count = c.body_count-body-end.ensures.count in
    let lt : c.loop-body.body < length (bodies_of c.args.compiled.now) = omega (arith, c.loop-body-test.true, count) in
    value_more c.args.compiled.now c.args.interp.now c.loop-body.values.items c.push_body.new.values.items c.loop-body.body lt c.loop-body.invariant c.in_ok-push_body.ensures
