use Rattle.std.proofs.Common.{◌<◌, length, arith}
use Rattle.asp_vars.specs.Numbering.{bodies_of}
use Rattle.asp_found.proofs.LeastLaws.{sweep_more, looks}
use Rattle.asp_found.proofs.least.sweep.Goals as goal

pub loop-body-preserved : goal.loop-body-preserved
loop-body-preserved c =
    let count = c.body_count-body-end.ensures.count in
    let lt : c.loop-body.body < length (bodies_of c.args.compiled.now) = omega (arith, c.loop-body-test.true, count) in
    let looked =
    looks c.args.compiled.now c.args.set.now c.loop-body.marks c.derive_by.new.marks c.loop-body.found.items c.derive_by.new.found.items
    c.loop-body.body c.program-program.ensures.sound lt c.requires.set c.loop-body.invariant.deriving_ c.in_ok-derive_by.ensures in
    sweep_more c.args.compiled.now c.args.set.now c.args.found.now.items (c.loop-body.marks, c.loop-body.found.items)
    (c.derive_by.new.marks, c.derive_by.new.found.items) c.loop-body.body looked c.loop-body.invariant
