use Rattle.std.proofs.Common.{◌<◌, ◌≤◌, [], length, arith, sym}
use Rattle.asp_model.specs.declared.program.Body.TheVariants as body
use Rattle.asp_vars.specs.Numbering.{bodies_of}
use Rattle.asp_checker.specs.Propagation.{is_broken}
use Rattle.asp_checker.proofs.BodyLaws.{any_at, any_none, none_whole}
use Rattle.asp_checker.proofs.weights.are_broken.Goals as goal

pub returns-then-is_broken : goal.returns-then-is_broken
returns-then-is_broken c =
    let lt : c.loop-body.body < length (bodies_of c.args.compiled.now) = omega (arith, c.loop-body-test.true, c.body_count-body-end.ensures.count) in
    sym (any_at (is_broken c.args.compiled.now c.args.values.now) (bodies_of c.args.compiled.now) c.loop-body.body (body.All []) lt (sym c.if-is_broken.ensures))

pub loop-body-preserved : goal.loop-body-preserved
loop-body-preserved c =
    let lt : c.loop-body.body < length (bodies_of c.args.compiled.now) = omega (arith, c.loop-body-test.true, c.body_count-body-end.ensures.count) in
    any_none (is_broken c.args.compiled.now c.args.values.now) (bodies_of c.args.compiled.now) c.loop-body.body (body.All []) lt c.loop-body.invariant (sym c.if-is_broken.ensures)

pub returns : goal.returns
returns c =
    let le : length (bodies_of c.args.compiled.now) ≤ c.loop-body.body = omega (arith, c.loop-body-test.false, c.body_count-body-end.ensures.count) in
    none_whole (is_broken c.args.compiled.now c.args.values.now) (bodies_of c.args.compiled.now) c.loop-body.body le c.loop-body.invariant
