use Rattle.std.proofs.lemmas.Result.{err_from_is_err_and}
use Rattle.asp_read.proofs.Loop.{passes_on, pass_ends, pass_done}
use Rattle.asp_read.proofs.field.pass_literals.Goals as goal

pub returns-in_err-after : goal.returns-in_err-after
returns-in_err-after c =
    let p = err_from_is_err_and c.from_residual.result c.from_residual.ensures.1 in
    rw (p.1, p.2) (pass_ends c.in_err-after.field-0.0 c.args.count c.loop.counter c.loop.rest.now _ c.loop-test.true c.in_err-after.ensures c.loop.invariant)

pub loop-preserved : goal.loop-preserved
loop-preserved c = passes_on c.args.count c.loop.counter c.loop.rest.now _ c.in_ok-after.after.now _ c.loop-test.true c.in_ok-after.ensures c.loop.invariant

pub returns : goal.returns
returns c = pass_done c.args.count c.loop.counter c.loop.rest.now _ c.loop-test.false c.loop.invariant
