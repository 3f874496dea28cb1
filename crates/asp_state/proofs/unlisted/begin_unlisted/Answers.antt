use Rattle.asp_model.specs.declared.program.Body.TheVariants as body
use Rattle.std.proofs.Common.{[], arith}
use Rattle.asp_vars.specs.Numbering.{var_count}
use Rattle.asp_state.proofs.BegunLaws.{bodies_more, bodies-vars}
use Rattle.asp_state.proofs.unlisted.begin_unlisted.Goals as goal

pub begin_body-requires-clause-vars : goal.begin_body-requires-clause-vars
begin_body-requires-clause-vars c = bodies-vars c.args.compiled.now (var_count c.args.compiled.now) c.loop-body.body c.args.order.now c.loop-body.order c.loop-body.invariant c.requires

pub loop-body-preserved : goal.loop-body-preserved
loop-body-preserved c =
    bodies_more c.args.compiled.now c.args.order.now c.loop-body.order c.begin_body.new.order c.loop-body.body (body.All []) (omega arith)
    c.loop-body.invariant c.begin_body.ensures
