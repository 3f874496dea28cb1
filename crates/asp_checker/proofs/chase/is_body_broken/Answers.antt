use Rattle.std.proofs.Common.{[], sym, arith, ◌∙◌}
use Rattle.asp_model.specs.declared.program.Body.TheVariants as body
use Rattle.asp_vars.specs.Numbering.{bodies_of}
use Rattle.asp_checker.specs.Propagation.{is_broken}
use Rattle.asp_checker.proofs.BodyLaws.{any_at}
use Rattle.asp_checker.proofs.chase.is_body_broken.Goals as goal

pub returns : goal.returns
returns c = λ e. any_at (is_broken c.args.compiled.now c.args.values.now) (bodies_of c.args.compiled.now) c.args.body (body.All []) (omega arith) (sym c.is_broken.ensures ∙ e)
