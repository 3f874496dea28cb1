use Rattle.std.proofs.Common.{sym, ◌∙◌}
use Rattle.asp_checker.specs.Blocks.{cost_of_bound}
use Rattle.asp_checker.proofs.ChaseLaws.{blocked_by_body, blocked_by_bound}
use Rattle.asp_checker.proofs.chase.is_blocked_by.Goals as goal

pub returns-in-Some : goal.returns-in-Some
returns-in-Some c = λ e. blocked_by_body c.args.compiled.now (cost_of_bound c.args.bound.now) c.args.values.now (c.is_body_broken.ensures e)

pub returns-in-None : goal.returns-in-None
returns-in-None c = λ e. blocked_by_bound c.args.compiled.now (cost_of_bound c.args.bound.now) c.args.values.now (sym c.reaches_bound.ensures ∙ e)
