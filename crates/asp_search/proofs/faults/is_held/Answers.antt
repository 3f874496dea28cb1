use Rattle.std.proofs.Common.{ap, ◌∙◌}
use Rattle.asp_vars.specs.Literals.{holds_in}
use Rattle.asp_search.proofs.TrueLaws.{held_in}
use Rattle.asp_search.proofs.faults.is_held.Goals as goal

pub returns : goal.returns
returns c = c.holds.ensures ∙ ap (holds_in c.args.assign.now) c.new.ensures ∙ held_in c.args.assign.now c.args.var
