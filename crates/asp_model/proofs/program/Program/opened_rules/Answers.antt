use Rattle.std.proofs.Common.{◌++◌, ap, ◌∙◌, List}
use Rattle.asp_model.specs.declared.program.Rule.{Rule}
use Rattle.asp_model.specs.Opening.{opened_rules}
use Rattle.asp_model.proofs.program.Program.opened_rules.Goals as goal

pub returns : goal.returns
returns c = c.in_ok-add_opened_rules.ensures ∙ ap (λ (rs : List Rule). rs ++ opened_rules c.args.self.now) c.new-rules.ensures.items
