-- What a view of a rule shows.
use Rattle.std.specs.Prelude.{ℤ, List, []}
use Rattle.asp_model.specs.declared.program.Body.{Body}
use Rattle.asp_model.specs.declared.program.Body.TheVariants as body
use Rattle.asp_model.specs.declared.program.Head.{Head}
use Rattle.asp_model.specs.declared.program.Head.TheVariants as head
use Rattle.asp_model.specs.declared.program.Rule.{Rule}
use Rattle.asp_model.specs.declared.program.Output.{Output}
use Rattle.asp_model.specs.declared.outputs.OutputView.{OutputView}
use Rattle.asp_model.specs.declared.view.BodyView.{BodyView}
use Rattle.asp_model.specs.declared.view.BodyView.TheVariants as body_view
use Rattle.asp_model.specs.declared.view.HeadView.{HeadView}
use Rattle.asp_model.specs.declared.view.HeadView.TheVariants as head_view
use Rattle.asp_model.specs.declared.view.RuleView.{RuleView}

abbrev pub head_seen : HeadView → Head
head_seen (head_view.One a) = head.One a
head_seen (head_view.Choice atoms) = head.Choice atoms.now
head_seen head_view.Never = head.Never

abbrev pub body_seen : BodyView → Body
body_seen (body_view.All literals) = body.All literals.now
body_seen (body_view.AtLeast bound items) = body.AtLeast bound items.now

abbrev pub rule_seen : RuleView → Rule
rule_seen v = record { head = head_seen v.head; body = body_seen v.body }

-- the literals of a body that has no weights
abbrev pub literals_seen : BodyView → List ℤ
literals_seen (body_view.All literals) = literals.now
literals_seen (body_view.AtLeast bound items) = []

abbrev pub output_seen : OutputView → Output
output_seen v = record { text = v.text.now; condition = v.condition.now }
