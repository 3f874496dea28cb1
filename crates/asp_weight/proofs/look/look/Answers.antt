use Rattle.std.proofs.Common.{◌≡◌, ◌∙◌, Bool, true, subst, sym}
use Rattle.std.specs.Prelude.{IfNone}
use Rattle.asp_weight.proofs.SettledLaws.{silent_valued}
use Rattle.asp_weight.proofs.look.look.Goals as goal

pub returns-in-Some-clause-none : goal.returns-in-Some-clause-none
returns-in-Some-clause-none c =
    subst (λ (b : Bool). IfNone c.look_at_side.result.speech (b ≡ true))
    (silent_valued c.in-Some.value c.args.values.now c.args.shape.now c.args.row.now (sym c.value.ensures ∙ c.in-Some.is)) c.look_at_side.ensures.none
