use Rattle.std.proofs.Common.{rules, ◌≡◌, false, sym, ap, ◌∙◌}
use Rattle.std.specs.List.{list_any}
use Rattle.asp_model.specs.Holding.{is_negative}
use Rattle.asp_settle.proofs.StayLaws.{constrained-none}
use Rattle.asp_settle.proofs.constraints.constrained.Goals as goal

pub returns-then-not-is_some_denied : goal.returns-then-not-is_some_denied
returns-then-not-is_some_denied c =
    let none : c.is_some_denied.result ≡ false = search rules in
    sym (constrained-none c.args.program (ap (list_any is_negative) (sym c.as_slice.ensures.value) ∙ sym c.is_some_denied.ensures ∙ none))
