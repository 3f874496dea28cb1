use Rattle.std.proofs.Common.{rules, ap, ◌∙◌, not, filter}
use Rattle.std.proofs.lemmas.Fn.{filter_same}
use Rattle.asp_settle.specs.Constraints.{is_barred}
use Rattle.asp_settle.proofs.constraints.other_assumptions.Goals as goal

pub returns : goal.returns
returns c = c.from_vec.ensures ∙ filter_same _ _ _ (λ x b f' k. search rules) _ _ c.retain.ensures.filtered ∙ ap (filter (λ l. not (is_barred c.args.denied.now l))) c.into_vec-assumptions.ensures
