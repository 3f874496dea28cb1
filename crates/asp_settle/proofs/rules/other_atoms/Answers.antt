use Rattle.std.proofs.Common.{rules, ap, ◌∙◌, not, filter}
use Rattle.std.proofs.lemmas.Fn.{filter_same}
use Rattle.asp_model.specs.Sets.{has}
use Rattle.asp_settle.proofs.rules.other_atoms.Goals as goal

pub returns : goal.returns
returns c = c.from_vec.ensures ∙ filter_same _ _ _ (λ x b f' k. search rules) _ _ c.retain.ensures.filtered ∙ ap (filter (λ a. not (has c.args.table.now a))) c.into_vec-atoms.ensures
