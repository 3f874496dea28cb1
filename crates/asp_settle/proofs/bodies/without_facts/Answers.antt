use Rattle.std.proofs.Common.{rules, ap, ◌∙◌, not, filter}
use Rattle.std.proofs.lemmas.Fn.{filter_same}
use Rattle.asp_model.specs.Holding.{atom_of}
use Rattle.asp_model.specs.Sets.{has}
use Rattle.asp_settle.proofs.bodies.without_facts.Goals as goal

pub returns : goal.returns
returns c =
    c.from_vec.ensures ∙ c.shrink_to_fit.ensures.items ∙ filter_same _ _ _ (λ x b f' k. search rules) _ _ c.retain.ensures.filtered
    ∙ ap (filter (λ l. not (has c.args.facts.now (atom_of l)))) c.into_vec-literals.ensures
