use Rattle.std.proofs.Common.{rules, ap, ◌∙◌}
use Rattle.std.proofs.lemmas.Fn.{filter_same}
use Rattle.asp_settle.specs.Settled.{settled_items}
use Rattle.asp_settle.proofs.bodies.settled_items.Goals as goal

pub returns : goal.returns
returns c =
    c.from_vec.ensures ∙ c.shrink_to_fit.ensures.items ∙ filter_same _ _ _ (λ x b f' k. search rules) _ _ c.retain.ensures.filtered ∙ ap (settled_items c.args.facts.now) c.into_vec-items.ensures
