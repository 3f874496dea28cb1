use Rattle.std.proofs.Common.{ℕ, [], ap, ◌∙◌}
use Rattle.asp_bound.specs.Raisers.{Line}
use Rattle.asp_bound.proofs.lists.lists_of.Goals as goal

abbrev none_of : ℕ → Line
none_of room = record { vars = []; room = room }

pub returns : goal.returns
returns c = record {
  within = c.in_ok-vars.ensures.within;
  whole = c.in_ok-vars.ensures.whole;
  once = c.in_ok-vars.ensures.once;
  begun = c.in_ok-starts.ensures.items_if_clones_equal (λ y q. q);
  none = c.in_ok-raisers.ensures ∙ ap none_of (c.len.ensures ∙ c.in_ok-vars.vars.ok.0);
}
