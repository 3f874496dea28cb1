use Rattle.std.proofs.Common.{List, ◌++◌, ap, ◌∙◌, subst}
use Rattle.std.specs.Option.{option_to_list}
use Rattle.asp_arena.specs.declared.span.Span.{Span}
use Rattle.asp_arena.specs.Rows.{AreSpans}
use Rattle.asp_arena.proofs.SpanLaws.{spans_pop}
use Rattle.asp_arena.proofs.arena.Arena.pop.Goals as goal

pub invariant_of-self : goal.invariant_of-self
invariant_of-self c =
    let cells = c.self.inside.cells.items in
    spans_pop c.pop.new.self.items cells c.in-Some.span
    (subst (λ (ss : List Span). AreSpans ss cells) (c.pop.ensures.items ∙ ap (λ o. c.pop.new.self.items ++ option_to_list o) c.in-Some.is) c.self.invariant)
