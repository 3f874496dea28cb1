use Rattle.std.proofs.Common.{ap, ◌∙◌, arith}
use Rattle.asp_text.specs.Unread.{Unread}
use Rattle.asp_text.proofs.Cutting.{held_more}
use Rattle.asp_text.proofs.lines.Lines.feed.Goals as goal

pub invariant_of-self-2 : goal.invariant_of-self-2
invariant_of-self-2 c = held_more _ _ _ _ _ _ _ c.self.invariant c.in_ok-extend_from_slice.ensures.items
    (omega (arith, c.requires, ap (λ (u : Unread). u.fed) (c.self.view_is ∙ c.forget_taken.ensures)))
