use Rattle.std.proofs.Common.{Bool, List, ◌∙◌, sym, ap, arith}
use Rattle.std.proofs.lemmas.Bool.{eqb-true}
use Rattle.asp_source.specs.Marks.{is_marked}
use Rattle.asp_source.proofs.QueueLaws.{none_in_empty}
use Rattle.asp_source.proofs.queue.Queue.is_empty.Goals as goal

pub returns : goal.returns
returns c = λ e k.
    let zero_len = eqb-true c.self.inside.queue.len 0 (sym c.is_empty.ensures ∙ e) in
    ap (λ (m : List Bool). is_marked m k) (sym c.self.view_is)
    ∙ none_in_empty c.self.inside.marks.items c.self.inside.queue.items _ c.self.invariant (omega (arith, zero_len, c.self.inside.queue.ok.0)) k
