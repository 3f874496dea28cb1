use Rattle.std.proofs.Common.{◌∙◌, false, ap, sym, arith}
use Rattle.std.proofs.lemmas.List.{get_or_read}
use Rattle.asp_weight.specs.declared.tally.Tally.{Tally}
use Rattle.asp_weight.proofs.TallyLaws.{lowered-queued}
use Rattle.asp_weight.proofs.QueueLaws.{free, stays}
use Rattle.asp_weight.proofs.tally.Tallies.lower_at.Goals as goal

pub push_reserved-requires : goal.push_reserved-requires
push_reserved-requires c =
    let h = rw (← c.self.view_is) at c.requires.body in
    let was = get_or_read c.self.inside.tallies.items _ _ h c.index.ensures (record { reached = 0; missed = 0; start = 0; queued = false }) in
    omega (
      arith,
      c.self.inside.queue.ok.0,
      free c.self.inside.tallies.items c.self.inside.queue.items _ c.args.place.now.body c.self.invariant h
          (ap (λ (t : Tally). t.queued) (sym was) ∙ c.if-tally.false),
    )

pub invariant_of-self : goal.invariant_of-self
invariant_of-self c =
    let h = rw (← c.self.view_is) at c.requires.body in
    let was = get_or_read c.self.inside.tallies.items _ _ h c.index.ensures (record { reached = 0; missed = 0; start = 0; queued = false }) in
    stays c.self.inside.tallies.items c.self.inside.queue.items _ c.args.place.now.body c.lowered.result c.self.invariant h (ap (λ (t : Tally). t.queued) (sym was) ∙ c.if-tally.true)
    (ap (λ (t : Tally). t.queued) c.lowered.ensures ∙ lowered-queued _ _ _)
