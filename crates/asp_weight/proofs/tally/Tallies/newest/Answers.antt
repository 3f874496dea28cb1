use Rattle.std.proofs.Common.{◌≡◌, ◌<◌, ◌∙◌, length, ap, rules}
use Rattle.std.specs.Option.{IfSome}
use Rattle.std.proofs.lemmas.Option.{IfSome_then}
use Rattle.asp_weight.specs.Tallied.{tally_at, newest}
use Rattle.asp_weight.proofs.QueueLaws.{newest_marked, marked_within}
use Rattle.asp_weight.proofs.tally.Tallies.newest.Goals as goal

pub returns-clause-within : goal.returns-clause-within
returns-clause-within c =
    let last : IfSome c.map.result (λ w. (0 < length c.self.inside.queue.items) × (w ≡ newest c.self.inside.queue.items)) = search rules in
    rw (← c.self.view_is)
    (IfSome_then c.map.result last (λ w h. marked_within c.self.inside.tallies.items w
    (ap (λ v. (tally_at c.self.inside.tallies.items v).queued) h.1
    ∙ newest_marked c.self.inside.tallies.items c.self.inside.queue.items _ c.self.invariant h.0)))
