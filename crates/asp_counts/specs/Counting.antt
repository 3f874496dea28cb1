-- How counts go on and are added. Each stops at the greatest u64.
use Rattle.std.specs.Prelude.{ℕ, ◌+◌, ◌-◌, ◌^◌, min, List}
use Rattle.std.specs.List.{sum_by}
use Rattle.asp_search_laws.specs.declared.step.Step.{Step}
use Rattle.asp_search_laws.specs.declared.step.Step.TheVariants.{Decided, Learnt, Answer, Closed, NoFuel, Restarted}
use Rattle.asp_counts.specs.declared.counts.Counts.{Counts}

-- the number, or the greatest u64
abbrev pub capped : ℕ → ℕ
capped n = min n (2 ^ 64 - 1)

-- what is counted before a run begins
abbrev pub nothing : Counts
nothing = record { conflicts = 0; decisions = 0; propagated = 0; restarts = 0; answers = 0; kept = 0; dropped = 0; query = 0 }

-- one more of what the step did
abbrev pub one_more : Step → Counts → Counts
one_more Decided c = record c { decisions = capped (c.decisions + 1) }
one_more Learnt c = record c { conflicts = capped (c.conflicts + 1) }
one_more Restarted c = record c { restarts = capped (c.restarts + 1) }
one_more (Answer set) c = record c { answers = capped (c.answers + 1) }
one_more (Closed n) c = c
one_more (NoFuel unpaid) c = c

-- so many literals more were implied
abbrev pub implying : ℕ → Counts → Counts
implying n c = record c { propagated = capped (c.propagated + n) }

-- so many nogoods are kept now: those that are fewer than before were dropped
abbrev pub keeping : ℕ → Counts → Counts
keeping n c = record c { kept = n; dropped = capped (c.dropped + (c.kept - n)) }

-- the counts after a step, whose propagation implied so many literals, and after which so many nogoods are kept
abbrev pub counted : Step → ℕ → ℕ → Counts → Counts
counted s implied kept c = keeping kept (implying implied (one_more s c))

-- what was done since there were these counts; so many nogoods are kept as now
abbrev pub since : Counts → Counts → Counts
since c before = record {
  conflicts = c.conflicts - before.conflicts;
  decisions = c.decisions - before.decisions;
  propagated = c.propagated - before.propagated;
  restarts = c.restarts - before.restarts;
  answers = c.answers - before.answers;
  kept = c.kept;
  dropped = c.dropped - before.dropped;
  query = c.query;
}

-- what two searches did, the first one at its query
abbrev pub joined : Counts → Counts → Counts
joined c d = record {
  conflicts = capped (c.conflicts + d.conflicts);
  decisions = capped (c.decisions + d.decisions);
  propagated = capped (c.propagated + d.propagated);
  restarts = capped (c.restarts + d.restarts);
  answers = capped (c.answers + d.answers);
  kept = capped (c.kept + d.kept);
  dropped = capped (c.dropped + d.dropped);
  query = c.query;
}

-- what all of them did: each field is the sum of theirs, and none is at a query
abbrev pub together : {X : Type 0} → (X → Counts) → List X → Counts
together f xs = record {
  conflicts = capped (sum_by (λ x. (f x).conflicts) xs);
  decisions = capped (sum_by (λ x. (f x).decisions) xs);
  propagated = capped (sum_by (λ x. (f x).propagated) xs);
  restarts = capped (sum_by (λ x. (f x).restarts) xs);
  answers = capped (sum_by (λ x. (f x).answers) xs);
  kept = capped (sum_by (λ x. (f x).kept) xs);
  dropped = capped (sum_by (λ x. (f x).dropped) xs);
  query = 0;
}
