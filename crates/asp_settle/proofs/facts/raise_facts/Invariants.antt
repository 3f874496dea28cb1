use Rattle.std.proofs.Common.{◌≡◌, true, take, flat_map}
use Rattle.asp_settle.specs.Settled.{fact_of}
use Rattle.asp_settle.specs.Tables.{with_flags}
use Rattle.asp_settle.proofs.facts.raise_facts.Given as goal

abbrev pub invariant-loop-i : goal.invariant-loop-i
invariant-loop-i l = l.flags ≡ with_flags true l.initial.flags (flat_map fact_of (take l.i l.rules))
