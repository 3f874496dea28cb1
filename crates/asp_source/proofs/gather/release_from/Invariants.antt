use Rattle.std.proofs.Common.{ℕ, ◌<◌, get_or, length}
use Rattle.asp_table.specs.declared.columns.Occurrence.{Occurrence}
use Rattle.asp_vars.specs.Literals.{T}
use Rattle.asp_vars.specs.Tabled.{occurrences_of}
use Rattle.asp_source.specs.Gathering.{IsGathering, Gathers, AreReleased}
use Rattle.asp_source.proofs.gather.release_from.Given as goal

abbrev pub invariant-loop-occurrence : goal.invariant-loop-occurrence
invariant-loop-occurrence l = record {
  gathering : IsGathering l.region.compiled.now l.region.components.now l.region.values.now l.region.component l.region.ranks.now.ranks l.fn.var l.sources l.loose l.waiting l.joined;
  gathers : Gathers l.region.values.now l.initial.sources l.initial.loose l.initial.waiting l.sources l.loose l.waiting;
  released : (i : ℕ) (d : Occurrence) → i < l.occurrence-index → i < length (occurrences_of l.region.compiled.now (T l.fn.var)) →
      AreReleased l.region.compiled.now l.region.components.now l.region.values.now l.region.component l.region.ranks.now.ranks l.sources l.loose
      l.waiting (get_or (occurrences_of l.region.compiled.now (T l.fn.var)) i d).body;
}
