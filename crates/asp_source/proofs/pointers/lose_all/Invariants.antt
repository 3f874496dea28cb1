use Rattle.std.proofs.Common.{ℕ, ◌<◌, get_or, length}
use Rattle.asp_table.specs.declared.columns.Occurrence.{Occurrence}
use Rattle.asp_vars.specs.Literals.{complement}
use Rattle.asp_vars.specs.Tabled.{occurrences_of}
use Rattle.asp_source.specs.Pointers.{Loses, IsGoneBy}
use Rattle.asp_source.proofs.pointers.lose_all.Given as goal

abbrev pub invariant-loop-occurrence : goal.invariant-loop-occurrence
invariant-loop-occurrence l = record {
  loses : Loses l.initial.sources l.initial.queue l.sources l.queue;
  gone : (i : ℕ) (d : Occurrence) → i < l.occurrence-index → i < length (occurrences_of l.compiled (complement l.fn.lit)) →
      IsGoneBy l.compiled l.sources (get_or (occurrences_of l.compiled (complement l.fn.lit)) i d);
}
