use Rattle.std.proofs.Common.{ℕ, ◌<◌, get_or, length}
use Rattle.asp_table.specs.declared.columns.Occurrence.{Occurrence}
use Rattle.asp_vars.specs.Literals.{complement}
use Rattle.asp_vars.specs.Tabled.{bodies_with}
use Rattle.asp_source.specs.Pointers.{Loses, IsGoneAt}
use Rattle.asp_source.proofs.pointers.lose_bodies.Given as goal

abbrev pub invariant-loop-cell : goal.invariant-loop-cell
invariant-loop-cell l = record {
  loses : Loses l.initial.sources l.initial.queue l.sources l.queue;
  gone : (i : ℕ) (d : Occurrence) → i < l.cell-index → i < length (bodies_with l.compiled (complement l.fn.lit)) →
      IsGoneAt l.compiled l.sources (get_or (bodies_with l.compiled (complement l.fn.lit)) i d);
}
