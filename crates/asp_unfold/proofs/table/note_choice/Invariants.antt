use Rattle.std.proofs.Common.{◌≡◌, ℕ, cond, take, length}
use Rattle.asp_model.specs.Sets.{has}
use Rattle.asp_unfold.specs.declared.table.Definition.TheVariants.{Other}
use Rattle.asp_unfold.specs.Tables.{definition_at}
use Rattle.asp_unfold.proofs.table.note_choice.Given as goal

abbrev pub invariant-loop-atom : goal.invariant-loop-atom
invariant-loop-atom l = record {
  len : length l.table ≡ length l.initial.table;
  each : (a : ℕ) → definition_at l.table a ≡ cond (has (take l.atom-index l.atoms) a) Other (definition_at l.initial.table a);
}
