use Rattle.std.proofs.Common.{◌≡◌, ◌-◌, vec_len}
use Rattle.std.specs.Prelude.{map}
use Rattle.asp_model.specs.Sets.{with_atoms}
use Rattle.asp_model.specs.Holding.{atom_of}
use Rattle.asp_read.proofs.Loop.{with_front}
use Rattle.asp_smodels.specs.Parts.{signed_at}
use Rattle.asp_smodels.proofs.parts.signed.Given as goal

abbrev pub invariant-loop-i : goal.invariant-loop-i
invariant-loop-i l = record {
  read : with_front l.items.items (signed_at (l.count - l.i) (l.negated - l.i) l.known l.rest) ≡ signed_at l.count l.negated l.initial.known l.line;
  len : vec_len l.items ≡ l.i;
  known : l.known ≡ with_atoms l.initial.known (map atom_of l.items.items);
}
