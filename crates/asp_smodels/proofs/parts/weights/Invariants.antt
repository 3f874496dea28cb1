use Rattle.std.proofs.Common.{◌≡◌, drop, take, vec_len}
use Rattle.std.specs.Prelude.{map}
use Rattle.asp_model.specs.Holding.{atom_of}
use Rattle.asp_read.proofs.Loop.{with_front}
use Rattle.asp_smodels.specs.Parts.{weights_at}
use Rattle.asp_smodels.proofs.Weights.{atoms}
use Rattle.asp_smodels.proofs.parts.weights.Given as goal

abbrev pub invariant-loop-literal : goal.invariant-loop-literal
invariant-loop-literal l = record {
  read : with_front l.items.items (weights_at (drop l.literal-index l.literals) l.rest) ≡ weights_at l.literals l.line;
  len : vec_len l.items ≡ l.literal-index;
  atoms : atoms l.items.items ≡ map atom_of (take l.literal-index l.literals);
}
