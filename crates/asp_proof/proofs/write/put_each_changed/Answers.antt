use Rattle.std.proofs.Common.{ap, flat_map}
use Rattle.asp_proof.specs.Texts.{natural_field}
use Rattle.asp_buffer.proofs.OutLaws.{midway_more, midway_fails}
use Rattle.asp_proof.proofs.write.put_each_changed.Goals as goal

pub returns-in_err-put_field-in-Lone : goal.returns-in_err-put_field-in-Lone
returns-in_err-put_field-in-Lone g c =
    midway_fails _ _ _ _ _ _ _ _ _ _ c.turns.invariant.midway c.in_err-put_field-in-Lone.ensures (ap (flat_map natural_field) c.in-Lone.ensures.1) c.from_residual.ensures.1

pub turns-preserved : goal.turns-preserved
turns-preserved g c = record {
  one = c.in-Lone.ensures.0.one;
  other = c.in-Lone.ensures.0.other;
  midway = midway_more _ _ _ _ _ _ _ _ c.turns.invariant.midway c.in_ok-put_field-in-Lone.ensures (ap (flat_map natural_field) c.in-Lone.ensures.1);
}
