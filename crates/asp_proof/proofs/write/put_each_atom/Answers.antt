use Rattle.std.proofs.Common.{arith, ap, flat_map}
use Rattle.asp_proof.specs.Texts.{natural_field}
use Rattle.asp_buffer.proofs.OutLaws.{drop_turn_or, midway_more, midway_fails}
use Rattle.asp_proof.proofs.write.put_each_atom.Goals as goal

pub returns-in_err-put_field : goal.returns-in_err-put_field
returns-in_err-put_field g c = midway_fails _ _ _ _ _ _ _ _ _ _ c.loop-atom.invariant c.in_err-put_field.ensures
    (ap (flat_map natural_field) (drop_turn_or c.args.atoms.now c.loop-atom.atom-index 0 (omega arith))) c.from_residual.ensures.1

pub loop-atom-preserved : goal.loop-atom-preserved
loop-atom-preserved g c = midway_more _ _ _ _ _ _ _ _ c.loop-atom.invariant c.in_ok-put_field.ensures
    (ap (flat_map natural_field) (drop_turn_or c.args.atoms.now c.loop-atom.atom-index 0 (omega arith)))
