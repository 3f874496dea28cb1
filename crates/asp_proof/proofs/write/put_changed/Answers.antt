use Rattle.std.proofs.Common.{length, flat_map}
use Rattle.asp_proof.specs.Texts.{natural_field}
use Rattle.asp_proof.specs.Changes.{changed}
use Rattle.asp_buffer.proofs.OutLaws.{puts_then, puts_fails}
use Rattle.asp_proof.proofs.write.put_changed.Goals as goal

pub returns-in_err-put_field : goal.returns-in_err-put_field
returns-in_err-put_field g c =
    let D = changed c.args.one.now c.args.other.now in
    puts_fails _ _ _ _ _ (natural_field (length D)) (flat_map natural_field D) (rw c.count_changed.ensures at c.in_err-put_field.ensures) c.from_residual.ensures.1

pub returns : goal.returns
returns g c =
    let D = changed c.args.one.now c.args.other.now in
    puts_then _ _ _ _ _ (natural_field (length D)) (flat_map natural_field D) (rw c.count_changed.ensures at c.in_ok-put_field.ensures) c.put_each_changed.ensures
