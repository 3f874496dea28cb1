use Rattle.std.proofs.Common.{◌++◌, ap}
use Rattle.asp_proof.specs.Texts.{atoms_fields, literals_fields}
use Rattle.asp_buffer.proofs.OutLaws.{puts_then, puts_fails, puts_same}
use Rattle.asp_proof.proofs.write.put_set_and_nogood.Goals as goal

pub returns-in_err-put_atoms : goal.returns-in_err-put_atoms
returns-in_err-put_atoms g c =
    puts_same _ _ _ _ _ (puts_fails _ _ _ _ _ (atoms_fields c.as_slice.result.now) (literals_fields c.args.nogood.now) c.in_err-put_atoms.ensures c.from_residual.ensures.1)
    (ap (λ S. atoms_fields S ++ literals_fields c.args.nogood.now) c.as_slice.ensures.value)

pub returns : goal.returns
returns g c =
    puts_same _ _ _ _ _ (puts_then _ _ _ _ _ (atoms_fields c.as_slice.result.now) (literals_fields c.args.nogood.now) c.in_ok-put_atoms.ensures c.put_literals.ensures)
    (ap (λ S. atoms_fields S ++ literals_fields c.args.nogood.now) c.as_slice.ensures.value)
