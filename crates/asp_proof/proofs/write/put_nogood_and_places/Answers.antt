use Rattle.asp_proof.specs.Texts.{natural_field, counted_fields, literals_fields}
use Rattle.asp_buffer.proofs.OutLaws.{puts_then, puts_fails}
use Rattle.asp_proof.proofs.write.put_nogood_and_places.Goals as goal

pub returns-in_err-put_literals : goal.returns-in_err-put_literals
returns-in_err-put_literals g c = puts_fails _ _ _ _ _ (literals_fields c.args.nogood.now) (counted_fields natural_field c.args.names.now) c.in_err-put_literals.ensures c.from_residual.ensures.1

pub returns : goal.returns
returns g c = puts_then _ _ _ _ _ (literals_fields c.args.nogood.now) (counted_fields natural_field c.args.names.now) c.in_ok-put_literals.ensures c.put_atoms.ensures
