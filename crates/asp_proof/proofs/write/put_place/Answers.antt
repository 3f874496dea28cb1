use Rattle.asp_proof.specs.Texts.{natural_field}
use Rattle.asp_buffer.proofs.OutLaws.{puts_then, puts_fails}
use Rattle.asp_proof.proofs.write.put_place.Goals as goal

pub returns-in_err-put : goal.returns-in_err-put
returns-in_err-put g c = puts_fails _ _ _ _ _ c.args.kind.now (natural_field c.args.place) c.in_err-put.ensures c.from_residual.ensures.1

pub returns : goal.returns
returns g c = puts_then _ _ _ _ _ c.args.kind.now (natural_field c.args.place) c.in_ok-put.ensures c.put_field.ensures
