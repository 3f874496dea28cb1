use Rattle.std.proofs.Common.{◌++◌, codes, append_assoc}
use Rattle.asp_proof.specs.Texts.{natural_field, counted_fields, literals_fields}
use Rattle.asp_buffer.proofs.OutLaws.{puts_then, puts_fails, puts_same}
use Rattle.asp_proof.proofs.write.put_learned.Goals as goal

pub returns-in_err-put_place : goal.returns-in_err-put_place
returns-in_err-put_place g c =
    puts_same _ _ _ _ _ (puts_fails _ _ _ _ _ (codes "l" ++ natural_field c.args.place)
    (literals_fields c.args.nogood.now ++ counted_fields natural_field c.args.names.now) c.in_err-put_place.ensures c.from_residual.ensures.1)
    (append_assoc (codes "l") (natural_field c.args.place) (literals_fields c.args.nogood.now ++ counted_fields natural_field c.args.names.now))

pub returns : goal.returns
returns g c =
    puts_same _ _ _ _ _ (puts_then _ _ _ _ _ (codes "l" ++ natural_field c.args.place)
    (literals_fields c.args.nogood.now ++ counted_fields natural_field c.args.names.now) c.in_ok-put_place.ensures
    c.put_nogood_and_places.ensures)
    (append_assoc (codes "l") (natural_field c.args.place) (literals_fields c.args.nogood.now ++ counted_fields natural_field c.args.names.now))
