use Rattle.std.proofs.Common.{◌++◌, codes, append_assoc}
use Rattle.asp_proof.specs.Texts.{natural_field, atoms_fields, literals_fields}
use Rattle.asp_buffer.proofs.OutLaws.{puts_then, puts_fails, puts_same}
use Rattle.asp_proof.proofs.write.put_loop.Goals as goal

pub returns-in_err-put_place : goal.returns-in_err-put_place
returns-in_err-put_place g c =
    puts_same _ _ _ _ _ (puts_fails _ _ _ _ _ (codes "o" ++ natural_field c.args.place)
    (atoms_fields c.args.set.now ++ literals_fields c.args.nogood.now) c.in_err-put_place.ensures c.from_residual.ensures.1)
    (append_assoc (codes "o") (natural_field c.args.place) (atoms_fields c.args.set.now ++ literals_fields c.args.nogood.now))

pub returns : goal.returns
returns g c =
    puts_same _ _ _ _ _ (puts_then _ _ _ _ _ (codes "o" ++ natural_field c.args.place)
    (atoms_fields c.args.set.now ++ literals_fields c.args.nogood.now) c.in_ok-put_place.ensures c.put_set_and_nogood.ensures)
    (append_assoc (codes "o") (natural_field c.args.place) (atoms_fields c.args.set.now ++ literals_fields c.args.nogood.now))
