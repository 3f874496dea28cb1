use Rattle.asp_checkrun.proofs.notes.write_place.Goals as goal

pub returns : goal.returns
returns g c = rw (c.as_bytes.ensures.value, c.format.ensures.text) at c.write_three.ensures
