use Rattle.asp_faults.proofs.texts.write_negated.Goals as goal

pub returns : goal.returns
returns g c = rw (c.as_bytes.ensures.value, c.format.ensures.text) at c.write_range.ensures
