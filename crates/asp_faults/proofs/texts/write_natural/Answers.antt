use Rattle.asp_faults.proofs.texts.write_natural.Goals as goal

pub returns : goal.returns
returns g c = rw (c.natural_noun.ensures, c.as_bytes.ensures.value, c.format.ensures.text, c.as_bytes-2.ensures.value, c.format-2.ensures.text) at c.write_range.ensures
