use Rattle.asp_top.proofs.usage.write_pair.Goals as goal

pub returns : goal.returns
returns g c = rw (c.as_bytes.ensures.value, c.text.ensures, c.as_bytes-2.ensures.value, c.text-2.ensures) at c.write_three.ensures
