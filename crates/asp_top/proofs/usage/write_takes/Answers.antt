use Rattle.asp_top.proofs.usage.write_takes.Goals as goal

pub returns : goal.returns
returns g c = rw (c.as_bytes.ensures.value, c.text.ensures, c.as_bytes-2.ensures.value, c.takes.ensures) at c.write_three.ensures
