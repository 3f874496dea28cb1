use mir.Syntax.{w32}
use Rattle.std.proofs.lemmas.Int.{to_z-of_z}
use Rattle.asp_faults.proofs.texts.write_integer.Goals as goal

pub returns : goal.returns
returns g c =
    rw (
      c.integer_noun.ensures,
      c.as_bytes.ensures.value,
      c.format.ensures.text,
      c.as_bytes-2.ensures.value,
      c.format-2.ensures.text,
      to_z-of_z w32 c.args.low c.ranges.low,
      to_z-of_z w32 c.args.high c.ranges.high,
    ) at c.write_range.ensures
