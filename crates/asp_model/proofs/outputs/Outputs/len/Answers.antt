use Rattle.std.proofs.Common.{◌<◌, length, ap, arith}
use Rattle.asp_model.specs.Stored.{output_of}
use Rattle.asp_model.proofs.ZippedLaws.{length-zipped}
use Rattle.asp_model.proofs.outputs.Outputs.len.Goals as goal

pub returns : goal.returns
returns c =
    omega (
      arith,
      c.len.ensures,
      length-zipped (λ k. k < length c.self.inside.conditions) (output_of c.self.inside.conditions)
          c.self.inside.rows.items c.self.inside.texts c.self.invariant,
      ap length c.self.view_is,
    )
