use Rattle.std.proofs.Common.{refl, rules, true}
use Rattle.std.specs.Prelude.{None}
use Rattle.asp_top.specs.Progress.{scope}
use Rattle.asp_top.proofs.TellLaws.{part_told}
use Rattle.asp_top.proofs.progress.ProgressWatch.end_series.Goals as goal

pub returns : goal.returns
returns g c = (
  refl,
  refl,
  refl,
  refl,
  part_told (scope c.args.self.now.on c.args.self.now.parts c.args.self.now.row None) _ _ (record { all = true; counts = c.args.self.now.before })
      (search rules) (search rules) (search rules) refl refl c.write_part-self.ensures,
)
