use Rattle.std.proofs.Common.{refl, rules, false}
use Rattle.std.specs.Prelude.{None}
use Rattle.asp_top.specs.Progress.{scope}
use Rattle.asp_top.proofs.TellLaws.{part_told}
use Rattle.asp_top.proofs.progress.ProgressWatch.end_query.Goals as goal

pub returns : goal.returns
returns g c = (
  refl,
  refl,
  refl,
  refl,
  part_told (scope c.args.self.now.on c.args.self.now.parts c.args.self.now.row None) _ _ (record { all = false; counts = c.since.result })
      (search rules) (search rules) (search rules) refl refl c.write_part-self.ensures,
)
