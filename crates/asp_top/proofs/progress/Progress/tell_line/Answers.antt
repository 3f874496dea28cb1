use Rattle.std.proofs.Common.{refl, rules}
use Rattle.std.specs.Prelude.{Some}
use Rattle.std.specs.Option.{option_copied}
use Rattle.asp_top.specs.Progress.{cost_in, scope, shown_of}
use Rattle.asp_top.proofs.TellLaws.{best-shown, one_told}
use Rattle.asp_top.proofs.progress.Progress.tell_line.Goals as goal

pub returns-clause-told : goal.returns-clause-told
returns-clause-told g c =
    one_told (scope c.args.self.now.on c.args.self.now.parts c.args.self.now.row (Some c.args.compiled.now)) _ _
    (record { counts = c.args.counts.now; best = option_copied c.cost_of.result; shown = shown_of c.program.result.now c.new_row-row.result })
    (search rules) (best-shown c.args.compiled.now c.program.result.now _ (cost_in c.args.best) c.new_row-row.result c.program.ensures.program c.cost_of.ensures c.new_row-row.ensures.best)
    (search rules) (search rules) refl refl refl c.write_told-self.ensures
