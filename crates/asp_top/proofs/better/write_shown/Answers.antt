use Rattle.asp_top.proofs.BetterLaws.{writes-from}
use Rattle.asp_top.proofs.better.write_shown.Goals as goal

pub returns : goal.returns
returns g c = writes-from c.args.program.now c.args.rows.now.sets c.args.number _ _ _ _ _ c.requires.number.0
    (record { all = c.print.ensures.all; front = c.print.ensures.front; later = c.print.ensures.later; cause = c.print.ensures.cause; quiet = c.print.ensures.quiet })
