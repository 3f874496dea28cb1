use Rattle.asp_analyze.proofs.OpenLaws.{reason_asked}
use Rattle.asp_analyze.proofs.open.open.Goals as goal

pub kept-requires : goal.kept-requires
kept-requires g c =
    let a = c.requires.way.1.marked in
    reason_asked a.ordered.0 c.args.trail.now.entries (g.R.Reasons.asks c.args.reasons.now) c.args.lit c.args.id a.ordered.1 c.requires.asked c.requires.on c.requires.reason

pub write-requires : goal.write-requires
write-requires g c =
    let a = c.requires.way.1.marked in
    reason_asked a.ordered.0 c.args.trail.now.entries (g.R.Reasons.asks c.args.reasons.now) c.args.lit c.args.id a.ordered.1 c.requires.asked c.requires.on c.requires.reason
