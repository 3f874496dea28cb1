use Rattle.std.proofs.Common.{length}
use Rattle.asp_store.proofs.LookLaws.{watched_open}
use Rattle.asp_store.proofs.looks.watched.Goals as goal

pub returns : goal.returns
returns c =
    let t = c.args.trail.now in
    watched_open t.vars t.entries (length t.entries) c.args.lits.now c.args.first c.args.second c.len-len.ensures.ordered c.requires.first c.requires.second c.requires.differ
    c.requires.first_open c.requires.second_open
