use Rattle.std.proofs.Common.{◌≡◌, ◌++◌, length}
use Rattle.asp_rows.specs.Listed.{AreRows}
use Rattle.asp_backlog.specs.Backlogs.{sets_of}
use Rattle.asp_backlog.proofs.backlog.take_all.Given as goal

abbrev pub invariant-taking : goal.invariant-taking
invariant-taking l = record {
  rows : AreRows l.initial.taken.atoms l.rows.keys;
  atoms : l.taken.atoms ≡ l.initial.taken.atoms;
  all : sets_of l.initial.rows.keys ≡ l.taken.sets ++ sets_of l.rows.keys;
}

abbrev pub decreases-taking : goal.decreases-taking
decreases-taking l = length l.rows.keys
