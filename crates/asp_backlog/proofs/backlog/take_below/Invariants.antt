use Rattle.std.proofs.Common.{◌≡◌, ◌++◌, filter, length, not, Some}
use Rattle.asp_rows.specs.Listed.{AreRows}
use Rattle.asp_watermark.specs.Floors.{is_below}
use Rattle.asp_backlog.specs.Backlogs.{sets_of}
use Rattle.asp_backlog.proofs.backlog.take_below.Given as goal

abbrev pub invariant-taking : goal.invariant-taking
invariant-taking l = record {
  rows : AreRows l.initial.taken.atoms l.rows.keys;
  atoms : l.taken.atoms ≡ l.initial.taken.atoms;
  below : filter (is_below (Some l.floor.set)) (sets_of l.initial.rows.keys) ≡ l.taken.sets ++ filter (is_below (Some l.floor.set)) (sets_of l.rows.keys);
  rest : filter (λ S. not (is_below (Some l.floor.set) S)) (sets_of l.initial.rows.keys) ≡ filter (λ S. not (is_below (Some l.floor.set) S)) (sets_of l.rows.keys);
}

abbrev pub decreases-taking : goal.decreases-taking
decreases-taking l = length l.rows.keys
