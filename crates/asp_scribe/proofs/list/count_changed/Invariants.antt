use Rattle.std.proofs.Common.{◌≡◌, ◌≤◌, length, filter, take}
use Rattle.std.specs.Option.{option_copied}
use Rattle.asp_scribe.specs.Lists.{differs, set_of}
use Rattle.asp_scribe.proofs.list.count_changed.Given as goal

abbrev pub invariant-loop-place : goal.invariant-loop-place
invariant-loop-place l = record {
  few : l.count ≤ l.place;
  is : l.count ≡ length (filter (differs (set_of (option_copied l.last)) l.row.set) (take l.place l.atoms));
}
