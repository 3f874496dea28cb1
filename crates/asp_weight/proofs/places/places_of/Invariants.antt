use Rattle.std.proofs.Common.{◌≡◌, ◌+◌, take, length}
use Rattle.asp_weight.specs.Placed.{bare, ArePlaces}
use Rattle.asp_weight.proofs.places.places_of.Given as goal

abbrev pub invariant-loop-body : goal.invariant-loop-body
invariant-loop-body l = record {
  whole : length l.places ≡ l.vars + 1;
  placed : ArePlaces (take l.body l.shapes) (take l.body l.rows) (bare l.places);
}
