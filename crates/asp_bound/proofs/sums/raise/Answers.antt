use Rattle.std.proofs.Common.{◌<◌, length, get_or, pos, arith, ◌^◌}
use Rattle.asp_bound.specs.declared.place.Place.{Place}
use Rattle.asp_bound.proofs.StepLaws.{raised-within, raise-fits, raise-more}
use Rattle.asp_bound.proofs.sums.raise.Goals as goal

-- the item past the row's end
abbrev none : Place
none = record { level = 0; index = 0; if_true = 0; if_false = 0 }

pub add-requires-clause-small : goal.add-requires-clause-small
add-requires-clause-small c =
    let o = get_or c.args.row.now c.loop-place.place-index none in
    let lt : c.loop-place.place-index < length c.args.row.now = omega arith in
    let low : o.level < length c.args.sums.now = c.requires.within c.loop-place.place-index none lt in
    omega (arith, raised-within c.args.row.now c.loop-place.place-index c.args.truth none lt, c.requires.small o.level low, c.rise_by.ensures)

pub add-requires-clause-room : goal.add-requires-clause-room
add-requires-clause-room c =
    let o = get_or c.args.row.now c.loop-place.place-index none in
    let lt : c.loop-place.place-index < length c.args.row.now = omega arith in
    let low : o.level < length c.args.sums.now = c.requires.within c.loop-place.place-index none lt in
    let inside : o.level < length c.loop-place.sums = omega arith in
    raise-fits c.args.sums.now c.loop-place.sums c.args.row.now c.loop-place.place-index c.args.truth none c.rise_by.result (pos (2 ^ 60)) lt inside
    c.loop-place.invariant c.rise_by.ensures (c.requires.room o.level low)

pub loop-place-preserved : goal.loop-place-preserved
loop-place-preserved c =
    let o = get_or c.args.row.now c.loop-place.place-index none in
    let lt : c.loop-place.place-index < length c.args.row.now = omega arith in
    let low : o.level < length c.args.sums.now = c.requires.within c.loop-place.place-index none lt in
    let inside : o.level < length c.loop-place.sums = omega arith in
    raise-more c.args.sums.now c.loop-place.sums c.add.new.sums c.args.row.now c.loop-place.place-index c.args.truth none c.rise_by.result lt inside
    c.loop-place.invariant c.rise_by.ensures c.add.ensures
