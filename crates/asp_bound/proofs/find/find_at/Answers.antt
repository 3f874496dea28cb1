use Rattle.std.proofs.Common.{◌<◌, length, get_or, pos, w64, arith, rules}
use Rattle.std.proofs.lemmas.Int.{to_z-of_z}
use Rattle.std.proofs.lemmas.List.{get_or_default}
use Rattle.asp_bound.specs.declared.place.Item.{Item}
use Rattle.asp_bound.proofs.FindLaws.{near_as, near-far, first-more}
use Rattle.asp_bound.proofs.find.find_at.Goals as goal

-- the item past the column's end
abbrev none : Item
none = record { var = 0; most = 0 }

pub returns-then-not-is_near-clause-pass : goal.returns-then-not-is_near-clause-pass
returns-then-not-is_near-clause-pass c =
    let x = get_or c.args.column.now c.loop-index.index none in
    let lt : c.loop-index.index < length c.args.column.now = omega arith in
    let sum = to_z-of_z w64 (get_or c.args.sums.now c.args.level (pos 0)) (search rules) in
    let limit = to_z-of_z w64 (get_or c.args.bound.now c.args.level (pos 0)) (search rules) in
    near-far c.args.values.now c.args.rows.now c.args.sums.now c.args.bound.now c.args.column.now c.loop-index.index x
    (get_or c.args.sums.now c.args.level (pos 0)) (get_or c.args.bound.now c.args.level (pos 0)) c.is_near.result
    c.requires.falling (get_or_default c.args.column.now c.loop-index.index x none lt) c.loop-index.invariant (λ h. c.is_near.ensures (near_as _ _ _ _ x.most sum limit h)) c.if-not-is_near.true

pub loop-index-preserved : goal.loop-index-preserved
loop-index-preserved c =
    let x = get_or c.args.column.now c.loop-index.index none in
    let lt : c.loop-index.index < length c.args.column.now = omega arith in
    first-more c.args.values.now c.args.rows.now c.args.sums.now c.args.bound.now c.args.column.now c.loop-index.index x lt
    (get_or_default c.args.column.now c.loop-index.index x none lt) c.loop-index.invariant c.in_default.ensures.passes
