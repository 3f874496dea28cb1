use Rattle.std.proofs.Common.{◌≡◌, ◌/◌, map, drop, ap, ◌∙◌, arith}
use Rattle.std.specs.Arc.{arc_value}
use Rattle.asp_log.proofs.BlockLaws.{length-stored, stored-shown, length-shown, take-rest}
use Rattle.asp_log.proofs.shown.View.of.Goals as goal

pub slice_bounds-shared-count : goal.slice_bounds-shared-count
slice_bounds-shared-count c = omega (arith, length-stored c.args.blocks.now c.args.tail.now)

pub slice_bounds-shared-start : goal.slice_bounds-shared-start
slice_bounds-shared-start c = omega (arith, length-stored c.args.blocks.now c.args.tail.now)

pub invariant_of-result : goal.invariant_of-result
invariant_of-result c =
    let same : map arc_value c.in_ok-blocks.blocks.items ≡ map arc_value (drop (c.args.from / 64) c.args.blocks.now) =
    c.in_ok-blocks.ensures ∙ ap (λ bs. map arc_value bs) (take-rest c.args.blocks.now (c.args.from / 64)) in
    let size = length-shown c.args.blocks.now c.in_ok-blocks.blocks.items c.args.tail.now c.in_ok-tail.tail.items c.args.from c.requires.from c.requires.tail same c.in_ok-tail.ensures in
    record { skipped = omega (arith, size, c.requires.from); few = omega (arith, size, c.requires.few) }

pub returns : goal.returns
returns c =
    let same : map arc_value c.in_ok-blocks.blocks.items ≡ map arc_value (drop (c.args.from / 64) c.args.blocks.now) =
    c.in_ok-blocks.ensures ∙ ap (λ bs. map arc_value bs) (take-rest c.args.blocks.now (c.args.from / 64)) in
    stored-shown c.args.blocks.now c.in_ok-blocks.blocks.items c.args.tail.now c.in_ok-tail.tail.items c.args.from c.requires.from c.requires.tail same c.in_ok-tail.ensures
