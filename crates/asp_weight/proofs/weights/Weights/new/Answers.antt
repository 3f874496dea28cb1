use Rattle.std.proofs.Common.{◌∙◌, length, ap, arith}
use Rattle.asp_weight.proofs.StepLaws.{have_room, begun_as}
use Rattle.asp_weight.proofs.weights.Weights.new.Goals as goal

pub places_of-requires : goal.places_of-requires
places_of-requires c =
    have_room c.args.compiled.now c.vars-vars.result c.in_ok-shapes.field-0.shapes.items c.as_slice.result.now c.in_ok-shapes.field-0.rows
    c.vars-vars.ensures.few c.in_ok-shapes.ensures c.vars-vars.ensures.count c.as_slice.ensures.value

pub overflow_cast-as_slice : goal.overflow_cast-as_slice
overflow_cast-as_slice c =
    let room =
    have_room c.args.compiled.now c.vars-vars.result c.in_ok-shapes.field-0.shapes.items c.as_slice-2.result.now c.in_ok-shapes.field-0.rows
    c.vars-vars.ensures.few c.in_ok-shapes.ensures c.vars-vars.ensures.count c.as_slice-2.ensures.value in
    omega (arith, room.shaped, room.few)

pub invariant_of-result : goal.invariant_of-result
invariant_of-result c =
    begun_as c.args.compiled.now c.of-2.result.value c.none-values.result c.in_ok-shapes.field-0.shapes.items c.as_slice.result.now
    c.in_ok-shapes.field-0.rows c.in_ok-places.places c.in_ok-tallies.tallies.tallies
    _ c.vars-vars.result c.program.ensures.sound c.vars-vars.ensures.few c.in_ok-shapes.ensures c.in_ok-places.ensures c.as_slice.ensures.value
    c.none-values.ensures c.vars-vars.ensures.count c.in_ok-tallies.ensures
    (ap length c.as_slice-2.ensures.value) (c.of-2.ensures ∙ c.program.ensures.program)
