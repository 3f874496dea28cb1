use Rattle.std.proofs.Common.{◌+◌, Option, Bool, None, replicate, ap, ◌∙◌}
use Rattle.asp_source.proofs.KeptLaws.{kept_first}
use Rattle.asp_source.proofs.sources.Sources.new.Goals as goal

pub invariant_of-result : goal.invariant_of-result
invariant_of-result c =
    let none : Option Bool = None in
    let bare = c.in_ok-pointers.ensures in
    let blank = c.in_ok-marks.ensures in
    kept_first c.args.compiled.now c.in_ok-components.components c.none-values.result c.in_ok-pointers.pointers.sources.items
    c.in_ok-pointers.pointers.ranks.ranks c.in_ok-pointers.pointers.queue c.is_empty-tight.result c.has_weights-weighted.result
    c.in_ok-marks.marks.loose.items c.in_ok-marks.marks.waiting c.in_ok-marks.marks.joined c.new-found.result
    c.in_ok-components.ensures
    (c.none-values.ensures ∙ ap (λ n. replicate (n + 1) none) c.vars.ensures.count)
    bare.bare bare.ranked bare.room bare.queued
    c.is_empty-tight.ensures
    c.has_weights-weighted.ensures
    blank.marks blank.free blank.seated
    c.new-found.ensures
