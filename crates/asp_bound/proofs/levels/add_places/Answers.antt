use Rattle.std.proofs.Common.{◌<◌, ◌∙◌, List, [], ◌∷◌, ◌++◌, length, get_or, arith, rules, ap, sym}
use Rattle.std.proofs.lemmas.List.{map_more}
use Rattle.asp_bound.specs.declared.place.Addition.{Addition}
use Rattle.asp_bound.specs.declared.place.Item.{Item}
use Rattle.asp_bound.specs.Levels.{item_of}
use Rattle.asp_bound.proofs.PlaceLaws.{placed-none, placed-more}
use Rattle.asp_bound.proofs.levels.add_places.Goals as goal

-- the addition past the end
abbrev none : Addition
none = record { var = 0; if_true = 0; if_false = 0; most = 0 }

pub add_place-requires : goal.add_place-requires
add_place-requires c =
    let within : c.loop-index.index < length c.args.additions.now = omega arith in
    record { var = omega (arith, c.requires.vars c.loop-index.index none within, c.loop-index.invariant.0.count) }

pub loop-index-init : goal.loop-index-init
loop-index-init c = (placed-none c.args.level c.args.rows.now, search rules)

pub loop-index-preserved : goal.loop-index-preserved
loop-index-preserved c =
    let x : Addition = get_or c.args.additions.now c.loop-index.index none in
    let within : c.loop-index.index < length c.args.additions.now = omega arith in
    let inside : x.var < length c.loop-index.rows = omega (arith, c.requires.vars c.loop-index.index none within, c.loop-index.invariant.0.count) in (
      placed-more c.args.level c.loop-index.index c.args.additions.now c.args.rows.now c.loop-index.rows c.add_place.new.rows none within inside
          c.loop-index.invariant.0 c.in_ok-add_place.ensures.rows,
      c.in_ok-add_place.ensures.column ∙ (ap (λ (xs : List Item). xs ++ item_of x ∷ []) c.loop-index.invariant.1 ∙ sym (map_more item_of c.args.additions.now c.loop-index.index none within)),
    )
