use Rattle.std.proofs.Common.{◌≡◌, List, length, get_or, cond, ap, ◌∙◌, subst, arith}
use Rattle.std.specs.List.{swap}
use Rattle.std.proofs.lemmas.Option.{slice_get_within}
use Rattle.asp_vars.specs.Literals.{Literal, literal_eq}
use Rattle.asp_arena.specs.Rows.{row_at}
use Rattle.asp_store.proofs.RowLaws.{pair_within, side_within, leads_side}
use Rattle.asp_store.proofs.rows.rewatch.Goals as goal

pub side_of-side-requires : goal.side_of-side-requires
side_of-side-requires c = omega (arith, pair_within (row_at c.args.rows.now c.args.id) c.requires.pair.0 c.requires.pair.1, ap (length {A = Literal}) c.row.ensures)

pub swap-requires-clause-i : goal.swap-requires-clause-i
swap-requires-clause-i c =
    let row = row_at c.args.rows.now c.args.id in
    side_within (literal_eq (get_or c.row.result.now 0 c.args.lit) c.args.lit) c.side_of-side.result (length row) (c.side_of-side.ensures c.args.lit)
    (pair_within row c.requires.pair.0 c.requires.pair.1)

pub swap-requires-clause-j : goal.swap-requires-clause-j
swap-requires-clause-j c = slice_get_within (row_at c.args.rows.now c.args.id) c.args.spot.place c.args.spot.lit c.requires.stands

pub returns : goal.returns
returns c =
    let row = row_at c.args.rows.now c.args.id in
    let p = c.requires.pair in
    let side = c.side_of-side.result in
    let at : side ≡ cond (literal_eq (get_or row 0 c.args.lit) c.args.lit) 0 1 =
    subst (λ (xs : List Literal). side ≡ cond (literal_eq (get_or xs 0 c.args.lit) c.args.lit) 0 1) c.row.ensures (c.side_of-side.ensures c.args.lit) in (
      swap row side c.args.spot.place,
      c.set_start.ensures ∙ c.swap.ensures,
      leads_side row p.0 c.args.lit c.args.other side c.args.spot.place c.args.spot.lit p.1 p.2 c.requires.stands c.requires.is_new.0 c.requires.is_new.1 at,
    )
