use Rattle.std.proofs.Common.{◌≡◌, true, List, Some, length, set, sym, ap, ◌∙◌, subst, arith}
use Rattle.std.specs.List.{slice_get, swap}
use Rattle.std.proofs.lemmas.List.{set-set}
use Rattle.std.proofs.lemmas.Option.{slice_get_within}
use Rattle.asp_vars.specs.Literals.{Literal, has_literal}
use Rattle.asp_store.proofs.RowLaws.{row_set, same_swap, first_within, front_swapped, second_within, ordered}
use Rattle.asp_store.proofs.rows.put_row.Goals as goal

pub put-requires : goal.put-requires
put-requires c = c.requires.within

pub place_of-first-requires : goal.place_of-first-requires
place_of-first-requires c = c.requires.first

pub swap-requires-clause-i : goal.swap-requires-clause-i
swap-requires-clause-i c =
    let is = row_set c.args.rows.now c.put.new.self c.args.id c.args.lits.now c.requires.within c.in_ok-put.ensures.ok in
    omega (arith, ap (length {A = Literal}) is, first_within c.args.lits.now c.args.pair.first c.requires.first)

pub swap-requires-clause-j : goal.swap-requires-clause-j
swap-requires-clause-j c =
    let is = row_set c.args.rows.now c.put.new.self c.args.id c.args.lits.now c.requires.within c.in_ok-put.ensures.ok in
    omega (arith, ap (length {A = Literal}) is, slice_get_within c.args.lits.now c.place_of-first.result c.args.pair.first c.place_of-first.ensures)

pub place_of-second-requires : goal.place_of-second-requires
place_of-second-requires c =
    let lits = c.args.lits.now in
    let f = c.place_of-first.result in
    let is = row_set c.args.rows.now c.put.new.self c.args.id lits c.requires.within c.in_ok-put.ensures.ok in
    let one = c.swap.ensures ∙ ((λ j. set (c.in_ok-put.ensures.ok j) c.args.id (swap (is j) 0 f)) ∙ set-set c.args.rows.now c.args.id lits (swap lits 0 f)) in
    let row = row_set c.args.rows.now c.swap.new.self c.args.id (swap lits 0 f) c.requires.within one in
    let first_in = first_within lits c.args.pair.first c.requires.first in
    let has : has_literal (swap lits 0 f) c.args.pair.second ≡ true =
    sym (same_swap lits 0 f first_in (slice_get_within lits f c.args.pair.first c.place_of-first.ensures) c.args.pair.second) ∙ c.requires.second in
    subst (λ (xs : List Literal). has_literal xs c.args.pair.second ≡ true) (sym (c.row.ensures ∙ row)) has

pub swap-requires-2-clause-i : goal.swap-requires-2-clause-i
swap-requires-2-clause-i c =
    let lits = c.args.lits.now in
    let f = c.place_of-first.result in
    let is = row_set c.args.rows.now c.put.new.self c.args.id lits c.requires.within c.in_ok-put.ensures.ok in
    let one = c.swap.ensures ∙ ((λ j. set (c.in_ok-put.ensures.ok j) c.args.id (swap (is j) 0 f)) ∙ set-set c.args.rows.now c.args.id lits (swap lits 0 f)) in
    let row = row_set c.args.rows.now c.swap.new.self c.args.id (swap lits 0 f) c.requires.within one in
    let first_in = first_within lits c.args.pair.first c.requires.first in
    let has : has_literal (swap lits 0 f) c.args.pair.second ≡ true =
    sym (same_swap lits 0 f first_in (slice_get_within lits f c.args.pair.first c.place_of-first.ensures) c.args.pair.second) ∙ c.requires.second in
    let two = second_within (swap lits 0 f) c.args.pair.first c.args.pair.second (front_swapped lits f c.args.pair.first c.place_of-first.ensures) has c.requires.differ in
    omega (arith, two, ap (length {A = Literal}) row)

pub swap-requires-2-clause-j : goal.swap-requires-2-clause-j
swap-requires-2-clause-j c = omega (arith, slice_get_within c.row.result.now c.place_of-second.result c.args.pair.second c.place_of-second.ensures, ap (length {A = Literal}) c.row.ensures)

pub returns-clause-ok : goal.returns-clause-ok
returns-clause-ok c =
    let lits = c.args.lits.now in
    let f = c.place_of-first.result in
    let s = c.place_of-second.result in
    let is = row_set c.args.rows.now c.put.new.self c.args.id lits c.requires.within c.in_ok-put.ensures.ok in
    let one = c.swap.ensures ∙ ((λ j. set (c.in_ok-put.ensures.ok j) c.args.id (swap (is j) 0 f)) ∙ set-set c.args.rows.now c.args.id lits (swap lits 0 f)) in
    let row = row_set c.args.rows.now c.swap.new.self c.args.id (swap lits 0 f) c.requires.within one in
    let second = subst (λ (xs : List Literal). slice_get xs s ≡ Some c.args.pair.second) (c.row.ensures ∙ row) c.place_of-second.ensures in
    let o = ordered lits c.args.pair f s c.place_of-first.ensures second c.requires.differ in (
      swap (swap lits 0 f) 1 s,
      c.swap-2.ensures ∙ ((λ j. set (one j) c.args.id (swap (row j) 1 s)) ∙ set-set c.args.rows.now c.args.id (swap lits 0 f) (swap (swap lits 0 f) 1 s)),
      o.0,
      o.1,
    )
