use Rattle.std.proofs.Common.{◌≡◌, ◌+◌, ◌-◌, true, false, length, drop, arith}
use Rattle.std.proofs.lemmas.Option.{slice_get_within}
use Rattle.asp_vars.specs.Literals.{literal_eq, holds_in}
use Rattle.asp_store.proofs.LookLaws.{has_before, has_behind, part_at, place_before, some_before, none_parted}
use Rattle.asp_store.proofs.looks.beside_from.Goals as goal

pub returns-in-Some-clause-some : goal.returns-in-Some-clause-some
returns-in-Some-clause-some c =
    let n = c.args.lits.now in
    let i = c.min-start.result in
    let s = c.in-Some.ensures.some in
    (has_behind i n c.in-Some.spot.lit (has_before (length n - i) (drop i n) c.in-Some.spot.lit s.0), s.1, s.2)

pub overflow_add-result : goal.overflow_add-result
overflow_add-result c =
    let n = c.args.lits.now in
    let i = c.min-start.result in
    let at = part_at (length n - i) i n c.in-Some.spot.place c.in-Some.spot.lit c.in-Some.ensures.place in
    omega (arith, slice_get_within n (i + c.in-Some.spot.place) c.in-Some.spot.lit at)

pub returns-in-Some-clause-place : goal.returns-in-Some-clause-place
returns-in-Some-clause-place c = part_at (length c.args.lits.now - c.min-start.result) c.min-start.result c.args.lits.now c.in-Some.spot.place c.in-Some.spot.lit c.in-Some.ensures.place

pub returns-in-None-clause-place : goal.returns-in-None-clause-place
returns-in-None-clause-place c = place_before c.min-start.result c.args.lits.now c.beside-in-None.result c.beside-in-None.ensures.place

pub returns-in-None-clause-some : goal.returns-in-None-clause-some
returns-in-None-clause-some c = some_before c.args.values.now c.args.other c.min-start.result c.args.lits.now c.beside-in-None.result c.beside-in-None.ensures.some

pub returns-in-None-clause-none : goal.returns-in-None-clause-none
returns-in-None-clause-none c =
    none_parted (λ k. literal_eq k c.args.other ≡ false → holds_in c.args.values.now k ≡ true) c.min-start.result c.args.lits.now
    c.beside-in-None.result c.in-None.ensures.none c.beside-in-None.ensures.none
