use Rattle.std.proofs.Common.{◌≡◌, ◌<◌, ℕ, List, ℤ, length, pos, get_or, arith, ◌+ℤ◌, ◌<ℤ◌, ◌^◌}
use Rattle.std.specs.declared.cmp.Ordering.TheVariants.{Less, Equal, Greater}
use Rattle.std.proofs.lemmas.Int.{ints}
use Rattle.asp_bound.specs.Rises.{raised}
use Rattle.asp_bound.specs.Reach.{lifted}
use Rattle.asp_bound.proofs.StepLaws.{length-lifted, get_or-lifted, reaching-past, reaching-less, reaching-greater, reaching-equal, compared-at}
use Rattle.asp_bound.proofs.reach.reach.Goals as goal

pub returns-then-level-sums : goal.returns-then-level-sums
returns-then-level-sums c =
    let f : ℕ → ℕ = λ j. raised c.args.row.now j c.args.truth in
    let x : List ℤ = lifted f c.args.sums.now in
    reaching-past x c.args.bound.now c.loop-level.level (omega (arith, length-lifted f c.args.sums.now)) (omega arith) c.loop-level.invariant

pub returns-in-Less : goal.returns-in-Less
returns-in-Less c =
    let f : ℕ → ℕ = λ j. raised c.args.row.now j c.args.truth in
    let x : List ℤ = lifted f c.args.sums.now in
    let lt : c.loop-level.level < length c.args.sums.now = omega arith in
    let at : get_or x c.loop-level.level (pos 0) ≡ get_or c.args.sums.now c.loop-level.level (pos 0) +ℤ pos (f c.loop-level.level) = get_or-lifted f c.args.sums.now c.loop-level.level lt in
    let small : f c.loop-level.level < 2 ^ 60 = c.requires.small c.loop-level.level lt in
    let room : get_or c.args.sums.now c.loop-level.level (pos 0) <ℤ pos (2 ^ 60) = c.requires.room c.loop-level.level lt in
    let inside : c.loop-level.level < length x = omega (arith, length-lifted f c.args.sums.now) in
    reaching-less x c.args.bound.now c.loop-level.level inside (omega arith) c.loop-level.invariant
    (compared-at _ x c.args.bound.now c.loop-level.level Less c.in-Less.ensures (omega (arith, ints, at, c.raised.ensures, small, room)))

pub returns-in-Greater : goal.returns-in-Greater
returns-in-Greater c =
    let f : ℕ → ℕ = λ j. raised c.args.row.now j c.args.truth in
    let x : List ℤ = lifted f c.args.sums.now in
    let lt : c.loop-level.level < length c.args.sums.now = omega arith in
    let at : get_or x c.loop-level.level (pos 0) ≡ get_or c.args.sums.now c.loop-level.level (pos 0) +ℤ pos (f c.loop-level.level) = get_or-lifted f c.args.sums.now c.loop-level.level lt in
    let small : f c.loop-level.level < 2 ^ 60 = c.requires.small c.loop-level.level lt in
    let room : get_or c.args.sums.now c.loop-level.level (pos 0) <ℤ pos (2 ^ 60) = c.requires.room c.loop-level.level lt in
    let inside : c.loop-level.level < length x = omega (arith, length-lifted f c.args.sums.now) in
    reaching-greater x c.args.bound.now c.loop-level.level inside (omega arith) c.loop-level.invariant
    (compared-at _ x c.args.bound.now c.loop-level.level Greater c.in-Greater.ensures (omega (arith, ints, at, c.raised.ensures, small, room)))

pub loop-level-preserved : goal.loop-level-preserved
loop-level-preserved c =
    let f : ℕ → ℕ = λ j. raised c.args.row.now j c.args.truth in
    let x : List ℤ = lifted f c.args.sums.now in
    let lt : c.loop-level.level < length c.args.sums.now = omega arith in
    let at : get_or x c.loop-level.level (pos 0) ≡ get_or c.args.sums.now c.loop-level.level (pos 0) +ℤ pos (f c.loop-level.level) = get_or-lifted f c.args.sums.now c.loop-level.level lt in
    let small : f c.loop-level.level < 2 ^ 60 = c.requires.small c.loop-level.level lt in
    let room : get_or c.args.sums.now c.loop-level.level (pos 0) <ℤ pos (2 ^ 60) = c.requires.room c.loop-level.level lt in
    let inside : c.loop-level.level < length x = omega (arith, length-lifted f c.args.sums.now) in
    reaching-equal x c.args.bound.now c.loop-level.level inside (omega arith) c.loop-level.invariant
    (compared-at _ x c.args.bound.now c.loop-level.level Equal c.in-Equal.ensures (omega (arith, ints, at, c.raised.ensures, small, room)))
