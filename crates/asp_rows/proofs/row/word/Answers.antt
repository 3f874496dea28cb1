use Rattle.std.proofs.Common.{◌≡◌, ℕ, ◌+◌, ◌<◌, List, length, get_or, map, take, refl, sym, ap, ◌∙◌, subst, arith}
use Rattle.std.proofs.lemmas.List.{take_all}
use Rattle.asp_model.specs.Sets.{has}
use Rattle.asp_rows.specs.Bits.{value}
use Rattle.asp_rows.proofs.PlaceLaws.{high_next, low_next, next_above, up_to}
use Rattle.asp_rows.proofs.RowLaws.{found, no_more, one_more, word_room}
use Rattle.asp_rows.proofs.row.word.Goals as goal
use Rattle.asp_rows.proofs.row.word.Goals.{then-atoms-at, else-atoms-at}

pub shift-word-requires-clause-room : goal.shift-word-requires-clause-room
shift-word-requires-clause-room c =
    let S = c.args.set.now in
    let atoms = c.args.atoms.now in
    let more = c.loop-at-test.ensures.yes refl in
    let v = c.loop-at.invariant in
    let to = found S atoms c.loop-at.from c.loop-at.next c.find-at.result c.loop-at.word c.requires.set c.requires.ascending c.requires.some more.0
    more.1 (v.low more.0) v.high c.find-at.ensures.behind c.find-at.ensures.here v.is in
    subst (λ (k : ℕ). k < 18446744073709551616) (sym to.2) (word_room S atoms c.find-at.result c.requires.few)

pub overflow_mul-word : goal.overflow_mul-word
overflow_mul-word c =
    let S = c.args.set.now in
    let atoms = c.args.atoms.now in
    let more = c.loop-at-test.ensures.yes refl in
    let v = c.loop-at.invariant in
    let to = found S atoms c.loop-at.from c.loop-at.next c.find-at.result c.loop-at.word c.requires.set c.requires.ascending c.requires.some more.0
    more.1 (v.low more.0) v.high c.find-at.ensures.behind c.find-at.ensures.here v.is in
    let one = one_more S atoms c.loop-at.next c.find-at.result c.shift-word.result to.0 more.0 (omega (arith, c.if-atoms-at.true)) (c.shift-word.ensures ∙ to.2) in
    let room = word_room S atoms (c.find-at.result + 1) c.requires.few in
    omega (arith, one, room)

pub overflow_add-word : goal.overflow_add-word
overflow_add-word c =
    let S = c.args.set.now in
    let atoms = c.args.atoms.now in
    let more = c.loop-at-test.ensures.yes refl in
    let v = c.loop-at.invariant in
    let to = found S atoms c.loop-at.from c.loop-at.next c.find-at.result c.loop-at.word c.requires.set c.requires.ascending c.requires.some more.0
    more.1 (v.low more.0) v.high c.find-at.ensures.behind c.find-at.ensures.here v.is in
    let one = one_more S atoms c.loop-at.next c.find-at.result c.shift-word.result to.0 more.0 (omega (arith, c.if-atoms-at.true)) (c.shift-word.ensures ∙ to.2) in
    let room = word_room S atoms (c.find-at.result + 1) c.requires.few in
    omega (arith, one, room)

pub loop-at-preserved : goal.loop-at-preserved
loop-at-preserved c =
    let S = c.args.set.now in
    let atoms = c.args.atoms.now in
    let at = c.find-at.result in
    let next = c.loop-at.next in
    let more = c.loop-at-test.ensures.yes refl in
    let v = c.loop-at.invariant in
    let to = found S atoms c.loop-at.from next at c.loop-at.word c.requires.set c.requires.ascending c.requires.some more.0 more.1 (v.low more.0)
    v.high c.find-at.ensures.behind c.find-at.ensures.here v.is in
    let here = c.find-at.ensures.here to.0 in
    elim c.if-atoms-at.branch [
      | then-atoms-at w ↦
          let same : get_or S next 0 ≡ get_or atoms at 0 = omega (arith, w.if-atoms-at.true) in
          record {
            from = omega (arith, w.from-is, to.0);
            next = omega (arith, more.0);
            is = w.word-is ∙ one_more S atoms next at c.shift-word.result to.0 more.0 same (c.shift-word.ensures ∙ to.2) ∙ ap (λ (k : ℕ). value (map (has S) (take k atoms))) (sym w.from-is);
            low = λ lt. low_next S atoms c.if-atoms-at.from next c.requires.set (λ k less. up_to atoms at k (get_or S next 0) c.requires.ascending to.0 (sym same) (omega (arith, less, w.from-is))) lt;
            high = λ lt. high_next S atoms c.if-atoms-at.from next c.requires.set more.0
                (subst (λ (k : ℕ). get_or S next 0 < get_or atoms k 0) (sym w.from-is)
                (next_above atoms at (get_or S next 0) c.requires.ascending (omega (arith, lt, w.from-is)) (sym same)));
          }
      | else-atoms-at w ↦
          let other = w.if-atoms-at.false in
          record {
            from = omega (arith, w.from-is, to.0);
            next = omega (arith, more.0);
            is = w.word-is ∙ c.shift-word.ensures ∙ to.2 ∙ ap (λ (k : ℕ). value (map (has S) (take k atoms))) (sym w.from-is);
            low = λ lt. low_next S atoms c.if-atoms-at.from next c.requires.set (λ k less. let below = c.find-at.ensures.behind.1 k (omega (arith, less, w.from-is)) in omega (arith, below)) lt;
            high = λ lt. high_next S atoms c.if-atoms-at.from next c.requires.set more.0 (subst (λ (k : ℕ). get_or S next 0 < get_or atoms k 0) (sym w.from-is) (omega (arith, here, other)));
          }
    ]

pub with_zeros-requires-clause-room : goal.with_zeros-requires-clause-room
with_zeros-requires-clause-room c =
    let v = c.loop-at.invariant in
    let all = no_more c.args.set.now c.args.atoms.now c.loop-at.from c.loop-at.next c.loop-at.word c.requires.set c.requires.ascending v.from v.high (c.loop-at-test.ensures.no refl) v.is in
    subst (λ (k : ℕ). k < 18446744073709551616) (sym all) (word_room c.args.set.now c.args.atoms.now (length c.args.atoms.now) c.requires.few)

pub returns : goal.returns
returns c =
    let v = c.loop-at.invariant in
    let all = no_more c.args.set.now c.args.atoms.now c.loop-at.from c.loop-at.next c.loop-at.word c.requires.set c.requires.ascending v.from v.high (c.loop-at-test.ensures.no refl) v.is in
    c.with_zeros.ensures ∙ all ∙ ap (λ (t : List ℕ). value (map (has c.args.set.now) t)) (take_all (length c.args.atoms.now) c.args.atoms.now (omega arith))
