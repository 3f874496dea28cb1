use Rattle.std.proofs.Common.{◌+◌, ◌-◌, drop, map, take, ap, ◌∙◌, arith}
use Rattle.asp_model.specs.Sets.{Atoms, has}
use Rattle.asp_rows.specs.Bits.{value}
use Rattle.asp_rows.proofs.RowLaws.{part_ascends, words_more}
use Rattle.asp_rows.proofs.row.Row.of.Goals as goal

pub loop-from-preserved : goal.loop-from-preserved
loop-from-preserved c =
    let least = c.min.ensures in
    let one = c.word.ensures ∙ ap (λ (S : Atoms). value (map (has S) (take (c.loop-from.from + c.min.result - c.loop-from.from) (drop c.loop-from.from c.args.atoms.now)))) c.as_slice.ensures.value in
    record {
      within = omega (arith, least, c.loop-from.invariant.within);
      rest = words_more c.args.atoms.now c.args.set.now c.loop-from.from c.min.result c.word.result c.loop-from.words.items _ c.loop-from-test.true
          c.min.ensures one c.in_ok-push.ensures.ok c.loop-from.invariant.rest;
    }

pub word-requires-clause-ascending : goal.word-requires-clause-ascending
word-requires-clause-ascending c = part_ascends c.loop-from.from _ c.args.atoms.now c.requires
