use Rattle.std.proofs.Common.{sym, refl, arith}
use Rattle.asp_text.proofs.Front.{one_digit}
use Rattle.asp_text.proofs.numbers.front_digits.Goals as goal

pub loop-count-preserved : goal.loop-count-preserved
loop-count-preserved c =
    let digit = c.if-not-is_ascii_digit.ensures in
    record {
      spells = one_digit c.args.text.now c.loop-count.count c.loop-count.value _ (omega arith) refl (sym digit.value) c.loop-count.invariant.spells;
      bound = omega (arith, digit.cases);
    }
