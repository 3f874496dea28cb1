use Rattle.std.proofs.Common.{◌<◌, ◌^◌, length, ap, inl, arith, rules}
use Rattle.asp_read.proofs.Places.{few_in_front}
use Rattle.asp_read.proofs.error.told.Goals as goal

pub count-requires-clause-fits : goal.count-requires-clause-fits
count-requires-clause-fits c =
    let line = c.args.line.now in
    let short : length line < 2 ^ 63 = search rules in
    inl (omega (arith, ap length c.fields.ensures, few_in_front c.saturating_sub.result line, short))

pub overflow_add-result : goal.overflow_add-result
overflow_add-result c =
    let line = c.args.line.now in
    let short : length line < 2 ^ 63 = search rules in
    omega (arith, c.count.ensures.bound, ap length c.fields.ensures, few_in_front c.saturating_sub.result line, short)
