use Rattle.std.proofs.Common.{drop, false, map}
use Rattle.std.specs.Fmt.{signed_decimal}
use Rattle.asp_buffer.specs.Out.{out}
use Rattle.asp_buffer.proofs.OutLaws.{Midway}
use Rattle.asp_json.specs.Commas.{commas}
use Rattle.asp_json.proofs.lists.put_each_sum.Given as goal

abbrev pub invariant-loop-sum : goal.invariant-loop-sum
invariant-loop-sum g l =
    Midway (out (g.K.Sink.held l.initial.sink) (g.K.Sink.faults l.initial.sink) l.initial.waiting)
    (out (g.K.Sink.held l.sink) (g.K.Sink.faults l.sink) l.waiting)
    (commas false (map signed_decimal l.sums)) (commas l.any (map signed_decimal (drop l.sum-index l.sums)))
