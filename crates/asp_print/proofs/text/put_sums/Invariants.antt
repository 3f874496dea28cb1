use Rattle.std.proofs.Common.{drop, ◌∷◌, flat_map}
use Rattle.std.specs.Fmt.{signed_decimal}
use Rattle.asp_buffer.specs.Out.{out}
use Rattle.asp_buffer.proofs.OutLaws.{Midway}
use Rattle.asp_print.proofs.text.put_sums.Given as goal

abbrev pub invariant-loop-sum : goal.invariant-loop-sum
invariant-loop-sum g l =
    Midway (out (g.K.Sink.held l.initial.sink) (g.K.Sink.faults l.initial.sink) l.initial.waiting)
    (out (g.K.Sink.held l.sink) (g.K.Sink.faults l.sink) l.waiting)
    (flat_map (λ q. 32 ∷ signed_decimal q) l.sums) (flat_map (λ q. 32 ∷ signed_decimal q) (drop l.sum-index l.sums))
