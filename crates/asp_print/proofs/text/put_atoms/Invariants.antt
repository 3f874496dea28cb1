use Rattle.std.proofs.Common.{drop, ◌∷◌, flat_map}
use Rattle.std.specs.Prelude.{decimal}
use Rattle.asp_buffer.specs.Out.{out}
use Rattle.asp_buffer.proofs.OutLaws.{Midway}
use Rattle.asp_print.proofs.text.put_atoms.Given as goal

abbrev pub invariant-loop-atom : goal.invariant-loop-atom
invariant-loop-atom g l =
    Midway (out (g.K.Sink.held l.initial.sink) (g.K.Sink.faults l.initial.sink) l.initial.waiting)
    (out (g.K.Sink.held l.sink) (g.K.Sink.faults l.sink) l.waiting)
    (flat_map (λ q. 32 ∷ decimal q) l.atoms) (flat_map (λ q. 32 ∷ decimal q) (drop l.atom-index l.atoms))
