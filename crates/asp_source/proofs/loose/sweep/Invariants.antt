use Rattle.asp_source.proofs.FoundLaws.{Sweeping}
use Rattle.asp_source.proofs.loose.sweep.Given as goal

abbrev pub invariant-loop-place : goal.invariant-loop-place
invariant-loop-place l = Sweeping l.compiled l.values l.initial.sources l.initial.ranks l.initial.loose l.initial.waiting l.sources l.ranks l.loose l.waiting l.places l.place-index l.dropped
