use Rattle.asp_source.specs.Founding.{Founds}
use Rattle.asp_source.proofs.founding.found_each.Given as goal

abbrev pub invariant-loop-var : goal.invariant-loop-var
invariant-loop-var l = Founds l.compiled l.values l.initial.sources l.initial.ranks l.initial.loose l.initial.waiting l.sources l.ranks l.loose l.waiting
