use Rattle.asp_source.specs.Founding.{Founds}
use Rattle.asp_source.proofs.founding.spread_from.Given as goal

abbrev pub invariant-loop-occurrence : goal.invariant-loop-occurrence
invariant-loop-occurrence l = Founds l.compiled l.values l.initial.sources l.initial.ranks l.initial.loose l.initial.waiting l.sources l.ranks l.loose l.waiting
