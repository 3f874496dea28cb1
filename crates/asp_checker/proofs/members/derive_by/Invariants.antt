use Rattle.asp_member.specs.Founding.{Founds}
use Rattle.asp_checker.proofs.members.derive_by.Given as goal

abbrev pub invariant-loop-pass : goal.invariant-loop-pass
invariant-loop-pass l = Founds l.compiled l.initial.values l.values
