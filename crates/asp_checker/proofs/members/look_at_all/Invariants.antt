use Rattle.asp_member.specs.Founding.{Founds}
use Rattle.asp_checker.proofs.members.look_at_all.Given as goal

abbrev pub invariant-loop-body : goal.invariant-loop-body
invariant-loop-body l = Founds l.compiled l.initial.values l.values
