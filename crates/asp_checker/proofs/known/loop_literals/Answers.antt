use Rattle.std.proofs.Common.{sym, ◌∙◌}
use Rattle.std.proofs.lemmas.Bool.{false≢true}
use Rattle.asp_checker.proofs.JudgeLaws.{loop_found}
use Rattle.asp_checker.proofs.known.loop_literals.Goals as goal

pub returns-then-not-are_atoms : goal.returns-then-not-are_atoms
returns-then-not-are_atoms c = λ h. absurd (false≢true (c.if-not-are_atoms.ensures ∙ h.0))

pub returns : goal.returns
returns c = loop_found c.args.compiled.now c.args.set.now c.args.nogood.now c.in_ok-found.found (λ v. v.items) (sym c.if-not-are_atoms.ensures) c.in_ok-found.ensures
