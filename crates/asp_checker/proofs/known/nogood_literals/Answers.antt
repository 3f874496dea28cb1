use Rattle.asp_checker.proofs.JudgeLaws.{nogood_found}
use Rattle.asp_checker.proofs.known.nogood_literals.Goals as goal

pub returns : goal.returns
returns c = nogood_found c.args.compiled.now c.as_slice-literals.result.now c.args.nogood.now c.in_ok-found.found (λ v. v.items) c.as_slice-literals.ensures.value c.in_ok-found.ensures
