use Rattle.std.proofs.Common.{arith}
use Rattle.asp_state.proofs.unlisted.begin_body.Goals as goal

pub begin-requires : goal.begin-requires
begin-requires c = λ k d lt. let a = c.literals.ensures.atoms k d lt in omega (arith, a.1, c.requires.vars)
