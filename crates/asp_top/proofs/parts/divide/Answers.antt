use Rattle.std.proofs.Common.{inr}
use Rattle.asp_top.proofs.parts.divide.Goals as goal

pub returns-in-Ok-clause-divides : goal.returns-in-Ok-clause-divides
returns-in-Ok-clause-divides g c = inr (c.in-Ok.text.items, c.in-Ok.ensures, rw c.as_slice.ensures.value at c.hand_out.ensures.hands)
