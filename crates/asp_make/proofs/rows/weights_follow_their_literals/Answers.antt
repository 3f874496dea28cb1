use Rattle.std.proofs.Common.{refl}
use Rattle.std.specs.Fmt.{digits}
use Rattle.asp_make.proofs.rows.weights_follow_their_literals.Goals as goal

pub returns : goal.returns
unfolding digits
returns c = refl
