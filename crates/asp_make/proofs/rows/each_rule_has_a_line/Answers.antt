use Rattle.std.proofs.Common.{refl}
use Rattle.std.specs.Fmt.{digits}
use Rattle.asp_make.proofs.rows.each_rule_has_a_line.Goals as goal

pub returns : goal.returns
unfolding digits
returns c = refl
