use Rattle.std.proofs.Common.{length, ap, arith}
use Rattle.asp_model.proofs.StoredLaws.{length-rules_of}
use Rattle.asp_model.proofs.rules.Rules.len.Goals as goal

pub returns : goal.returns
returns c = omega (arith, c.len.ensures, length-rules_of c.self.inside.extras c.self.inside.marks.items c.self.inside.literals c.self.invariant, ap length c.self.view_is)
