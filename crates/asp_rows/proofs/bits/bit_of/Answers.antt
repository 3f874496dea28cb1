use Rattle.std.proofs.Common.{Err}
use Rattle.asp_model.proofs.SetLaws.{place_found}
use Rattle.asp_rows.proofs.bits.bit_of.Goals as goal

pub returns-in-Err-clause-none : goal.returns-in-Err-clause-none
returns-in-Err-clause-none c = λ _. (place_found c.args.atoms.now c.args.atom (Err c.in-Err.field-0) c.requires c.in-Err.ensures.position).absent
