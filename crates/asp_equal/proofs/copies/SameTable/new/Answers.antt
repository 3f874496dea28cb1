use Rattle.asp_equal.proofs.TableLaws.{table-low}
use Rattle.asp_equal.proofs.copies.SameTable.new.Goals as goal

pub invariant_of-result : goal.invariant_of-result
invariant_of-result c = (table-low c.args.program.now c.in_ok-atoms.atoms.items c.in_ok-atoms.ensures.same, c.in_ok-atoms.ensures.most)
