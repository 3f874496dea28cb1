use Rattle.asp_checker.specs.Lines.{stock, all_of}
use Rattle.asp_checker.specs.Sweeps.{open_count}
use Rattle.asp_checker.specs.Blocks.{known_with, Extends}
use Rattle.asp_checker.proofs.close.close.Given as goal

abbrev pub invariant-steps : goal.invariant-steps
invariant-steps l = Extends l.compiled (all_of (stock (known_with l.compiled l.listed l.rows l.bound) l.placed)) l.initial.values l.values

abbrev pub decreases-steps : goal.decreases-steps
decreases-steps l = open_count l.values
