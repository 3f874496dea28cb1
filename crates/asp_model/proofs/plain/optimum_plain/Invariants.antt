use Rattle.std.proofs.Common.{◌≡◌, fold, length, None}
use Rattle.asp_model.specs.Sets.{subsets}
use Rattle.asp_model.specs.Models.{atoms_of}
use Rattle.asp_model.specs.Walks.{better_of}
use Rattle.asp_model.proofs.plain.optimum_plain.Given as goal

abbrev pub invariant-sets : goal.invariant-sets
invariant-sets l = fold (better_of l.program) l.best l.subsets ≡ fold (better_of l.program) None (subsets (atoms_of l.program))

abbrev pub decreases-sets : goal.decreases-sets
decreases-sets l = length l.subsets
