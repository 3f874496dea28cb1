use Rattle.std.proofs.Common.{◌≡◌, [], ◌++◌, map, take, get_or}
use Rattle.std.proofs.Math.ListN.{set}
use Rattle.asp_vars.specs.Numbering.{var_in}
use Rattle.asp_compile.proofs.heads.add_atoms.Given as goal

abbrev pub invariant-loop-atom : goal.invariant-loop-atom
invariant-loop-atom l = l.heads ≡ set l.initial.heads l.body (get_or l.initial.heads l.body [] ++ map (var_in l.atoms) (take l.atom-index l.more))
