use Rattle.std.proofs.Common.{◌≡◌, ◌++◌, take, map}
use Rattle.asp_vars.specs.Numbering.{literal_of}
use Rattle.asp_vars.proofs.assumed.add_all.Given as goal

abbrev pub invariant-loop-l : goal.invariant-loop-l
invariant-loop-l l = l.lits.items ≡ l.initial.lits.items ++ map (literal_of l.compiled) (take l.l-index l.literals)
