use Rattle.std.proofs.Common.{◌≡◌, map, take}
use Rattle.asp_search_laws.specs.Steps.{unshown_literal}
use Rattle.asp_search.proofs.covering.all_unshown.Given as goal

abbrev pub invariant-loop-atom : goal.invariant-loop-atom
invariant-loop-atom l = l.lits ≡ map (unshown_literal l.reasoning l.compiled) (take l.atom-index l.atoms)
