use Rattle.std.proofs.Common.{sym, subst}
use Rattle.asp_split.specs.Parts.{AreStanding}
use Rattle.asp_split.proofs.CubeLaws.{first_whole}
use Rattle.asp_split.proofs.cubes.first_leaf.Goals as goal

pub place-requires-clause-stand : goal.place-requires-clause-stand
place-requires-clause-stand g c = subst (AreStanding c.args.compiled.now) (sym c.empty.ensures) tt

pub returns-clause-first : goal.returns-clause-first
returns-clause-first g c =
    first_whole c.args.compiled.now c.new-leaves.result.items c.place.new.leaves.items c.empty.result c.new-leaves.ensures.items c.empty.ensures c.in_ok-place.ensures.placed c.in_ok-place.ensures.few
