use Rattle.std.proofs.Common.{sym, subst}
use Rattle.asp_model.specs.Sets.{IsAscending}
use Rattle.asp_model.proofs.ConsequenceLaws.{filtered-ascends, unshown-ascends}
use Rattle.asp_vars.specs.Stored.{sets_by}
use Rattle.asp_vars.proofs.known.Known.into_set.Goals as goal

pub from_ascending-rest-requires : goal.from_ascending-rest-requires
from_ascending-rest-requires c =
    let i = c.self.inside in
    subst IsAscending (sym c.self.invariant) (unshown-ascends i.reasoning i.program.value (sets_by i.some i.reasoning i.program.value i.unshown.items))

pub from_ascending-requires : goal.from_ascending-requires
from_ascending-requires c = filtered-ascends _ c.args.self.program c.others.result.items c.args.atoms.items c.others.ensures c.requires
