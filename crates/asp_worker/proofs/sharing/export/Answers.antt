use Rattle.std.proofs.Common.{Option, subst}
use Rattle.std.specs.Option.{IfSome}
use Rattle.asp_vars.specs.declared.nogood.Nogood.{Nogood}
use Rattle.asp_search.specs.Beside.{IsShared}
use Rattle.asp_slots.proofs.ShelfLaws.{at-on}
use Rattle.asp_worker.proofs.SharingLaws.{log-entry}
use Rattle.asp_worker.proofs.sharing.export.Goals as goal

pub append-told-requires-clause-entry : goal.append-told-requires-clause-entry
append-told-requires-clause-entry g c = log-entry c.args.shared.now.log c.args.search.now.program c.in-Ok-Some.nogood c.requires.program
    (subst (λ (x : Option Nogood). IfSome x (IsShared c.args.search.now.program)) c.in-Ok-Some.field-0-is c.in-Ok-Some.ensures.shared)

pub append-told-requires-clause-at : goal.append-told-requires-clause-at
append-told-requires-clause-at g c = at-on c.args.shared.now.log c.args.pages.now c.is_full.new.seat c.requires.at c.is_full.ensures.reads
