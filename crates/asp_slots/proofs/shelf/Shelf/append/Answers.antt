use Rattle.std.proofs.Common.{subst}
use Rattle.asp_log.specs.Entries.{IsEntry}
use Rattle.asp_slots.specs.declared.shelf.Shelf.{Shelf}
use Rattle.asp_slots.specs.Shelves.{program_of}
use Rattle.asp_slots.proofs.shelf.Shelf.append.Goals as goal

pub add-requires-clause-entry : goal.add-requires-clause-entry
add-requires-clause-entry g c = subst (λ (s : Shelf). IsEntry (program_of s) c.args.nogood) c.in-Row.is c.requires.entry
