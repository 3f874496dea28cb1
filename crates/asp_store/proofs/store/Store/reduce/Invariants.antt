use Rattle.asp_store.specs.Keeping.{Thins}
use Rattle.asp_store.specs.Storing.{Loses}
use Rattle.asp_store.proofs.store.Store.reduce.Given as goal

abbrev pub invariant-loop-i : goal.invariant-loop-i
invariant-loop-i l = record { loses : Loses l.fn.self l.self; thins : Thins l.fn.self.slots l.self.slots }
