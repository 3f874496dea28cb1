use Rattle.std.proofs.Common.{◌≤◌}
use Rattle.asp_vault.specs.Seats.{view}
use Rattle.asp_slots.specs.Shelves.{seen_count}
use Rattle.asp_worker.specs.Seats.{IsReady, Keeps, Holds}
use Rattle.asp_worker.specs.Working.{GoesOn}
use Rattle.asp_worker.proofs.work.search_paths.Given as goal

abbrev pub invariant-paths : goal.invariant-paths
invariant-paths g l = record {
  keeps : Keeps l.initial.worker l.worker;
  ready : IsReady l.shared l.worker;
  held : Holds (view l.worker.seat) l.leaf;
  going : GoesOn l.shared.mode (view l.worker.seat) l.engine.search l.engine.fuel;
  read : l.engine.read ≤ seen_count l.worker.pages;
  heard : g.W.Watch.IsAfter l.initial.watch l.watch;
}
