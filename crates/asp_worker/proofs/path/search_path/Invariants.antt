use Rattle.std.proofs.Common.{◌≤◌}
use Rattle.asp_vault.specs.Seats.{view}
use Rattle.asp_slots.specs.Shelves.{seen_count}
use Rattle.asp_worker.specs.Seats.{IsReady, Keeps}
use Rattle.asp_worker.specs.Working.{IsOn}
use Rattle.asp_worker.proofs.path.search_path.Given as goal

abbrev pub invariant-steps : goal.invariant-steps
invariant-steps g l = record {
  keeps : Keeps l.initial.worker l.worker;
  ready : IsReady l.shared l.worker;
  on : IsOn l.shared.mode (view l.worker.seat) l.engine.search l.engine.fuel l.leaf;
  read : l.engine.read ≤ seen_count l.worker.pages;
  heard : g.W.Watch.IsAfter l.initial.watch l.watch;
}
