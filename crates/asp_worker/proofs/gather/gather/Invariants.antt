use Rattle.std.proofs.Common.{◌≡◌, List}
use Rattle.asp_vars.specs.Literals.{Literal}
use Rattle.asp_search_laws.specs.Searching.{Searching}
use Rattle.asp_worker.specs.Working.{Gathers}
use Rattle.asp_worker.proofs.gather.gather.Given as goal

abbrev pub invariant-steps : goal.invariant-steps
invariant-steps g l = record {
  fuel : l.engine.fuel ≡ l.initial.engine.fuel;
  read : l.engine.read ≡ l.initial.engine.read;
  gathers : (s : Searching) (q : List Literal) → Gathers s l.initial.engine.search q l.initial.found.items → Gathers s l.engine.search q l.found.items;
}
