use Rattle.std.proofs.Common.{◌<◌, length}
use Rattle.std.specs.List.{All}
use Rattle.asp_bound.specs.Gathered.{HasEach}
use Rattle.asp_bound.proofs.NeededLaws.{IsCounted}
use Rattle.asp_bound.proofs.levels.vars_of.Given as goal

abbrev pub invariant-loop-var : goal.invariant-loop-var
invariant-loop-var l = record {
  within : All (λ v. (0 < v) × (v < length l.rows)) l.vars.items;
  whole : HasEach l.rows l.var l.vars.items;
  counted : IsCounted l.vars.items l.var;
}
