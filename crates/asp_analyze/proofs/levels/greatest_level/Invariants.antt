use Rattle.std.proofs.Common.{◌≡◌, ◌≤◌, ◌<◌, true, take}
use Rattle.std.specs.List.{All}
use Rattle.asp_vars.specs.Literals.{Literal, has_literal}
use Rattle.asp_trail.specs.Entries.{level_in}
use Rattle.asp_analyze.proofs.levels.greatest_level.Given as goal

abbrev pub invariant-loop-k : goal.invariant-loop-k
invariant-loop-k l = record {
  below : All (λ k. level_in l.trail.entries k.var ≤ l.level) (take l.k-index l.lits);
  attained : 0 < l.level → (k : Literal) × (has_literal l.lits k ≡ true) × (level_in l.trail.entries k.var ≡ l.level);
}
