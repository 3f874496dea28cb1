use Rattle.std.proofs.Common.{◌≡◌, ◌≤◌, ◌<◌, true, take}
use Rattle.std.specs.List.{All}
use Rattle.asp_vars.specs.Literals.{Literal, has_literal}
use Rattle.asp_analyze.specs.Way.{level_unless}
use Rattle.asp_analyze.proofs.levels.level_beside.Given as goal

abbrev pub invariant-loop-k : goal.invariant-loop-k
invariant-loop-k l = record {
  below : All (λ k. level_unless l.trail.entries l.lit k ≤ l.level) (take l.k-index l.lits);
  attained : 0 < l.level → (k : Literal) × (has_literal l.lits k ≡ true) × (level_unless l.trail.entries l.lit k ≡ l.level);
}
