use Rattle.std.proofs.Common.{◌≡◌, ℕ, ◌<◌, [], ◌++◌, map, take, get_or, length}
use Rattle.asp_vars.specs.Numbering.{var_in}
use Rattle.asp_compile.specs.Headed.{heads_at}
use Rattle.asp_compile.proofs.heads.head_rows.Given as goal

abbrev pub invariant-loop-i : goal.invariant-loop-i
invariant-loop-i l = record {
  whole : length l.heads ≡ l.count;
  rows : (j : ℕ) → j < l.count → get_or l.heads j [] ≡ map (var_in l.atoms) (heads_at j (take l.i l.places) (take l.i (l.rules ++ l.opened)));
}
