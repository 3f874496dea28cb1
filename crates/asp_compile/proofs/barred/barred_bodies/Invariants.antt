use Rattle.std.proofs.Common.{◌≡◌, ℕ, ◌<◌, false, ◌++◌, take, get_or, length}
use Rattle.asp_compile.specs.Headed.{is_barred_at}
use Rattle.asp_compile.proofs.barred.barred_bodies.Given as goal

abbrev pub invariant-loop-i : goal.invariant-loop-i
invariant-loop-i l = record {
  whole : length l.marks.items ≡ l.count;
  each : (j : ℕ) → j < l.count → get_or l.marks.items j false ≡ is_barred_at j (take l.i l.places) (take l.i (l.rules ++ l.opened));
}
