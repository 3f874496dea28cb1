use Rattle.std.proofs.Common.{◌≡◌, ℕ, ◌+◌, ◌<◌, false, ◌++◌, take, get_or, length}
use Rattle.std.specs.List.{list_any}
use Rattle.asp_compile.specs.Named.{is_at}
use Rattle.asp_compile.proofs.names.headed_alone.Given as goal

abbrev pub invariant-loop-i : goal.invariant-loop-i
invariant-loop-i l = record {
  whole : length l.marks.items ≡ length l.atoms + 1;
  each : (v : ℕ) → v < length l.atoms + 1 → get_or l.marks.items v false ≡ list_any (λ r. is_at l.atoms v r.head) (take l.i (l.rules ++ l.opened));
}
