use Rattle.std.proofs.Common.{◌≡◌, ℕ, true, ◌<◌, get_or, ◌⊎◌}
use Rattle.asp_found.specs.Marks.{is_marked}
use Rattle.asp_stable.proofs.derive.derive_all.Given as goal

abbrev pub invariant-loop-var : goal.invariant-loop-var
invariant-loop-var l =
    (v : ℕ) → is_marked l.marks v ≡ true → (is_marked l.initial.marks v ≡ true) ⊎ ((k : ℕ) × (k < l.var-index) × (get_or l.heads k 0 ≡ v))
