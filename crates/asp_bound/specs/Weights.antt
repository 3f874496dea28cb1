-- The weights of all literals, by their codes.
use Rattle.std.specs.Prelude.{◌≡◌, ℕ, ◌+◌, ◌*◌, ◌<◌, List, length, sum_by, slice_index_or, ℤ, pos}
use Rattle.std.specs.Int.RustNames.{unsigned_abs}
use Rattle.asp_model.specs.declared.program.Program.{Program}
use Rattle.asp_model.specs.Models.{atoms_of}
use Rattle.asp_vars.specs.Codes.{literal_of}
use Rattle.asp_vars.specs.Numbering.{var_count}
use Rattle.asp_bound.specs.Optimism.{weight_in}

-- what the weights come to, each without its sign
abbrev pub size_of : List (ℤ × ℤ) → ℕ
size_of items = sum_by (λ i. unsigned_abs i.1) items

pub record AreWeights (p : Program) (items : List (ℤ × ℤ)) (weights : List ℤ) : Type 0 where
  pub count : length weights ≡ 2 * var_count p + 2
  pub each : (c : ℕ) → c < 2 * var_count p + 2 → slice_index_or weights c (pos 0) ≡ weight_in (atoms_of p) items (literal_of c)
