-- Places in lists.
use Rattle.std.specs.Prelude.{ℕ, suc, ◌==◌, List, Option, Some, None, if◌then◌else◌}
use Rattle.asp_model.specs.Sets.{has}
use Rattle.asp_vars.specs.Numbering.{place_of}

-- the place of an atom in a list, counted from 1
abbrev pub place_in : List ℕ → ℕ → Option ℕ
place_in atoms a = if has atoms a then Some (suc (place_of (λ b. b == a) atoms)) else None
