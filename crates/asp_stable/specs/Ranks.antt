-- Ranks of atoms that no positive loop stands below.
use Rattle.std.specs.Prelude.{◌≡◌, ℕ, ◌<◌, ◌≤◌, true, All, List, length, slice_index}
use Rattle.asp_model.specs.declared.program.Program.{Program}
use Rattle.asp_model.specs.Sets.{has}
use Rattle.asp_vars.specs.Literals.{Literal}
use Rattle.asp_vars.specs.Numbering.{bodies_of, nth_body}
use Rattle.asp_vars.specs.Tabled.{form_literals, heads_of}

-- Each positive literal has a rank, up to the top.
abbrev pub AreUpTo : List ℕ → ℕ → List Literal → Type 0
AreUpTo ranks top lits = All (λ l. l.truth ≡ true → (0 < slice_index ranks l.var) × (slice_index ranks l.var ≤ top)) lits

-- The heads that have a rank have one above those of all positive literals, and each of these has one.
abbrev pub IsRanked : Program → List ℕ → ℕ → Type 0
IsRanked p ranks j =
    (v : ℕ) → has (heads_of p (nth_body p j)) v ≡ true → 0 < slice_index ranks v →
    All (λ l. l.truth ≡ true → (0 < slice_index ranks l.var) × (slice_index ranks l.var < slice_index ranks v)) (form_literals p (nth_body p j))

abbrev pub AreRanks : Program → List ℕ → Type 0
AreRanks p ranks = (j : ℕ) → j < length (bodies_of p) → IsRanked p ranks j
