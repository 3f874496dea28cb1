-- Where the completion was at fixpoint.
use Rattle.std.specs.Prelude.{◌≡◌, ℕ, ◌<◌, List, length, take, None, IsTrue, slice_index_or}
use Rattle.std.specs.List.{AllByRecursion}
use Rattle.asp_vars.specs.Literals.{Literal}
use Rattle.asp_trail.specs.declared.trail.Entry.{Entry}
use Rattle.asp_trail.specs.Entries.{assignment}
use Rattle.asp_trail.specs.Fixpoint.{is_at_fixpoint}

-- None of these nogoods is unit or violated.
abbrev pub AreAtFixpoint : ℕ → List (List Literal) → List Entry → Type 0
AreAtFixpoint vars nogoods entries = AllByRecursion (λ n. IsTrue (is_at_fixpoint (assignment vars entries) n)) nogoods

-- It was so before each decision.
abbrev pub WereAtFixpoint : ℕ → List (List Literal) → List Entry → Type 0
WereAtFixpoint vars nogoods entries =
    (i : ℕ) (d : Entry) → i < length entries → (slice_index_or entries i d).reason ≡ None → 0 < (slice_index_or entries i d).level →
    AreAtFixpoint vars nogoods (take i entries)
