-- What a trail is, and what every trail keeps.
use Rattle.std.specs.Prelude.{◌≡◌, ◌≢◌, ℕ, ◌+◌, ◌<◌, ◌≤◌, Bool, List, length, Option, None, slice_index, slice_index_or, count_by}
use Rattle.std.specs.List.{All, AllPairs}
use Rattle.std.specs.Option.{is_none}
use Rattle.asp_trail.specs.declared.trail.Entry.{Entry}
use Rattle.asp_trail.specs.Entries.{assignment}
pub use Rattle.asp_vars.specs.Numbering.{IsVar}

-- Variables are 1 to vars; a caller has looked at the first entries, and there is memory for so many in all.
pub record Trailed : Type 0 where
  pub vars : ℕ
  pub entries : List Entry
  pub seen : ℕ
  pub room : ℕ

pub record IsTrail (vars : ℕ) (entries : List Entry) (values : List (Option Bool)) (places levels : List ℕ) (seen : ℕ) : Type 0 where
  pub values_are : values ≡ assignment vars entries
  pub sized : length values ≡ vars + 1
  pub placed : length places ≡ vars + 1
  pub leveled : length levels ≡ vars + 1
  pub places_are : (i : ℕ) (d : Entry) → i < length entries → slice_index places (slice_index_or entries i d).lit.var ≡ i
  pub levels_are : (i : ℕ) (d : Entry) → i < length entries → slice_index levels (slice_index_or entries i d).lit.var ≡ (slice_index_or entries i d).level
  pub within : All (λ e. IsVar vars e.lit.var) entries
  pub rising : AllPairs (λ e f. e.level ≤ f.level) entries
  pub steps : (i : ℕ) (d : Entry) → i < length entries → (slice_index_or entries i d).level ≤ i + 1
  pub decided : (i j : ℕ) (d : Entry) → i < j → j < length entries → (slice_index_or entries j d).reason ≡ None →
      (slice_index_or entries i d).level ≡ (slice_index_or entries j d).level → (slice_index_or entries j d).level ≡ 0
  pub counted : length entries + count_by is_none values ≡ vars + 1
  pub begun : seen ≤ length entries

-- What every trail's entries keep: no variable has two, no level is below an earlier one, and above level 0 only the first
-- entry of a level wasn't implied.
pub record IsOrdered (vars : ℕ) (entries : List Entry) : Type 0 where
  pub within : All (λ e. IsVar vars e.lit.var) entries
  pub apart : AllPairs (λ e f. e.lit.var ≢ f.lit.var) entries
  pub rising : AllPairs (λ e f. e.level ≤ f.level) entries
  pub decided : (i j : ℕ) (d : Entry) → i < j → j < length entries → (slice_index_or entries j d).reason ≡ None →
      (slice_index_or entries i d).level ≡ (slice_index_or entries j d).level → (slice_index_or entries j d).level ≡ 0
