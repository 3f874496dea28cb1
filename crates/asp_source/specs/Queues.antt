-- A queue of numbers.
use Rattle.std.specs.Prelude.{◌≡◌, ℕ, ◌≤◌, ◌==◌, Bool, List, if◌then◌else◌, length, count_by}
use Rattle.asp_source.specs.Marks.{is_marked}

-- Each number that is marked stands once in the queue, and no other does.
pub record IsQueue (marks : List Bool) (queue : List ℕ) (room : ℕ) : Type 0 where
  pub counted : length queue ≡ count_by (λ b. b) marks
  pub listed : (w : ℕ) → count_by (λ q. q == w) queue ≡ (if is_marked marks w then 1 else 0)
  pub fits : length marks ≤ room
