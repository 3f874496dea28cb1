-- What a search takes over from the others.
use Rattle.std.specs.Prelude.{◌≡◌, ◌⊎◌, ℕ, nat_lt, Bool, true, false, if◌then◌else◌, List, [], ◌∷◌, Option, None, Some, ℤ, MatchBool, option_map}
use Rattle.asp_model.specs.declared.results.Mode.{Mode}
use Rattle.asp_model.specs.declared.results.Mode.TheVariants as mode
use Rattle.asp_model.specs.declared.results.Reasoning.{Reasoning}
use Rattle.asp_model.specs.Consequences.{common_sets}
use Rattle.asp_model.specs.Costs.{betters, cost}
use Rattle.asp_vars.specs.declared.nogood.Nogood.{Nogood}
use Rattle.asp_vars.specs.Knowing.{Knowing}
use Rattle.asp_core.specs.Boards.{Board, showing_of}
use Rattle.asp_search.specs.Beside.{Adopts, Imports, count_unshown, left_to_show}
use Rattle.asp_search_laws.specs.Searching.{Searching}
use Rattle.asp_search_laws.specs.Steps.{is_of_use}
use Rattle.asp_slots.specs.declared.shelf.ShelfSeat.{ShelfSeat}
use Rattle.asp_slots.specs.Shelves.{AreRead}

-- Whether the cost is smaller than the bound, if one stands.
abbrev pub is_smaller : List ℤ → Option (List ℤ) → Bool
is_smaller c None = true
is_smaller c (Some d) = betters c d

-- the search with the cost as its bound, where that is smaller
abbrev pub lowered : Searching → List ℤ → Searching
lowered s c = if is_smaller c s.bound then record s { bound = Some c } else s

abbrev pub lowered_by : Option (List ℤ) → Searching → Searching
lowered_by None s = s
lowered_by (Some c) s = lowered s c

-- Whether there are answers that leave fewer atoms to be shown than a search has to show. Any number is fewer where it knows no answer.
abbrev pub is_fewer : Option ℕ → Option ℕ → Bool
is_fewer None left = false
is_fewer (Some n) None = true
is_fewer (Some n) (Some left) = nat_lt n left

-- What these answers have in common is taken over, exactly where they leave fewer atoms to be shown than those that the search knows.
abbrev pub TakesKnown : Searching → Searching → Knowing → Type 0
TakesKnown s t x = MatchBool (is_fewer (count_unshown x.reasoning x.program x.sets) (left_to_show s)) (Adopts s t x.sets) (t ≡ s)

-- Whether an answer was delivered, and those delivered leave fewer atoms to be shown than those that the search knows.
abbrev pub show_more : Reasoning → Board → Searching → Bool
show_more r b s = is_fewer (count_unshown r b.task.program (showing_of b)) (left_to_show s)

-- In an optimisation the cost of the best is taken over; where consequences are sought what the answers delivered have in common, exactly
-- where they show more than the search knows.
abbrev pub TakesBest : Mode → Board → Searching → Searching → Type 0
TakesBest mode.Enum b s t = t ≡ s
TakesBest mode.Opt b s t = t ≡ lowered_by (option_map (cost b.task.program) b.best) s
TakesBest (mode.Consequences r) b s t = MatchBool (show_more r b s) (Adopts s t (common_sets r b.task.program (showing_of b))) (t ≡ s)

-- The nogood was imported, where it counts for the search.
abbrev pub ImportsIf : Searching → Searching → Nogood → Type 0
ImportsIf s t n = MatchBool (is_of_use s.mode s.bound n.base) (Imports s t n) (t ≡ s)

-- One after another, those of the nogoods that count were imported.
abbrev pub ImportsAll : List Nogood → Searching → Searching → Type 0
ImportsAll [] s t = t ≡ s
ImportsAll (n ∷ nogoods) s t = (r : Searching) × ImportsIf s r n × ImportsAll nogoods r t

-- Those of the entries that count were imported which the seat has seen from a position on.
pub record ImportsNew (pages : ShelfSeat) (from : ℕ) (s t : Searching) : Type 0 where
  pub entries : List Nogood
  pub read : AreRead s.program pages from entries
  pub imported : ImportsAll entries s t

-- The best cost or the answers delivered, and then the entries that count, were taken over: also those that count by this cost alone.
pub record TakesOver (m : Mode) (b : Board) (pages : ShelfSeat) (from : ℕ) (s t : Searching) : Type 0 where
  pub between : Searching
  pub best : TakesBest m b s between
  pub imported : ImportsNew pages from between t

-- After want of memory the search may be on no path, but knows what it knew.
pub record Remembers (s t : Searching) : Type 0 where
  pub program : t.program ≡ s.program
  pub mode_is : t.mode ≡ s.mode
  pub known : t.known ≡ s.known
  pub bound : t.bound ≡ s.bound

-- The same, where the best cost or the answers delivered may have been taken over before.
abbrev pub RemembersAll : Mode → Board → Searching → Searching → Type 0
RemembersAll m b s t = Remembers s t ⊎ ((r : Searching) × TakesBest m b s r × Remembers r t)
