-- The counters of weight bodies, and the queue of those to be looked at.
use Rattle.std.specs.Prelude.{◌≡◌, ℕ, ◌+◌, ◌-◌, ◌<◌, ◌≤◌, ◌^◌, ◌==◌, Bool, true, false, not, if◌then◌else◌, List, fold, length, count_by, sum_by, slice_index, slice_index_or, slice_set}
use Rattle.std.specs.List.{All}
use Rattle.std.specs.Bool.{beq}
use Rattle.asp_weight.specs.declared.tally.Tally.{Tally}
use Rattle.asp_weight.specs.declared.item.Place.{Place}

pub record Tallied : Type 0 where
  pub tallies : List Tally
  pub queue : List ℕ

abbrev pub fresh : Tally
fresh = record { reached = 0; missed = 0; start = 0; queued = true }

abbrev pub tally_at : List Tally → ℕ → Tally
tally_at ts w = slice_index_or ts w (record { reached = 0; missed = 0; start = 0; queued = false })

-- Each body that is marked stands once in the queue, and no other does.
pub record IsQueue (tallies : List Tally) (queue : List ℕ) (room : ℕ) : Type 0 where
  pub counted : length queue ≡ count_by (λ t. t.queued) tallies
  pub listed : (w : ℕ) → count_by (λ q. q == w) queue ≡ (if (tally_at tallies w).queued then 1 else 0)
  pub fits : length tallies ≤ room

abbrev pub raised : Bool → ℕ → Tally → Tally
raised true n t = record { reached = t.reached + n; missed = t.missed; start = t.start; queued = true }
raised false n t = record { reached = t.reached; missed = t.missed + n; start = t.start; queued = true }

-- The variable may stand anywhere in the row.
abbrev pub lowered : Bool → ℕ → Tally → Tally
lowered true n t = record { reached = t.reached - n; missed = t.missed; start = 0; queued = true }
lowered false n t = record { reached = t.reached; missed = t.missed - n; start = 0; queued = true }

-- a literal got the value, or lost it
abbrev pub raise : Bool → List Tally → Place → List Tally
raise truth ts o = slice_set ts o.body (raised (beq o.truth truth) o.weight (tally_at ts o.body))

abbrev pub lower : Bool → List Tally → Place → List Tally
lower truth ts o = slice_set ts o.body (lowered (beq o.truth truth) o.weight (tally_at ts o.body))

abbrev pub raise_all : Bool → List Tally → List Place → List Tally
raise_all truth ts places = fold (raise truth) ts places

abbrev pub lower_all : Bool → List Tally → List Place → List Tally
lower_all truth ts places = fold (lower truth) ts places

abbrev pub settled : ℕ → List Tally → List Tally
settled w ts = slice_set ts w (record { reached = (tally_at ts w).reached; missed = (tally_at ts w).missed; start = (tally_at ts w).start; queued = false })

-- The next look at the body begins at that item.
abbrev pub begin : ℕ → ℕ → List Tally → List Tally
begin w n ts = slice_set ts w (record { reached = (tally_at ts w).reached; missed = (tally_at ts w).missed; start = n; queued = (tally_at ts w).queued })

-- the body that was queued last
abbrev pub newest : List ℕ → ℕ
newest queue = slice_index queue (length queue - 1)

-- ---- what the places of a variable say of a body
abbrev pub weight_in : ℕ → Bool → Place → ℕ
weight_in w truth o = if o.body == w then (if beq o.truth truth then o.weight else 0) else 0

abbrev pub sum_in : ℕ → Bool → List Place → ℕ
sum_in w truth places = sum_by (weight_in w truth) places

abbrev pub sum_for : Bool → Tally → ℕ
sum_for true t = t.reached
sum_for false t = t.missed

-- No sum grows past 64 bits.
pub record CanRaise (truth : Bool) (ts : List Tally) (places : List Place) : Type 0 where
  pub within : All (λ o. o.body < length ts) places
  pub reached : (w : ℕ) → w < length ts → (tally_at ts w).reached + sum_in w truth places < 2 ^ 64
  pub missed : (w : ℕ) → w < length ts → (tally_at ts w).missed + sum_in w (not truth) places < 2 ^ 64

-- No sum falls below 0.
pub record CanLower (truth : Bool) (ts : List Tally) (places : List Place) : Type 0 where
  pub within : All (λ o. o.body < length ts) places
  pub reached : (w : ℕ) → w < length ts → sum_in w truth places ≤ (tally_at ts w).reached
  pub missed : (w : ℕ) → w < length ts → sum_in w (not truth) places ≤ (tally_at ts w).missed
