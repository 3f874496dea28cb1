-- What a clause says of a pool and its passes.
use Rattle.std.specs.Prelude.{◌≡◌, ℕ, ◌<◌, ◌≤◌, List, [], length, map, false}
use mathlib.Core.Option.{some}
use lib.ListN.{get_elem?}
use Rattle.crossbeam_deque.specs.Handles.{view, taken, IsPassOf, stealer_deque, worker_deque}
use Rattle.asp_pool.specs.declared.once.Share.{Share}
use Rattle.asp_pool.specs.declared.lane.Lane.{Lane}
use Rattle.asp_pool.specs.declared.pool.Pool.{Pool}
use Rattle.asp_pool.specs.declared.pool.Pass.{Pass}
use Rattle.asp_pool.specs.declared.pool.Stolen.{Stolen}
use Rattle.asp_pool.specs.declared.pool.Stolen.TheVariants.{Got, Empty, Again}
use Rattle.asp_pool.specs.Lists.{Every, Pairs}
use Rattle.asp_pool.specs.Once.{share, joined, IsUnique, IsOffered}
use Rattle.asp_pool.specs.Lanes.{lane_share, lane_sent, lane_got}

-- how many lanes the pool has
abbrev pub lane_count : Pool → ℕ
lane_count pool = length pool.thieves.items

-- the pass is of this pool: it has a seat at each of its lanes
abbrev pub IsOfPool : Pool → Pass → Type 0
IsOfPool pool pass = Pairs (λ thief seat. IsPassOf (stealer_deque thief) seat) pool.thieves.items pass.seats.items

-- the pool's lanes are these, in their order
abbrev pub Serves : Pool → List Lane → Type 0
Serves pool lanes = Pairs (λ thief lane. stealer_deque thief ≡ worker_deque lane.worker) pool.thieves.items lanes

-- what the pass knows of each lane
abbrev pub pass_shares : Pass → List Share
pass_shares pass = map view pass.seats.items

-- how many leaves the pass knows to have left each lane
abbrev pub pass_counts : Pass → List ℕ
pass_counts pass = map taken pass.seats.items

-- the pass's count of the leaves taken from the lane rose
abbrev pub Rises : ℕ → Pass → Pass → Type 0
Rises lane old new = (before after : ℕ) × (get_elem? (pass_counts old) lane ≡ some before) × (get_elem? (pass_counts new) lane ≡ some after) × (before < after)

-- it has taken nothing
abbrev pub IsFresh : Pass → Type 0
IsFresh pass = Every (λ v. v ≡ share false [] []) (pass_shares pass)

-- nothing was offered or taken
abbrev pub IsFreshLane : Lane → Type 0
IsFreshLane lane = (lane_sent lane ≡ []) × (lane_got lane ≡ [])

abbrev pub MatchStolen : Stolen → (ℕ → Type 0) → Type 0 → Type 0 → Type 0
MatchStolen (Got leaf) P Q R = P leaf
MatchStolen Empty P Q R = Q
MatchStolen Again P Q R = R

-- each lane from n on was handed what the pass knows of it too, no place twice, and at each place the leaf that was offered there
abbrev pub HasJoined : ℕ → List Lane → List Lane → List Share → Type 0
HasJoined n old new shares = (k : ℕ) (before after : Lane) (v : Share) → n ≤ k → get_elem? old k ≡ some before → get_elem? new k ≡ some after → get_elem? shares k ≡ some v
    → (lane_share after ≡ joined (lane_share before) v) × IsUnique (lane_got after) × IsOffered (lane_sent after) (lane_got after)
