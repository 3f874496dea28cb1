-- What the tables of a program have.
use Rattle.std.specs.Prelude.{◌≡◌, ◌≢◌, ℕ, ◌+◌, ◌<◌, ◌≤◌, ◌^◌, ◌==◌, Bool, true, None, Option, List, [], length, map, replicate, slice_index_or, ℤ, pos}
use Rattle.std.specs.List.{All, Contains, list_any}
use Rattle.asp_model.specs.declared.program.Program.{Program}
use Rattle.asp_vars.specs.Numbering.{var_count}
use Rattle.asp_bound.specs.declared.place.Place.{Place}
use Rattle.asp_bound.specs.declared.place.Item.{Item}
use Rattle.asp_bound.specs.Optimism.{items_at, optimistic_at}
use Rattle.asp_bound.specs.Rises.{rise_at, raised, row_at, IsColumn}
use Rattle.asp_bound.specs.Weights.{size_of}
use Rattle.asp_bound.specs.Starts.{IsLinked, AreLinked}

abbrev pub valueless : Program → List (Option Bool)
valueless p = replicate (var_count p + 1) None

-- The rows have the places at one priority more.
pub record IsGathered (p : Program) (level : ℕ) (q : ℤ) (rows new : List (List Place)) (items : List Item) (least : ℤ) : Type 0 where
  pub count : length new ≡ length rows
  pub small : size_of (items_at p.minimize q) ≤ 2 ^ 55
  pub within : (n v : ℕ) → level < n → All (λ o. o.level < n) (row_at rows v) → All (λ o. o.level < n) (row_at new v)
  pub kept : (j v : ℕ) (b : Bool) → j ≢ level → raised (row_at new v) j b ≡ raised (row_at rows v) j b
  pub sums : (v : ℕ) (b : Bool) → 0 < v → v ≤ var_count p → raised (row_at new v) level b ≡ raised (row_at rows v) level b + rise_at p q v b
  pub column : IsColumn p q items
  pub grown : (v : ℕ) (o : Place) → Contains (row_at rows v) o → Contains (row_at new v) o
  pub linked : IsLinked new level items
  pub least_is : optimistic_at p (valueless p) q ≡ least

pub record AreGathered (p : Program) (qs : List ℤ) (rows : List (List Place)) (items : List (List Item)) (costs : List ℤ) : Type 0 where
  pub count : length rows ≡ var_count p + 1
  pub small : (j : ℕ) → j < length qs → size_of (items_at p.minimize (slice_index_or qs j (pos 0))) ≤ 2 ^ 55
  pub within : (v : ℕ) → All (λ o. o.level < length qs) (row_at rows v)
  pub sums : (j v : ℕ) (b : Bool) → j < length qs → 0 < v → v ≤ var_count p → raised (row_at rows v) j b ≡ rise_at p (slice_index_or qs j (pos 0)) v b
  pub columned : length items ≡ length qs
  pub columns : (j : ℕ) → j < length qs → IsColumn p (slice_index_or qs j (pos 0)) (slice_index_or items j [])
  pub linked : AreLinked rows items
  pub summed : costs ≡ map (optimistic_at p (valueless p)) qs

-- Each number below n whose row has places is among these.
abbrev pub HasEach : List (List Place) → ℕ → List ℕ → Type 0
HasEach rows n vars = (v : ℕ) → 0 < v → v < n → row_at rows v ≢ [] → list_any (λ x. x == v) vars ≡ true
