-- How a search is paced.
use Rattle.std.specs.Prelude.{ℕ, ◌≤◌}

-- How often the search restarted, how many nogoods it learnt since, how often it reduced them, and how many that may be dropped are
-- never many, and not yet many.
pub record Paced : Type 0 where
  pub restarts : ℕ
  pub learnt : ℕ
  pub reductions : ℕ
  pub few : ℕ
  pub crowd : ℕ

-- what every pace keeps: between 64 and 1,000,000 nogoods are waited for
pub record IsPaced (wait : ℕ) : Type 0 where
  pub least : 64 ≤ wait
  pub most : wait ≤ 1000000
