-- What each number below n gives.
use Rattle.std.proofs.Common.{◌≡◌, ℕ, ◌+◌, List, ◌++◌, add-one, refl}
use Rattle.asp_make.specs.Ring.{each_below}

-- one number more
pub each_below_more : {A : Type 0} (give : ℕ → List A) (n : ℕ) → each_below give (n + 1) ≡ each_below give n ++ give n
each_below_more give n = rw add-one refl
