-- How many answers were heard, and which.
use Rattle.std.proofs.Common.{◌≡◌, ℕ, ◌+◌, ◌≤◌, List, ◌++◌, length, take, sym, ap, ◌∙◌, arith, length-append, length-take-le}
use Rattle.std.proofs.Math.Seq.{take-append_seam}
use mathlib.Core.List.{IsPrefix}

module _ {A : Type 0} where
  -- so many, and those that come next, are so many more
  pub taken-more : (k : ℕ) (all next : List A) → k ≤ length all → IsPrefix (take k all ++ next) all → take (k + length next) all ≡ take k all ++ next
  taken-more k all next le front =
      let count : length (take k all ++ next) ≡ k + length next = length-append (take k all) next ∙ ap (λ n. n + length next) (length-take-le k all le) in
      ap (λ n. take n all) (sym count) ∙ ap (take (length (take k all ++ next))) (sym front.1) ∙ take-append_seam (take k all ++ next) front.0

  pub counted-more : (k : ℕ) (all next : List A) → k ≤ length all → IsPrefix (take k all ++ next) all → k + length next ≤ length all
  counted-more k all next le front =
      let whole : length ((take k all ++ next) ++ front.0) ≡ length all = ap length front.1 in
      omega (arith, whole, length-append (take k all ++ next) front.0, length-append (take k all) next, length-take-le k all le)
