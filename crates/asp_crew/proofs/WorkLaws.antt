-- What is left to do falls with each step.
use Rattle.std.proofs.Common.{ℕ, ◌+◌, ◌-◌, ◌*◌, ◌^◌, ◌<◌, ◌≤◌, arith}
use Rattle.std.proofs.Math.Nat.{mul-le-mul_left}
use Rattle.asp_crew.specs.Running.{work}

-- The number whose first digit is smaller is smaller.
digits : (x y w r s : ℕ) → x < y → r < w → x * w + r < y * w + s
digits x y w r s less small = omega (arith, mul-le-mul_left w (let up : x + 1 ≤ y = omega arith in up))

pub work-paid : (l m u r v e l' u' r' e' : ℕ) → l' < l → u' ≤ m → r' < 2 ^ 64 → work l' m u' r' v e' < work l m u r v e
work-paid l m u r v e l' u' r' e' less within small =
    digits ((l' * (m + 1) + u') * 2 ^ 64 + r') ((l * (m + 1) + u) * 2 ^ 64 + r) (v + 1) (v - e') (v - e)
    (digits (l' * (m + 1) + u') (l * (m + 1) + u) (2 ^ 64) r' r (digits l' l (m + 1) u' u less (omega arith)) small) (omega arith)

pub work-found : (l m u r v e u' r' e' : ℕ) → u' < u → r' < 2 ^ 64 → work l m u' r' v e' < work l m u r v e
work-found l m u r v e u' r' e' less small =
    digits ((l * (m + 1) + u') * 2 ^ 64 + r') ((l * (m + 1) + u) * 2 ^ 64 + r) (v + 1) (v - e') (v - e) (digits (l * (m + 1) + u') (l * (m + 1) + u) (2 ^ 64) r' r (omega arith) small) (omega arith)

pub work-restarted : (l m u r v e e' : ℕ) → 0 < r → work l m u 0 v e' < work l m u r v e
work-restarted l m u r v e e' some =
    digits ((l * (m + 1) + u) * 2 ^ 64 + 0) ((l * (m + 1) + u) * 2 ^ 64 + r) (v + 1) (v - e') (v - e) (more ((l * (m + 1) + u) * 2 ^ 64)) (omega arith)
  where
    more : (x : ℕ) → x + 0 < x + r
    more x = omega arith

pub work-decided : (l m u r v e e' : ℕ) → e < e' → e' ≤ v → work l m u r v e' < work l m u r v e
work-decided l m u r v e e' longer within = more (((l * (m + 1) + u) * 2 ^ 64 + r) * (v + 1))
  where
    more : (x : ℕ) → x + (v - e') < x + (v - e)
    more x = omega arith

-- Fewer models to be found are no more work.
pub work-fewer : (l m u r v e u' : ℕ) → u' ≤ u → work l m u' r v e ≤ work l m u r v e
work-fewer l m u r v e u' fewer =
    no-larger ((l * (m + 1) + u') * 2 ^ 64 + r) ((l * (m + 1) + u) * 2 ^ 64 + r) (v + 1) (v - e) (no-larger (l * (m + 1) + u') (l * (m + 1) + u) (2 ^ 64) r (omega (arith, fewer)))
  where
    no-larger : (x y w s : ℕ) → x ≤ y → x * w + s ≤ y * w + s
    no-larger x y w s le = omega (arith, mul-le-mul_left w le)
