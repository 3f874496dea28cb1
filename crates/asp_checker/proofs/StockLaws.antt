-- What is in places.
use Rattle.std.proofs.Common.{◌≡◌, ℕ, zero, suc, ◌<◌, ◌≤◌, List, [], ◌∷◌, ◌++◌, length, set, refl, ap, arith}
use Rattle.std.specs.List.{AllByRecursion}
use Rattle.asp_vars.specs.Literals.{Literal}
use Rattle.asp_checker.specs.Lines.{put}

pub put_each : (P : List Literal → Type 0) (placed : List (List Literal)) (at : ℕ) (n : List Literal) → AllByRecursion P placed → P n → AllByRecursion P (put placed at n)
put_each P [] at n h k = (k, tt)
put_each P (m ∷ placed) zero n h k = (k, h.1)
put_each P (m ∷ placed) (suc at) n h k = (h.0, put_each P placed at n h.1 k)

pub put_within : (placed : List (List Literal)) (at : ℕ) (n : List Literal) → at < length placed → set placed at n ≡ put placed at n
put_within [] at n lt = absurd (omega arith)
put_within (m ∷ placed) zero n lt = refl
put_within (m ∷ placed) (suc at) n lt = ap (λ (ns : List (List Literal)). m ∷ ns) (put_within placed at n (omega arith))

pub put_behind : (placed : List (List Literal)) (at : ℕ) (n : List Literal) → length placed ≤ at → placed ++ n ∷ [] ≡ put placed at n
put_behind [] at n le = refl
put_behind (m ∷ placed) zero n le = absurd (omega arith)
put_behind (m ∷ placed) (suc at) n le = ap (λ (ns : List (List Literal)). m ∷ ns) (put_behind placed at n (omega arith))
