-- What a run recorded, where answers are listed and where none is.
use Rattle.std.proofs.Common.{◌≡◌, List, [], ◌∷◌, Option, length, refl, arith}
use Rattle.std.specs.Prelude.{ℤ}
use Rattle.asp_model.specs.Sets.{Atoms}
use Rattle.asp_model.specs.Texts.{best_answers, bests}

pub bests-none : (best : Option (Atoms × List ℤ)) (L : List Atoms) → length L ≡ 0 → bests best L ≡ best_answers best
bests-none best [] none = refl
bests-none best (S ∷ L) none = absurd (omega arith)
