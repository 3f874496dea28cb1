-- The outputs named one after another, and the greatest atom of a set.
use Rattle.std.proofs.Common.{◌≡◌, ℕ, suc, ◌+◌, ◌-◌, ◌<◌, List, [], ◌∷◌, length, get_or, drop, add-one, drop-cons, refl, sym, ap, ◌∙◌, arith}
use Rattle.asp_model.specs.declared.program.Output.{Output}
use Rattle.asp_model.specs.Sets.{Atoms}
use Rattle.asp_named.specs.Named.{greatest}

turned : (os : List Output) (i : ℕ) (o : Output) → i < length os → o ≡ get_or os i o → drop i os ≡ o ∷ drop (i + 1) os
turned os i o lt is = rw (add-one, drop-cons os i o) (ap (λ (x : Output). x ∷ drop (suc i) os) (sym is))

-- the greatest atom is the last
pub greatest-last : (S : Atoms) → greatest S ≡ get_or S (length S - 1) 0
greatest-last [] = refl
greatest-last (a ∷ []) = refl
greatest-last (a ∷ b ∷ S) =
    let n : length (b ∷ S) - 1 ≡ length S = omega arith in
    let m : length (a ∷ b ∷ S) - 1 ≡ suc (length S) = omega arith in
    greatest-last (b ∷ S) ∙ ap (λ (i : ℕ). get_or (b ∷ S) i 0) n ∙ ap (λ (i : ℕ). get_or (a ∷ b ∷ S) i 0) (sym m)
