-- The weights of facts, one item after another.
use Rattle.std.proofs.Common.{◌≡◌, ℕ, zero, suc, ◌+◌, ◌<◌, true, cond, ◌&&◌, List, [], ◌∷◌, ◌++◌, length, get_or, take, ℤ, pos, ◌+ℤ◌, ◌≤ℤ◌, ap, ◌∙◌, arith}
use Rattle.std.specs.List.{list_all}
use Rattle.std.proofs.lemmas.Bool.{and_parts}
use Rattle.std.proofs.lemmas.Int.{ints}
use Rattle.std.proofs.lemmas.List.{take_more}
use Rattle.asp_model.specs.Sets.{Atoms, has}
use Rattle.asp_model.specs.Holding.{atom_of, is_positive}
use Rattle.asp_model.specs.Sound.{is_weighted}
use Rattle.asp_settle.specs.Settled.{settled_weight}

abbrev weight_by : Atoms → ℤ × ℤ → ℤ
weight_by F i = cond (is_positive i.0 && has F (atom_of i.0)) i.1 (pos 0)

weight-push : (F : Atoms) (items : List (ℤ × ℤ)) (i : ℤ × ℤ) → settled_weight F (items ++ i ∷ []) ≡ settled_weight F items +ℤ weight_by F i
weight-push F [] i = omega (arith, ints)
weight-push F (j ∷ items) i =
    let h : settled_weight F (items ++ i ∷ []) ≡ settled_weight F items +ℤ weight_by F i = weight-push F items i in
    ap (λ z. weight_by F j +ℤ z) h ∙ added (weight_by F j) (settled_weight F items) (weight_by F i)
  where
    added : (x y z : ℤ) → x +ℤ (y +ℤ z) ≡ (x +ℤ y) +ℤ z
    added x y z = omega (arith, ints)

pub weight-more : (F : Atoms) (items : List (ℤ × ℤ)) (i : ℕ) (d : ℤ × ℤ) → i < length items → settled_weight F (take (i + 1) items) ≡ settled_weight F (take i items) +ℤ weight_by F (get_or items i d)
weight-more F items i d lt = ap (settled_weight F) (take_more items i d lt) ∙ weight-push F (take i items) (get_or items i d)

weight-of : (i : ℤ × ℤ) → is_weighted i ≡ true → pos 0 ≤ℤ i.1
weight-of i e = grind (arith, ints)

pub weighted-at : (items : List (ℤ × ℤ)) (i : ℕ) (d : ℤ × ℤ) → list_all is_weighted items ≡ true → i < length items → pos 0 ≤ℤ (get_or items i d).1
weighted-at [] i d h lt = absurd (omega arith)
weighted-at (x ∷ items) zero d h lt = weight-of x (and_parts (is_weighted x) (list_all is_weighted items) h).0
weighted-at (x ∷ items) (suc i) d h lt = weighted-at items i d (and_parts (is_weighted x) (list_all is_weighted items) h).1 (omega arith)
