-- What holds of each byte of a line holds of each byte of its parts.
use Rattle.std.proofs.Common.{◌≡◌, ℕ, zero, suc, List, [], ◌∷◌, ◌++◌, take, drop, false}
use Rattle.std.specs.List.{AllByRecursion}
use Rattle.asp_text.specs.Lines.{is_lf}

-- no byte is a line feed
abbrev pub IsOneLine : List ℕ → Type 0
IsOneLine bytes = AllByRecursion (λ b. is_lf b ≡ false) bytes

module _ {A : Type 0} (P : A → Type 0) where
  pub each-drop : (n : ℕ) (xs : List A) → AllByRecursion P xs → AllByRecursion P (drop n xs)
  each-drop zero xs h = h
  each-drop (suc n) [] h = tt
  each-drop (suc n) (x ∷ xs) h = each-drop n xs h.1

  pub each-take : (n : ℕ) (xs : List A) → AllByRecursion P xs → AllByRecursion P (take n xs)
  each-take zero xs h = tt
  each-take (suc n) [] h = tt
  each-take (suc n) (x ∷ xs) h = (h.0, each-take n xs h.1)

  pub each-back : (xs ys : List A) → AllByRecursion P (xs ++ ys) → AllByRecursion P ys
  each-back [] ys h = h
  each-back (x ∷ xs) ys h = each-back xs ys h.1
