-- A number that was read, and its range.
use Rattle.std.proofs.Common.{◌≡◌, ℕ, Bool, true, false, refl, sym, ap, ◌∙◌, arith, List, Option, Some, None, Ok, Err}
use Rattle.std.specs.Prelude.{ℤ, pos, negsuc, ◌||◌, if◌then◌else◌}
use lib.Signed.{lt_z}
use mir.Val.{SFits, of_z, to_z}
use mir.Syntax.{w32, w64}
use Rattle.std.proofs.lemmas.Bool.{ltb-false}
use Rattle.std.proofs.lemmas.Int.{to_z-of_z}
use Rattle.asp_text.specs.declared.numbers.Num.TheVariants.{Value, Big}
use Rattle.asp_text.specs.Fields.{num_of, is_i64}
use Rattle.asp_read.specs.declared.fault.FaultKind.TheVariants.{Integer}
use Rattle.asp_read.specs.Places.{broken}
use Rattle.asp_read.specs.Fields.{integer_in}

value_is : (b : Bool) (n z : ℤ) → Value n ≡ (if b then Value z else Big) → n ≡ z
value_is true n z e = cc
value_is false n z e = absurd cc

pub number_is : (o : Option ℤ) (n : ℤ) → Value n ≡ num_of o → o ≡ Some n
number_is None n e = absurd cc
number_is (Some z) n e = ap Some (sym (value_is (is_i64 z) n z e))

wide : (z : ℤ) → SFits w32 z → SFits w64 z
wide z f = record { sfits = omega (arith, f.sfits) }

pub below_is : (n low : ℤ) (b : Bool) → SFits w64 n → SFits w32 low → lt_z (to_z w64 (of_z w64 n)) (to_z w64 (of_z w64 (to_z w32 (of_z w32 low)))) ≡ b → lt_z n low ≡ b
below_is n low b fn fl e = rw (to_z-of_z w32 low fl, to_z-of_z w64 n fn, to_z-of_z w64 low (wide low fl)) at e

pub above_is : (n high : ℤ) (b : Bool) → SFits w64 n → SFits w32 high → lt_z (to_z w64 (of_z w64 (to_z w32 (of_z w32 high)))) (to_z w64 (of_z w64 n)) ≡ b → lt_z high n ≡ b
above_is n high b fn fh e = rw (to_z-of_z w32 high fh, to_z-of_z w64 n fn, to_z-of_z w64 high (wide high fh)) at e

pub below : (o : Option ℤ) (n low high : ℤ) (line : List ℕ) → Value n ≡ num_of o → lt_z n low ≡ true → integer_in low high line o ≡ Err (broken (Integer low high (num_of o)) line)
below o n low high line e t = rw (number_is o n e, t) refl

or_true : (b : Bool) → (b || true) ≡ true
or_true true = refl
or_true false = refl

pub above : (o : Option ℤ) (n low high : ℤ) (line : List ℕ) → Value n ≡ num_of o → lt_z high n ≡ true → integer_in low high line o ≡ Err (broken (Integer low high (num_of o)) line)
above o n low high line e t = rw (number_is o n e, t, or_true (lt_z n low)) refl

pub within : (o : Option ℤ) (n low high : ℤ) (line : List ℕ) → Value n ≡ num_of o → lt_z n low ≡ false → lt_z high n ≡ false → integer_in low high line o ≡ Ok n
within o n low high line e f g = rw (number_is o n e, f, g) refl

-- a number between two of 32 bits has 32 bits
pub narrow : (n low high : ℤ) → SFits w32 low → SFits w32 high → lt_z n low ≡ false → lt_z high n ≡ false → SFits w32 n
narrow (pos n) low (pos h) fl fh f g = record { sfits = omega (arith, ltb-false h n g, fh.sfits) }
narrow (pos n) low (negsuc h) fl fh f g = absurd cc
narrow (negsuc n) (pos l) high fl fh f g = absurd cc
narrow (negsuc n) (negsuc l) high fl fh f g = record { sfits = omega (arith, ltb-false l n f, fl.sfits) }

pub cast_is : (n low high : ℤ) → SFits w64 n → SFits w32 low → SFits w32 high → lt_z n low ≡ false → lt_z high n ≡ false → to_z w32 (of_z w32 (to_z w64 (of_z w64 n))) ≡ n
cast_is n low high fn fl fh f g = rw (to_z-of_z w64 n fn) (to_z-of_z w32 n (narrow n low high fl fh f g))

-- the same, for the values that the code compares
module _ (o : Option ℤ) (n low high : ℤ) (line : List ℕ) (e : Value n ≡ num_of o) (fn : SFits w64 n) (fl : SFits w32 low) (fh : SFits w32 high) where
  pub is_below : lt_z (to_z w64 (of_z w64 n)) (to_z w64 (of_z w64 (to_z w32 (of_z w32 low)))) ≡ true → integer_in low high line o ≡ Err (broken (Integer low high (num_of o)) line)
  is_below t = below o n low high line e (below_is n low true fn fl t)

  pub is_above : lt_z (to_z w64 (of_z w64 (to_z w32 (of_z w32 high)))) (to_z w64 (of_z w64 n)) ≡ true → integer_in low high line o ≡ Err (broken (Integer low high (num_of o)) line)
  is_above t = above o n low high line e (above_is n high true fn fh t)

  pub is_within : lt_z (to_z w64 (of_z w64 n)) (to_z w64 (of_z w64 (to_z w32 (of_z w32 low)))) ≡ false → lt_z (to_z w64 (of_z w64 (to_z w32 (of_z w32 high)))) (to_z w64 (of_z w64 n)) ≡ false
      → integer_in low high line o ≡ Ok (to_z w32 (of_z w32 (to_z w64 (of_z w64 n))))
  is_within f g =
      let f' = below_is n low false fn fl f in
      let g' = above_is n high false fn fh g in
      within o n low high line e f' g' ∙ ap Ok (sym (cast_is n low high fn fl fh f' g'))
