-- How the literals of a cube come to hold.
use Rattle.std.proofs.Common.{◌≡◌, Bool, true, false, refl, sym}
use Rattle.std.specs.Bool.{beq}
use Rattle.std.proofs.lemmas.Bool.{false≢true}

pub same_bit : (b c : Bool) → beq b c ≡ true → b ≡ c
same_bit true true e = refl
same_bit true false e = sym e
same_bit false true e = e
same_bit false false e = refl

pub other_bit : (b c : Bool) → beq b c ≡ false → b ≡ c → ⊥
other_bit true true e q = false≢true (sym e)
other_bit true false e q = false≢true (sym q)
other_bit false true e q = false≢true q
other_bit false false e q = false≢true (sym e)
