-- What a kept nogood's literals are, and what reasons pass.
use Rattle.std.proofs.Common.{◌≡◌, List, Option, Some, subst}
use Rattle.std.specs.Prelude.{IfSome}
use Rattle.asp_vars.specs.Literals.{Literal}
use Rattle.asp_vars.specs.declared.nogood.Nogood.{Nogood}
use Rattle.asp_trail.specs.declared.trail.Entry.{Entry}
use Rattle.asp_trail.specs.Reasons.{AreImpliedBy}

pub lits_are : (k : Option Nogood) (n : Nogood) (lits : List Literal) → k ≡ Some n → IfSome k (λ m. lits ≡ m.lits) → lits ≡ n.lits
lits_are k n lits e h = let P : Option Nogood → Type 0 = λ o. IfSome o (λ m. lits ≡ m.lits) in subst P e h

-- what passes one test passes a weaker one
pub implied_weaker : (P Q : Nogood → Type 0) (es : List Entry) → ((n : Nogood) → P n → Q n) → AreImpliedBy P es → AreImpliedBy Q es
implied_weaker P Q es f r i d id h q = let x = r i d id h q in (x.0, f x.0 x.1, x.2)
