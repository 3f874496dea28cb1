-- The values that the trail shows are those told, so what is kept stands under them.
use Rattle.std.proofs.Common.{◌≡◌, ℕ, ◌≤◌, Bool, List, length, Option, ℤ, sym, ap, ◌∙◌, subst}
use Rattle.asp_model.specs.declared.program.Program.{Program}
use Rattle.asp_bound.specs.declared.place.Place.{Place}
use Rattle.asp_bound.specs.declared.place.Item.{Item}
use Rattle.asp_bound.specs.Bounded.{Bounded}
use Rattle.asp_bound.specs.Kept.{IsKept}
use Rattle.asp_bound.specs.Raisers.{Line, AreRaisers}
use Rattle.asp_bound.specs.Starts.{AreStarts}

abbrev pub KeepsAll : Program → List (List Place) → List (List Item) → List ℕ → List ℤ → List ℕ → Line → List (Option Bool) → Type 0
KeepsAll p rows columns vars sums starts raisers a = IsKept p a rows columns vars sums × AreStarts a columns starts × AreRaisers a rows raisers.vars × (length vars ≤ raisers.room)

pub kept_shown : (p : Program) (v a : List (Option Bool)) (rows : List (List Place)) (columns : List (List Item)) (vars : List ℕ) (sums : List ℤ)
    (starts : List ℕ) (raisers : Line) → a ≡ v → KeepsAll p rows columns vars sums starts raisers v →
    KeepsAll p rows columns vars sums starts raisers a
kept_shown p v a rows columns vars sums starts raisers e all = subst (KeepsAll p rows columns vars sums starts raisers) (sym e) all

abbrev bounded : Program → Option (List ℤ) → List (Option Bool) → Bounded
bounded p bound a = record { told = record { program = p; values = a }; bound = bound }

pub told_shown : (p : Program) (v a : List (Option Bool)) (bound : Option (List ℤ)) (b : Bounded) → a ≡ v → bounded p bound v ≡ b → bounded p bound a ≡ b
told_shown p v a bound b e is = ap (bounded p bound) e ∙ is
