-- Where the nogoods come from that a step keeps.
use Rattle.std.specs.Prelude.{◌≡◌, ℕ, ◌<◌, Bool, List, ◌∷◌, length, Option, Some, ℤ, slice_index_or, []}
use Rattle.asp_model.specs.declared.program.Program.{Program}
use Rattle.asp_model.specs.Sets.{Atoms}
use Rattle.asp_vars.specs.Literals.{Literal, complement}
use Rattle.asp_vars.specs.Numbering.{var_count}
use Rattle.asp_vars.specs.declared.nogood.Base.TheVariants as base
use Rattle.asp_vars.specs.declared.nogood.Nogood.{Nogood}
use Rattle.asp_trail.specs.declared.trail.Entry.{Entry}
use Rattle.asp_trail.specs.Trails.{IsOrdered}
use Rattle.asp_analyze.specs.Learning.{Used, IsReached}
use Rattle.asp_found.specs.Verdicts.{IsListed}
use Rattle.asp_loop.specs.LoopNogoods.{IsLoopNogood}
use Rattle.asp_propagate.specs.Useful.{Counts}

-- What holds of a program without any search: no set has a literal and its complement, the completion's nogoods, those of
-- loops, and what a propagator gives.
pub data IsAxiom (p : Program) (gives : Nogood → Type 0) : Nogood → Type 0 where
  pair : (l : Literal) → IsAxiom p gives (record { lits = l ∷ complement l ∷ []; base = base.Pure })
  completion : {n : Nogood} → n.base ≡ base.Pure → IsListed p n.lits → IsAxiom p gives n
  loop : {n : Nogood} (x : List (Option Bool)) (U : Atoms) (a : ℕ) → IsLoopNogood p x U a n → IsAxiom p gives n
  propagator : {n : Nogood} → gives n → IsAxiom p gives n

-- It is an axiom that counts under the bound, or is kept, or is reached by resolution from such, along a trail: each reason that was
-- resolved is its entry's, and has else literals of earlier entries, so that no resolution goes in a circle.
pub data IsDerived (p : Program) (gives : Nogood → Type 0) (bound : Option (List ℤ)) (kept : ℕ → Option Nogood) : Nogood → Type 0 where
  given : {n : Nogood} → IsAxiom p gives n → Counts bound n.base → IsDerived p gives bound kept n
  stands : {n : Nogood} (id : ℕ) → kept id ≡ Some n → IsDerived p gives bound kept n
  reached : {from to : Nogood} (entries : List Entry) (used : List Used) → IsOrdered (var_count p) entries → IsReached entries from used to → IsDerived p gives bound kept from →
      ((i : ℕ) (d : Used) → i < length used → IsDerived p gives bound kept (slice_index_or used i d).nogood) →
      IsDerived p gives bound kept to

-- Each nogood that is kept then was kept before, or is derived from those.
abbrev pub AreDerived : Program → (Nogood → Type 0) → Option (List ℤ) → (ℕ → Option Nogood) → (ℕ → Option Nogood) → Type 0
AreDerived p gives bound old new = (id : ℕ) (n : Nogood) → new id ≡ Some n → IsDerived p gives bound old n
