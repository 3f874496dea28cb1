-- A trail that gives each variable of a program a value.
use Rattle.std.specs.Prelude.{◌≡◌, ℕ, Bool, false, List, map, Option, Some, None, IsTrue, IsSome}
use Rattle.std.specs.List.{All, AllByRecursion}
use Rattle.asp_model.specs.declared.program.Program.{Program}
use Rattle.asp_model.specs.Sets.{Atoms}
use Rattle.asp_vars.specs.Literals.{Literal, value_of, hits}
use Rattle.asp_vars.specs.Numbering.{var_count, values}
use Rattle.asp_vars.specs.Completion.{completion}
use Rattle.asp_vars.specs.declared.nogood.Nogood.{Nogood}
use Rattle.asp_trail.specs.declared.trail.Entry.{Entry}
use Rattle.asp_trail.specs.Entries.{assignment}
use Rattle.asp_trail.specs.Trails.{IsVar, IsOrdered}
use Rattle.asp_found.specs.Valuations.{KeepsWeights, true_atoms}
use Rattle.asp_trail_laws.specs.Fixpoint.{AreAtFixpoint}

-- All literals are of variables 1 to vars.
abbrev pub AreVars : ℕ → List Literal → Type 0
AreVars vars n = All (λ l. IsVar vars l.var) n

-- ---- values
-- the value, false where there is none
abbrev pub truth_of : Option Bool → Bool
truth_of None = false
truth_of (Some b) = b

abbrev pub truths : List (Option Bool) → List Bool
truths a = map truth_of a

-- the atoms that are true on the trail
abbrev pub atoms_on : Program → ℕ → List Entry → Atoms
atoms_on p vars entries = true_atoms p (truths (assignment vars entries))

-- Each variable has a value, the completion is at fixpoint, and the variable of each weight body says whether the body holds.
pub record IsWhole (p : Program) (vars : ℕ) (entries : List Entry) : Type 0 where
  pub counted : vars ≡ var_count p
  pub ordered : IsOrdered vars entries
  pub full : (v : ℕ) → IsVar vars v → IsSome (value_of (assignment vars entries) v)
  pub fixpoint : AreAtFixpoint vars (completion p) entries
  pub weights : KeepsWeights p (truths (assignment vars entries))

-- Each of these sets hits a nogood that is kept.
abbrev pub AreBlocked : Program → (ℕ → Option Nogood) → List Atoms → Type 0
AreBlocked p kept known = AllByRecursion (λ S. (id : ℕ) × (n : Nogood) × (kept id ≡ Some n) × IsTrue (hits (values p S) n.lits)) known
