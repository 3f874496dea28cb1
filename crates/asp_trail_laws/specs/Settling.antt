-- Nogoods that a search may resolve and learn from.
use Rattle.std.specs.Prelude.{◌≡◌, ℕ, List, Option, Some, ℤ}
use Rattle.asp_model.specs.declared.program.Program.{Program}
use Rattle.asp_model.specs.Sets.{Atoms}
use Rattle.asp_vars.specs.Entailment.{Settled}
use Rattle.asp_vars.specs.declared.nogood.Nogood.{Nogood}
use Rattle.asp_trail.specs.declared.trail.Entry.{Entry}
use Rattle.asp_trail.specs.Reasons.{AreImpliedBy}

-- Each nogood that is kept is settled by the answers known and the bound.
abbrev pub KeepsSettled : Program → List Atoms → Option (List ℤ) → (ℕ → Option Nogood) → Type 0
KeepsSettled p known bound kept = (id : ℕ) (n : Nogood) → kept id ≡ Some n → Settled p known bound n.lits

-- Each entry that was implied has a reason that is settled by them.
abbrev pub AreSettled : Program → List Atoms → Option (List ℤ) → List Entry → Type 0
AreSettled p known bound entries = AreImpliedBy (λ n. Settled p known bound n.lits) entries
