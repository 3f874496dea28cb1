-- What is learnt from a kept nogood that is violated.
use Rattle.std.specs.Prelude.{◌≡◌, ℕ, List, Option, Some, IsTrue}
use Rattle.std.specs.List.{All}
use Rattle.asp_vars.specs.declared.nogood.Nogood.{Nogood}
use Rattle.asp_trail.specs.declared.trail.Entry.{Entry}
use Rattle.asp_trail.specs.Entries.{assignment}
use Rattle.asp_trail.specs.Fixpoint.{is_violated}
use Rattle.asp_analyze.specs.Learning.{Used, IsReached, AreContained, AreAssumed, IsLearned, nogood_of}
use Rattle.asp_analyze.specs.declared.learn.Learned.{Learned}
use Rattle.asp_store.specs.declared.stored_nogood.StoredNogood.{StoredNogood}
use Rattle.asp_store.specs.Keeping.{nogood_at}
use Rattle.asp_propagate.specs.Late.{IsAtHand}

-- It is reached from the nogood under this number by the trail's reasons, each of which is kept or may be given.
pub record Explains (gives : Nogood → Type 0) (vars : ℕ) (slots : List (Option StoredNogood)) (entries : List Entry) (id : ℕ) (l : Learned) : Type 0 where
  pub from : Nogood
  pub stands : nogood_at slots id ≡ Some from
  pub violated : IsTrue (is_violated (assignment vars entries) from.lits)
  pub used : List Used
  pub had : All (λ u. IsAtHand gives slots u.nogood) used
  pub reached : IsReached entries from used (nogood_of l)
  pub contained : AreContained vars entries (nogood_of l).lits
  pub assumed : AreAssumed entries (nogood_of l).lits
  pub learned : IsLearned entries from.lits l
