-- A walk along two sets.
use Rattle.std.specs.Prelude.{◌≡◌, ◌+◌, ◌<◌, [], ◌∷◌, length}
use Rattle.asp_model.specs.Sets.{Atoms, IsAscending}
use Rattle.asp_proof.specs.declared.changes.Turn.{Turn}
use Rattle.asp_proof.specs.declared.changes.Turn.TheVariants as turn
use Rattle.asp_proof.specs.Changes.{changed}

-- less is left of two sets
pub record AreLeft (S T rest others : Atoms) : Type 0 where
  pub one : IsAscending rest
  pub other : IsAscending others
  pub fewer : length rest + length others < length S + length T

-- what two sets begin with, and what is left of them
abbrev pub IsTurn : Atoms → Atoms → Turn → Type 0
IsTurn S T turn.End = changed S T ≡ []
IsTurn S T (turn.Both rest others) = AreLeft S T rest.now others.now × (changed S T ≡ changed rest.now others.now)
IsTurn S T (turn.Lone a rest others) = AreLeft S T rest.now others.now × (changed S T ≡ a ∷ changed rest.now others.now)
