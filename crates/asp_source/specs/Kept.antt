-- What the propagator keeps.
use Rattle.std.specs.Prelude.{◌≡◌, ℕ, ◌+◌, Bool, true, false, List, [], Option, None, length, slice_index, slice_index_or, IsTrue}
use Rattle.std.specs.List.{All}
use Rattle.asp_model.specs.declared.program.Program.{Program}
use Rattle.asp_model.specs.Sets.{has}
use Rattle.asp_model.specs.Models.{atoms_of}
use Rattle.asp_vars.specs.Literals.{value_of}
use Rattle.asp_vars.specs.Numbering.{bodies_of, var_count}
use Rattle.asp_vars.specs.Tabled.{IsAtomVar}
use Rattle.asp_scc.specs.Components.{Parts, AreComponents}
use Rattle.asp_trail.specs.Trails.{IsVar}
use Rattle.asp_source.specs.Marks.{AreBlank}
use Rattle.asp_source.specs.Rest.{Rest, IsRemembered}
use Rattle.asp_source.specs.Pointers.{ArePointers}
use Rattle.asp_source.specs.Pointers.{AreNormal}

pub record IsKept (p : Program) (c : Parts) (x : List (Option Bool)) (sources ranks : List ℕ) (queue : List Bool) (tight weighted : Bool)
    (loose waiting joined : List Bool) (rest : Rest) : Type 0 where
  pub components : AreComponents p c
  pub sized : length x ≡ var_count p + 1
  pub first : value_of x 0 ≡ None
  pub pointers : ArePointers p c x sources ranks queue []
  pub marks : length loose ≡ length (atoms_of p) + 1
  pub blank : AreBlank loose
  pub room : length waiting ≡ length (atoms_of p)
  pub seats : length joined ≡ length (atoms_of p)
  pub none : tight ≡ true → (v : ℕ) → slice_index sources v ≡ 0
  pub trivial : tight ≡ true → (v : ℕ) → IsAtomVar p v → slice_index_or c.trivial (slice_index c.numbers v) false ≡ true
  pub plain : weighted ≡ false → AreNormal p (length (bodies_of p))
  pub found : (a : ℕ) → IsTrue (has rest.set a) → IsRemembered p rest.set rest.reason
  pub within : All (λ l. IsVar (var_count p) l.var) rest.reason
