-- Unfounded sets within a component of the positive dependencies, and the nogoods that speak of them.
use Rattle.std.specs.Prelude.{◌≡◌, ℕ, ◌⊎◌, false, List, Bool, Option, IsTrue}
use Rattle.std.specs.List.{All}
use Rattle.asp_model.specs.declared.program.Program.{Program}
use Rattle.asp_model.specs.Sets.{Atoms, has}
use Rattle.asp_vars.specs.declared.nogood.Base.TheVariants as base
use Rattle.asp_vars.specs.declared.nogood.Nogood.{Nogood}
use Rattle.asp_vars.specs.Literals.{F, holds_in}
use Rattle.asp_vars.specs.Numbering.{var_count, var_of_atom}
use Rattle.asp_vars.specs.Unfounded.{is_unfounded}
use Rattle.asp_vars.specs.Entailment.{Entailed}
use Rattle.asp_trail.specs.Trails.{IsVar}
use Rattle.asp_trail.specs.Told.{Told}
use Rattle.asp_trail.specs.Fixpoint.{is_at_fixpoint}
use Rattle.asp_scc.specs.Dependencies.{Reaches}
use Rattle.asp_scc.specs.Components.{Parts, component_of, Stands, IsLoop}
use Rattle.asp_loop.specs.LoopNogoods.{IsLoopNogood}

-- The atom is alone in its component, and doesn't reach itself.
pub record IsTrivial (p : Program) (a : ℕ) : Type 0 where
  pub only : (b : ℕ) → Stands p b → IsLoop p a b → b ≡ a
  pub acyclic : Reaches p a a → ⊥

-- Atoms within one component, which isn't trivial.
pub record AreJoined (p : Program) (U : Atoms) : Type 0 where
  pub stand : (a : ℕ) → IsTrue (has U a) → Stands p a
  pub joined : (a b : ℕ) → IsTrue (has U a) → IsTrue (has U b) → (a ≡ b) ⊎ IsLoop p a b
  pub cyclic : (a : ℕ) → IsTrue (has U a) → IsTrivial p a → ⊥

-- Atoms within one component, which isn't trivial, of which none is false, and which are unfounded. An unfounded set isn't empty.
pub record IsUnfoundedLoop (p : Program) (x : List (Option Bool)) (U : Atoms) : Type 0 where
  pub stand : (a : ℕ) → IsTrue (has U a) → Stands p a
  pub joined : (a b : ℕ) → IsTrue (has U a) → IsTrue (has U b) → (a ≡ b) ⊎ IsLoop p a b
  pub cyclic : (a : ℕ) → IsTrue (has U a) → IsTrivial p a → ⊥
  pub not_false : (a : ℕ) → IsTrue (has U a) → holds_in x (F (var_of_atom p a)) ≡ false
  pub unfounded : IsTrue (is_unfounded p x U)

-- The nogood is a loop nogood of such a set, under the values told or some that were told before. Under the values told all
-- of its literals hold but one, which isn't false.
pub record IsGiven (t : Told) (n : Nogood) : Type 0 where
  pub values : List (Option Bool)
  pub set : Atoms
  pub atom : ℕ
  pub loop : IsUnfoundedLoop t.program values set
  pub member : IsTrue (has set atom)
  pub shape : IsLoopNogood t.program values set atom n
  pub base : n.base ≡ base.Pure
  pub entailed : Entailed t.program n.lits
  pub within : All (λ l. IsVar (var_count t.program) l.var) n.lits
  pub wanted : is_at_fixpoint t.values n.lits ≡ false

-- No unfounded set has an atom in the component.
abbrev pub HasNone : Program → Parts → List (Option Bool) → ℕ → Type 0
HasNone p c x k = (U : Atoms) → IsUnfoundedLoop p x U → (a : ℕ) → IsTrue (has U a) → component_of p c a ≡ k → ⊥

-- The set is unfounded, and has the atom.
pub record IsFound (p : Program) (x : List (Option Bool)) (U : Atoms) (a : ℕ) : Type 0 where
  pub loop : IsUnfoundedLoop p x U
  pub member : IsTrue (has U a)
