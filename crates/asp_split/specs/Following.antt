-- What follows from a cube by propagation.
use Rattle.std.specs.Prelude.{◌≡◌, ℕ, ◌<◌, Bool, true, false, List, [], ◌++◌, map, Option, Some, None, IsSome, IsTrue, ℤ, slice_index_or}
use Rattle.asp_model.specs.declared.program.Program.{Program}
use Rattle.asp_model.specs.Sets.{Atoms, has}
use Rattle.asp_model.specs.Models.{is_stable, atoms_of}
use Rattle.asp_model.specs.Sound.{is_atom}
use Rattle.asp_vars.specs.Entailment.{Settled}
use Rattle.asp_vars.specs.Literals.{Literal, hits, value_of}
use Rattle.asp_vars.specs.Numbering.{literal_of, values, var_of_atom}
use Rattle.asp_store.specs.Keeping.{nogood_at}
use Rattle.asp_state.specs.SearchStates.{SearchView, values_of}
use Rattle.asp_trail_laws.specs.Settling.{KeepsSettled}

-- the assumptions and the cube as literals of variables
abbrev pub literals_of : Program → List ℤ → List Literal
literals_of p cube = map (literal_of p) (p.assumptions ++ cube)

-- Each stable model that hits the literals has these values.
abbrev pub Follow : Program → List Literal → List (Option Bool) → Type 0
Follow p lits a =
    (S : Atoms) → IsTrue (is_stable p S) → IsTrue (hits (values p S) lits) → (v : ℕ) (b : Bool) → value_of a v ≡ Some b → slice_index_or (values p S) v false ≡ b

-- The least atom of the program without a value.
pub record IsLeastOpen (p : Program) (a : List (Option Bool)) (atom : ℕ) : Type 0 where
  pub stands : has (atoms_of p) atom ≡ true
  pub ranges : is_atom atom ≡ true
  pub decided : (b : ℕ) → b < atom → has (atoms_of p) b ≡ true → IsSome (value_of a (var_of_atom p b))

-- No bound stands, and no stable model hits a nogood that is kept.
pub record IsProber (p : Program) (t : SearchView) : Type 0 where
  pub program : p ≡ t.program
  pub unbounded : t.bound ≡ None
  pub settled : KeepsSettled t.program [] None (nogood_at t.slots)

-- what is known after propagation: that no stable model hits the literals, or the values of those that do
abbrev pub Follows : Program → SearchView → List Literal → Bool → Type 0
Follows p t lits false = Settled p [] None lits
Follows p t lits true = Follow p lits (values_of t)
