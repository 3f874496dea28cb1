-- A value for each variable, with which a search ends.
use Rattle.std.specs.Prelude.{◌≡◌, suc, Bool, false, List, filter, length, ℤ, IsTrue, slice_index_or}
use Rattle.std.specs.List.{list_any}
use Rattle.asp_model.specs.declared.program.Body.TheVariants as body
use Rattle.asp_model.specs.declared.program.Program.{Program}
use Rattle.asp_model.specs.Sets.{Atoms}
use Rattle.asp_model.specs.Holding.{body_holds}
use Rattle.asp_model.specs.Models.{atoms_of}
use Rattle.asp_vars.specs.Literals.{T, is_true}
use Rattle.asp_vars.specs.Numbering.{body_eq, bodies_of, var_count, var_of_atom, var_of_form}

-- Each variable has a value, which stands at the place of its number. No variable has the number 0.
pub record IsValuation (p : Program) (v : List Bool) : Type 0 where
  pub size : length v ≡ suc (var_count p)
  pub first : slice_index_or v 0 false ≡ false

-- the atoms whose variables are true
abbrev pub true_atoms : Program → List Bool → Atoms
true_atoms p v = filter (λ a. is_true v (T (var_of_atom p a))) (atoms_of p)

-- The variable of each weight body says whether the body holds.
abbrev pub KeepsWeights : Program → List Bool → Type 0
KeepsWeights p v =
    (bound : ℤ) (items : List (ℤ × ℤ)) → IsTrue (list_any (body_eq (body.AtLeast bound items)) (bodies_of p)) →
    is_true v (T (var_of_form p (body.AtLeast bound items))) ≡ body_holds (true_atoms p v) (body.AtLeast bound items)
