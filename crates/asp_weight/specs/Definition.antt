-- What the definition of a weight body excludes: its variable is true exactly where its weights reach the bound.
use Rattle.std.specs.Prelude.{◌≡◌, Bool, true, false, List, int_le, IsTrue}
use Rattle.std.specs.List.{All, list_any}
use Rattle.std.specs.Bool.{beq}
use Rattle.asp_model.specs.declared.program.Body.{Body}
use Rattle.asp_model.specs.declared.program.Body.TheVariants as body
use Rattle.asp_model.specs.declared.program.Program.{Program}
use Rattle.asp_vars.specs.Literals.{Literal, T, is_true, hits}
use Rattle.asp_vars.specs.Numbering.{body_eq, bodies_of, var_count, var_of_form}
use Rattle.asp_vars.specs.Entailment.{Entailed}
use Rattle.asp_vars.specs.declared.nogood.Base.TheVariants as base
use Rattle.asp_vars.specs.declared.nogood.Nogood.{Nogood}
use Rattle.asp_trail.specs.Trails.{IsVar}
use Rattle.asp_trail.specs.Told.{Told}
use Rattle.asp_trail.specs.Fixpoint.{is_at_fixpoint}
use Rattle.asp_weight.specs.Silence.{weight_that}

-- whether the values of all variables keep the definition
abbrev pub keeps : Program → List Bool → Body → Bool
keeps p v (body.All literals) = true
keeps p v (body.AtLeast bound items) =
    beq (is_true v (T (var_of_form p (body.AtLeast bound items)))) (int_le bound (weight_that (is_true v) p items))

-- The body is one of the program's, and no values that keep its definition hit the nogood.
pub record Excludes (p : Program) (b : Body) (n : List Literal) : Type 0 where
  pub stands : IsTrue (list_any (body_eq b) (bodies_of p))
  pub broken : (v : List Bool) → IsTrue (hits v n) → keeps p v b ≡ false

-- what holds of a nogood that is given
pub record IsGiven (t : Told) (n : Nogood) : Type 0 where
  pub base : n.base ≡ base.Pure
  pub entailed : Entailed t.program n.lits
  pub within : All (λ l. IsVar (var_count t.program) l.var) n.lits
  pub wanted : is_at_fixpoint t.values n.lits ≡ false
  pub excluded : (b : Body) × Excludes t.program b n.lits
