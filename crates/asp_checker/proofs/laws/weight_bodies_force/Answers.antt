use Rattle.std.proofs.Common.{◌≡◌, ◌≤◌, true, refl, arith}
use Rattle.asp_model.specs.declared.program.Body.{Body}
use Rattle.asp_model.specs.declared.program.Body.TheVariants as body
use Rattle.asp_model.specs.declared.program.Program.{Program}
use Rattle.asp_vars.specs.Numbering.{bodies_of, body_eq, is_wide, var_count, var_of_form}
use Rattle.asp_vars.proofs.NumberingLaws.{body_eq-itself}
use Rattle.asp_vars.proofs.PlaceLaws.{form-within}
use Rattle.asp_vars.proofs.StandingLaws.{Among}
use Rattle.asp_checker.proofs.WeightLaws.{reached-forces, missed-forces, needed-forces, barred-forces}
use Rattle.asp_checker.proofs.laws.weight_bodies_force.Goals as goal

within : (p : Program) (b : Body) → is_wide b ≡ true → Among (bodies_of p) b → var_of_form p b ≤ var_count p
within p b wide among = form-within p b wide (among (body_eq b) (body_eq-itself b))

pub returns : goal.returns
returns c = record {
  reached = λ p k x c items among weighted e. reached-forces p k x c items among weighted (omega arith) (within p (body.AtLeast c items) refl among) e;
  missed = λ p k x c items among weighted e. missed-forces p k x c items among weighted (omega arith) (within p (body.AtLeast c items) refl among) e;
  needed = λ p k x c items j d among weighted lt le. needed-forces p k x c items j d among weighted lt (omega arith) le;
  barred = λ p k x c items j d among weighted lt le. barred-forces p k x c items j d among weighted lt (omega arith) le;
}
