use Rattle.std.proofs.Common.{◌≡◌, map, take}
use Rattle.asp_compile.specs.Forms.{body_of}
use Rattle.asp_vars.specs.Tabled.{form_weights}
use Rattle.asp_compile.proofs.tables.weight_rows.Given as goal

abbrev pub invariant-loop-form : goal.invariant-loop-form
invariant-loop-form l = l.rows ≡ map (λ f. form_weights (body_of f)) (take l.form-index l.forms)
