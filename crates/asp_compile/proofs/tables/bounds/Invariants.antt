use Rattle.std.proofs.Common.{◌≡◌, map, take}
use Rattle.asp_compile.specs.Forms.{body_of}
use Rattle.asp_vars.specs.Tabled.{bound_of}
use Rattle.asp_compile.proofs.tables.bounds.Given as goal

abbrev pub invariant-loop-form : goal.invariant-loop-form
invariant-loop-form l = l.bounds.items ≡ map (λ f. bound_of (body_of f)) (take l.form-index l.forms)
