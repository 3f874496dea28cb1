use Rattle.std.proofs.Common.{◌≡◌, map, take}
use Rattle.asp_compile.specs.Forms.{body_of}
use Rattle.asp_vars.specs.Tabled.{literals_in}
use Rattle.asp_compile.proofs.tables.literal_rows.Given as goal

abbrev pub invariant-loop-form : goal.invariant-loop-form
invariant-loop-form l = l.rows ≡ map (λ f. literals_in l.atoms (body_of f)) (take l.form-index l.forms)
