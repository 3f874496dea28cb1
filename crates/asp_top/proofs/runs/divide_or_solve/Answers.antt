use Rattle.std.proofs.Common.{◌≡◌, ℕ, List, Option, None, ap, inl, inr}
use Rattle.asp_model.specs.declared.program.Program.{Program}
use Rattle.asp_top.specs.declared.status.Outcome.{Outcome}
use Rattle.asp_top.specs.Parting.{Divides}
use Rattle.asp_top.proofs.DoneLaws.{does-divide, does-solve}
use Rattle.asp_top.proofs.runs.divide_or_solve.Goals as goal

reports_nothing : (p : Program) (most : ℕ) (h h' : Option (List ℕ)) (w w' : ℕ) (o : Outcome) → Divides p most h h' w w' o → o.report ≡ None
reports_nothing p most h h' w w' o (inl m) = ap (λ (x : Outcome). x.report) m.0
reports_nothing p most h h' w w' o (inr d) = d.2.none

pub returns-in-None-clause-does : goal.returns-in-None-clause-does
returns-in-None-clause-does g c = λ p is. does-solve c.args.options.now p _ _ _ _ _ c.in-None.is (c.solve_or_prove.ensures.solves p is)

pub returns-in-Some-clause-does : goal.returns-in-Some-clause-does
returns-in-Some-clause-does g c = λ p is. does-divide c.args.options.now p c.args.prepared.now c.in-Some.most _ _ _ _ _ c.in-Some.is is c.divide.ensures.divides

pub returns-in-Some-clause-counted : goal.returns-in-Some-clause-counted
returns-in-Some-clause-counted g c = rw (reports_nothing _ _ _ _ _ _ _ c.divide.ensures.divides) tt
