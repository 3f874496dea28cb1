-- What solving and dividing give, from what was searched and how it was told.
use Rattle.std.proofs.Common.{◌≡◌, ℕ, List, sym, ap, subst, inl, inr}
use Rattle.std.specs.Prelude.{Option, None, Some, Result, Ok, IfOk, IfSome}
use Rattle.asp_model.specs.declared.program.Program.{Program}
use Rattle.asp_model.specs.declared.results.Ask.{Ask}
use Rattle.asp_equal.specs.declared.reduce.Aside.{Aside}
use Rattle.asp_crew_laws.specs.declared.report.Report.{Report}
use Rattle.asp_crew_laws.specs.Reports.{IsReport}
use Rattle.asp_cli.specs.declared.Options.{Options}
use Rattle.asp_prepare.specs.declared.layout.Layout.{Layout}
use Rattle.asp_prepare.specs.declared.prepared.Prepared.{Prepared}
use Rattle.asp_prepare.specs.Naming.{ask_of, prepared_of, searched, set_aside}
use Rattle.asp_prepare.specs.Told.{told_with}
use Rattle.asp_prepare.proofs.ToldLaws.{same-ask, whole-parted}
use Rattle.asp_top.specs.Parting.{Divides}
use Rattle.asp_top.specs.Runs.{Concludes, Delivers, Does, DoesBy, IsCounted, Solves, SolvesAs, layout_of}
use Rattle.asp_top.specs.declared.counts.Tally.{Tally}
use Rattle.asp_top.specs.declared.status.Outcome.{Outcome}

-- what was searched, and with what it is told
pub solves-by : (given : Options) (p : Program) (x : Prepared) (q : Program) (r : Report) (layout : Layout) (h h' : Option (List ℕ)) (w w' : ℕ)
    (o : Outcome) → x ≡ prepared_of given p → q ≡ x.compiled → layout ≡ layout_of given
    → IsReport x.compiled (ask_of given q) given.budget r → Concludes layout q x.aside r h h' w w' o → Solves given p h h' w w' o
solves-by given p x q r layout h h' w w' o is of same report (inl m) = inl m
solves-by given p x q r layout h h' w w' o is of same report (inr d) =
    let report' : IsReport x.compiled (ask_of given x.compiled) given.budget r = subst (λ (y : Program). IsReport x.compiled (ask_of given y) given.budget r) of report in
    let report'' : IsReport (searched given p) (ask_of given (searched given p)) given.budget r = subst (λ (y : Prepared). IsReport y.compiled (ask_of given y.compiled) given.budget r) is report' in
    let told' : Delivers layout x.compiled (told_with x.aside r) h h' w w' o = subst (λ (y : Program). Delivers layout y (told_with x.aside r) h h' w w' o) of d in
    let told'' : Delivers layout (searched given p) (told_with (set_aside given p) r) h h' w w' o = subst (λ (y : Prepared). Delivers layout y.compiled (told_with y.aside r) h h' w w' o) is told' in
    inr (
      r,
      subst (λ (ask : Ask). IsReport (searched given p) ask given.budget r) (same-ask given p) report'',
      subst (λ (b : Layout). Delivers b (searched given p) (told_with (set_aside given p) r) h h' w w' o) same told'',
    )

pub counted-by : (workers : ℕ) (layout : Layout) (p : Program) (F : Aside) (r : Report) (t : Tally) (h h' : Option (List ℕ)) (w w' : ℕ) (o : Outcome)
    → Concludes layout p F r h h' w w' o → IsCounted workers t r → IfSome o.report (IsCounted workers t)
counted-by workers layout p F r t h h' w w' o (inl m) counted = subst (λ x. IfSome x (IsCounted workers t)) (sym (ap (λ (x : Outcome). x.report) m.0)) tt
counted-by workers layout p F r t h h' w w' o (inr d) counted =
    subst (λ x. IfSome x (IsCounted workers t)) (sym d.reports) (record { atoms = counted.atoms; bodies = counted.bodies; loops = counted.loops; numbered = counted.numbered })

pub from-ok : {E : Type 0} (P : Report → Type 0) (s : Result Report E) (r : Report) → s ≡ Ok r → IfOk s P → P r
from-ok {E = E} P s r is has = subst (λ (x : Result Report E). IfOk x P) is has

pub does-solve : (given : Options) (p : Program) (h h' : Option (List ℕ)) (w w' : ℕ) (o : Outcome) → given.split ≡ None → SolvesAs given.proof given p h h' w w' o → Does given p h h' w w' o
does-solve given p h h' w w' o asked solves = subst (λ (m : Option ℕ). DoesBy m given p h h' w w' o) (sym asked) solves

pub does-divide : (given : Options) (p : Program) (x : Prepared) (most : ℕ) (h h' : Option (List ℕ)) (w w' : ℕ) (o : Outcome) →
    given.split ≡ Some most → x ≡ prepared_of given p → Divides x.compiled most h h' w w' o → Does given p h h' w w' o
does-divide given p x most h h' w w' o asked is divides =
    subst (λ (m : Option ℕ). DoesBy m given p h h' w w' o) (sym asked) (subst (λ (q : Program). Divides q most h h' w w' o) (whole-parted given p x most asked is) divides)
