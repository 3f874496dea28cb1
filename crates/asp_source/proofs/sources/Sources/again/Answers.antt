use Rattle.std.proofs.Common.{length, sym, ap, ◌∙◌, subst}
use Rattle.asp_trail.specs.Told.{Told}
use Rattle.asp_source.specs.Loops.{IsGiven}
use Rattle.asp_source.proofs.GivenLaws.{again_given}
use Rattle.asp_source.proofs.RestLaws.{remembered_stand, reason_valued}
use Rattle.asp_source.proofs.ShownLaws.{told_shown}
use Rattle.asp_source.proofs.sources.Sources.again.Goals as goal

pub again-requires-clause-stand : goal.again-requires-clause-stand
again-requires-clause-stand c = remembered_stand c.self.inside.compiled.now c.self.inside.found c.self.invariant.found

pub again-requires-clause-reason : goal.again-requires-clause-reason
again-requires-clause-reason c =
    let e = sym c.requires ∙ ap (λ (t : Told). t.values) (sym c.self.view_is) in
    reason_valued c.self.inside.compiled.now c.args.values.now c.self.inside.found.reason (ap length e ∙ c.self.invariant.sized) c.self.invariant.within

pub returns-clause-given : goal.returns-clause-given
returns-clause-given c =
    let e = sym c.requires ∙ ap (λ (t : Told). t.values) (sym c.self.view_is) in
    let t : Told = record { program = c.self.inside.compiled.now; values = c.args.values.now } in
    let again = rw c.in-Some.is at c.in_ok-again.ensures.given in
    subst (λ (t : Told). IsGiven t c.in-Some.nogood) (told_shown c.self.inside.compiled.now c.self.inside.values c.args.values.now _ e c.self.view_is)
    (again_given t c.self.inside.found.set c.self.inside.found.reason c.in-Some.nogood c.program-program.ensures.sound c.self.invariant.within c.self.invariant.found again)
