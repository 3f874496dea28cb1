use Rattle.std.proofs.Common.{◌≡◌, ◌∙◌, arith, true, false, refl, ap, sym, subst}
use Rattle.std.proofs.lemmas.Bool.{false≢true}
use Rattle.asp_trail.specs.Told.{Told}
use Rattle.asp_weight.specs.Silence.{is_silent}
use Rattle.asp_weight.specs.Definition.{IsGiven}
use Rattle.asp_weight.proofs.StepLaws.{none_said, one_said}
use Rattle.asp_weight.specs.Spoken.{spoken}
use Rattle.asp_weight.specs.Explained.{before, IsImplied}
use Rattle.asp_weight.proofs.LateLaws.{one_speaks_at, few_at, implied_at, ready_at, before_all}
use Rattle.asp_weight.proofs.weights.Weights.next.Goals as goal

pub returns-in_default-clause-silent : goal.returns-in_default-clause-silent
returns-in_default-clause-silent c =
    let e = c.assignment-values.ensures.values ∙ (sym c.requires ∙ ap (λ (t : Told). t.values) (sym c.self.view_is)) in
    let s =
    none_said c.self.inside.program.value c.self.inside.values c.assignment-values.result.now c.self.inside.shapes.items c.as_slice.result.now
    c.self.inside.rows c.self.inside.places c.self.inside.tallies.tallies
    c.first_speech.new.tallies.tallies c.self.invariant e c.as_slice.ensures.value c.first_speech.ensures.counted c.first_speech.ensures.silence c.in_default.ensures.none in
    (λ _. subst (λ (t : Told). is_silent t.program t.values ≡ true) c.self.view_is s, λ _. refl)

pub overflow_cast-name : goal.overflow_cast-name
overflow_cast-name c =
    omega (arith, few_at c.self.inside.program.value c.self.inside.shapes.items c.self.inside.rows c.in-Some.body c.self.invariant.few c.self.invariant.rowed c.in-Some.ensures.some.0)

pub returns-in-Some-said_of-clause-silent : goal.returns-in-Some-said_of-clause-silent
returns-in-Some-said_of-clause-silent c =
    let e = c.assignment-values.ensures.values ∙ (sym c.requires ∙ ap (λ (t : Told). t.values) (sym c.self.view_is)) in
    let s =
    one_speaks_at c.self.inside.program.value c.self.inside.values c.assignment-values.result.now c.self.inside.shapes.items c.as_slice.result.now
    c.self.inside.rows c.self.inside.places c.self.inside.tallies.tallies c.in-Some.body c.in-Some.speech c.self.invariant e
    c.as_slice.ensures.value c.in-Some.ensures.some in
    (λ h. absurd (false≢true (sym h)), λ h. absurd (false≢true (sym (subst (λ (t : Told). is_silent t.program t.values ≡ false) c.self.view_is s) ∙ h)))

pub returns-in-Some-said_of-clause-said : goal.returns-in-Some-said_of-clause-said
returns-in-Some-said_of-clause-said c =
    let e = c.assignment-values.ensures.values ∙ (sym c.requires ∙ ap (λ (t : Told). t.values) (sym c.self.view_is)) in
    let q = ap (λ (t : Told). t.values) c.self.view_is ∙ c.requires in
    subst (λ (t : Told). IsImplied t c.args.trail.now.entries c.in-Some-said_of.lit c.in-Some.body) c.self.view_is
    (implied_at c.self.inside.program.value c.self.inside.values c.assignment-values.result.now c.args.trail.now c.self.inside.shapes.items
    c.self.inside.rows c.self.inside.places c.self.inside.tallies.tallies
    c.in-Some.body c.index-shape.result.now c.row-row.result.now c.in-Some-said_of.lit c.self.invariant q e c.in-Some.ensures.some.0 c.index-shape.ensures c.row-row.ensures c.in-Some-said_of.ensures)

pub speak-requires-clause-ready : goal.speak-requires-clause-ready
speak-requires-clause-ready c =
    let q = ap (λ (t : Told). t.values) c.self.view_is ∙ c.requires in
    ready_at c.self.inside.program.value c.self.inside.values (before c.args.trail.now c.len.result) c.self.inside.shapes.items c.self.inside.rows c.self.inside.places c.self.inside.tallies.tallies
    c.in-Some.body c.index-shape.result.now c.row-row.result.now c.self.invariant
    (before_all c.args.trail.now c.len.result c.self.inside.values c.len.ensures.len q) c.in-Some.ensures.some.0 c.index-shape.ensures
    c.row-row.ensures

pub returns-clause-silent : goal.returns-clause-silent
returns-clause-silent c =
    let e = c.assignment-values.ensures.values ∙ (sym c.requires ∙ ap (λ (t : Told). t.values) (sym c.self.view_is)) in
    let s =
    one_speaks_at c.self.inside.program.value c.self.inside.values c.assignment-values.result.now c.self.inside.shapes.items c.as_slice.result.now
    c.self.inside.rows c.self.inside.places c.self.inside.tallies.tallies c.in-Some.body c.in-Some.speech c.self.invariant e
    c.as_slice.ensures.value c.in-Some.ensures.some in
    (λ h. absurd (false≢true (sym h)), λ h. absurd (false≢true (sym (subst (λ (t : Told). is_silent t.program t.values ≡ false) c.self.view_is s) ∙ h)))

pub returns-clause-said : goal.returns-clause-said
returns-clause-said c =
    let e = c.assignment-values.ensures.values ∙ (sym c.requires ∙ ap (λ (t : Told). t.values) (sym c.self.view_is)) in
    let q = ap (λ (t : Told). t.values) c.self.view_is ∙ c.requires in
    let now = before_all c.args.trail.now c.len.result c.self.inside.values c.len.ensures.len q ∙ sym e in
    let s =
    one_said c.self.inside.program.value c.self.inside.values c.assignment-values.result.now c.self.inside.shapes.items c.as_slice.result.now
    c.self.inside.rows c.self.inside.places c.self.inside.tallies.tallies
    c.in-Some.body c.in-Some.speech c.index-shape.result.now c.row-row.result.now c.in_ok-nogood.nogood c.self.invariant e c.as_slice.ensures.value
    c.in-Some.ensures.some c.index-shape.ensures c.row-row.ensures
    (c.in_ok-nogood.ensures.lits ∙ ap (λ v. spoken c.in-Some.speech v c.index-shape.result.now c.row-row.result.now) now) c.in_ok-nogood.ensures.base in
    subst (λ (t : Told). IsGiven t c.in_ok-nogood.nogood) c.self.view_is s.1
