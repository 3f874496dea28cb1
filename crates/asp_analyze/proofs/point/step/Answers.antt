use Rattle.std.proofs.Common.{◌≡◌, ◌∙◌, ◌≢◌, ℕ, ap, sym, refl, arith}
use Rattle.asp_analyze.specs.declared.marks.Mark.TheVariants as mark
use Rattle.asp_analyze.specs.Marks.{mark_of}
use Rattle.asp_analyze.proofs.StandLaws.{lit_on}
use Rattle.asp_analyze.proofs.PointLaws.{down_passes, point_counted, point_decided, down_opened}
use Rattle.asp_analyze.proofs.point.step.Goals as goal

pub get-requires : goal.get-requires
get-requires g c =
    let a = c.requires.way.1.marked in
    let on = lit_on a.ordered.0 c.args.trail.now.entries c.args.i c.lit-lit.result a.ordered.1 c.requires.i c.lit-lit.ensures.lit in
    omega (arith, c.var.ensures, a.small c.lit-lit.result on.0)

pub returns-in_default : goal.returns-in_default
returns-in_default g c =
    let a = c.requires.way.1.marked in
    let on = lit_on a.ordered.0 c.args.trail.now.entries c.args.i c.lit-lit.result a.ordered.1 c.requires.i c.lit-lit.ensures.lit in
    let ne : mark_of c.args.marks.now.marks c.lit-lit.result.var ≢ mark.Pending =
    λ p. c.in_default.not-Pending (c.get.ensures ∙ (ap (λ (v : ℕ). mark_of c.args.marks.now.marks v) c.var.ensures ∙ p)) in record {
      way = λ from w. w;
      found = tt;
      down = down_passes c.args.trail.now.entries c.args.top c.args.i c.args.marks.now c.lit-lit.result a on.0 on.1 ne c.requires.down;
      size = refl;
    }

pub returns-then-pending-eq1-clause-found : goal.returns-then-pending-eq1-clause-found
returns-then-pending-eq1-clause-found g c =
    let a = c.requires.way.1.marked in
    let on = lit_on a.ordered.0 c.args.trail.now.entries c.args.i c.lit-lit.result a.ordered.1 c.requires.i c.lit-lit.ensures.lit in
    let is : mark_of c.args.marks.now.marks c.lit-lit.result.var ≡ mark.Pending =
    sym (c.get.ensures ∙ ap (λ (v : ℕ). mark_of c.args.marks.now.marks v) c.var.ensures) ∙ c.in-Pending.is in
    point_counted c.args.trail.now.entries c.args.top c.args.marks.now c.lit-lit.result a on.0 is (sym c.pending.ensures ∙ c.if-pending-eq1.true)

pub reason_of-requires : goal.reason_of-requires
reason_of-requires g c =
    let a = c.requires.way.1.marked in
    (lit_on a.ordered.0 c.args.trail.now.entries c.args.i c.lit-lit.result a.ordered.1 c.requires.i c.lit-lit.ensures.lit).0

pub open-requires-clause-on : goal.open-requires-clause-on
open-requires-clause-on g c =
    let a = c.requires.way.1.marked in
    (lit_on a.ordered.0 c.args.trail.now.entries c.args.i c.lit-lit.result a.ordered.1 c.requires.i c.lit-lit.ensures.lit).0

pub returns-in-None-clause-found : goal.returns-in-None-clause-found
returns-in-None-clause-found g c =
    let a = c.requires.way.1.marked in
    let on = lit_on a.ordered.0 c.args.trail.now.entries c.args.i c.lit-lit.result a.ordered.1 c.requires.i c.lit-lit.ensures.lit in
    let is : mark_of c.args.marks.now.marks c.lit-lit.result.var ≡ mark.Pending =
    sym (c.get.ensures ∙ ap (λ (v : ℕ). mark_of c.args.marks.now.marks v) c.var.ensures) ∙ c.in-Pending.is in
    point_decided c.args.trail.now.entries c.args.top c.args.i c.args.marks.now c.lit-lit.result a on.0 on.1 is (sym c.reason_of.ensures ∙ c.in-None.is) c.requires.down

pub returns-in_ok-open-in-Some-clause-down : goal.returns-in_ok-open-in-Some-clause-down
returns-in_ok-open-in-Some-clause-down g c =
    let a = c.requires.way.1.marked in
    let on = lit_on a.ordered.0 c.args.trail.now.entries c.args.i c.lit-lit.result a.ordered.1 c.requires.i c.lit-lit.ensures.lit in
    let is : mark_of c.args.marks.now.marks c.lit-lit.result.var ≡ mark.Pending =
    sym (c.get.ensures ∙ ap (λ (v : ℕ). mark_of c.args.marks.now.marks v) c.var.ensures) ∙ c.in-Pending.is in
    down_opened c.args.trail.now.entries c.args.top c.args.i c.args.marks.now c.open.new.marks c.lit-lit.result a on.0 on.1 is
    (λ one. c.if-pending-eq1.false (c.pending.ensures ∙ one)) c.in_ok-open-in-Some.ensures.opened c.requires.down
