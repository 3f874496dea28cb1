use Rattle.std.proofs.Common.{◌≡◌, Option, arith, ap, subst}
use Rattle.std.specs.Prelude.{IfSome}
use Rattle.std.specs.Result.{IfOk}
use Rattle.asp_vars.specs.declared.nogood.Base.TheVariants as base
use Rattle.asp_vars.specs.declared.nogood.Nogood.{Nogood}
use Rattle.asp_trail.specs.Told.{Told}
use Rattle.asp_weight.specs.Brief.{IsBrief}
use Rattle.asp_weight.specs.Explained.{before, IsExcluded}
use Rattle.asp_weight.proofs.ExplainLaws.{within_at, own_at, own_ready, excluded_as, reason_as, brief_excluded, brief_reason}
use Rattle.asp_weight.proofs.weights.Weights.explain.Goals as goal

pub index-shape-requires : goal.index-shape-requires
index-shape-requires c =
    let same = ap (λ (t : Told). t.program) c.self.view_is in
    omega (arith, within_at c.self.inside.program.value c.args.self.now.program c.args.trail.now.entries c.args.place c.args.name same c.requires.explained, c.self.invariant.rowed.shaped)

pub row-row-requires : goal.row-row-requires
row-row-requires c =
    let same = ap (λ (t : Told). t.program) c.self.view_is in
    omega (arith, within_at c.self.inside.program.value c.args.self.now.program c.args.trail.now.entries c.args.place c.args.name same c.requires.explained, c.self.invariant.rowed.whole)

pub brief-requires-clause-ready : goal.brief-requires-clause-ready
brief-requires-clause-ready c =
    let i = c.self.inside in
    let same = ap (λ (t : Told). t.program) c.self.view_is in
    let o = own_at i.program.value c.args.self.now.program i.shapes.items i.rows c.args.trail.now c.args.place c.args.name c.index-shape.result.now c.row-row.result.now c.lit-lit.result
    c.self.invariant.rowed same c.requires.vars c.requires.explained c.lit-lit.ensures.lit c.index-shape.ensures c.row-row.ensures in
    own_ready i.program.value c.args.trail.now c.args.place c.args.name c.index-shape.result.now c.row-row.result.now c.lit-lit.result o c.self.invariant.few

pub brief-requires-clause-vars : goal.brief-requires-clause-vars
brief-requires-clause-vars c =
    let i = c.self.inside in
    let same = ap (λ (t : Told). t.program) c.self.view_is in
    let o = own_at i.program.value c.args.self.now.program i.shapes.items i.rows c.args.trail.now c.args.place c.args.name c.index-shape.result.now c.row-row.result.now c.lit-lit.result
    c.self.invariant.rowed same c.requires.vars c.requires.explained c.lit-lit.ensures.lit c.index-shape.ensures c.row-row.ensures in
    omega (arith, o.is_row.small.1, o.vars)

pub returns-in-Some-clause-excluded : goal.returns-in-Some-clause-excluded
returns-in-Some-clause-excluded c =
    let i = c.self.inside in
    let same = ap (λ (t : Told). t.program) c.self.view_is in
    let o = own_at i.program.value c.args.self.now.program i.shapes.items i.rows c.args.trail.now c.args.place c.args.name c.index-shape.result.now c.row-row.result.now c.lit-lit.result
    c.self.invariant.rowed same c.requires.vars c.requires.explained c.lit-lit.ensures.lit c.index-shape.ensures c.row-row.ensures in
    subst (λ (t : Told). IsExcluded t.program c.in-Some.nogood) c.self.view_is
    (brief_excluded i.program.value c.args.trail.now c.args.place c.args.name c.index-shape.result.now c.row-row.result.now c.lit-lit.result c.in-Some.nogood c.self.invariant.sound o
    (subst (λ (x : Option Nogood). IfSome x
    (λ n. IsBrief (before c.args.trail.now c.args.place) c.index-shape.result.now c.row-row.result.now c.lit-lit.result n.lits))
    c.in-Some.is c.in_ok-nogood.ensures.lits)
    (subst (λ (x : Option Nogood). IfSome x (λ n. n.base ≡ base.Pure)) c.in-Some.is c.in_ok-nogood.ensures.base))

pub returns-in-Some-clause-reason : goal.returns-in-Some-clause-reason
returns-in-Some-clause-reason c =
    brief_reason c.args.trail.now c.args.place c.lit-lit.result c.index-shape.result.now c.row-row.result.now c.in-Some.nogood c.len-len.ensures.ordered c.requires.place
    (subst (λ (x : Option Nogood). IfSome x
    (λ n. IsBrief (before c.args.trail.now c.args.place) c.index-shape.result.now c.row-row.result.now c.lit-lit.result n.lits))
    c.in-Some.is c.in_ok-nogood.ensures.lits)
    c.lit-lit.ensures.lit

pub speech_at-speech-requires-clause-var : goal.speech_at-speech-requires-clause-var
speech_at-speech-requires-clause-var c =
    let i = c.self.inside in
    let same = ap (λ (t : Told). t.program) c.self.view_is in
    let o = own_at i.program.value c.args.self.now.program i.shapes.items i.rows c.args.trail.now c.args.place c.args.name c.index-shape.result.now c.row-row.result.now c.lit-lit.result
    c.self.invariant.rowed same c.requires.vars c.requires.explained c.lit-lit.ensures.lit c.index-shape.ensures c.row-row.ensures in
    omega (arith, o.is_row.small.1, o.vars)

pub speech_at-speech-requires-clause-small : goal.speech_at-speech-requires-clause-small
speech_at-speech-requires-clause-small c =
    let i = c.self.inside in
    let same = ap (λ (t : Told). t.program) c.self.view_is in
    let o = own_at i.program.value c.args.self.now.program i.shapes.items i.rows c.args.trail.now c.args.place c.args.name c.index-shape.result.now c.row-row.result.now c.lit-lit.result
    c.self.invariant.rowed same c.requires.vars c.requires.explained c.lit-lit.ensures.lit c.index-shape.ensures c.row-row.ensures in
    omega (arith, o.is_row.small.1, c.self.invariant.few)

pub speech_at-speech-requires-clause-follows : goal.speech_at-speech-requires-clause-follows
speech_at-speech-requires-clause-follows c =
    let i = c.self.inside in
    let same = ap (λ (t : Told). t.program) c.self.view_is in
    let o = own_at i.program.value c.args.self.now.program i.shapes.items i.rows c.args.trail.now c.args.place c.args.name c.index-shape.result.now c.row-row.result.now c.lit-lit.result
    c.self.invariant.rowed same c.requires.vars c.requires.explained c.lit-lit.ensures.lit c.index-shape.ensures c.row-row.ensures in
    o.follows

pub speak-requires-clause-ready : goal.speak-requires-clause-ready
speak-requires-clause-ready c =
    let i = c.self.inside in
    let same = ap (λ (t : Told). t.program) c.self.view_is in
    let o = own_at i.program.value c.args.self.now.program i.shapes.items i.rows c.args.trail.now c.args.place c.args.name c.index-shape.result.now c.row-row.result.now c.lit-lit.result
    c.self.invariant.rowed same c.requires.vars c.requires.explained c.lit-lit.ensures.lit c.index-shape.ensures c.row-row.ensures in
    own_ready i.program.value c.args.trail.now c.args.place c.args.name c.index-shape.result.now c.row-row.result.now c.lit-lit.result o c.self.invariant.few

pub returns-clause-excluded : goal.returns-clause-excluded
returns-clause-excluded c =
    let i = c.self.inside in
    let same = ap (λ (t : Told). t.program) c.self.view_is in
    let o = own_at i.program.value c.args.self.now.program i.shapes.items i.rows c.args.trail.now c.args.place c.args.name c.index-shape.result.now c.row-row.result.now c.lit-lit.result
    c.self.invariant.rowed same c.requires.vars c.requires.explained c.lit-lit.ensures.lit c.index-shape.ensures c.row-row.ensures in
    subst (λ (t : Told). IfOk c.speak.result (IsExcluded t.program)) c.self.view_is
    (excluded_as i.program.value c.args.trail.now c.args.place c.args.name c.index-shape.result.now c.row-row.result.now c.lit-lit.result
    c.speech_at-speech.result c.speak.result c.self.invariant.sound o
    c.speech_at-speech.ensures.speaks c.speak.ensures.lits c.speak.ensures.base)

pub returns-clause-reason : goal.returns-clause-reason
returns-clause-reason c =
    reason_as c.args.trail.now c.args.place c.lit-lit.result c.speech_at-speech.result c.index-shape.result.now c.row-row.result.now c.speak.result c.len-len.ensures.ordered c.requires.place
    c.speech_at-speech.ensures.speaks c.speech_at-speech.ensures.rules_out c.lit-lit.ensures.lit c.speak.ensures.lits
