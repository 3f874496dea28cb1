use Rattle.std.proofs.Common.{List, refl, sym, subst}
use Rattle.std.specs.List.{All}
use Rattle.asp_vars.specs.Literals.{Literal}
use Rattle.asp_vars.specs.declared.nogood.Nogood.{Nogood}
use Rattle.asp_vars.specs.declared.nogood.Base.{Base}
use Rattle.asp_analyze.specs.Learning.{Used, IsNamed, IsReached, AreContained, AreAssumed}
use Rattle.asp_analyze.specs.Way.{IsOn, IsReady}
use Rattle.asp_analyze.proofs.EndLaws.{all_on, left_all_on, left_reached, left_contained, left_assumed}
use Rattle.asp_analyze.proofs.learn.analyse.Goals as goal

pub conclude-requires : goal.conclude-requires
conclude-requires g c =
    let es = c.args.trail.now.entries in
    let end = c.in_ok-point.ensures.traced in
    subst (λ (ls : List Literal). All (λ (l : Literal). IsOn es l) ls) (sym c.in_ok-lits.ensures) (left_all_on es end.top c.trace_back.new.marks end.way.marked)

pub returns-clause-reached : goal.returns-clause-reached
returns-clause-reached g c =
    let es = c.args.trail.now.entries in
    let from : Nogood = record { lits = c.args.lits.now; base = c.in_ok-base.base } in
    let given : Nogood = record { lits = c.args.lits.now; base = c.args.base.now } in
    let says = g.R.Reasons.says c.args.reasons.now in
    let end = c.in_ok-point.ensures.traced in
    let on = all_on c.args.trail.now.vars es c.args.lits.now c.len-len.ensures.ordered c.requires.contained in
    subst (λ (x : Nogood). (used : List Used) × IsReached es given used x × All (IsNamed says es) used) (sym c.conclude.ensures.nogood)
    (subst (λ (b : Base). let x : Nogood = record { lits = c.in_ok-lits.lits; base = c.trace_back.new.base } in (used : List Used) ×
    IsReached es (record { lits = c.args.lits.now; base = b }) used x × All (IsNamed says es) used) c.in_ok-base.ensures
    (left_reached es says from end.top c.trace_back.new.marks c.trace_back.new.base record { lits = c.in_ok-lits.lits; base = c.trace_back.new.base } on end.way c.in_ok-lits.ensures refl))

pub returns-clause-contained : goal.returns-clause-contained
returns-clause-contained g c =
    let es = c.args.trail.now.entries in
    let end = c.in_ok-point.ensures.traced in
    subst (λ (x : Nogood). AreContained c.args.trail.now.vars es x.lits) (sym c.conclude.ensures.nogood)
    (subst (λ (ls : List Literal). AreContained c.args.trail.now.vars es ls) (sym c.in_ok-lits.ensures)
    (left_contained es end.top c.args.trail.now.vars c.trace_back.new.marks c.len-len.ensures.ordered end.way.marked))

pub returns-clause-assumed : goal.returns-clause-assumed
returns-clause-assumed g c =
    let es = c.args.trail.now.entries in
    let end = c.in_ok-point.ensures.traced in
    subst (λ (x : Nogood). AreAssumed es x.lits) (sym c.conclude.ensures.nogood)
    (subst (λ (ls : List Literal). AreAssumed es ls) (sym c.in_ok-lits.ensures) (left_assumed es end.top c.trace_back.new.marks end.way.marked end.settled))

pub returns-clause-learned : goal.returns-clause-learned
returns-clause-learned g c =
    c.conclude.ensures.learned c.args.lits.now
    (subst (λ (ls : List Literal). IsReady c.args.trail.now.entries c.args.lits.now ls c.in_ok-point.point) (sym c.in_ok-lits.ensures) c.in_ok-point.ensures.traced.ready)
