use Rattle.std.proofs.Common.{◌≡◌, sym, ap, ◌∙◌, subst}
use Rattle.asp_model.specs.declared.program.Program.{Program}
use Rattle.asp_model.specs.Models.{atoms_of}
use Rattle.asp_model.specs.Sets.{IsSubset}
use Rattle.asp_vars.specs.Numbering.{var_count}
use Rattle.asp_trail.specs.Entries.{assignment}
use Rattle.asp_found.specs.declared.check.Verdict.TheVariants as verdict
use Rattle.asp_found.specs.Verdicts.{IsVerdict, HasUnfounded}
use Rattle.asp_stable.specs.Founding.{KeepsCompletion, GivesAtoms}
use Rattle.asp_search.proofs.FaultLaws.{broken_by, unfounded_stand, unfounded_here, loop_by, kept_by, gives_by, within_by}
use Rattle.asp_search.proofs.faults.fault.Goals as goal

pub check-requires-clause-values : goal.check-requires-clause-values
check-requires-clause-values g c =
    let p = c.args.compiled.now in
    let is : c.assignment-assign.result.now ≡ assignment (var_count p) c.args.state.now.entries =
    c.assignment-assign.ensures.values ∙ (ap (λ v. assignment v c.trail.result.now.entries) (c.trail.ensures.vars ∙ ap var_count c.requires.program)
    ∙ ap (assignment (var_count p)) c.trail.ensures.entries) in
    subst (λ (q : Program). GivesAtoms q c.args.interp.now c.assignment-assign.result.now) (sym c.requires.checker)
    (gives_by p c.args.state.now.entries c.requires.whole c.args.interp.now c.requires.atoms c.assignment-assign.result.now is)

pub check-requires-clause-within : goal.check-requires-clause-within
check-requires-clause-within g c =
    let p = c.args.compiled.now in
    subst (λ (q : Program). IsSubset c.args.interp.now (atoms_of q)) (sym c.requires.checker)
    (within_by p c.args.state.now.entries c.requires.whole c.args.interp.now c.requires.atoms)

pub check-requires-clause-kept : goal.check-requires-clause-kept
check-requires-clause-kept g c =
    let p = c.args.compiled.now in
    subst (λ (q : Program). KeepsCompletion q c.args.interp.now) (sym c.requires.checker)
    (kept_by p c.args.state.now.entries c.requires.whole c.args.interp.now c.requires.atoms)

pub unfounded-requires-clause-atoms : goal.unfounded-requires-clause-atoms
unfounded-requires-clause-atoms g c =
    let p = c.args.compiled.now in
    let S = c.args.interp.now in
    unfounded_stand p c.args.state.now.entries c.requires.whole S c.requires.atoms c.as_slice.result.now
    (subst (HasUnfounded p S) (sym c.as_slice.ensures.value)
    (subst (λ (q : Program). IsVerdict q S (verdict.Unfounded c.in-Unfounded.set)) c.requires.checker
    (subst (IsVerdict c.args.checker.now S) c.in-Unfounded.is c.in_ok-check.ensures.verdict)).0)

pub unfounded-requires-clause-unfounded : goal.unfounded-requires-clause-unfounded
unfounded-requires-clause-unfounded g c =
    let p = c.args.compiled.now in
    let S = c.args.interp.now in
    let is : c.assignment-assign.result.now ≡ assignment (var_count p) c.args.state.now.entries =
    c.assignment-assign.ensures.values ∙ (ap (λ v. assignment v c.trail.result.now.entries) (c.trail.ensures.vars ∙ ap var_count c.requires.program)
    ∙ ap (assignment (var_count p)) c.trail.ensures.entries) in
    unfounded_here p c.args.state.now.entries c.requires.whole S c.requires.atoms c.assignment-assign.result.now c.as_slice.result.now is
    (subst (HasUnfounded p S) (sym c.as_slice.ensures.value)
    (subst (λ (q : Program). IsVerdict q S (verdict.Unfounded c.in-Unfounded.set)) c.requires.checker
    (subst (IsVerdict c.args.checker.now S) c.in-Unfounded.is c.in_ok-check.ensures.verdict)).0)

pub returns-in-Stable-clause-fault : goal.returns-in-Stable-clause-fault
returns-in-Stable-clause-fault g c =
    let S = c.args.interp.now in
    subst (λ (q : Program). IsVerdict q S verdict.Stable) c.requires.checker (subst (IsVerdict c.args.checker.now S) c.in-Stable.is c.in_ok-check.ensures.verdict)

pub returns-in-Broken-clause-fault : goal.returns-in-Broken-clause-fault
returns-in-Broken-clause-fault g c =
    let p = c.args.compiled.now in
    let S = c.args.interp.now in
    broken_by p c.args.state.now.entries c.requires.whole S c.requires.atoms (g.P.Propagator.gives p c.args.state.now.bound) c.in-Broken.nogood
    (subst (λ (q : Program). IsVerdict q S (verdict.Broken c.in-Broken.nogood)) c.requires.checker
    (subst (IsVerdict c.args.checker.now S) c.in-Broken.is c.in_ok-check.ensures.verdict)).0

pub returns-in_ok-nogood-in-Unfounded-clause-fault : goal.returns-in_ok-nogood-in-Unfounded-clause-fault
returns-in_ok-nogood-in-Unfounded-clause-fault g c =
    let p = c.args.compiled.now in
    let S = c.args.interp.now in
    let is : c.assignment-assign.result.now ≡ assignment (var_count p) c.args.state.now.entries =
    c.assignment-assign.ensures.values ∙ (ap (λ v. assignment v c.trail.result.now.entries) (c.trail.ensures.vars ∙ ap var_count c.requires.program)
    ∙ ap (assignment (var_count p)) c.trail.ensures.entries) in
    let l = c.in_ok-nogood-in-Unfounded.ensures in
    loop_by p c.args.state.now.entries c.requires.whole S c.requires.atoms (g.P.Propagator.gives p c.args.state.now.bound)
    c.assignment-assign.result.now c.as_slice.result.now l.0 c.in_ok-nogood-in-Unfounded.nogood is
    (subst (HasUnfounded p S) (sym c.as_slice.ensures.value)
    (subst (λ (q : Program). IsVerdict q S (verdict.Unfounded c.in-Unfounded.set)) c.requires.checker
    (subst (IsVerdict c.args.checker.now S) c.in-Unfounded.is c.in_ok-check.ensures.verdict)).0) l.1 l.2
