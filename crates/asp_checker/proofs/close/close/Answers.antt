use Rattle.std.proofs.Common.{sym, subst, ◌∙◌}
use Rattle.asp_checker.specs.Propagation.{Known, IsPropagated}
use Rattle.asp_checker.specs.Lines.{stock, all_of}
use Rattle.asp_checker.specs.Blocks.{known_with, Extends}
use Rattle.asp_checker.proofs.CloseLaws.{extends_itself, extends_then, refuted_before}
use Rattle.asp_checker.proofs.close.close.Goals as goal

pub steps-init : goal.steps-init
steps-init c = extends_itself c.args.compiled.now (all_of (stock (known_with c.args.compiled.now c.args.listed.now c.args.rows.now c.args.bound.now) c.args.placed.now)) c.args.values.now

pub step-requires-clause-size : goal.step-requires-clause-size
step-requires-clause-size c = c.steps.invariant.size ∙ c.requires.size

pub steps-preserved : goal.steps-preserved
steps-preserved c =
    extends_then c.args.compiled.now (all_of
    (stock (known_with c.args.compiled.now c.args.listed.now c.args.rows.now c.args.bound.now) c.args.placed.now)) c.args.values.now
    c.steps.values c.step.new.values c.steps.invariant c.in-Implied.ensures.0

pub steps-smaller : goal.steps-smaller
steps-smaller c = c.in-Implied.ensures.1

pub returns-in-Conflict-clause-conflict : goal.returns-in-Conflict-clause-conflict
returns-in-Conflict-clause-conflict c = λ e. refuted_before c.args.compiled.now
    (all_of (stock (known_with c.args.compiled.now c.args.listed.now c.args.rows.now c.args.bound.now) c.args.placed.now)) c.args.values.now
    c.steps.values c.steps.invariant c.in-Conflict.ensures

pub returns-in-Fixpoint-clause-extends : goal.returns-in-Fixpoint-clause-extends
returns-in-Fixpoint-clause-extends c = λ e.
    let k : Known = all_of (stock (known_with c.args.compiled.now c.args.listed.now c.args.rows.now c.args.bound.now) c.args.placed.now) in
    subst (Extends c.args.compiled.now k c.args.values.now) (sym c.in-Fixpoint.ensures.0) c.steps.invariant

pub returns-in-Fixpoint-clause-propagated : goal.returns-in-Fixpoint-clause-propagated
returns-in-Fixpoint-clause-propagated c = λ e.
    let k : Known = all_of (stock (known_with c.args.compiled.now c.args.listed.now c.args.rows.now c.args.bound.now) c.args.placed.now) in
    subst (IsPropagated c.args.compiled.now k) (sym c.in-Fixpoint.ensures.0) c.in-Fixpoint.ensures.1
