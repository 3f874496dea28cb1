use Rattle.std.proofs.Common.{◌<◌, length, ap, arith, subst}
use Rattle.asp_vars.specs.Literals.{Literal}
use Rattle.asp_checker.specs.Assuming.{IsAssumed}
use Rattle.asp_checker.proofs.AssumeLaws.{none_held, contrary_found, held_next, held_whole}
use Rattle.asp_checker.proofs.ChaseLaws.{trailed_itself, trailed_then}
use Rattle.asp_checker.proofs.confirm.assume_all.Goals as goal

pub loop-lit-init : goal.loop-lit-init
loop-lit-init c = record { held = none_held c.args.values.now c.args.lits.now; trailed = trailed_itself c.args.values.now c.args.trail.now.items }

pub assume-requires : goal.assume-requires
assume-requires c =
    let range = c.requires c.loop-lit.lit-index c.lit-item.result c.loop-lit-test.true in
    let var = ap (λ (l : Literal). l.var) c.lit-item.is in
    omega (arith, range, var, c.loop-lit.invariant.held.size)

pub returns-then-not-assumed-clause-assumed : goal.returns-then-not-assumed-clause-assumed
returns-then-not-assumed-clause-assumed c =
    contrary_found c.args.values.now c.loop-lit.values c.assume.new.values c.args.lits.now c.loop-lit.lit-index c.lit-item.result c.loop-lit-test.true c.lit-item.is c.loop-lit.invariant.held
    (subst (IsAssumed c.loop-lit.values c.assume.new.values c.lit-item.result) c.if-not-assumed.true c.in_ok-assumed.ensures.assumed)

pub returns-then-not-assumed-clause-trailed : goal.returns-then-not-assumed-clause-trailed
returns-then-not-assumed-clause-trailed c =
    trailed_then c.args.values.now c.loop-lit.values c.assume.new.values c.args.trail.now.items c.loop-lit.trail.items c.assume.new.trail.items
    c.loop-lit.invariant.trailed c.in_ok-assumed.ensures.trailed

pub loop-lit-preserved : goal.loop-lit-preserved
loop-lit-preserved c =
    let range = c.requires c.loop-lit.lit-index c.lit-item.result c.loop-lit-test.true in
    let var = ap (λ (l : Literal). l.var) c.lit-item.is in
    let inside : c.lit-item.result.var < length c.loop-lit.values = omega (arith, range, var, c.loop-lit.invariant.held.size) in
    record {
      held = held_next c.args.values.now c.loop-lit.values c.assume.new.values c.args.lits.now c.loop-lit.lit-index c.lit-item.result
          c.loop-lit-test.true c.lit-item.is inside c.loop-lit.invariant.held
          (subst (IsAssumed c.loop-lit.values c.assume.new.values c.lit-item.result) c.if-not-assumed.false c.in_ok-assumed.ensures.assumed);
      trailed =
          trailed_then c.args.values.now c.loop-lit.values c.assume.new.values c.args.trail.now.items c.loop-lit.trail.items c.assume.new.trail.items
          c.loop-lit.invariant.trailed c.in_ok-assumed.ensures.trailed;
    }

pub returns-clause-assumed : goal.returns-clause-assumed
returns-clause-assumed c = held_whole c.args.values.now c.loop-lit.values c.args.lits.now c.loop-lit.lit-index c.loop-lit-test.false c.loop-lit.invariant.held

pub returns-clause-trailed : goal.returns-clause-trailed
returns-clause-trailed c = c.loop-lit.invariant.trailed
