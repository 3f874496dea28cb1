use Rattle.std.proofs.Common.{sym, subst, ◌∙◌}
use Rattle.asp_checker.specs.Lines.{stock, all_of}
use Rattle.asp_checker.specs.Blocks.{known_with, Extends}
use Rattle.asp_checker.specs.Chasing.{IsTrailedAlike}
use Rattle.asp_checker.proofs.CloseLaws.{extends_itself, refuted_before}
use Rattle.asp_checker.proofs.ChaseLaws.{found_more, trailed_itself, trailed_then, trailed_found}
use Rattle.asp_checker.proofs.chase.chase.Goals as goal

pub hints-init : goal.hints-init
hints-init c = record {
  extends =
      extends_itself c.args.compiled.now (all_of
      (stock (known_with c.args.compiled.now c.args.listed.now c.args.rows.now c.args.bound.now) c.args.placed.now)) c.args.values.now;
  trailed = trailed_itself c.args.values.now c.args.trail.now.items;
}

pub next-requires : goal.next-requires
next-requires c = c.hints.invariant.extends.size ∙ c.requires.size

pub follow-found-requires-clause-size : goal.follow-found-requires-clause-size
follow-found-requires-clause-size c = c.hints.invariant.extends.size ∙ c.requires.size

pub hints-preserved : goal.hints-preserved
hints-preserved c =
    let p = c.args.compiled.now in
    let k = all_of (stock (known_with c.args.compiled.now c.args.listed.now c.args.rows.now c.args.bound.now) c.args.placed.now) in
    record {
      extends = found_more p k c.args.values.now c.hints.values c.follow-found.new.values c.follow-found.result c.in_default-found.not-Conflict c.hints.invariant.extends c.follow-found.ensures;
      trailed = trailed_then c.args.values.now c.hints.values c.follow-found.new.values c.args.trail.now.items c.hints.trail.items c.add.new.trail.items c.hints.invariant.trailed
          (subst (IsTrailedAlike c.hints.values c.follow-found.new.values c.hints.trail.items) (sym c.in_ok-add.ensures)
          (trailed_found p k c.hints.values c.follow-found.new.values c.hints.trail.items c.follow-found.result
          c.in_default-found.not-Conflict c.follow-found.ensures));
    }

pub returns-in-Conflict-clause-conflict : goal.returns-in-Conflict-clause-conflict
returns-in-Conflict-clause-conflict c = λ e. refuted_before c.args.compiled.now
    (all_of (stock (known_with c.args.compiled.now c.args.listed.now c.args.rows.now c.args.bound.now) c.args.placed.now)) c.args.values.now
    c.hints.values c.hints.invariant.extends c.in-Conflict.ensures.0

pub returns-in-Conflict-clause-extends : goal.returns-in-Conflict-clause-extends
returns-in-Conflict-clause-extends c =
    subst (Extends c.args.compiled.now
    (all_of (stock (known_with c.args.compiled.now c.args.listed.now c.args.rows.now c.args.bound.now) c.args.placed.now)) c.args.values.now)
    (sym c.in-Conflict.ensures.1) c.hints.invariant.extends

pub returns-in-Conflict-clause-trailed : goal.returns-in-Conflict-clause-trailed
returns-in-Conflict-clause-trailed c = subst (λ z. IsTrailedAlike c.args.values.now z c.args.trail.now.items c.hints.trail.items) (sym c.in-Conflict.ensures.1) c.hints.invariant.trailed
