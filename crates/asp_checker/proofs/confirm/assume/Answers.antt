use Rattle.std.proofs.Common.{◌∙◌, sym, subst, Some, set}
use Rattle.asp_checker.specs.Chasing.{IsTrailedAlike}
use Rattle.asp_checker.proofs.ChaseLaws.{trailed_set, trailed_held}
use Rattle.asp_checker.proofs.confirm.assume.Goals as goal

pub returns-then-held-clause-trailed : goal.returns-then-held-clause-trailed
returns-then-held-clause-trailed c =
    subst (λ z. IsTrailedAlike c.args.values.now z c.args.trail.now.items c.args.trail.now.items) (sym c.set.ensures)
    (trailed_held c.args.values.now c.args.trail.now.items c.args.lit c.requires (sym c.holds-held.ensures ∙ c.if-held.true))

pub returns-clause-trailed : goal.returns-clause-trailed
returns-clause-trailed c =
    subst (λ z. IsTrailedAlike c.args.values.now z c.args.trail.now.items c.push.new.self.items) (sym c.set.ensures)
    (subst (IsTrailedAlike c.args.values.now (set c.args.values.now c.args.lit.var (Some c.args.lit.truth)) c.args.trail.now.items)
    (sym c.in_ok-push.ensures.items) (trailed_set c.args.values.now c.args.trail.now.items c.args.lit))
