use Rattle.std.proofs.Common.{◌≡◌, refl, sym, ap, Some, None}
use Rattle.asp_bound.specs.Reach.{reach, lifted}
use Rattle.asp_bound.specs.Needed.{is_shown}
use Rattle.asp_bound.proofs.ReachLaws.{reached_now}
use Rattle.asp_bound.proofs.needed.is_reached.Goals as goal

pub returns-in-Some : goal.returns-in-Some
returns-in-Some c =
    let reached : Some c.in-Some.shown ≡ reach (lifted (λ j. 0) c.args.sums.now) c.args.bound.now = c.in-Some.ensures in
    sym (ap (is_shown c.args.depth) (reached_now c.args.sums.now c.args.bound.now c.args.sums.now c.args.bound.now (Some c.in-Some.shown) refl refl reached))

pub returns-in-None : goal.returns-in-None
returns-in-None c =
    let reached : None ≡ reach (lifted (λ j. 0) c.args.sums.now) c.args.bound.now = c.in-None.ensures in
    sym (ap (is_shown c.args.depth) (reached_now c.args.sums.now c.args.bound.now c.args.sums.now c.args.bound.now None refl refl reached))
