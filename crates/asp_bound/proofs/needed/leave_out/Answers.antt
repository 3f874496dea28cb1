use Rattle.std.proofs.Common.{◌∙◌, List, ℤ, sym, ap}
use Rattle.asp_bound.specs.Reach.{reach}
use Rattle.asp_bound.specs.Rises.{raised}
use Rattle.asp_bound.specs.Needed.{is_shown}
use Rattle.asp_bound.proofs.NeededLaws.{lowered-is, restored}
use Rattle.asp_bound.proofs.needed.leave_out.Goals as goal

pub returns-then-is_reached-clause-out : goal.returns-then-is_reached-clause-out
returns-then-is_reached-clause-out c =
    let is = lowered-is (λ j. raised c.args.row.now j c.args.truth) c.args.sums.now c.lower.new.sums c.lower.auto.sums c.lower.ensures in
    sym c.if-is_reached.true ∙ (c.is_reached.ensures ∙ ap (λ (s : List ℤ). is_shown c.args.depth (reach s c.args.bound.now)) is)

pub returns-then-is_reached-clause-sums : goal.returns-then-is_reached-clause-sums
returns-then-is_reached-clause-sums c = lowered-is (λ j. raised c.args.row.now j c.args.truth) c.args.sums.now c.lower.new.sums c.lower.auto.sums c.lower.ensures

pub returns-clause-out : goal.returns-clause-out
returns-clause-out c =
    let is = lowered-is (λ j. raised c.args.row.now j c.args.truth) c.args.sums.now c.lower.new.sums c.lower.auto.sums c.lower.ensures in
    sym c.if-is_reached.false ∙ (c.is_reached.ensures ∙ ap (λ (s : List ℤ). is_shown c.args.depth (reach s c.args.bound.now)) is)

pub returns-clause-sums : goal.returns-clause-sums
returns-clause-sums c = restored (λ j. raised c.args.row.now j c.args.truth) c.args.sums.now c.lower.new.sums c.raise.new.sums c.lower.auto.sums c.raise.auto.sums c.lower.ensures c.raise.ensures
