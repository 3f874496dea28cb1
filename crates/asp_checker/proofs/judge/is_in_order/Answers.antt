use Rattle.std.proofs.Common.{◌≡◌, ◌<◌, ◌+◌, ◌-◌, length, refl, arith, subst, sym, ◌∙◌}
use Rattle.asp_checker.specs.Judging.{IsInOrder}
use Rattle.asp_checker.proofs.SetListLaws.{last_is}
use Rattle.asp_checker.proofs.JudgeLaws.{empty_in_order, not_single, later_in_order, not_after}
use Rattle.asp_checker.proofs.judge.is_in_order.Goals as goal

pub returns-then-len-eq0-clause-yes : goal.returns-then-len-eq0-clause-yes
returns-then-len-eq0-clause-yes c = λ e. empty_in_order c.args.opt c.args.before.now.sets c.args.set.now (sym c.len.ensures.count ∙ c.if-len-eq0.true)

pub returns-then-opt-clause-no : goal.returns-then-opt-clause-no
returns-then-opt-clause-no c = λ e h.
    let positive : 0 < length c.args.before.now.sets = omega (arith, c.len.ensures.count, c.if-len-eq0.false) in
    not_single c.args.before.now.sets c.args.set.now (length c.args.before.now.sets) refl positive (subst (λ o. IsInOrder o c.args.before.now.sets c.args.set.now) c.if-opt.true h)

pub returns-clause-yes : goal.returns-clause-yes
returns-clause-yes c = λ e.
    let sets = c.args.before.now.sets in
    let n = length sets - 1 in
    let size : length sets ≡ n + 1 = omega (arith, c.len.ensures.count, c.if-len-eq0.false) in
    later_in_order c.args.opt sets c.args.set.now c.last.result.now n c.requires size (last_is sets n c.last.result.now size c.last.ensures) c.if-opt.false (c.comes_after.ensures.yes e)

pub returns-clause-no : goal.returns-clause-no
returns-clause-no c = λ e h.
    let sets = c.args.before.now.sets in
    let n = length sets - 1 in
    let size : length sets ≡ n + 1 = omega (arith, c.len.ensures.count, c.if-len-eq0.false) in
    not_after c.args.opt sets c.args.set.now c.last.result.now n (omega (arith, size)) (last_is sets n c.last.result.now size c.last.ensures) (c.comes_after.ensures.no e) h
