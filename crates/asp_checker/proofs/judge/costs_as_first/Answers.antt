use Rattle.std.proofs.Common.{◌≡◌, sym, ap, ◌∙◌, arith}
use Rattle.asp_model.specs.declared.program.Program.{Program}
use Rattle.asp_model.specs.Costs.{cost}
use Rattle.asp_checker.proofs.SetListLaws.{first_is}
use Rattle.asp_checker.proofs.JudgeLaws.{first_alike, later_alike, not_alike}
use Rattle.asp_checker.proofs.judge.costs_as_first.Goals as goal

pub returns-then-len-eq0-clause-yes : goal.returns-then-len-eq0-clause-yes
returns-then-len-eq0-clause-yes c = λ e. first_alike c.args.compiled.now c.args.before.now.sets c.args.set.now (sym c.len.ensures.count ∙ c.if-len-eq0.true)

pub returns-clause-yes : goal.returns-clause-yes
returns-clause-yes c =
    let p : Program = c.args.compiled.now in
    let T = c.first-first.result.now in
    let one : c.in_ok-cost.cost ≡ cost p c.args.set.now = c.in_ok-cost.ensures ∙ ap (λ (q : Program). cost q c.args.set.now) c.program-program.ensures.program in
    let other : c.in_ok-least.least ≡ cost p T = c.in_ok-least.ensures ∙ ap (λ (q : Program). cost q T) c.program-program.ensures.program in
    λ e. later_alike p c.args.before.now.sets c.args.set.now T (omega (arith, c.len.ensures.count, c.if-len-eq0.false))
    (first_is c.args.before.now.sets T (omega (arith, c.len.ensures.count, c.if-len-eq0.false)) c.first-first.ensures)
    (sym one ∙ c.is_same.ensures.yes e ∙ other)

pub returns-clause-no : goal.returns-clause-no
returns-clause-no c =
    let p : Program = c.args.compiled.now in
    let T = c.first-first.result.now in
    let one : c.in_ok-cost.cost ≡ cost p c.args.set.now = c.in_ok-cost.ensures ∙ ap (λ (q : Program). cost q c.args.set.now) c.program-program.ensures.program in
    let other : c.in_ok-least.least ≡ cost p T = c.in_ok-least.ensures ∙ ap (λ (q : Program). cost q T) c.program-program.ensures.program in
    λ e h. not_alike p c.args.before.now.sets c.args.set.now T (omega (arith, c.len.ensures.count, c.if-len-eq0.false))
    (first_is c.args.before.now.sets T (omega (arith, c.len.ensures.count, c.if-len-eq0.false)) c.first-first.ensures)
    (λ same. c.is_same.ensures.no e (one ∙ same ∙ sym other)) h
