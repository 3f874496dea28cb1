use Rattle.std.proofs.Common.{◌≡◌, ◌+◌, ◌-◌, length, sym, ap, ◌∙◌, arith}
use Rattle.std.proofs.lemmas.Bool.{false≢true}
use Rattle.asp_model.specs.declared.program.Program.{Program}
use Rattle.asp_model.specs.Costs.{cost}
use Rattle.asp_checker.proofs.SetListLaws.{last_is}
use Rattle.asp_checker.proofs.JudgeLaws.{first_cheaper, later_cheaper, not_cheaper, betters_as}
use Rattle.asp_checker.proofs.found.betters_last.Goals as goal

pub returns-then-len-eq0-clause-yes : goal.returns-then-len-eq0-clause-yes
returns-then-len-eq0-clause-yes c = λ e. first_cheaper c.args.compiled.now c.args.before.now.sets c.args.set.now (sym c.len.ensures.count ∙ c.if-len-eq0.true)

pub returns-clause-yes : goal.returns-clause-yes
returns-clause-yes c =
    let p : Program = c.args.compiled.now in
    let T = c.last-last.result.now in
    let size : length c.args.before.now.sets ≡ (length c.args.before.now.sets - 1) + 1 = omega (arith, c.len.ensures.count, c.if-len-eq0.false) in
    let one : c.in_ok-cost.cost ≡ cost p c.args.set.now = c.in_ok-cost.ensures ∙ ap (λ (q : Program). cost q c.args.set.now) c.program-program.ensures.program in
    let other : c.in_ok-least.least ≡ cost p T = c.in_ok-least.ensures ∙ ap (λ (q : Program). cost q T) c.program-program.ensures.program in
    λ e. later_cheaper p c.args.before.now.sets c.args.set.now T (length c.args.before.now.sets - 1) size
    (last_is c.args.before.now.sets (length c.args.before.now.sets - 1) T size c.last-last.ensures)
    (betters_as c.in_ok-cost.cost (cost p c.args.set.now) c.in_ok-least.least (cost p T) c.betters.result one other c.betters.ensures ∙ e)

pub returns-clause-no : goal.returns-clause-no
returns-clause-no c =
    let p : Program = c.args.compiled.now in
    let T = c.last-last.result.now in
    let size : length c.args.before.now.sets ≡ (length c.args.before.now.sets - 1) + 1 = omega (arith, c.len.ensures.count, c.if-len-eq0.false) in
    let one : c.in_ok-cost.cost ≡ cost p c.args.set.now = c.in_ok-cost.ensures ∙ ap (λ (q : Program). cost q c.args.set.now) c.program-program.ensures.program in
    let other : c.in_ok-least.least ≡ cost p T = c.in_ok-least.ensures ∙ ap (λ (q : Program). cost q T) c.program-program.ensures.program in
    λ e h. false≢true (sym e ∙ sym (betters_as c.in_ok-cost.cost (cost p c.args.set.now) c.in_ok-least.least (cost p T) c.betters.result one other c.betters.ensures)
    ∙ not_cheaper p c.args.before.now.sets c.args.set.now T (length c.args.before.now.sets - 1) size (last_is c.args.before.now.sets (length c.args.before.now.sets - 1) T size c.last-last.ensures) h)
