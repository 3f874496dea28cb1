use Rattle.std.proofs.Common.{take, sym, ◌∙◌, subst, arith}
use Rattle.std.proofs.lemmas.List.{append-nil}
use Rattle.asp_trail.proofs.HeldLaws.{length_assigned}
use Rattle.asp_bound.specs.Priced.{IsPriced}
use Rattle.asp_bound.specs.Late.{only}
use Rattle.asp_bound.specs.Reasons.{before}
use Rattle.asp_bound.proofs.LateLaws.{kept_first}
use Rattle.asp_bound.proofs.late.all_before.Goals as goal

pub loop-i-init : goal.loop-i-init
loop-i-init c =
    let p = c.args.priced.now.origin.value in
    let b = before c.args.trail.now c.args.place in
    let copied = c.in_ok-sums.ensures.items_if_clones_equal (λ x y q. q) ∙ c.as_slice.ensures.value in
    record {
      lits = sym (append-nil c.args.lits.now.items);
      kept = subst (IsPriced c.args.priced.now (only b (take 0 c.args.raisers.now))) (sym copied)
          (kept_first p b c.args.priced.now.rows c.args.priced.now.columns c.args.priced.now.vars.items c.args.priced.now.least.items c.args.raisers.now
          (omega (arith, length_assigned c.args.trail.now.vars (take c.args.place c.args.trail.now.entries), c.requires.vars)) c.requires.tables);
    }
