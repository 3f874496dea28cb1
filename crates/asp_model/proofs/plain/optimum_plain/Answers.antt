use Rattle.std.proofs.Common.{ap, fold, sym, ◌∙◌}
use Rattle.asp_model.specs.Walks.{better_of}
use Rattle.asp_model.proofs.BestLaws.{walked-none, walked-some}
use Rattle.asp_model.proofs.plain.optimum_plain.Goals as goal

pub returns : goal.returns
returns c =
    let p = c.args.program.now in
    let left = rw c.in_default.is at c.in_ok-interp.ensures.ok in
    let whole = sym (ap (fold (better_of p) c.sets.best) left.0) ∙ c.sets.invariant in
    record { none = walked-none p c.sets.best whole; best = walked-some p c.sets.best whole }
