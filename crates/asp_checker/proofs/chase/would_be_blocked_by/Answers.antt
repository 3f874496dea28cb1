use Rattle.std.proofs.Common.{Bool, true, List, Option, None, set, subst, ap, ◌≡◌, ◌∙◌}
use Rattle.asp_checker.specs.Blocks.{is_blocked, cost_of_bound}
use Rattle.asp_checker.proofs.BlockLaws.{set_back}
use Rattle.asp_checker.proofs.chase.would_be_blocked_by.Goals as goal

pub returns-clause-same : goal.returns-clause-same
returns-clause-same c =
    c.unset.ensures
    ∙ ap (λ v. set c.set.new.self v None) c.var.ensures
    ∙ ap (λ (z : List (Option Bool)). set z c.args.lit.var None) c.set.ensures
    ∙ set_back c.args.values.now c.args.lit.var c.args.lit.truth c.requires.no_value

pub returns-clause-blocked : goal.returns-clause-blocked
returns-clause-blocked c = λ e. subst (λ z. is_blocked c.args.compiled.now (cost_of_bound c.args.bound.now) z ≡ true) c.set.ensures (c.is_blocked_by-blocked.ensures e)
