use Rattle.std.proofs.Common.{◌≡◌, ℕ, ◌+◌, ◌*◌, false, replicate, ◌∙◌, ap, arith}
use Rattle.asp_vars.proofs.FalseLaws.{values_begun}
use Rattle.asp_vars.proofs.assign.Assign.new.Goals as goal

pub returns : goal.returns
returns c =
    let twice : 2 * c.args.vars + 2 ≡ 2 * (c.args.vars + 1) = omega arith in
    values_begun c.in_ok-falses.falses.items (c.args.vars + 1) (c.in_ok-falses.ensures.items_if_clones_equal (λ y q. q) ∙ ap (λ (n : ℕ). replicate n false) twice)
