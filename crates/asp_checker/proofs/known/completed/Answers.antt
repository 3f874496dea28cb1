use Rattle.std.proofs.Common.{ap, ◌∙◌, map}
use Rattle.asp_vars.specs.declared.nogood.Nogood.{Nogood}
use Rattle.asp_checker.proofs.JudgeLaws.{completed_is}
use Rattle.asp_checker.proofs.known.completed.Goals as goal

pub returns : goal.returns
returns c =
    completed_is c.args.compiled.now c.in_ok-nogoods.nogoods.items c.in_ok-rows.rows.items c.in_ok-nogoods.ensures.list
    (c.in_ok-rows.ensures ∙ ap (map (λ (n : Nogood). n.lits)) c.as_slice.ensures.value)
