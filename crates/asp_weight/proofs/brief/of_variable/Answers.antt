use Rattle.std.proofs.Common.{◌∙◌, [], ◌∷◌, take, ap, arith}
use Rattle.asp_trail.proofs.HeldLaws.{length_assigned}
use Rattle.asp_vars.specs.Literals.{Literal}
use Rattle.asp_weight.specs.Explained.{before}
use Rattle.asp_weight.proofs.BriefLaws.{brief_variable, weaker}
use Rattle.asp_weight.proofs.brief.of_variable.Goals as goal

pub gather_marked-requires-clause-within : goal.gather_marked-requires-clause-within
gather_marked-requires-clause-within c k d h =
    omega (arith, c.requires.ready.within k d h, length_assigned c.args.trail.now.vars (take c.args.place c.args.trail.now.entries))

pub returns : goal.returns
returns c =
    weaker _ _ c.gather_marked.result c.gather_marked.ensures (λ n e.
    brief_variable (before c.args.trail.now c.args.place) c.args.shape.now c.args.row.now c.args.lit c.truth-side.result c.need.result
    c.in_ok-lits.lits.items n.items c.requires.var c.truth-side.ensures c.need.ensures
    (c.in_ok-lits.ensures ∙ ap (λ (k : Literal). k ∷ []) c.complement.ensures) e)
