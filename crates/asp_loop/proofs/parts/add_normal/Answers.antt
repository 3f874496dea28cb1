use Rattle.std.proofs.Common.{sym, ap, ◌∙◌}
use Rattle.std.specs.List.{list_any}
use Rattle.asp_vars.specs.Numbering.{nth_body}
use Rattle.asp_loop.specs.Weighing.{is_within}
use Rattle.asp_loop.proofs.PartLaws.{normal_nothing, normal_added}
use Rattle.asp_loop.proofs.WeightedLaws.{body_stands}
use Rattle.asp_loop.proofs.parts.add_normal.Goals as goal

pub returns-then-is_some_within : goal.returns-then-is_some_within
returns-then-is_some_within c = λ U of_U.
    normal_nothing c.args.compiled.now c.args.assign.now U c.args.vars.now (nth_body c.args.compiled.now c.args.body) c.args.lits.now of_U
    c.requires.normal (body_stands c.args.compiled.now c.args.body c.requires.body)
    (ap (list_any (is_within c.args.vars.now)) (sym c.literals.ensures.literals) ∙ sym c.is_some_within.ensures ∙ c.if-is_some_within.true)

pub returns : goal.returns
returns c = λ U of_U.
    normal_added c.args.compiled.now c.args.assign.now U c.args.vars.now (nth_body c.args.compiled.now c.args.body) c.args.lits.now
    c.add_false.new.lits c.in_ok-added.added of_U c.requires.normal (body_stands c.args.compiled.now c.args.body c.requires.body)
    (ap (list_any (is_within c.args.vars.now)) (sym c.literals.ensures.literals) ∙ sym c.is_some_within.ensures ∙ c.if-is_some_within.false)
    c.in_ok-added.ensures
