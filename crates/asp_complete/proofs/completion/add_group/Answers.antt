use Rattle.std.proofs.Common.{◌≡◌, ◌++◌, List, map, sym, subst}
use Rattle.std.specs.Result.{OnOk}
use Rattle.asp_vars.specs.Literals.{Literal}
use Rattle.asp_complete.specs.Listed.{pure}
use Rattle.asp_complete.proofs.ListedLaws.{rule_group, atom_group}
use Rattle.asp_complete.proofs.completion.add_group.Goals as goal

pub returns-then-behind-rules : goal.returns-then-behind-rules
returns-then-behind-rules c =
    subst (λ (g : List (List Literal)). OnOk c.add_rule_at.result (c.add_rule_at.new.nogoods.items ≡ c.args.nogoods.now.items ++ map pure g))
    (sym (rule_group c.args.compiled.now c.args.group c.body_count-bodies.result c.rule_count-rules.result c.body_count-bodies.ensures.count
    c.rule_count-rules.ensures c.if-group-bodies.false c.if-behind-rules.true))
    c.add_rule_at.ensures

pub returns : goal.returns
returns c =
    subst (λ (g : List (List Literal)). OnOk c.add_atom.result (c.add_atom.new.nogoods.items ≡ c.args.nogoods.now.items ++ map pure g))
    (sym (atom_group c.args.compiled.now c.args.group c.body_count-bodies.result c.rule_count-rules.result c.body_count-bodies.ensures.count
    c.rule_count-rules.ensures c.if-group-bodies.false c.if-behind-rules.false c.requires))
    c.add_atom.ensures
