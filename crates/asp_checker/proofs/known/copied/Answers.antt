use Rattle.std.proofs.Common.{refl, ap, ◌∙◌, List}
use Rattle.asp_vars.specs.Literals.{Literal}
use Rattle.asp_vars.specs.declared.nogood.Nogood.{Nogood}
use Rattle.asp_checker.proofs.JudgeLaws.{map_more, map_whole}
use Rattle.asp_checker.proofs.known.copied.Goals as goal

pub loop-nogood-preserved : goal.loop-nogood-preserved
loop-nogood-preserved c =
    let f : Nogood → List Literal = λ n. n.lits in
    map_more f c.args.nogoods.now c.loop-nogood.nogood-index c.nogood-item.result c.in_ok-lits.lits c.loop-nogood.rows.items c.push.new.self.items
    c.loop-nogood-test.true c.loop-nogood.invariant c.in_ok-push.ensures.items (c.in_ok-lits.ensures ∙ ap f c.nogood-item.is)

pub returns : goal.returns
returns c =
    let f : Nogood → List Literal = λ n. n.lits in
    map_whole f c.args.nogoods.now c.args.nogoods.now c.loop-nogood.nogood-index c.loop-nogood.rows.items c.loop-nogood-test.false refl c.loop-nogood.invariant
