use Rattle.std.proofs.Common.{◌≡◌, ◌∙◌, subst, sym}
use Rattle.std.specs.Prelude.{IfOk}
use Rattle.std.proofs.lemmas.Result.{IfOk-weaker}
use Rattle.asp_model.specs.declared.program.Program.{Program}
use Rattle.asp_split.specs.Dividing.{AreLeaves, IsLeaf, part, sets_of}
use Rattle.asp_parts.proofs.PartLaws.{whole-leaf, whole-none, whole-sets}
use Rattle.asp_parts.proofs.run.first_leaves.Goals as goal

pub divide-requires-clause-leaf : goal.divide-requires-clause-leaf
divide-requires-clause-leaf c =
    subst (λ (q : Program). IsLeaf q c.in-Some.leaf) (sym c.whole.ensures.same)
    (whole-leaf c.args.divider.now c.in_ok-whole.whole.items c.pop.new.self.items c.pop.result c.in-Some.leaf c.in_ok-whole.ensures.whole c.pop.ensures.items c.in-Some.is)

pub returns-in-None-clause-leaves : goal.returns-in-None-clause-leaves
returns-in-None-clause-leaves c =
    (whole-none c.args.divider.now c.in_ok-whole.whole.items c.pop.new.self.items c.pop.result c.in_ok-whole.ensures.whole c.pop.ensures.items c.in-None.is).leaves

pub returns-in-None-clause-sets : goal.returns-in-None-clause-sets
returns-in-None-clause-sets c =
    (whole-none c.args.divider.now c.in_ok-whole.whole.items c.pop.new.self.items c.pop.result c.in_ok-whole.ensures.whole c.pop.ensures.items c.in-None.is).sets

pub returns-in-Some-clause-leaves : goal.returns-in-Some-clause-leaves
returns-in-Some-clause-leaves c = subst (λ (q : Program). IfOk c.divide.result (λ ls. AreLeaves q ls.items)) c.whole.ensures.same c.divide.ensures.leaves

pub returns-in-Some-clause-sets : goal.returns-in-Some-clause-sets
returns-in-Some-clause-sets c =
    IfOk-weaker c.divide.result _ _
    (λ ls e. e ∙ whole-sets c.args.divider.now c.in_ok-whole.whole.items c.pop.new.self.items c.pop.result c.in-Some.leaf c.in_ok-whole.ensures.whole c.pop.ensures.items c.in-Some.is)
    (subst (λ (q : Program). IfOk c.divide.result (λ ls. sets_of q ls.items ≡ part q c.in-Some.leaf.cube)) c.whole.ensures.same c.divide.ensures.sets)
