use Rattle.std.proofs.Common.{Option, Some, subst}
use Rattle.asp_split.specs.declared.leaf.Leaf.{Leaf}
use Rattle.asp_split.specs.Dividing.{IsProbed}
use Rattle.asp_split.proofs.DivideLaws.{placed_none, placed_one}
use Rattle.asp_split.proofs.divide.place.Goals as goal

pub returns-in-None-clause-placed : goal.returns-in-None-clause-placed
returns-in-None-clause-placed g c =
    let p = c.args.compiled.now in
    placed_none p c.args.leaves.now.items c.args.cube (subst (λ (o : Option Leaf). IsProbed p c.args.cube o) c.in-None.is c.in_ok-probe.ensures.probed)

pub returns-in_ok-push-in-Some-clause-placed : goal.returns-in_ok-push-in-Some-clause-placed
returns-in_ok-push-in-Some-clause-placed g c =
    let p = c.args.compiled.now in
    let probed : IsProbed p c.args.cube (Some c.in-Some.leaf) = subst (λ (o : Option Leaf). IsProbed p c.args.cube o) c.in-Some.is c.in_ok-probe.ensures.probed in
    placed_one p c.args.leaves.now.items c.push.new.self.items c.args.cube c.in-Some.leaf c.in_ok-push-in-Some.ensures.items probed.0 probed.1
