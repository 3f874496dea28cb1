use Rattle.std.proofs.Common.{arith, refl}
use Rattle.asp_split.specs.Dividing.{IsLeaf}
use Rattle.asp_parts.proofs.PartLaws.{none_left, putting-begins, putting-ends, putting-leaf, putting-next}
use Rattle.asp_parts.proofs.worker.put_all.Goals as goal

pub leaves-init : goal.leaves-init
leaves-init c = putting-begins c.args.compiled.now c.args.parts.now.items c.args.leaves.items c.requires

pub leaves-preserved : goal.leaves-preserved
leaves-preserved c =
    let p = c.args.compiled.now in
    let leaf : IsLeaf p c.in-Some.leaf =
    putting-leaf p _ _ c.leaves.parts.items c.leaves.leaves.items c.pop.new.self.items c.pop.result c.in-Some.leaf c.leaves.invariant c.pop.ensures.items c.in-Some.is in
    putting-next p _ _ c.leaves.parts.items c.push.new.self.items c.leaves.leaves.items c.pop.new.self.items c.pop.result c.in-Some.leaf _ c.leaves.invariant
    c.pop.ensures.items c.in-Some.is refl (record { leaf = leaf; found = tt }) c.in_ok-push.ensures.items

pub returns : goal.returns
returns c =
    putting-ends c.args.compiled.now _ _ c.leaves.parts.items c.leaves.leaves.items c.leaves.invariant
    (none_left c.leaves.leaves.items c.pop.result (λ lt. c.pop.ensures.variant.1 (omega (arith, lt, c.leaves.leaves.ok.0))) c.in_default.is)
