use Rattle.std.proofs.Common.{refl, arith}
use Rattle.asp_vars.proofs.FalseLaws.{half, value_of_first, value_of_two}
use Rattle.asp_vars.proofs.assign.Assign.value.Goals as goal

pub index-requires : goal.index-requires
index-requires c = omega (arith, half c.self.inside.falses.items c.args.var c.args.self.now c.self.view_is c.requires, c.self.invariant.even, c.self.inside.falses.ok.0)

pub returns-then-index : goal.returns-then-index
returns-then-index c = value_of_first c.self.inside.falses.items c.args.var _ c.index.result.now c.args.self.now c.self.invariant c.self.view_is c.requires refl c.index.ensures c.if-index.true

pub index-requires-2 : goal.index-requires-2
index-requires-2 c = omega (arith, half c.self.inside.falses.items c.args.var c.args.self.now c.self.view_is c.requires, c.self.invariant.even, c.self.inside.falses.ok.0)

pub returns-then-index-2 : goal.returns-then-index-2
returns-then-index-2 c =
    rw (c.if-index.false, c.if-index-2.true) at
    (value_of_two c.self.inside.falses.items c.args.var _ _ c.index.result.now c.index-2.result.now c.args.self.now c.self.invariant c.self.view_is
    c.requires refl refl c.index.ensures c.index-2.ensures)

pub returns-else-index-2 : goal.returns-else-index-2
returns-else-index-2 c =
    rw (c.if-index.false, c.if-index-2.false) at
    (value_of_two c.self.inside.falses.items c.args.var _ _ c.index.result.now c.index-2.result.now c.args.self.now c.self.invariant c.self.view_is
    c.requires refl refl c.index.ensures c.index-2.ensures)
