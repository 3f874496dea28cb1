use Rattle.std.proofs.Common.{arith}
use Rattle.asp_vars.proofs.FalseLaws.{code_within, denies_of}
use Rattle.asp_vars.proofs.assign.Assign.is_false.Goals as goal

pub index-requires : goal.index-requires
index-requires c = omega (arith, code_within c.self.inside.falses.items c.args.lit c.args.self.now c.self.invariant c.self.view_is c.requires, c.code.ensures.code, c.self.inside.falses.ok.0)

pub returns : goal.returns
returns c = denies_of c.self.inside.falses.items c.args.lit c.code.result c.index.result.now c.args.self.now c.self.invariant c.self.view_is c.requires (c.code.ensures.code) c.index.ensures
