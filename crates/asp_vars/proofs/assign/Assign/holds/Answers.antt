use Rattle.std.proofs.Common.{ap, ◌∙◌, arith}
use Rattle.asp_vars.specs.Codes.{code_of}
use Rattle.asp_vars.specs.Literals.{complement}
use Rattle.asp_vars.proofs.FalseLaws.{code_within, says_of}
use Rattle.asp_vars.proofs.assign.Assign.holds.Goals as goal

pub index-requires : goal.index-requires
index-requires c = omega (
  arith,
  code_within c.self.inside.falses.items (complement c.args.lit) c.args.self.now c.self.invariant c.self.view_is c.requires,
  c.code.ensures.code ∙ ap code_of c.complement.ensures,
  c.self.inside.falses.ok.0,
)

pub returns : goal.returns
returns c = says_of c.self.inside.falses.items c.args.lit c.code.result c.index.result.now c.args.self.now c.self.invariant c.self.view_is c.requires
    (c.code.ensures.code ∙ ap code_of c.complement.ensures) c.index.ensures
