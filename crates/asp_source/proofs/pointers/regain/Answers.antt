use Rattle.std.proofs.Common.{arith}
use Rattle.asp_vars.specs.Tabled.{IsAtomVar}
use Rattle.asp_source.proofs.ChangeLaws.{var_component}
use Rattle.asp_source.proofs.pointers.regain.Goals as goal

pub seek-requires-clause-var : goal.seek-requires-clause-var
seek-requires-clause-var c =
    let is : IsAtomVar c.args.compiled.now c.var-2.result = (omega (arith, c.requires.var.0, c.var-2.ensures), omega (arith, c.var-2.ensures)) in
    omega (arith, (var_component c.args.compiled.now c.args.components.now c.var-2.result c.requires.components is).0)

pub seek-requires-clause-trivial : goal.seek-requires-clause-trivial
seek-requires-clause-trivial c =
    let is : IsAtomVar c.args.compiled.now c.var-2.result = (omega (arith, c.requires.var.0, c.var-2.ensures), omega (arith, c.var-2.ensures)) in
    (var_component c.args.compiled.now c.args.components.now c.var-2.result c.requires.components is).1
