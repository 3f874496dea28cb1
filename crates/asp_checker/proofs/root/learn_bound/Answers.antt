use Rattle.asp_checker.specs.Blocks.{known_with}
use Rattle.asp_checker.proofs.ChaseLaws.{root_then}
use Rattle.asp_checker.proofs.root.learn_bound.Goals as goal

pub returns : goal.returns
returns c =
    root_then c.args.compiled.now (known_with c.args.compiled.now c.args.listed.now c.args.rows.now c.args.bound.now) c.args.values.now
    c.settle.new.values c.requires.root c.in_ok-settle.ensures
