use Rattle.std.proofs.Common.{◌≤◌, length, ap, ◌∙◌, arith}
use Rattle.std.proofs.lemmas.List.{take_all}
use Rattle.asp_smodels.specs.Parts.{with_weight_1}
use Rattle.asp_smodels.proofs.Weights.{atoms, atoms_of_1}
use Rattle.asp_smodels.proofs.parts.with_weight_1.Goals as goal

pub returns-clause-atoms : goal.returns-clause-atoms
returns-clause-atoms c =
    let all : length c.args.literals.now ≤ c.loop-literal.literal-index = omega arith in
    ap atoms (c.from_vec.ensures ∙ c.loop-literal.invariant ∙ ap with_weight_1 (take_all c.loop-literal.literal-index c.args.literals.now all)) ∙ atoms_of_1 c.args.literals.now
