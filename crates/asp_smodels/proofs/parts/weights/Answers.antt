use mir.Syntax.{w32}
use Rattle.std.proofs.Common.{◌≡◌, ◌≤◌, [], ◌∷◌, ◌++◌, get_or, length, ap, ◌∙◌, arith, rules}
use Rattle.std.specs.Prelude.{pos, map}
use Rattle.std.proofs.lemmas.List.{take_all}
use Rattle.std.proofs.lemmas.Int.{to_z-of_z}
use Rattle.std.proofs.lemmas.Result.{err_from_is_err_and}
use Rattle.asp_model.specs.Holding.{atom_of}
use Rattle.asp_smodels.proofs.Weights.{goes_on, ends, is_done, atoms, atoms_more}
use Rattle.asp_smodels.proofs.parts.weights.Goals as goal

pub returns-in_err-weight-clause-items : goal.returns-in_err-weight-clause-items
returns-in_err-weight-clause-items c =
    let p = err_from_is_err_and c.from_residual-in_err-weight.result c.from_residual-in_err-weight.ensures.1 in
    rw (p.1, p.2)
    (ends c.in_err-weight.field-0.0 c.loop-literal.items.items c.args.literals.now c.loop-literal.literal-index (pos 0) c.loop-literal.rest.now _
    c.loop-literal-test.true c.in_err-weight.ensures c.loop-literal.invariant.read)

pub loop-literal-preserved : goal.loop-literal-preserved
loop-literal-preserved c =
    let literal = to_z-of_z w32 (get_or c.args.literals.now c.loop-literal.literal-index (pos 0)) (search rules) in
    let weight = to_z-of_z w32 c.in_ok-weight.weight (search rules) in
    let pushed : c.push.new.self.items ≡ c.loop-literal.items.items
    ++ (get_or c.args.literals.now c.loop-literal.literal-index (pos 0), c.in_ok-weight.weight) ∷ [] =
    rw (literal, weight) at c.in_ok-push.ensures.items in
    record {
      read = rw pushed
          (goes_on c.loop-literal.items.items c.args.literals.now c.loop-literal.literal-index (pos 0) c.loop-literal.rest.now c.in_ok-weight.weight
          c.in_ok-weight.after.now _ c.loop-literal-test.true c.in_ok-weight.ensures c.loop-literal.invariant.read);
      len = omega (arith, c.in_ok-push.ensures.len, c.loop-literal.invariant.len);
      atoms = atoms_more c.loop-literal.items.items c.push.new.self.items c.args.literals.now c.loop-literal.literal-index (pos 0)
          c.in_ok-weight.weight c.loop-literal-test.true pushed c.loop-literal.invariant.atoms;
    }

pub returns-clause-items : goal.returns-clause-items
returns-clause-items c =
    rw c.from_vec.ensures (is_done c.loop-literal.items.items c.args.literals.now c.loop-literal.literal-index c.loop-literal.rest.now _ (omega arith)
    c.loop-literal.invariant.read)

pub returns-clause-atoms : goal.returns-clause-atoms
returns-clause-atoms c =
    let all : length c.args.literals.now ≤ c.loop-literal.literal-index = omega arith in
    ap atoms c.from_vec.ensures ∙ c.loop-literal.invariant.atoms ∙ ap (map atom_of) (take_all c.loop-literal.literal-index c.args.literals.now all)
