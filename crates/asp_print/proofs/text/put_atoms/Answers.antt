use Rattle.std.proofs.Common.{arith, flat_map, ap, ◌∷◌}
use Rattle.std.specs.Prelude.{ℕ, decimal}
use Rattle.asp_buffer.proofs.OutLaws.{drop_turn_or, midway_more, midway_fails}
use Rattle.asp_print.proofs.text.put_atoms.Goals as goal

pub returns-in_err-put_atom : goal.returns-in_err-put_atom
returns-in_err-put_atom g c = midway_fails _ _ _ _ _ _ _ _ _ _ c.loop-atom.invariant c.in_err-put_atom.ensures
    (ap (flat_map (λ (q : ℕ). 32 ∷ decimal q)) (drop_turn_or c.args.atoms.now c.loop-atom.atom-index 0 (omega arith))) c.from_residual.ensures.1

pub loop-atom-preserved : goal.loop-atom-preserved
loop-atom-preserved g c = midway_more _ _ _ _ _ _ _ _ c.loop-atom.invariant c.in_ok-put_atom.ensures
    (ap (flat_map (λ (q : ℕ). 32 ∷ decimal q)) (drop_turn_or c.args.atoms.now c.loop-atom.atom-index 0 (omega arith)))
