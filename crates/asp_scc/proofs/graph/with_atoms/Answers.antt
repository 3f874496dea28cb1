use Rattle.std.proofs.Common.{◌≡◌, ◌-◌, ◌+◌, ◌<◌, length, ap, ◌∙◌, arith}
use Rattle.asp_model.specs.Models.{atoms_of}
use Rattle.asp_vars.specs.Numbering.{nth_atom, number_count}
use Rattle.asp_vars.specs.Completion.{supports}
use Rattle.asp_scc.proofs.GraphLaws.{rows_more, within_more, bodies_within}
use Rattle.asp_scc.proofs.graph.with_atoms.Goals as goal

pub loop-atom-preserved : goal.loop-atom-preserved
loop-atom-preserved c =
    let p = c.args.compiled.now in
    let lt : c.loop-atom.atom < length (atoms_of p) = omega (arith, c.loop-atom-test.true, c.atom_count-atom-end.ensures.count) in
    let back : c.loop-atom.atom + 1 - 1 ≡ c.loop-atom.atom = omega arith in (
      rows_more (supports p) (atoms_of p) c.loop-atom.atom 0 c.args.rows c.loop-atom.rows c.in_ok-rows.rows c.supports.result.now lt
          c.loop-atom.invariant.0 (c.supports.ensures.supports ∙ ap (λ i. supports p (nth_atom p i)) back) c.in_ok-rows.ensures,
      within_more (number_count p) c.loop-atom.rows c.in_ok-rows.rows c.supports.result.now c.loop-atom.invariant.1
          (bodies_within p c.supports.result.now c.supports.ensures.bodies) c.in_ok-rows.ensures,
    )
