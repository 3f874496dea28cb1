use Rattle.std.proofs.Common.{◌≡◌, ◌<◌, [], List, map, filter, length, ap, ◌∙◌, arith}
use Rattle.asp_model.specs.declared.program.Body.TheVariants as body
use Rattle.asp_vars.specs.Literals.{Literal}
use Rattle.asp_vars.specs.Numbering.{bodies_of, number_count}
use Rattle.asp_scc.specs.Dependencies.{positives}
use Rattle.asp_scc.proofs.GraphLaws.{rows_more, within_more, atoms_within}
use Rattle.asp_scc.proofs.graph.with_bodies.Goals as goal

pub loop-body-preserved : goal.loop-body-preserved
loop-body-preserved c =
    let p = c.args.compiled.now in
    let lt : c.loop-body.body < length (bodies_of p) = omega (arith, c.loop-body-test.true, c.body_count-body-end.ensures.count) in
    let row : c.as_slice.result.now ≡ map (λ (l : Literal). l.var) (filter (λ l. l.truth) c.literals.result.now) = c.as_slice.ensures.value ∙ c.in_ok-vars.ensures in (
      rows_more (positives p) (bodies_of p) c.loop-body.body (body.All []) c.args.rows c.loop-body.rows c.in_ok-rows.rows c.as_slice.result.now lt
          c.loop-body.invariant.0 (row ∙ ap (λ (ls : List Literal). map (λ l. l.var) (filter (λ l. l.truth) ls)) c.literals.ensures.literals)
          c.in_ok-rows.ensures,
      within_more (number_count p) c.loop-body.rows c.in_ok-rows.rows c.as_slice.result.now c.loop-body.invariant.1
          (atoms_within p c.literals.result.now c.as_slice.result.now c.literals.ensures.atoms row) c.in_ok-rows.ensures,
    )
