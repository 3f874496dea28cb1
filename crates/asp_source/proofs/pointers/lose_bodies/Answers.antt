use Rattle.std.proofs.Common.{◌≡◌, ◌∙◌, length, ap, arith}
use Rattle.asp_vars.specs.Literals.{complement}
use Rattle.asp_vars.specs.Tabled.{bodies_with}
use Rattle.asp_source.proofs.LoseLaws.{loses_then, less_of, item_at, body_more}
use Rattle.asp_source.proofs.pointers.lose_bodies.Goals as goal

pub loop-cell-preserved : goal.loop-cell-preserved
loop-cell-preserved c = record {
  loses = loses_then c.args.sources.now c.args.queue.now c.loop-cell.sources c.loop-cell.queue c.lose_heads.new.sources c.lose_heads.new.queue c.loop-cell.invariant.loses c.lose_heads.ensures.loses;
  gone = body_more c.args.compiled.now c.loop-cell.sources c.lose_heads.new.sources (bodies_with c.args.compiled.now (complement c.args.lit))
      c.loop-cell.cell-index _
      (less_of c.loop-cell.sources c.loop-cell.queue c.lose_heads.new.sources c.lose_heads.new.queue c.lose_heads.ensures.loses)
      c.loop-cell.invariant.gone c.lose_heads.ensures.gone
      (λ d lt. item_at c.bodies_with-cell-items.result.now (bodies_with c.args.compiled.now (complement c.args.lit)) c.loop-cell.cell-index d
      (record { body = 0; place = 0 }) (c.bodies_with-cell-items.ensures.with ∙ ap (bodies_with c.args.compiled.now) c.complement.ensures)
      lt);
}

pub returns-clause-gone : goal.returns-clause-gone
returns-clause-gone c i d lt =
    c.loop-cell.invariant.gone i d (let n : length c.bodies_with-cell-items.result.now ≡ length
    (bodies_with c.args.compiled.now (complement c.args.lit)) =
    ap length (c.bodies_with-cell-items.ensures.with ∙ ap (bodies_with c.args.compiled.now) c.complement.ensures) in
    omega (arith, c.loop-cell-test.false, n, lt)) lt
