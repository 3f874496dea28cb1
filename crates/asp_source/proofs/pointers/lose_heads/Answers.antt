use Rattle.std.proofs.Common.{length, ap, ◌∙◌, arith}
use Rattle.asp_vars.specs.Numbering.{nth_body}
use Rattle.asp_vars.specs.Tabled.{heads_of}
use Rattle.asp_source.proofs.LoseLaws.{loses_then, less_of, gone_more, item_at}
use Rattle.asp_source.proofs.pointers.lose_heads.Goals as goal

pub loop-var-preserved : goal.loop-var-preserved
loop-var-preserved c = record {
  loses = loses_then c.args.sources.now c.args.queue.now c.loop-var.sources c.loop-var.queue c.lose_queued.new.sources c.lose_queued.new.queue c.loop-var.invariant.loses c.lose_queued.ensures.loses;
  gone = gone_more c.loop-var.sources c.lose_queued.new.sources (heads_of c.args.compiled.now (nth_body c.args.compiled.now c.args.body))
      c.loop-var.var-index c.body_number-number.result _
      (less_of c.loop-var.sources c.loop-var.queue c.lose_queued.new.sources c.lose_queued.new.queue c.lose_queued.ensures.loses)
      (omega (arith, c.body_number-number.ensures.sum)) c.loop-var.invariant.gone c.lose_queued.ensures.gone
      (λ d lt. item_at c.heads-var-items.result.now (heads_of c.args.compiled.now (nth_body c.args.compiled.now c.args.body)) c.loop-var.var-index d 0 c.heads-var-items.ensures.heads lt);
}

pub returns-clause-gone : goal.returns-clause-gone
returns-clause-gone c i d lt e =
    c.loop-var.invariant.gone i d (omega (arith, c.loop-var-test.false, ap length c.heads-var-items.ensures.heads, lt)) lt (e ∙ omega (arith, c.body_number-number.ensures.sum))
