use Rattle.std.proofs.Common.{◌∙◌, arith}
use Rattle.std.proofs.lemmas.Result.{err_from_is_err_and}
use Rattle.asp_cli.proofs.WalkLemmas.{walked_end, walked_fails, walked_more}
use Rattle.asp_cli.proofs.walk.walk.Goals as goal

pub loop-word-preserved : goal.loop-word-preserved
loop-word-preserved c = record {
  same = walked_more c.loop-word.state c.in_ok-state.state c.args.words.now c.loop-word.word-index c.word-item.result c.as_str.result.now
      (omega arith) c.word-item.is c.as_str.ensures.value c.in_ok-state.ensures.value
      ∙ c.loop-word.invariant.same;
  ring = c.in_ok-state.ensures.ring c.loop-word.invariant.ring;
  crew = c.in_ok-state.ensures.crew c.loop-word.invariant.crew;
  parts = c.in_ok-state.ensures.parts c.loop-word.invariant.parts;
  apart = c.in_ok-state.ensures.apart c.loop-word.invariant.apart;
  asking = c.in_ok-state.ensures.asking c.loop-word.invariant.asking;
}

pub returns-in_err-state-clause-value : goal.returns-in_err-state-clause-value
returns-in_err-state-clause-value c =
    let p = err_from_is_err_and c.from_residual.result c.from_residual.ensures.1 in
    rw (p.1, p.2) (walked_fails c.loop-word.state _ c.args.words.now c.loop-word.word-index c.word-item.result c.as_str.result.now (omega arith)
    c.word-item.is c.as_str.ensures.value c.in_err-state.ensures.value
    ∙ c.loop-word.invariant.same)

pub returns-clause-value : goal.returns-clause-value
returns-clause-value c = c.ended.ensures.value ∙ walked_end c.loop-word.state c.args.words.now c.loop-word.word-index c.loop-word-test.false ∙ c.loop-word.invariant.same
