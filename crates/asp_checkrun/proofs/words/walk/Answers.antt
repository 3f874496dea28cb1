use Rattle.std.proofs.Common.{◌∙◌, arith}
use Rattle.std.proofs.lemmas.Result.{err_from_is_err_and}
use Rattle.asp_checkrun.proofs.WalkLemmas.{walked_end, walked_fails, walked_more}
use Rattle.asp_checkrun.proofs.words.walk.Goals as goal

pub loop-word-preserved : goal.loop-word-preserved
loop-word-preserved c =
    walked_more c.loop-word.state c.in_ok-state.state c.args.words.now c.loop-word.word-index c.word-item.result c.as_str.result.now (omega arith)
    c.word-item.is c.as_str.ensures.value c.in_ok-state.ensures
    ∙ c.loop-word.invariant

pub returns-in_err-state : goal.returns-in_err-state
returns-in_err-state c =
    let p = err_from_is_err_and c.from_residual.result c.from_residual.ensures.1 in
    rw (p.1, p.2) (walked_fails c.loop-word.state _ c.args.words.now c.loop-word.word-index c.word-item.result c.as_str.result.now (omega arith)
    c.word-item.is c.as_str.ensures.value c.in_err-state.ensures
    ∙ c.loop-word.invariant)

pub returns : goal.returns
returns c = c.ended.ensures ∙ walked_end c.loop-word.state c.args.words.now c.loop-word.word-index c.loop-word-test.false ∙ c.loop-word.invariant
