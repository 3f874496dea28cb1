use Rattle.std.proofs.Common.{codes, ◌++◌}
use Rattle.asp_buffer.proofs.OutLaws.{puts_fails, puts_then}
use Rattle.asp_json.specs.Json.{result_word}
use Rattle.asp_json.proofs.entries.put_sums_result.Goals as goal

pub returns-in_err-put : goal.returns-in_err-put
returns-in_err-put g c =
    puts_fails _ _ _ _ _ (codes "\n],\"Result\":\"") (result_word c.args.sums.now.end c.args.sums.now.mode c.args.sums.now.models ++ codes "\"") c.in_err-put.ensures c.from_residual.ensures.1

pub returns-in_err-put-2 : goal.returns-in_err-put-2
returns-in_err-put-2 g c =
    puts_fails _ _ _ _ _ (codes "\n],\"Result\":\"" ++ result_word c.args.sums.now.end c.args.sums.now.mode c.args.sums.now.models) (codes "\"")
    (puts_then _ _ _ _ _ (codes "\n],\"Result\":\"") (result_word c.args.sums.now.end c.args.sums.now.mode c.args.sums.now.models) c.in_ok-put.ensures
    (rw c.result_word.ensures at c.in_err-put-2.ensures)) c.from_residual-in_err-put-2.ensures.1

pub returns : goal.returns
returns g c =
    puts_then _ _ _ _ _ (codes "\n],\"Result\":\"" ++ result_word c.args.sums.now.end c.args.sums.now.mode c.args.sums.now.models) (codes "\"")
    (puts_then _ _ _ _ _ (codes "\n],\"Result\":\"") (result_word c.args.sums.now.end c.args.sums.now.mode c.args.sums.now.models) c.in_ok-put.ensures
    (rw c.result_word.ensures at c.in_ok-put-2.ensures)) c.put-3.ensures
