use Rattle.std.proofs.Common.{append_assoc, sym, ◌++◌}
use Rattle.asp_buffer.proofs.OutLaws.{puts_fails, puts_same, puts_then}
use Rattle.asp_json.specs.Entries.{sums_calls, sums_models, sums_result}
use Rattle.asp_json.proofs.entries.put_sums.Goals as goal

pub returns-in_err-put_sums_result : goal.returns-in_err-put_sums_result
returns-in_err-put_sums_result g c =
    puts_same _ _ _ _ _ (puts_fails _ _ _ _ _ (sums_result c.args.sums.now) (sums_models c.args.sums.now
    ++ sums_calls c.args.sums.now) c.in_err-put_sums_result.ensures c.from_residual.ensures.1) (sym (append_assoc (sums_result c.args.sums.now)
    (sums_models c.args.sums.now) (sums_calls c.args.sums.now)))

pub returns-in_err-put_more : goal.returns-in_err-put_more
returns-in_err-put_more g c =
    puts_fails _ _ _ _ _ (sums_result c.args.sums.now ++ sums_models c.args.sums.now) (sums_calls c.args.sums.now)
    (puts_then _ _ _ _ _ (sums_result c.args.sums.now) (sums_models c.args.sums.now) c.in_ok-put_sums_result.ensures c.in_err-put_more.ensures) c.from_residual-in_err-put_more.ensures.1

pub returns : goal.returns
returns g c =
    puts_then _ _ _ _ _ (sums_result c.args.sums.now ++ sums_models c.args.sums.now) (sums_calls c.args.sums.now)
    (puts_then _ _ _ _ _ (sums_result c.args.sums.now) (sums_models c.args.sums.now) c.in_ok-put_sums_result.ensures c.in_ok-put_more.ensures) c.put_calls.ensures
