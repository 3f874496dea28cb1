use Rattle.std.proofs.Common.{[], append-nil}
use Rattle.asp_buffer.proofs.OutLaws.{printed, printed-fails, puts_same, puts_then}
use Rattle.asp_json.proofs.entries.print_entry.Goals as goal

pub returns-in_err-put_entry : goal.returns-in_err-put_entry
returns-in_err-put_entry g c =
    let p = printed-fails _ _ _ _ _ _ c.new-waiting.ensures c.in_err-put_entry.ensures c.from_residual.ensures.1 in
    record { all = p.all; front = p.front; later = p.later; cause = p.cause; quiet = p.quiet }

pub returns : goal.returns
returns g c =
    let p = printed _ _ _ _ c.new-waiting.ensures c.flush.ensures.empty (puts_same _ _ _ _ _ (puts_then _ _ _ _ _ _ [] c.in_ok-put_entry.ensures c.flush.ensures.puts) (append-nil _)) in
    record { all = p.all; front = p.front; later = p.later; cause = p.cause; quiet = p.quiet }
