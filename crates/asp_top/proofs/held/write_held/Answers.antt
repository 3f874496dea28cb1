use Rattle.std.proofs.Common.{[], append-nil}
use Rattle.asp_buffer.proofs.OutLaws.{printed, printed-fails, puts_then, puts_same}
use Rattle.asp_top.proofs.held.write_held.Goals as goal

pub returns-in_err-put_held : goal.returns-in_err-put_held
returns-in_err-put_held g c =
    let p = printed-fails _ _ _ _ _ _ c.new-waiting.ensures c.in_err-put_held.ensures c.from_residual.ensures.1 in
    record { all = p.all; front = p.front; later = p.later; cause = p.cause; quiet = p.quiet }

pub returns : goal.returns
returns g c =
    let p = printed _ _ _ _ c.new-waiting.ensures c.flush.ensures.empty (puts_same _ _ _ _ _ (puts_then _ _ _ _ _ _ [] c.in_ok-put_held.ensures c.flush.ensures.puts) (append-nil _)) in
    record { all = p.all; front = p.front; later = p.later; cause = p.cause; quiet = p.quiet }
