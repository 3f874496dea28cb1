use Rattle.std.proofs.Common.{[], append-nil}
use Rattle.asp_buffer.proofs.OutLaws.{printed, puts_then, puts_same}
use Rattle.asp_outlet.proofs.closing.print_optima_closing.Goals as goal

pub returns-clause-front : goal.returns-clause-front
returns-clause-front g c =
    (printed _ _ _ _ c.new-waiting.ensures c.flush.ensures.empty (puts_same _ _ _ _ _ (puts_then _ _ _ _ _ _ [] c.in_ok-put_closing.ensures c.flush.ensures.puts) (append-nil _))).front

pub returns-clause-all : goal.returns-clause-all
returns-clause-all g c =
    (printed _ _ _ _ c.new-waiting.ensures c.flush.ensures.empty (puts_same _ _ _ _ _ (puts_then _ _ _ _ _ _ [] c.in_ok-put_closing.ensures c.flush.ensures.puts) (append-nil _))).all
