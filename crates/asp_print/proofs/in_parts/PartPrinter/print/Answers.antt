use Rattle.std.proofs.Common.{[], append-nil}
use Rattle.asp_buffer.proofs.OutLaws.{printed, puts_then, puts_same}
use Rattle.asp_print.proofs.in_parts.PartPrinter.print.Goals as goal

pub returns-clause-front : goal.returns-clause-front
returns-clause-front g c =
    (printed _ _ _ _ c.new-waiting.ensures c.flush.ensures.empty (puts_same _ _ _ _ _ (puts_then _ _ _ _ _ _ [] c.in_ok-put.ensures c.flush.ensures.puts) (append-nil _))).front
