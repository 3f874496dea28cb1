use Rattle.std.proofs.Common.{[]}
use Rattle.asp_buffer.proofs.OutLaws.{puts_then, puts_fails}
use Rattle.asp_buffer.proofs.buffer.put.Goals as goal

pub returns-in_err-flush : goal.returns-in_err-flush
returns-in_err-flush g c = puts_fails _ _ _ _ c.from_residual.result [] c.args.bytes.now c.in_err-flush.ensures.puts c.from_residual.ensures.1

pub returns : goal.returns
returns g c = puts_then _ _ _ _ c.put_first.result [] c.args.bytes.now c.in_ok-flush.ensures.puts c.put_first.ensures
