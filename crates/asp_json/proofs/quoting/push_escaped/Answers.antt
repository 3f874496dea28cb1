use Rattle.std.proofs.Common.{arith, ◌∙◌}
use Rattle.asp_json.proofs.QuotingLaws.{push-turn}
use Rattle.asp_json.proofs.quoting.push_escaped.Goals as goal

pub loop-byte-preserved : goal.loop-byte-preserved
loop-byte-preserved c = push-turn _ _ _ _ c.args.text.now c.loop-byte.byte-index (omega arith) c.loop-byte.invariant (c.as_slice.ensures ∙ c.escaped.ensures) c.in_ok-extend_from_slice.ensures.items
