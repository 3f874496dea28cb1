use Rattle.std.proofs.Common.{ap, arith, flat_map}
use Rattle.asp_buffer.proofs.OutLaws.{drop_turn_or, midway_fails, midway_more}
use Rattle.asp_json.specs.Quoting.{escaped}
use Rattle.asp_json.proofs.quoting.put_escaped.Goals as goal

pub returns-in_err-put_byte : goal.returns-in_err-put_byte
returns-in_err-put_byte g c = midway_fails _ _ _ _ _ _ _ _ _ _ c.loop-byte.invariant c.in_err-put_byte.ensures
    (ap (flat_map escaped) (drop_turn_or c.args.text.now c.loop-byte.byte-index 0 (omega arith))) c.from_residual.ensures.1

pub loop-byte-preserved : goal.loop-byte-preserved
loop-byte-preserved g c = midway_more _ _ _ _ _ _ _ _ c.loop-byte.invariant c.in_ok-put_byte.ensures
    (ap (flat_map escaped) (drop_turn_or c.args.text.now c.loop-byte.byte-index 0 (omega arith)))
