use Rattle.std.proofs.Common.{append_assoc, codes, decimal, sym, ◌++◌}
use Rattle.asp_buffer.proofs.OutLaws.{puts_fails, puts_same, puts_then}
use Rattle.asp_json.specs.Json.{more}
use Rattle.asp_json.proofs.text.put_more.Goals as goal

pub returns-in_err-put_count : goal.returns-in_err-put_count
returns-in_err-put_count g c = puts_same _ _ _ _ _
    (puts_fails _ _ _ _ _ (codes ",\"Models\":{\"Number\":" ++ decimal c.args.count ++ codes ",\"More\":\"") (more c.args.end ++ codes "\"")
    (c.in_err-put_count.ensures) c.from_residual.ensures.1) (sym
    (append_assoc (codes ",\"Models\":{\"Number\":" ++ decimal c.args.count ++ codes ",\"More\":\"") (more c.args.end) (codes "\"")))

pub returns-in_err-put : goal.returns-in_err-put
returns-in_err-put g c =
    puts_fails _ _ _ _ _ (codes ",\"Models\":{\"Number\":" ++ decimal c.args.count ++ codes ",\"More\":\"" ++ more c.args.end) (codes "\"")
    (puts_then _ _ _ _ _
    (codes ",\"Models\":{\"Number\":" ++ decimal c.args.count
    ++ codes
    ",\"More\":\"") (more c.args.end) (c.in_ok-put_count.ensures) (rw c.more.ensures at c.in_err-put.ensures)) c.from_residual-in_err-put.ensures.1

pub returns : goal.returns
returns g c =
    puts_then _ _ _ _ _ (codes ",\"Models\":{\"Number\":" ++ decimal c.args.count ++ codes ",\"More\":\"" ++ more c.args.end) (codes "\"")
    (puts_then _ _ _ _ _
    (codes ",\"Models\":{\"Number\":" ++ decimal c.args.count
    ++ codes ",\"More\":\"") (more c.args.end) (c.in_ok-put_count.ensures) (rw c.more.ensures at c.in_ok-put.ensures)) (c.put-2.ensures)
