use Rattle.std.proofs.Common.{append_assoc, codes, decimal, sym, ◌++◌}
use Rattle.asp_buffer.proofs.OutLaws.{puts_fails, puts_same, puts_then}
use Rattle.asp_json.specs.Json.{best_text, more}
use Rattle.asp_json.proofs.text.put_models.Goals as goal

pub returns-in_err-put_more : goal.returns-in_err-put_more
returns-in_err-put_more g c = puts_same _ _ _ _ _
    (puts_fails _ _ _ _ _
    ((codes ",\"Models\":{\"Number\":" ++ decimal c.args.count ++ codes ",\"More\":\"" ++ more c.args.results.now.end ++ codes "\""))
    (best_text c.args.results.now.mode c.args.results.now c.args.count ++ codes "}") (c.in_err-put_more.ensures) c.from_residual.ensures.1)
    (sym (append_assoc ((codes ",\"Models\":{\"Number\":" ++ decimal c.args.count
    ++ codes ",\"More\":\"" ++ more c.args.results.now.end ++ codes "\""))
    (best_text c.args.results.now.mode c.args.results.now c.args.count) (codes "}")))

pub returns-in_err-put_best : goal.returns-in_err-put_best
returns-in_err-put_best g c =
    puts_fails _ _ _ _ _
    ((codes ",\"Models\":{\"Number\":" ++ decimal c.args.count ++ codes ",\"More\":\"" ++ more c.args.results.now.end ++ codes "\"")
    ++ best_text c.args.results.now.mode c.args.results.now c.args.count) (codes "}")
    (puts_then _ _ _ _ _
    ((codes ",\"Models\":{\"Number\":" ++ decimal c.args.count ++ codes ",\"More\":\"" ++ more c.args.results.now.end ++ codes "\""))
    (best_text c.args.results.now.mode c.args.results.now c.args.count) (c.in_ok-put_more.ensures) (c.in_err-put_best.ensures))
    c.from_residual-in_err-put_best.ensures.1

pub returns : goal.returns
returns g c =
    puts_then _ _ _ _ _
    ((codes ",\"Models\":{\"Number\":" ++ decimal c.args.count ++ codes ",\"More\":\"" ++ more c.args.results.now.end ++ codes "\"")
    ++ best_text c.args.results.now.mode c.args.results.now c.args.count) (codes "}")
    (puts_then _ _ _ _ _
    ((codes ",\"Models\":{\"Number\":" ++ decimal c.args.count ++ codes ",\"More\":\"" ++ more c.args.results.now.end ++ codes "\""))
    (best_text c.args.results.now.mode c.args.results.now c.args.count) (c.in_ok-put_more.ensures) (c.in_ok-put_best.ensures)) (c.put.ensures)
