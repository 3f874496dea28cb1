use Rattle.std.proofs.Common.{append_assoc, sym, ◌++◌}
use Rattle.asp_buffer.proofs.OutLaws.{puts_fails, puts_same, puts_then}
use Rattle.asp_json.specs.Json.{known_text, known_texts, models_text, result_text}
use Rattle.asp_json.proofs.text.put_summary.Goals as goal

pub returns-in_err-put_known : goal.returns-in_err-put_known
returns-in_err-put_known g c = puts_same _ _ _ _ _
    (puts_fails _ _ _ _ _ (known_text c.args.results.now.mode c.args.results.now (known_texts c.args.program.now c.args.results.now.known))
    (result_text c.args.results.now c.args.count ++ models_text c.args.results.now c.args.count) (c.in_err-put_known.ensures)
    c.from_residual.ensures.1) (sym
    (append_assoc (known_text c.args.results.now.mode c.args.results.now (known_texts c.args.program.now c.args.results.now.known))
    (result_text c.args.results.now c.args.count) (models_text c.args.results.now c.args.count)))

pub returns-in_err-put_result : goal.returns-in_err-put_result
returns-in_err-put_result g c =
    puts_fails _ _ _ _ _
    (known_text c.args.results.now.mode c.args.results.now (known_texts c.args.program.now c.args.results.now.known)
    ++ result_text c.args.results.now c.args.count) (models_text c.args.results.now c.args.count)
    (puts_then _ _ _ _ _ (known_text c.args.results.now.mode c.args.results.now (known_texts c.args.program.now c.args.results.now.known))
    (result_text c.args.results.now c.args.count) (c.in_ok-put_known.ensures) (c.in_err-put_result.ensures))
    c.from_residual-in_err-put_result.ensures.1

pub returns : goal.returns
returns g c =
    puts_then _ _ _ _ _
    (known_text c.args.results.now.mode c.args.results.now (known_texts c.args.program.now c.args.results.now.known)
    ++ result_text c.args.results.now c.args.count) (models_text c.args.results.now c.args.count)
    (puts_then _ _ _ _ _ (known_text c.args.results.now.mode c.args.results.now (known_texts c.args.program.now c.args.results.now.known))
    (result_text c.args.results.now c.args.count) (c.in_ok-put_known.ensures) (c.in_ok-put_result.ensures)) (c.put_models.ensures)
