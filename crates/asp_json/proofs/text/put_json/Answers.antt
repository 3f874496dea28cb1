use Rattle.asp_model.specs.Texts.{found_count}
use Rattle.asp_buffer.proofs.OutLaws.{puts_fails, puts_then}
use Rattle.asp_json.specs.Json.{call_text, closing_text, known_texts}
use Rattle.asp_json.proofs.text.put_json.Goals as goal

pub returns-in_err-put_call : goal.returns-in_err-put_call
returns-in_err-put_call g c = puts_fails _ _ _ _ _ (call_text c.args.program.now c.args.results.now c.args.brief)
    (closing_text c.args.results.now (known_texts c.args.program.now c.args.results.now.known)
    (found_count c.args.results.now.mode c.args.results.now)) (c.in_err-put_call.ensures) c.from_residual.ensures.1

pub returns : goal.returns
returns g c = puts_then _ _ _ _ _ (call_text c.args.program.now c.args.results.now c.args.brief)
    (closing_text c.args.results.now (known_texts c.args.program.now c.args.results.now.known)
    (found_count c.args.results.now.mode c.args.results.now)) (c.in_ok-put_call.ensures) (rw c.found_count.ensures at c.put_closing.ensures)
