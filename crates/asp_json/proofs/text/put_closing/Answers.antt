use Rattle.std.proofs.Common.{codes}
use Rattle.asp_buffer.proofs.OutLaws.{puts_fails, puts_then}
use Rattle.asp_json.specs.Json.{known_texts, summary_text}
use Rattle.asp_json.proofs.text.put_closing.Goals as goal

pub returns-in_err-put_summary : goal.returns-in_err-put_summary
returns-in_err-put_summary g c =
    puts_fails _ _ _ _ _ (summary_text c.args.results.now (known_texts c.args.program.now c.args.results.now.known) c.args.count) (codes "}\n") c.in_err-put_summary.ensures c.from_residual.ensures.1

pub returns : goal.returns
returns g c =
    puts_then _ _ _ _ _ (summary_text c.args.results.now (known_texts c.args.program.now c.args.results.now.known) c.args.count) (codes "}\n") c.in_ok-put_summary.ensures c.put.ensures
