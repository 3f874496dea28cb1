use Rattle.std.proofs.Common.{◌++◌}
use Rattle.asp_model.specs.Texts.{found_count}
use Rattle.asp_buffer.proofs.OutLaws.{puts_fails, puts_then}
use Rattle.asp_json.specs.Entries.{entry_answers, entry_start}
use Rattle.asp_json.specs.Json.{known_texts, summary_text}
use Rattle.asp_json.proofs.entries.put_entry_results.Goals as goal

pub returns-in_err-put_entry_start : goal.returns-in_err-put_entry_start
returns-in_err-put_entry_start g c =
    puts_fails _ _ _ _ _ (entry_start c.args.number ++ entry_answers c.args.program.now c.args.results.now c.args.brief) (summary_text c.args.results.now
    (known_texts c.args.program.now c.args.results.now.known)
    (found_count c.args.results.now.mode c.args.results.now)) c.in_err-put_entry_start.ensures c.from_residual.ensures.1

pub returns : goal.returns
returns g c =
    puts_then _ _ _ _ _ (entry_start c.args.number ++ entry_answers c.args.program.now c.args.results.now c.args.brief) (summary_text c.args.results.now
    (known_texts c.args.program.now c.args.results.now.known) (found_count c.args.results.now.mode c.args.results.now)) c.in_ok-put_entry_start.ensures
    (rw c.found_count.ensures at c.put_summary.ensures)
