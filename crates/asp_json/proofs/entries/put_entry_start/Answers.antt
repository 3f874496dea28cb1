use Rattle.asp_buffer.proofs.OutLaws.{puts_fails, puts_then}
use Rattle.asp_json.specs.Entries.{entry_answers, entry_start}
use Rattle.asp_json.proofs.entries.put_entry_start.Goals as goal

pub returns-in_err-put_start : goal.returns-in_err-put_start
returns-in_err-put_start g c =
    puts_fails _ _ _ _ _ (entry_start c.args.number) (entry_answers c.args.program.now c.args.results.now c.args.brief) c.in_err-put_start.ensures c.from_residual.ensures.1

pub returns : goal.returns
returns g c =
    puts_then _ _ _ _ _ (entry_start c.args.number) (entry_answers c.args.program.now c.args.results.now c.args.brief) c.in_ok-put_start.ensures c.put_entry_answers.ensures
