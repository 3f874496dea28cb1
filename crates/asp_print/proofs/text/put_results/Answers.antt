use Rattle.std.proofs.Common.{[], ◌++◌, append_assoc, sym}
use Rattle.std.specs.Prelude.{if◌then◌else◌}
use Rattle.asp_model.specs.Texts.{answers_from, closing_lines, found_count, recorded}
use Rattle.asp_print.specs.Named.{sums_line}
use Rattle.asp_buffer.proofs.OutLaws.{puts_then, puts_fails, puts_same}
use Rattle.asp_print.proofs.text.put_results.Goals as goal

pub returns-in_err-put_recorded : goal.returns-in_err-put_recorded
returns-in_err-put_recorded g c =
    let p = c.args.program.now in
    let r = c.args.results.now in
    let sums = sums_line c.args.names p in
    let lines = if c.args.brief then [] else answers_from p 1 (recorded r.mode r) in
    let ending = closing_lines r (found_count r.mode r) in
    puts_same _ _ _ _ _ (puts_fails _ _ _ _ _ lines (sums r.mode r ++ ending) c.in_err-put_recorded.ensures c.from_residual.ensures.1)
    (sym (append_assoc lines (sums r.mode r) ending))

pub returns-in_err-put_sums_line : goal.returns-in_err-put_sums_line
returns-in_err-put_sums_line g c = puts_fails _ _ _ _ _ _ _ (puts_then _ _ _ _ _ _ _ c.in_ok-put_recorded.ensures c.in_err-put_sums_line.ensures) c.from_residual-in_err-put_sums_line.ensures.1

pub returns : goal.returns
returns g c = puts_then _ _ _ _ _ _ _ (puts_then _ _ _ _ _ _ _ c.in_ok-put_recorded.ensures c.in_ok-put_sums_line.ensures) c.put_ending.ensures
