use Rattle.asp_checker.proofs.JudgeLaws.{line_read}
use Rattle.asp_checker.proofs.known.read_line.Goals as goal

pub returns-in-Some : goal.returns-in-Some
returns-in-Some c =
    line_read c.args.compiled.now c.args.sought c.args.known.now c.take_line.new.known c.in-Some.line c.args.bytes.now c.take_line.result
    (rw c.in-Some.is at c.in_ok-found.ensures) c.take_line.ensures
