use Rattle.std.proofs.Common.{List, ap, codes, false, map, ℕ, ◌++◌}
use Rattle.std.specs.List.{join_with_byte}
use Rattle.asp_model.specs.Texts.{shown}
use Rattle.asp_buffer.proofs.OutLaws.{puts_fails, puts_same, puts_then}
use Rattle.asp_print.specs.Shown.{pieces}
use Rattle.asp_json.specs.Quoting.{quoted, quoted_output}
use Rattle.asp_json.proofs.ListLaws.{texts-joined}
use Rattle.asp_json.proofs.answers.put_value.Goals as goal

pub returns-in_err-put : goal.returns-in_err-put
returns-in_err-put g c = puts_fails _ _ _ _ _ (codes "\n{\"Value\":[")
    (join_with_byte 44 (map quoted (shown c.args.program.now c.args.row.now.set)) ++ codes "]") (c.in_err-put.ensures) c.from_residual.ensures.1

pub returns-in_err-put_line : goal.returns-in_err-put_line
returns-in_err-put_line g c =
    puts_same _ _ _ _ _ (puts_fails _ _ _ _ _
    (codes "\n{\"Value\":[" ++ pieces 44 c.args.row.now.set false (map quoted_output c.args.program.now.outputs)) (codes "]")
    (puts_then _ _ _ _ _ (codes "\n{\"Value\":[") (pieces 44 c.args.row.now.set false (map quoted_output c.args.program.now.outputs))
    (c.in_ok-put.ensures) (c.in_err-put_line.ensures)) c.from_residual-in_err-put_line.ensures.1)
    (ap (λ (t : List ℕ). codes "\n{\"Value\":[" ++ (t ++ codes "]")) (texts-joined c.args.program.now c.args.row.now.set))

pub returns : goal.returns
returns g c =
    puts_same _ _ _ _ _ (puts_then _ _ _ _ _
    (codes "\n{\"Value\":[" ++ pieces 44 c.args.row.now.set false (map quoted_output c.args.program.now.outputs)) (codes "]")
    (puts_then _ _ _ _ _ (codes "\n{\"Value\":[") (pieces 44 c.args.row.now.set false (map quoted_output c.args.program.now.outputs))
    (c.in_ok-put.ensures) (c.in_ok-put_line.ensures)) (c.put-2.ensures)) (ap (λ (t : List ℕ). codes "\n{\"Value\":[" ++ (t ++ codes "]"))
    (texts-joined c.args.program.now c.args.row.now.set))
