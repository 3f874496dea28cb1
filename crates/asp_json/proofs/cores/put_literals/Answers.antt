use Rattle.std.proofs.Common.{List, ap, codes, false, map, ℕ, ◌++◌}
use Rattle.std.specs.List.{join_with_byte}
use Rattle.asp_buffer.proofs.OutLaws.{puts_fails, puts_same, puts_then}
use Rattle.asp_json.specs.Commas.{commas}
use Rattle.asp_json.specs.Entries.{element}
use Rattle.asp_json.proofs.ListLaws.{commas-join}
use Rattle.asp_json.proofs.cores.put_literals.Goals as goal

pub returns-in_err-put : goal.returns-in_err-put
returns-in_err-put g c = puts_fails _ _ _ _ _ (codes ",\"Core\":[")
    (join_with_byte 44 (map (element c.args.names c.args.outputs.now) c.args.literals.now) ++ codes "]") c.in_err-put.ensures c.from_residual.ensures.1

pub returns-in_err-put_elements : goal.returns-in_err-put_elements
returns-in_err-put_elements g c =
    let texts = map (element c.args.names c.args.outputs.now) c.args.literals.now in
    puts_same _ _ _ _ _ (puts_fails _ _ _ _ _ (codes ",\"Core\":[" ++ commas false texts) (codes "]")
    (puts_then _ _ _ _ _ (codes ",\"Core\":[") (commas false texts) c.in_ok-put.ensures c.in_err-put_elements.ensures) c.from_residual-in_err-put_elements.ensures.1)
    (ap (λ (t : List ℕ). codes ",\"Core\":[" ++ (t ++ codes "]")) (commas-join texts))

pub returns : goal.returns
returns g c =
    let texts = map (element c.args.names c.args.outputs.now) c.args.literals.now in
    puts_same _ _ _ _ _ (puts_then _ _ _ _ _ (codes ",\"Core\":[" ++ commas false texts) (codes "]")
    (puts_then _ _ _ _ _ (codes ",\"Core\":[") (commas false texts) c.in_ok-put.ensures c.in_ok-put_elements.ensures) c.put-2.ensures)
    (ap (λ (t : List ℕ). codes ",\"Core\":[" ++ (t ++ codes "]")) (commas-join texts))
