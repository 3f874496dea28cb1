use Rattle.std.proofs.Common.{List, ap, codes, false, map, ℕ, ◌++◌}
use Rattle.std.specs.List.{join_with_byte}
use Rattle.std.specs.Fmt.{signed_decimal}
use Rattle.asp_buffer.proofs.OutLaws.{puts_fails, puts_same, puts_then}
use Rattle.asp_json.specs.Commas.{commas}
use Rattle.asp_json.proofs.ListLaws.{commas-join}
use Rattle.asp_json.proofs.lists.put_sums.Goals as goal

pub returns-in_err-put : goal.returns-in_err-put
returns-in_err-put g c = puts_fails _ _ _ _ _ (codes "[") (join_with_byte 44 (map signed_decimal c.args.sums.now) ++ codes "]") (c.in_err-put.ensures) c.from_residual.ensures.1

pub returns-in_err-put_each_sum : goal.returns-in_err-put_each_sum
returns-in_err-put_each_sum g c =
    puts_same _ _ _ _ _ (puts_fails _ _ _ _ _ (codes "[" ++ commas false (map signed_decimal c.args.sums.now)) (codes "]")
    (puts_then _ _ _ _ _ (codes "[") (commas false (map signed_decimal c.args.sums.now)) (c.in_ok-put.ensures)
    (c.in_err-put_each_sum.ensures)) c.from_residual-in_err-put_each_sum.ensures.1) (ap (λ (t : List ℕ). codes "[" ++ (t ++ codes "]"))
    (commas-join (map signed_decimal c.args.sums.now)))

pub returns : goal.returns
returns g c =
    puts_same _ _ _ _ _ (puts_then _ _ _ _ _ (codes "[" ++ commas false (map signed_decimal c.args.sums.now)) (codes "]")
    (puts_then _ _ _ _ _ (codes "[") (commas false (map signed_decimal c.args.sums.now)) (c.in_ok-put.ensures) (c.in_ok-put_each_sum.ensures))
    (c.put-2.ensures)) (ap (λ (t : List ℕ). codes "[" ++ (t ++ codes "]")) (commas-join (map signed_decimal c.args.sums.now)))
