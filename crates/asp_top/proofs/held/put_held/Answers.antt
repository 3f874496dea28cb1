use Rattle.std.proofs.Common.{ℕ, List, ◌++◌, codes, decimal, sym, append_assoc}
use Rattle.asp_buffer.proofs.OutLaws.{puts_then, puts_fails, puts_same}
use Rattle.asp_top.proofs.held.put_held.Goals as goal

abbrev front : List ℕ
front = codes "aspenum: "

abbrev back : List ℕ
back = codes " answers held until the end take more than 1 GB; --stream writes each as soon as it can\n"

pub returns-in_err-put : goal.returns-in_err-put
returns-in_err-put g c =
    puts_same _ _ _ _ _ (puts_fails _ _ _ _ _ front (decimal c.args.answers ++ back) c.in_err-put.ensures c.from_residual.ensures.1)
    (sym (append_assoc front (decimal c.args.answers) back))

pub returns-in_err-put_number : goal.returns-in_err-put_number
returns-in_err-put_number g c =
    puts_fails _ _ _ _ _ (front ++ decimal c.args.answers) back
    (puts_then _ _ _ _ _ front (decimal c.args.answers) c.in_ok-put.ensures c.in_err-put_number.ensures) c.from_residual-in_err-put_number.ensures.1

pub returns : goal.returns
returns g c =
    puts_then _ _ _ _ _ (front ++ decimal c.args.answers) back
    (puts_then _ _ _ _ _ front (decimal c.args.answers) c.in_ok-put.ensures c.in_ok-put_number.ensures) c.put-2.ensures
