use Rattle.std.proofs.Common.{[], ◌∷◌, ◌++◌, codes, decimal, sym, append_assoc}
use Rattle.asp_buffer.proofs.OutLaws.{puts_then, puts_fails, puts_same}
use Rattle.asp_top.proofs.progress.put_query.Goals as goal

pub returns-in_err-put : goal.returns-in_err-put
returns-in_err-put g c =
    puts_same _ _ _ _ _ (puts_fails _ _ _ _ _ (codes ", query ") (decimal c.args.query ++ 10 ∷ []) c.in_err-put.ensures c.from_residual.ensures.1)
    (sym (append_assoc (codes ", query ") (decimal c.args.query) (10 ∷ [])))

pub returns-in_err-put_number : goal.returns-in_err-put_number
returns-in_err-put_number g c =
    puts_fails _ _ _ _ _ (codes ", query " ++ decimal c.args.query) (10 ∷ [])
    (puts_then _ _ _ _ _ (codes ", query ") (decimal c.args.query) c.in_ok-put.ensures c.in_err-put_number.ensures) c.from_residual-in_err-put_number.ensures.1

pub returns : goal.returns
returns g c =
    puts_then _ _ _ _ _ (codes ", query " ++ decimal c.args.query) (10 ∷ [])
    (puts_then _ _ _ _ _ (codes ", query ") (decimal c.args.query) c.in_ok-put.ensures c.in_ok-put_number.ensures) c.put-2.ensures
