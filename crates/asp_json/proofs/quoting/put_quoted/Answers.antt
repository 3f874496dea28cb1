use Rattle.std.proofs.Common.{[], flat_map, ◌++◌, ◌∷◌}
use Rattle.asp_buffer.proofs.OutLaws.{puts_fails, puts_then}
use Rattle.asp_json.specs.Quoting.{escaped}
use Rattle.asp_json.proofs.quoting.put_quoted.Goals as goal

pub returns-in_err-put : goal.returns-in_err-put
returns-in_err-put g c = puts_fails _ _ _ _ _ (34 ∷ []) (flat_map escaped c.args.text.now ++ 34 ∷ []) (c.in_err-put.ensures) c.from_residual.ensures.1

pub returns-in_err-put_escaped : goal.returns-in_err-put_escaped
returns-in_err-put_escaped g c =
    puts_fails _ _ _ _ _ (34 ∷ [] ++ flat_map escaped c.args.text.now) (34 ∷ [])
    (puts_then _ _ _ _ _ (34 ∷ []) (flat_map escaped c.args.text.now) (c.in_ok-put.ensures) (c.in_err-put_escaped.ensures))
    c.from_residual-in_err-put_escaped.ensures.1

pub returns : goal.returns
returns g c =
    puts_then _ _ _ _ _ (34 ∷ [] ++ flat_map escaped c.args.text.now) (34 ∷ [])
    (puts_then _ _ _ _ _ (34 ∷ []) (flat_map escaped c.args.text.now) (c.in_ok-put.ensures) (c.in_ok-put_escaped.ensures)) (c.put-2.ensures)
