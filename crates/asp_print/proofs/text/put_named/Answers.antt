use Rattle.std.proofs.Common.{[], ◌∷◌, ◌++◌, codes, flat_map, ap, true, ℕ, List}
use Rattle.asp_model.specs.Texts.{ended_line, shown}
use Rattle.asp_buffer.proofs.OutLaws.{puts_then, puts_fails, puts_same}
use Rattle.asp_print.specs.Shown.{pieces}
use Rattle.asp_print.proofs.ShownLaws.{pieces-after}
use Rattle.asp_print.proofs.text.put_named.Goals as goal

pub returns-in_err-put : goal.returns-in_err-put
returns-in_err-put g c =
    puts_fails _ _ _ _ _ (codes "Consequences:") (flat_map (λ (t : List ℕ). 32 ∷ t) (shown c.args.program.now c.args.known.now) ++ 10 ∷ []) c.in_err-put.ensures c.from_residual.ensures.1

pub returns-in_err-put_texts : goal.returns-in_err-put_texts
returns-in_err-put_texts g c =
    let os = c.args.program.now.outputs in
    puts_same _ _ _ _ _ (puts_fails _ _ _ _ _ (codes "Consequences:" ++ pieces 32 c.args.known.now true os) (10 ∷ [])
    (puts_then _ _ _ _ _ _ _ c.in_ok-put.ensures c.in_err-put_texts.ensures) c.from_residual-in_err-put_texts.ensures.1)
    (ap (λ (t : List ℕ). ended_line (codes "Consequences:" ++ t)) (pieces-after 32 c.args.known.now os))

pub returns : goal.returns
returns g c =
    let os = c.args.program.now.outputs in
    puts_same _ _ _ _ _ (puts_then _ _ _ _ _ (codes "Consequences:" ++ pieces 32 c.args.known.now true os) (10 ∷ [])
    (puts_then _ _ _ _ _ _ _ c.in_ok-put.ensures c.in_ok-put_texts.ensures) c.put-2.ensures)
    (ap (λ (t : List ℕ). ended_line (codes "Consequences:" ++ t)) (pieces-after 32 c.args.known.now os))
