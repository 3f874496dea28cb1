use Rattle.std.proofs.Common.{◌∙◌, [], ◌++◌, append-nil, refl}
use Rattle.asp_buffer.proofs.OutLaws.{puts_fails, puts_same, puts_then}
use Rattle.asp_model.specs.Texts.{recorded}
use Rattle.asp_proof.specs.Texts.{list_text}
use Rattle.asp_scribe.specs.Proofs.{is_part}
use Rattle.asp_scribe.proofs.ScribeLaws.{puts-flushed}
use Rattle.asp_scribe.proofs.scribe.put_end.Goals as goal

pub returns-in_err-flush-in-Ok-clause-goes : goal.returns-in_err-flush-in-Ok-clause-goes
returns-in_err-flush-in-Ok-clause-goes g c =
    let text = list_text (recorded c.args.results.now.mode c.args.results.now) (is_part c.args.results.now.end) in
    rw c.in-Ok.is (puts_same _ _ _ _ _
    (puts_fails _ _ _ _ _ (text ++ []) []
    (puts_then _ _ _ _ _ _ _ (rw c.is_part.ensures at c.in_ok-put_recorded-in-Ok.ensures) c.in_err-flush-in-Ok.ensures.puts)
    c.from_residual-in_err-flush-in-Ok.ensures.1)
    (append-nil (text ++ []) ∙ append-nil text))

pub returns-in_ok-flush-in-Ok-clause-goes : goal.returns-in_ok-flush-in-Ok-clause-goes
returns-in_ok-flush-in-Ok-clause-goes g c =
    let text = list_text (recorded c.args.results.now.mode c.args.results.now) (is_part c.args.results.now.end) in
    rw c.in-Ok.is (puts-flushed _ _ _ _ _ _
    (puts_same _ _ _ _ _ (puts_then _ _ _ _ _ _ _ (rw c.is_part.ensures at c.in_ok-put_recorded-in-Ok.ensures) c.in_ok-flush-in-Ok.ensures.puts) (append-nil text))
    c.in_ok-flush-in-Ok.ensures.empty refl c.flush-in-Ok.ensures.bytes c.flush-in-Ok.ensures.cause c.flush-in-Ok.ensures.quiet)
