use Rattle.std.proofs.Common.{◌≡◌, ◌∙◌, ap, Some}
use Rattle.asp_model.specs.declared.program.Program.{Program}
use Rattle.asp_prepare.specs.declared.prepared.Prepared.{Prepared}
use Rattle.asp_prepare.specs.Naming.{aside_for, asked_if, left_for}
use Rattle.asp_prepare.proofs.AskedLaws.{asked-is}
use Rattle.asp_prepare.proofs.prepared.ready.Goals as goal

pub returns-in-Ok-clause-same : goal.returns-in-Ok-clause-same
returns-in-Ok-clause-same c =
    let given = c.args.options.now in
    let is : Some c.in-Ok-Some.sought ≡ asked_if given c.args.program = rw c.in-Ok-Some.field-0-is at c.in-Ok-Some.ensures.asked in
    let of : Program → Prepared = λ (q : Program). record { compiled = left_for given q; aside = aside_for given q } in
    c.in-Ok.ensures ∙ ap of (asked-is given c.args.program c.in-Ok-Some.sought is)
