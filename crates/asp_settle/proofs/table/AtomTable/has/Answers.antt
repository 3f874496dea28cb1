use Rattle.std.proofs.Common.{false, sym, ap, ◌∙◌, arith}
use Rattle.std.proofs.lemmas.Bool.{le-ltb}
use Rattle.std.proofs.lemmas.List.{get_or_past, get_or_read}
use Rattle.asp_model.specs.Sets.{has}
use Rattle.asp_settle.proofs.TableLaws.{has-table}
use Rattle.asp_settle.proofs.table.AtomTable.has.Goals as goal

pub returns-then-place-len : goal.returns-then-place-len
returns-then-place-len c =
    let flags = c.self.inside.flags.items in
    get_or_read flags c.args.atom c.index.result.now (omega (arith, c.self.inside.flags.ok.0)) c.index.ensures false ∙ sym (has-table flags c.args.atom) ∙ ap (λ s. has s c.args.atom) c.self.view_is

pub returns-else-place-len : goal.returns-else-place-len
returns-else-place-len c =
    let flags = c.self.inside.flags.items in
    le-ltb c.args.atom c.len.result c.if-place-len.false ∙ sym (get_or_past flags c.args.atom false (omega (arith, c.self.inside.flags.ok.0)))
    ∙ sym (has-table flags c.args.atom) ∙ ap (λ s. has s c.args.atom) c.self.view_is
