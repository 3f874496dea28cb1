use Rattle.std.proofs.Common.{true, false, sym, ap, ◌∙◌}
use Rattle.std.specs.Ordering.{match_ordering}
use Rattle.std.specs.declared.cmp.Ordering.{Ordering}
use Rattle.asp_rows.proofs.OrderLaws.{row_cmp_is}
use Rattle.asp_backlog.proofs.backlog.is_before.Goals as goal

pub returns-in-Less : goal.returns-in-Less
returns-in-Less c =
    sym (ap (λ (o : Ordering). match_ordering o true false false) (sym (row_cmp_is c.args.atoms.now c.requires.ascending c.args.row.now c.args.floor.now c.requires.row c.requires.floor)
    ∙ sym c.cmp.ensures ∙ c.in-Less.is))

pub returns-in-Equal : goal.returns-in-Equal
returns-in-Equal c =
    sym (ap (λ (o : Ordering). match_ordering o true false false) (sym (row_cmp_is c.args.atoms.now c.requires.ascending c.args.row.now c.args.floor.now c.requires.row c.requires.floor)
    ∙ sym c.cmp.ensures ∙ c.in-Equal.is))

pub returns-in-Greater : goal.returns-in-Greater
returns-in-Greater c =
    sym (ap (λ (o : Ordering). match_ordering o true false false) (sym (row_cmp_is c.args.atoms.now c.requires.ascending c.args.row.now c.args.floor.now c.requires.row c.requires.floor)
    ∙ sym c.cmp.ensures ∙ c.in-Greater.is))
