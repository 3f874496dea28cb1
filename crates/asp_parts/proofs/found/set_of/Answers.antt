use Rattle.std.proofs.Common.{◌∙◌, filter, ap, sym, subst, arith}
use Rattle.std.proofs.lemmas.List.{take_all}
use Rattle.asp_model.specs.Sets.{IsAscending, has}
use Rattle.asp_rows.proofs.AmongLaws.{filter_is}
use Rattle.asp_parts.proofs.found.set_of.Goals as goal

pub from_ascending-requires : goal.from_ascending-requires
from_ascending-requires c =
    let all = take_all c.loop-place.place c.args.atoms.now (omega (arith, c.loop-place-test.false)) in
    subst IsAscending (sym (c.loop-place.invariant ∙ ap (filter (has c.args.row.now.set)) all
    ∙ filter_is c.args.atoms.now c.args.row.now.set c.requires.ascending c.requires.row.among)) c.requires.row.among.rising

pub returns : goal.returns
returns c =
    let all = take_all c.loop-place.place c.args.atoms.now (omega (arith, c.loop-place-test.false)) in
    c.from_ascending.ensures ∙ c.loop-place.invariant ∙ ap (filter (has c.args.row.now.set)) all ∙ filter_is c.args.atoms.now c.args.row.now.set c.requires.ascending c.requires.row.among
