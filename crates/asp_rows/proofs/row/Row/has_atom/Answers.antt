use Rattle.std.proofs.Common.{◌∙◌, ap, sym, refl}
use Rattle.asp_model.specs.Sets.{has}
use Rattle.asp_rows.proofs.AmongLaws.{absent}
use Rattle.asp_rows.proofs.row.Row.has_atom.Goals as goal

pub has-requires-clause-bit : goal.has-requires-clause-bit
has-requires-clause-bit c = (c.in-Some.ensures.some.place, c.in-Some.ensures.some.at)

pub returns-in-Some : goal.returns-in-Some
returns-in-Some c = c.has.ensures c.in-Some.ensures.some.place c.in-Some.ensures.some.at ∙ ap (has c.args.self.now.set) c.in-Some.ensures.some.is

pub returns-in-None : goal.returns-in-None
returns-in-None c = sym (absent c.args.atoms.now c.args.self.now.set c.args.atom c.requires.row.among (c.in-None.ensures.none refl))
