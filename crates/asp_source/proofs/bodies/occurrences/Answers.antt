use Rattle.std.proofs.Common.{◌<◌, List, length, sym, subst}
use Rattle.std.specs.Prelude.{All}
use Rattle.asp_table.specs.declared.columns.Occurrence.{Occurrence}
use Rattle.asp_vars.specs.Numbering.{bodies_of}
use Rattle.asp_vars.specs.Tabled.{form_literals}
use Rattle.asp_source.proofs.ChangeLaws.{places_small}
use Rattle.asp_source.proofs.bodies.occurrences.Goals as goal

pub returns-clause-bodies : goal.returns-clause-bodies
returns-clause-bodies c =
    subst (λ (os : List Occurrence). All (λ (o : Occurrence). o.body < length (bodies_of c.args.compiled.now)) os) (sym c.occurrences.ensures)
    (places_small c.args.compiled.now (form_literals c.args.compiled.now) c.args.lit)
