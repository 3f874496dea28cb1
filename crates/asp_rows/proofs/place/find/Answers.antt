use Rattle.std.proofs.Common.{arith}
use Rattle.asp_rows.proofs.PlaceLaws.{behind_found}
use Rattle.asp_rows.proofs.place.find.Goals as goal

pub returns-then-atoms-guess-clause-behind : goal.returns-then-atoms-guess-clause-behind
returns-then-atoms-guess-clause-behind c =
    behind_found c.args.atoms.now c.saturating_sub-guess.result c.args.atom c.requires.ascending (omega (arith, c.if-guess-atoms.true)) (omega (arith, c.if-atoms-guess.true))
