use Rattle.std.proofs.Common.{sym, arith}
use Rattle.asp_read.proofs.KnownLaws.{stays, one_known}
use Rattle.asp_read.proofs.known.KnownAtoms.take_unless_full.Goals as goal

pub returns-then-has-clause-taken : goal.returns-then-has-clause-taken
returns-then-has-clause-taken c = stays c.self.inside.atoms c.args.self.now c.args.atom c.self.view_is c.self.invariant.ascending (sym c.if-has.ensures)

pub invariant_of-self-2 : goal.invariant_of-self-2
invariant_of-self-2 c =
    one_known c.self.inside.atoms c.insert.new.self c.self.inside.recent.items c.self.inside.count c.args.atom c.self.invariant
    c.in_ok-insert.ensures.inserted (sym c.if-has.ensures) (omega (arith, c.if-self-ge-MOST_ATOMS.false))
