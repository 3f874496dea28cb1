use Rattle.std.proofs.Common.{sym, ◌∙◌}
use Rattle.asp_crew.proofs.KnownLaws.{may-take}
use Rattle.asp_crew.proofs.known.take_known.Goals as goal

pub take_over-requires : goal.take_over-requires
take_over-requires g c =
    let may = may-take c.requires.0 c.args.book.now c.args.search.now c.requires.1 c.in-Some-2.known c.requires.2 (sym c.in_ok-known-in-None.ensures ∙ c.in-Some-2.is) in
    record { program = may.program; reasoning = may.reasoning; all = may.all }
