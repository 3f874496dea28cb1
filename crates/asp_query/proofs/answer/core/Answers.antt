use Rattle.asp_query.proofs.ReportLaws.{nothing-sought, wanted-are}
use Rattle.asp_query.proofs.answer.core.Goals as goal

pub has_nothing-requires : goal.has_nothing-requires
has_nothing-requires c = nothing-sought c.args.book.now c.requires.through

pub add_blamed-requires : goal.add_blamed-requires
add_blamed-requires c = wanted-are c.args.book.now c.args.compiled.now c.args.literals.now c.requires.through c.requires.program c.requires.wanted
