use Rattle.std.proofs.Common.{sym, subst}
use Rattle.asp_search.specs.Sure.{IsFixed}
use Rattle.asp_stream.proofs.LowLaws.{fixed-sure, said-sure}
use Rattle.asp_stream.proofs.low.is_sure.Goals as goal

pub returns-then-says_true : goal.returns-then-says_true
returns-then-says_true g c = λ told. said-sure c.args.search.now c.args.more.now c.args.var (sym c.if-says_true.ensures)

pub returns-in-Some : goal.returns-in-Some
returns-in-Some g c = λ told. fixed-sure c.args.search.now c.args.more.now c.args.var (subst (IsFixed c.args.search.now c.args.var) told c.in-Some.ensures)
