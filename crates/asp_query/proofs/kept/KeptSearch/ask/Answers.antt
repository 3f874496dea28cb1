use Rattle.std.proofs.Common.{◌∙◌, arith, subst, sym}
use Rattle.asp_model.specs.declared.program.Program.{Program}
use Rattle.asp_core.specs.Boards.{IsQuery}
use Rattle.asp_query.specs.Kept.{IsFresh}
use Rattle.asp_query.proofs.KeptLaws.{all-stand, found-anyway, query-begins}
use Rattle.asp_query.proofs.kept.KeptSearch.ask.Goals as goal

pub book_of-requires : goal.book_of-requires
book_of-requires g c = all-stand c.self.inside.compiled.now c.args.query.now (sym c.all_stand.ensures ∙ c.if-not-all_stand.false)

pub search-requires-clause-begun : goal.search-requires-clause-begun
search-requires-clause-begun g c =
    query-begins c.self.inside.compiled.now c.args.query.now c.args.budget c.in_ok-book.book c.in-Ok.search
    (all-stand c.self.inside.compiled.now c.args.query.now (sym c.all_stand.ensures ∙ c.if-not-all_stand.false)) (omega (arith, c.ranges.budget)) c.in_ok-book.ensures
    (subst (λ (p : Program). IsFresh p c.in-Ok.search) (sym c.self.view_is) c.in-Ok.ensures.fresh)

pub returns-in-Ok-clause-stands : goal.returns-in-Ok-clause-stands
returns-in-Ok-clause-stands g c =
    found-anyway (IsQuery c.args.self.now c.args.query.now)
    (subst (λ (p : Program). IsQuery p c.args.query.now) c.self.view_is
    (all-stand c.self.inside.compiled.now c.args.query.now (sym c.all_stand.ensures ∙ c.if-not-all_stand.false))) c.search.result
