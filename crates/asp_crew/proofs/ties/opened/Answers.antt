use Rattle.std.proofs.Common.{◌∙◌, sym, subst}
use Rattle.std.specs.Prelude.{IsTrue}
use Rattle.asp_model.specs.Costs.{cost}
use Rattle.asp_model.specs.Sets.{Atoms}
use Rattle.asp_core.specs.Boards.{is_answer, lists}
use Rattle.asp_book.specs.Books.{board}
use Rattle.asp_crew_laws.specs.Runs.{ties_of}
use Rattle.asp_crew.proofs.TieLaws.{begun-ties, best-answers, best-lists, opened-idle, opened-task}
use Rattle.asp_crew.proofs.ties.opened.Goals as goal

pub deliver-requires-clause-listed : goal.deliver-requires-clause-listed
deliver-requires-clause-listed c =
    let begun =
    begun-ties c.args.compiled.now c.args.ask (cost c.args.compiled.now c.args.best.now) c.args.budget c.in_ok-above.above c.as_slice.result.now
    c.in_ok-state.state c.in_ok-book.book (c.in_ok-above.ensures ∙ c.requires.bound) c.as_slice.ensures
    c.in_ok-state.ensures c.in_ok-book.ensures in
    subst (λ (S : Atoms). IsTrue (lists (board c.in_ok-book.book).task S)) (sym c.in_ok-set.ensures)
    (best-lists c.args.compiled.now c.args.ask c.args.best.now c.args.budget c.in_ok-book.book c.requires.best begun)

pub deliver-requires-clause-answer : goal.deliver-requires-clause-answer
deliver-requires-clause-answer c =
    let begun =
    begun-ties c.args.compiled.now c.args.ask (cost c.args.compiled.now c.args.best.now) c.args.budget c.in_ok-above.above c.as_slice.result.now
    c.in_ok-state.state c.in_ok-book.book (c.in_ok-above.ensures ∙ c.requires.bound) c.as_slice.ensures
    c.in_ok-state.ensures c.in_ok-book.ensures in
    subst (λ (S : Atoms). IsTrue (is_answer (board c.in_ok-book.book).task S)) (sym c.in_ok-set.ensures)
    (best-answers c.args.compiled.now c.args.ask c.args.best.now (cost c.args.compiled.now c.args.best.now) c.args.budget c.in_ok-book.book c.requires.best begun)

pub returns-in-Ok-clause-task : goal.returns-in-Ok-clause-task
returns-in-Ok-clause-task c =
    let begun =
    begun-ties c.args.compiled.now c.args.ask (cost c.args.compiled.now c.args.best.now) c.args.budget c.in_ok-above.above c.as_slice.result.now
    c.in_ok-state.state c.in_ok-book.book (c.in_ok-above.ensures ∙ c.requires.bound) c.as_slice.ensures
    c.in_ok-state.ensures c.in_ok-book.ensures in
    opened-task (ties_of c.args.compiled.now c.args.ask (cost c.args.compiled.now c.args.best.now) c.args.budget) c.in_ok-book.book c.deliver.new.self
    c.in_ok-set.set c.in-Ok._listed begun c.in-Ok.ensures.journal

pub returns-in-Ok-clause-idle : goal.returns-in-Ok-clause-idle
returns-in-Ok-clause-idle c =
    let begun =
    begun-ties c.args.compiled.now c.args.ask (cost c.args.compiled.now c.args.best.now) c.args.budget c.in_ok-above.above c.as_slice.result.now
    c.in_ok-state.state c.in_ok-book.book (c.in_ok-above.ensures ∙ c.requires.bound) c.as_slice.ensures
    c.in_ok-state.ensures c.in_ok-book.ensures in
    opened-idle (ties_of c.args.compiled.now c.args.ask (cost c.args.compiled.now c.args.best.now) c.args.budget) c.in_ok-book.book c.deliver.new.self
    c.in_ok-set.set c.in-Ok._listed begun c.in-Ok.ensures.journal
