use Rattle.std.proofs.Common.{sym, subst}
use Rattle.asp_model.specs.declared.results.Mode.{Mode}
use Rattle.asp_book.specs.Books.{board}
use Rattle.asp_crew.specs.Running.{IsRecorded, MayRecord}
use Rattle.asp_crew.proofs.RecordLaws.{answer-now, delivered-now, optimised-now, recorded-by, recorded-improved}
use Rattle.asp_crew.proofs.leaf.record.Goals as goal

pub deliver-requires-clause-listed : goal.deliver-requires-clause-listed
deliver-requires-clause-listed c = delivered-now c.args.mode c.args.book.now c.args.set c.in-Enum.is c.requires.may

pub deliver-requires-clause-answer : goal.deliver-requires-clause-answer
deliver-requires-clause-answer c = answer-now c.args.book.now c.args.set c.requires.answer

pub improve-requires-clause-goal : goal.improve-requires-clause-goal
improve-requires-clause-goal c = optimised-now c.args.book.now c.args.set (subst (λ (m : Mode). MayRecord m c.args.book.now.task c.args.set) c.in-Opt.is c.requires.may)

pub improve-requires-clause-answer : goal.improve-requires-clause-answer
improve-requires-clause-answer c = answer-now c.args.book.now c.args.set c.requires.answer

pub returns-in_ok-_listed-in-Enum-clause-only : goal.returns-in_ok-_listed-in-Enum-clause-only
returns-in_ok-_listed-in-Enum-clause-only c =
    (recorded-by c.args.mode c.args.book.now c.deliver.new.self c.args.set c.in_ok-_listed-in-Enum._listed c.in-Enum.is c.requires.may
    c.requires.answer c.requires.wanted c.in_ok-_listed-in-Enum.ensures.enough c.in_ok-_listed-in-Enum.ensures.journal).only

pub returns-in_ok-_listed-in-Enum-clause-recorded : goal.returns-in_ok-_listed-in-Enum-clause-recorded
returns-in_ok-_listed-in-Enum-clause-recorded c =
    (recorded-by c.args.mode c.args.book.now c.deliver.new.self c.args.set c.in_ok-_listed-in-Enum._listed c.in-Enum.is c.requires.may
    c.requires.answer c.requires.wanted c.in_ok-_listed-in-Enum.ensures.enough c.in_ok-_listed-in-Enum.ensures.journal).recorded

pub returns-in_ok-_best-in-Opt-clause-only : goal.returns-in_ok-_best-in-Opt-clause-only
returns-in_ok-_best-in-Opt-clause-only c =
    (recorded-improved c.args.book.now c.improve.new.self c.args.set c.in_ok-_best-in-Opt._best
    (subst (λ (m : Mode). MayRecord m c.args.book.now.task c.args.set) c.in-Opt.is c.requires.may) c.requires.answer
    c.in_ok-_best-in-Opt.ensures.best
    c.in_ok-_best-in-Opt.ensures.journal).only

pub returns-in_ok-_best-in-Opt-clause-recorded : goal.returns-in_ok-_best-in-Opt-clause-recorded
returns-in_ok-_best-in-Opt-clause-recorded c =
    subst (λ (m : Mode). IsRecorded m (board c.args.book.now) (board c.improve.new.self) c.args.set) (sym c.in-Opt.is)
    (recorded-improved c.args.book.now c.improve.new.self c.args.set c.in_ok-_best-in-Opt._best
    (subst (λ (m : Mode). MayRecord m c.args.book.now.task c.args.set) c.in-Opt.is c.requires.may) c.requires.answer
    c.in_ok-_best-in-Opt.ensures.best
    c.in_ok-_best-in-Opt.ensures.journal).recorded
