use Rattle.asp_book.specs.Books.{board}
use Rattle.asp_crew.proofs.CoreLaws.{core-if, core-none, run-seeks}
use Rattle.asp_crew.proofs.cores.core.Goals as goal

pub refutes-requires : goal.refutes-requires
refutes-requires c = run-seeks c.args.ask c.args.book.now c.requires.task

pub returns-then-not-refutes : goal.returns-then-not-refutes
returns-then-not-refutes c = core-none c.args.ask.mode (board c.args.book.now) c.args.compiled.now c.refutes.result c.refutes.ensures c.if-not-refutes.true

pub returns : goal.returns
returns c =
    core-if c.args.ask c.args.book.now c.args.compiled.now c.refutes.result c.in_ok-core.core c.requires.task c.requires.of
    c.journal-lawful.ensures.lawful c.refutes.ensures c.if-not-refutes.false c.in_ok-core.ensures
