use Rattle.std.proofs.Common.{Bool, ◌&&◌, is_none, not, sym, ap, ◌∙◌}
use Rattle.asp_path.specs.Trees.{all_closed}
use Rattle.asp_core.specs.Boards.{Board, is_enough, sought}
use Rattle.asp_book.specs.Books.{board}
use Rattle.asp_crew.specs.Refuting.{is_nothing}
use Rattle.asp_crew.proofs.CoreLaws.{plain-seeks}
use Rattle.asp_crew.proofs.cores.refutes.Goals as goal

pub returns-then-not-is_plain : goal.returns-then-not-is_plain
returns-then-not-is_plain c =
    let b : Board = board c.args.book.now in sym
    (ap (λ (x : Bool). x && not (is_enough b) && all_closed b.nodes && (is_nothing b.answers && is_none b.best))
    (sym c.is_plain.ensures ∙ c.if-not-is_plain.true))

pub has_nothing-requires : goal.has_nothing-requires
has_nothing-requires c = ap (λ (b : Board). sought b.task.goal) c.state-state.ensures ∙ c.requires ∙ plain-seeks c.args.mode (sym c.is_plain.ensures ∙ c.if-not-is_plain.false)
