use Rattle.asp_book.proofs.CallLaws.{task-stays, seen-after, lawful-after}
use Rattle.asp_book.proofs.laws.a_call_shows_its_moment.Goals as goal

pub returns : goal.returns
returns c = record { task = task-stays; board = seen-after; lawful = lawful-after }
