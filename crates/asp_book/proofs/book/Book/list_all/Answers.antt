use Rattle.std.proofs.Common.{◌≡◌, None, true, ◌∷◌, ◌++◌, sym, ap, ◌∙◌, subst, arith}
use Rattle.std.specs.Prelude.{IsTrue}
use Rattle.std.specs.Vec.Iter.{into_iter_items}
use Rattle.std.proofs.lemmas.Grind.{common_steps}
use Rattle.asp_model.specs.Models.{atoms_of}
use Rattle.asp_rows.specs.Listed.{IsRowFor}
use Rattle.asp_core.specs.declared.task.Task.{Task}
use Rattle.asp_core.specs.Boards.{lists, is_answer, is_enough, sought}
use Rattle.asp_book.specs.Books.{board}
use Rattle.asp_book.specs.Replies.{deliveries}
use Rattle.asp_book.proofs.ListLaws.{task-listed, board-listed, full, listed-less, listing-next, lists-enough}
use Rattle.asp_book.proofs.book.Book.list_all.Goals as goal

pub list-requires-clause-goal : goal.list-requires-clause-goal
list-requires-clause-goal c =
    subst (λ (t : Task). sought t.goal ≡ None) (sym (task-listed c.args.self.now c.loop-listing.self (deliveries c.args.by c.loop-listing.yielded) c.loop-listing.invariant.self)) c.requires.goal

pub list-requires-clause-listed : goal.list-requires-clause-listed
list-requires-clause-listed c =
    let is : c.args.found.items ≡ c.loop-listing.yielded ++ c.in-Some.listing ∷ into_iter_items c.next.new.self = grind (arith, common_steps) in
    subst (λ (t : Task). IsTrue (lists t c.in-Some.listing.set)) (sym (task-listed c.args.self.now c.loop-listing.self (deliveries c.args.by c.loop-listing.yielded) c.loop-listing.invariant.self))
    (listing-next (board c.args.self.now).task c.args.found.items c.loop-listing.yielded c.in-Some.listing (into_iter_items c.next.new.self) is c.requires.found).listed

pub list-requires-clause-answer : goal.list-requires-clause-answer
list-requires-clause-answer c =
    let is : c.args.found.items ≡ c.loop-listing.yielded ++ c.in-Some.listing ∷ into_iter_items c.next.new.self = grind (arith, common_steps) in
    subst (λ (t : Task). IsTrue (is_answer t c.in-Some.listing.set)) (sym (task-listed c.args.self.now c.loop-listing.self (deliveries c.args.by c.loop-listing.yielded) c.loop-listing.invariant.self))
    (listing-next (board c.args.self.now).task c.args.found.items c.loop-listing.yielded c.in-Some.listing (into_iter_items c.next.new.self) is c.requires.found).answer

pub list-requires-clause-row : goal.list-requires-clause-row
list-requires-clause-row c =
    let is : c.args.found.items ≡ c.loop-listing.yielded ++ c.in-Some.listing ∷ into_iter_items c.next.new.self = grind (arith, common_steps) in
    subst (λ (t : Task). IsRowFor (atoms_of t.program) c.in-Some.listing.set c.in-Some.listing.row)
    (sym (task-listed c.args.self.now c.loop-listing.self (deliveries c.args.by c.loop-listing.yielded) c.loop-listing.invariant.self))
    (listing-next (board c.args.self.now).task c.args.found.items c.loop-listing.yielded c.in-Some.listing (into_iter_items c.next.new.self) is c.requires.found).row

pub returns-then-not-branch : goal.returns-then-not-branch
returns-then-not-branch c =
    let is : c.args.found.items ≡ c.loop-listing.yielded ++ c.in-Some.listing ∷ into_iter_items c.next.new.self = grind (arith, common_steps) in
    let m = c.loop-listing.invariant.self in
    let enough : is_enough (board c.loop-listing.self) ≡ true = full (is_enough (board c.loop-listing.self)) c.in_ok-list.field-0 c.in_ok-list.ensures.enough c.if-not-branch.true in (
      c.loop-listing.yielded,
      lists-enough c.args.by (board c.args.self.now) c.args.found.items c.loop-listing.yielded c.in-Some.listing (into_iter_items c.next.new.self) is
          (ap is_enough (sym (board-listed c.args.self.now c.loop-listing.self (deliveries c.args.by c.loop-listing.yielded) m)) ∙ enough),
      listed-less c.loop-listing.self c.list.new.self c.args.by c.in-Some.listing c.in_ok-list.field-0 c.if-not-branch.true c.in_ok-list.ensures.journal ∙ m,
    )
