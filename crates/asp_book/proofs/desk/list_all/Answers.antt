use Rattle.std.proofs.Common.{◌≡◌, None, subst}
use Rattle.std.specs.List.{AllByRecursion}
use Rattle.asp_vault.specs.Seats.{view}
use Rattle.asp_core.specs.declared.task.Task.{Task}
use Rattle.asp_core.specs.Boards.{sought}
use Rattle.asp_book.specs.Books.{board}
use Rattle.asp_book.specs.Calls.{Knows}
use Rattle.asp_book.specs.Replies.{IsListing, Lists, deliveries}
use Rattle.asp_book.proofs.DeskLaws.{HasTaken, number-is, task-since, adds_surely, stays_surely, answers}
use Rattle.asp_book.proofs.ListLaws.{deliveries-by}
use Rattle.asp_book.proofs.desk.list_all.Goals as goal

pub list_all-reply-requires-clause-goal : goal.list_all-reply-requires-clause-goal
list_all-reply-requires-clause-goal g c =
    let v : Knows = view c.args.seat.now in
    let u : Knows = view c.take-book.new.seat in
    let has : HasTaken v u c.take-book.result c.number.result =
    record {
      misses = u.misses;
      took = c.take-book.ensures.view;
      learnt = c.take-book.ensures.learnt;
      about = c.take-book.ensures.about;
      sound =
          c.take-book.ensures.sound;
      number = c.number.ensures;
    } in
    subst (λ (t : Task). sought t.goal ≡ None) (task-since v u c.take-book.result c.number.result has) c.requires.goal

pub list_all-reply-requires-clause-found : goal.list_all-reply-requires-clause-found
list_all-reply-requires-clause-found g c =
    let v : Knows = view c.args.seat.now in
    let u : Knows = view c.take-book.new.seat in
    let has : HasTaken v u c.take-book.result c.number.result =
    record {
      misses = u.misses;
      took = c.take-book.ensures.view;
      learnt = c.take-book.ensures.learnt;
      about = c.take-book.ensures.about;
      sound =
          c.take-book.ensures.sound;
      number = c.number.ensures;
    } in
    subst (λ (t : Task). AllByRecursion (IsListing t) c.args.found.items) (task-since v u c.take-book.result c.number.result has) c.requires.found

pub give-requires-clause-adds : goal.give-requires-clause-adds
give-requires-clause-adds g c =
    let v : Knows = view c.args.seat.now in
    let u : Knows = view c.take-book.new.seat in
    let has : HasTaken v u c.take-book.result c.number.result =
    record {
      misses = u.misses;
      took = c.take-book.ensures.view;
      learnt = c.take-book.ensures.learnt;
      about = c.take-book.ensures.about;
      sound =
          c.take-book.ensures.sound;
      number = c.number.ensures;
    } in
    let e = c.list_all-reply.ensures in
    adds_surely v u c.take-book.result c.number.result has c.list_all-reply.new.self deliveries deliveries-by e.0 e.2

pub returns-clause-stays : goal.returns-clause-stays
returns-clause-stays g c =
    let v : Knows = view c.args.seat.now in
    let u : Knows = view c.take-book.new.seat in
    let has : HasTaken v u c.take-book.result c.number.result =
    record {
      misses = u.misses;
      took = c.take-book.ensures.view;
      learnt = c.take-book.ensures.learnt;
      about = c.take-book.ensures.about;
      sound =
          c.take-book.ensures.sound;
      number = c.number.ensures;
    } in
    let e = c.list_all-reply.ensures in
    stays_surely v u c.take-book.result c.number.result has (view c.give.new.seat) c.list_all-reply.new.self c.give.ensures.view deliveries e.0 e.2

pub returns-clause-call : goal.returns-clause-call
returns-clause-call g c =
    let v : Knows = view c.args.seat.now in
    let u : Knows = view c.take-book.new.seat in
    let has : HasTaken v u c.take-book.result c.number.result =
    record {
      misses = u.misses;
      took = c.take-book.ensures.view;
      learnt = c.take-book.ensures.learnt;
      about = c.take-book.ensures.about;
      sound =
          c.take-book.ensures.sound;
      number = c.number.ensures;
    } in
    let e = c.list_all-reply.ensures in
    let n : c.number.result ≡ v.number = number-is v u c.take-book.result c.number.result has in
    let r = answers v u c.take-book.result c.number.result has (view c.give.new.seat) c.list_all-reply.new.self c.give.ensures.view deliveries
    (λ b front. Lists v.number b c.args.found.items c.list_all-reply.result front) e.0 c.give.ensures.lawful e.2
    (subst (λ k. Lists k (board c.take-book.result) c.args.found.items c.list_all-reply.result e.0) n e.1) in
    (r.0, e.0, r.1, r.2)
