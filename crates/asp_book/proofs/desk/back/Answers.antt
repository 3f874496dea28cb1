use Rattle.std.proofs.Common.{ℕ}
use Rattle.asp_vault.specs.Seats.{view}
use Rattle.asp_book.specs.Calls.{Knows}
use Rattle.asp_book.specs.Replies.{given_back}
use Rattle.asp_book.proofs.DeskLaws.{HasTaken, fuel-since, adds_surely, stays_surely, calls}
use Rattle.asp_book.proofs.ReplyLaws.{given_back-by}
use Rattle.asp_book.proofs.desk.back.Goals as goal

pub back-requires : goal.back-requires
back-requires g c =
    let v : Knows = view c.args.seat.now in
    let u : Knows = view c.take-book.new.seat in
    let has : HasTaken v u c.take-book.result c.number.result =
    record {
      misses = u.misses;
      took = c.take-book.ensures.view;
      learnt = c.take-book.ensures.learnt;
      about = c.take-book.ensures.about;
      sound =
          c.take-book.ensures.sound;
      number = c.number.ensures;
    } in
    fuel-since v u c.take-book.result c.number.result has c.args.fuel c.requires.fuel

pub give-requires-clause-adds : goal.give-requires-clause-adds
give-requires-clause-adds g c =
    let v : Knows = view c.args.seat.now in
    let u : Knows = view c.take-book.new.seat in
    let has : HasTaken v u c.take-book.result c.number.result =
    record {
      misses = u.misses;
      took = c.take-book.ensures.view;
      learnt = c.take-book.ensures.learnt;
      about = c.take-book.ensures.about;
      sound =
          c.take-book.ensures.sound;
      number = c.number.ensures;
    } in
    adds_surely v u c.take-book.result c.number.result has c.back.new.self (λ (k : ℕ) (x : Unit {0}). given_back k c.args.fuel) (λ k _. given_back-by c.args.fuel k) tt c.back.ensures

pub returns-clause-stays : goal.returns-clause-stays
returns-clause-stays g c =
    let v : Knows = view c.args.seat.now in
    let u : Knows = view c.take-book.new.seat in
    let has : HasTaken v u c.take-book.result c.number.result =
    record {
      misses = u.misses;
      took = c.take-book.ensures.view;
      learnt = c.take-book.ensures.learnt;
      about = c.take-book.ensures.about;
      sound =
          c.take-book.ensures.sound;
      number = c.number.ensures;
    } in
    stays_surely v u c.take-book.result c.number.result has (view c.give.new.seat) c.back.new.self c.give.ensures.view (λ (k : ℕ) (x : Unit {0}). given_back k c.args.fuel) tt c.back.ensures

pub returns-clause-call : goal.returns-clause-call
returns-clause-call g c =
    let v : Knows = view c.args.seat.now in
    let u : Knows = view c.take-book.new.seat in
    let has : HasTaken v u c.take-book.result c.number.result =
    record {
      misses = u.misses;
      took = c.take-book.ensures.view;
      learnt = c.take-book.ensures.learnt;
      about = c.take-book.ensures.about;
      sound =
          c.take-book.ensures.sound;
      number = c.number.ensures;
    } in
    calls v u c.take-book.result c.number.result has (view c.give.new.seat) c.back.new.self c.give.ensures.view
    (λ (k : ℕ) (x : Unit {0}). given_back k c.args.fuel) tt c.give.ensures.lawful c.back.ensures
