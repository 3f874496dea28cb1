use Rattle.std.proofs.Common.{◌≡◌, ℕ, [], refl}
use Rattle.std.specs.Prelude.{option_map}
use Rattle.asp_model.specs.Costs.{cost}
use Rattle.asp_vault.specs.Seats.{view}
use Rattle.asp_book.specs.Calls.{Knows}
use Rattle.asp_book.proofs.DeskLaws.{HasTaken, adds_surely, stays_surely, replies, refuses, same-ok, same-err}
use Rattle.asp_book.proofs.desk.best.Goals as goal

pub give-requires-clause-adds : goal.give-requires-clause-adds
give-requires-clause-adds g c =
    let v : Knows = view c.args.seat.now in
    let u : Knows = view c.take-book.new.seat in
    let has : HasTaken v u c.take-book.result u.number =
    record {
      misses = u.misses;
      took = c.take-book.ensures.view;
      learnt = c.take-book.ensures.learnt;
      about = c.take-book.ensures.about;
      sound =
          c.take-book.ensures.sound;
      number = refl;
    } in
    adds_surely v u c.take-book.result u.number has c.take-book.result (λ (k : ℕ) (x : Unit {0}). []) (λ _ _. tt) tt refl

pub returns-clause-stays : goal.returns-clause-stays
returns-clause-stays g c =
    let v : Knows = view c.args.seat.now in
    let u : Knows = view c.take-book.new.seat in
    let has : HasTaken v u c.take-book.result u.number =
    record {
      misses = u.misses;
      took = c.take-book.ensures.view;
      learnt = c.take-book.ensures.learnt;
      about = c.take-book.ensures.about;
      sound =
          c.take-book.ensures.sound;
      number = refl;
    } in
    stays_surely v u c.take-book.result u.number has (view c.give.new.seat) c.take-book.result c.give.ensures.view (λ (k : ℕ) (x : Unit {0}). []) tt refl

pub returns-clause-ok : goal.returns-clause-ok
returns-clause-ok g c =
    let v : Knows = view c.args.seat.now in
    let u : Knows = view c.take-book.new.seat in
    let has : HasTaken v u c.take-book.result u.number =
    record {
      misses = u.misses;
      took = c.take-book.ensures.view;
      learnt = c.take-book.ensures.learnt;
      about = c.take-book.ensures.about;
      sound =
          c.take-book.ensures.sound;
      number = refl;
    } in
    replies v u c.take-book.result u.number has (view c.give.new.seat) c.take-book.result c.give.ensures.view (λ _ _. [])
    (λ b x. x ≡ option_map (cost b.task.program) b.best) c.best-reply.result c.give.ensures.lawful
    (same-ok c.best-reply.result c.take-book.result) (same-err c.best-reply.result c.take-book.result) c.best-reply.ensures

pub returns-clause-err : goal.returns-clause-err
returns-clause-err g c =
    let v : Knows = view c.args.seat.now in
    let u : Knows = view c.take-book.new.seat in
    let has : HasTaken v u c.take-book.result u.number =
    record {
      misses = u.misses;
      took = c.take-book.ensures.view;
      learnt = c.take-book.ensures.learnt;
      about = c.take-book.ensures.about;
      sound =
          c.take-book.ensures.sound;
      number = refl;
    } in
    refuses v u c.take-book.result u.number has (view c.give.new.seat) c.take-book.result c.give.ensures.view (λ _ _. []) c.best-reply.result
    c.give.ensures.lawful (same-ok c.best-reply.result c.take-book.result) (same-err c.best-reply.result c.take-book.result)
