use Rattle.std.proofs.Common.{◌≡◌, ℕ, [], refl}
use Rattle.asp_vault.specs.Seats.{view}
use Rattle.asp_path.specs.Trees.{held_count}
use Rattle.asp_book.specs.Calls.{Knows}
use Rattle.asp_book.proofs.DeskLaws.{HasTaken, adds_surely, stays_surely, answers}
use Rattle.asp_book.proofs.desk.held_leaves.Goals as goal

pub give-requires-clause-adds : goal.give-requires-clause-adds
give-requires-clause-adds g c =
    let v : Knows = view c.args.seat.now in
    let u : Knows = view c.take-book.new.seat in
    let has : HasTaken v u c.take-book.result u.number =
    record {
      misses = u.misses;
      took = c.take-book.ensures.view;
      learnt = c.take-book.ensures.learnt;
      about = c.take-book.ensures.about;
      sound =
          c.take-book.ensures.sound;
      number = refl;
    } in
    adds_surely v u c.take-book.result u.number has c.take-book.result (λ (k : ℕ) (x : Unit {0}). []) (λ _ _. tt) tt refl

pub returns-clause-stays : goal.returns-clause-stays
returns-clause-stays g c =
    let v : Knows = view c.args.seat.now in
    let u : Knows = view c.take-book.new.seat in
    let has : HasTaken v u c.take-book.result u.number =
    record {
      misses = u.misses;
      took = c.take-book.ensures.view;
      learnt = c.take-book.ensures.learnt;
      about = c.take-book.ensures.about;
      sound =
          c.take-book.ensures.sound;
      number = refl;
    } in
    stays_surely v u c.take-book.result u.number has (view c.give.new.seat) c.take-book.result c.give.ensures.view (λ (k : ℕ) (x : Unit {0}). []) tt refl

pub returns-clause-call : goal.returns-clause-call
returns-clause-call g c =
    let v : Knows = view c.args.seat.now in
    let u : Knows = view c.take-book.new.seat in
    let has : HasTaken v u c.take-book.result u.number =
    record {
      misses = u.misses;
      took = c.take-book.ensures.view;
      learnt = c.take-book.ensures.learnt;
      about = c.take-book.ensures.about;
      sound =
          c.take-book.ensures.sound;
      number = refl;
    } in
    answers v u c.take-book.result u.number has (view c.give.new.seat) c.take-book.result c.give.ensures.view (λ _ _. [])
    (λ b x. x ≡ held_count b.nodes) c.held_leaves-reply.result c.give.ensures.lawful refl c.held_leaves-reply.ensures
