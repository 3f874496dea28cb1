use Rattle.std.proofs.Common.{ℕ, [], ◌∷◌, refl}
use Rattle.asp_vault.specs.Seats.{view}
use Rattle.asp_core.specs.declared.event.Event.TheVariants as event
use Rattle.asp_book.specs.Calls.{Knows}
use Rattle.asp_book.proofs.DeskLaws.{HasTaken, held-since, adds_surely, stays_surely, calls}
use Rattle.asp_book.proofs.desk.release.Goals as goal

pub release-requires : goal.release-requires
release-requires g c =
    let v : Knows = view c.args.seat.now in
    let u : Knows = view c.take-book.new.seat in
    let has : HasTaken v u c.take-book.result c.number.result =
    record {
      misses = u.misses;
      took = c.take-book.ensures.view;
      learnt = c.take-book.ensures.learnt;
      about = c.take-book.ensures.about;
      sound =
          c.take-book.ensures.sound;
      number = c.number.ensures;
    } in
    held-since v u c.take-book.result c.number.result has c.args.leaf c.requires.held

pub give-requires-clause-adds : goal.give-requires-clause-adds
give-requires-clause-adds g c =
    let v : Knows = view c.args.seat.now in
    let u : Knows = view c.take-book.new.seat in
    let has : HasTaken v u c.take-book.result c.number.result =
    record {
      misses = u.misses;
      took = c.take-book.ensures.view;
      learnt = c.take-book.ensures.learnt;
      about = c.take-book.ensures.about;
      sound =
          c.take-book.ensures.sound;
      number = c.number.ensures;
    } in
    adds_surely v u c.take-book.result c.number.result has c.release.new.self (λ (k : ℕ) (x : Unit {0}). event.Release k c.args.leaf ∷ []) (λ k _. (refl, tt)) tt c.release.ensures

pub returns-clause-stays : goal.returns-clause-stays
returns-clause-stays g c =
    let v : Knows = view c.args.seat.now in
    let u : Knows = view c.take-book.new.seat in
    let has : HasTaken v u c.take-book.result c.number.result =
    record {
      misses = u.misses;
      took = c.take-book.ensures.view;
      learnt = c.take-book.ensures.learnt;
      about = c.take-book.ensures.about;
      sound =
          c.take-book.ensures.sound;
      number = c.number.ensures;
    } in
    stays_surely v u c.take-book.result c.number.result has (view c.give.new.seat) c.release.new.self c.give.ensures.view
    (λ (k : ℕ) (x : Unit {0}). event.Release k c.args.leaf ∷ []) tt c.release.ensures

pub returns-clause-call : goal.returns-clause-call
returns-clause-call g c =
    let v : Knows = view c.args.seat.now in
    let u : Knows = view c.take-book.new.seat in
    let has : HasTaken v u c.take-book.result c.number.result =
    record {
      misses = u.misses;
      took = c.take-book.ensures.view;
      learnt = c.take-book.ensures.learnt;
      about = c.take-book.ensures.about;
      sound =
          c.take-book.ensures.sound;
      number = c.number.ensures;
    } in
    calls v u c.take-book.result c.number.result has (view c.give.new.seat) c.release.new.self c.give.ensures.view
    (λ (k : ℕ) (x : Unit {0}). event.Release k c.args.leaf ∷ []) tt c.give.ensures.lawful c.release.ensures
