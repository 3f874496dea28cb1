use Rattle.std.proofs.Common.{List, [], ◌∷◌, refl, subst}
use Rattle.std.specs.Prelude.{IsTrue}
use Rattle.asp_vars.specs.Literals.{Literal}
use Rattle.asp_vars.specs.Conflicts.{has_all}
use Rattle.asp_vault.specs.Seats.{view}
use Rattle.asp_core.specs.declared.event.Event.TheVariants as event
use Rattle.asp_book.specs.Calls.{Knows}
use Rattle.asp_book.proofs.DeskLaws.{HasTaken, held-since, cube-since, settled-since, adds, stays, refuses, done}
use Rattle.asp_book.proofs.desk.close.Goals as goal

pub close-reply-requires-clause-held : goal.close-reply-requires-clause-held
close-reply-requires-clause-held g c =
    let v : Knows = view c.args.seat.now in
    let u : Knows = view c.take-book.new.seat in
    let has : HasTaken v u c.take-book.result c.number.result =
    record {
      misses = u.misses;
      took = c.take-book.ensures.view;
      learnt = c.take-book.ensures.learnt;
      about = c.take-book.ensures.about;
      sound =
          c.take-book.ensures.sound;
      number = c.number.ensures;
    } in
    held-since v u c.take-book.result c.number.result has c.args.leaf c.requires.held

pub close-reply-requires-clause-within : goal.close-reply-requires-clause-within
close-reply-requires-clause-within g c =
    let v : Knows = view c.args.seat.now in
    let u : Knows = view c.take-book.new.seat in
    let has : HasTaken v u c.take-book.result c.number.result =
    record {
      misses = u.misses;
      took = c.take-book.ensures.view;
      learnt = c.take-book.ensures.learnt;
      about = c.take-book.ensures.about;
      sound =
          c.take-book.ensures.sound;
      number = c.number.ensures;
    } in
    subst (λ (l : List Literal). IsTrue (has_all l c.args.nogood.now)) (cube-since v u c.take-book.result c.number.result has c.args.leaf c.requires.held) c.requires.within

pub close-reply-requires-clause-settled : goal.close-reply-requires-clause-settled
close-reply-requires-clause-settled g c =
    let v : Knows = view c.args.seat.now in
    let u : Knows = view c.take-book.new.seat in
    let has : HasTaken v u c.take-book.result c.number.result =
    record {
      misses = u.misses;
      took = c.take-book.ensures.view;
      learnt = c.take-book.ensures.learnt;
      about = c.take-book.ensures.about;
      sound =
          c.take-book.ensures.sound;
      number = c.number.ensures;
    } in
    settled-since v u c.take-book.result c.number.result has c.args.nogood.now c.requires.settled

pub give-requires-clause-adds : goal.give-requires-clause-adds
give-requires-clause-adds g c =
    let v : Knows = view c.args.seat.now in
    let u : Knows = view c.take-book.new.seat in
    let has : HasTaken v u c.take-book.result c.number.result =
    record {
      misses = u.misses;
      took = c.take-book.ensures.view;
      learnt = c.take-book.ensures.learnt;
      about = c.take-book.ensures.about;
      sound =
          c.take-book.ensures.sound;
      number = c.number.ensures;
    } in
    adds v u c.take-book.result c.number.result has c.close-reply.new.self (λ k _. event.Close k c.args.leaf c.args.nogood.now ∷ [])
    (λ k _. (refl, tt)) c.close-reply.result c.close-reply.ensures.ok c.close-reply.ensures.err

pub returns-clause-stays : goal.returns-clause-stays
returns-clause-stays g c =
    let v : Knows = view c.args.seat.now in
    let u : Knows = view c.take-book.new.seat in
    let has : HasTaken v u c.take-book.result c.number.result =
    record {
      misses = u.misses;
      took = c.take-book.ensures.view;
      learnt = c.take-book.ensures.learnt;
      about = c.take-book.ensures.about;
      sound =
          c.take-book.ensures.sound;
      number = c.number.ensures;
    } in
    stays v u c.take-book.result c.number.result has (view c.give.new.seat) c.close-reply.new.self c.give.ensures.view
    (λ k _. event.Close k c.args.leaf c.args.nogood.now ∷ []) c.close-reply.result c.close-reply.ensures.ok c.close-reply.ensures.err

pub returns-clause-ok : goal.returns-clause-ok
returns-clause-ok g c =
    let v : Knows = view c.args.seat.now in
    let u : Knows = view c.take-book.new.seat in
    let has : HasTaken v u c.take-book.result c.number.result =
    record {
      misses = u.misses;
      took = c.take-book.ensures.view;
      learnt = c.take-book.ensures.learnt;
      about = c.take-book.ensures.about;
      sound =
          c.take-book.ensures.sound;
      number = c.number.ensures;
    } in
    done v u c.take-book.result c.number.result has (view c.give.new.seat) c.close-reply.new.self c.give.ensures.view
    (λ k _. event.Close k c.args.leaf c.args.nogood.now ∷ []) c.close-reply.result c.give.ensures.lawful c.close-reply.ensures.ok
    c.close-reply.ensures.err

pub returns-clause-err : goal.returns-clause-err
returns-clause-err g c =
    let v : Knows = view c.args.seat.now in
    let u : Knows = view c.take-book.new.seat in
    let has : HasTaken v u c.take-book.result c.number.result =
    record {
      misses = u.misses;
      took = c.take-book.ensures.view;
      learnt = c.take-book.ensures.learnt;
      about = c.take-book.ensures.about;
      sound =
          c.take-book.ensures.sound;
      number = c.number.ensures;
    } in
    refuses v u c.take-book.result c.number.result has (view c.give.new.seat) c.close-reply.new.self c.give.ensures.view
    (λ k _. event.Close k c.args.leaf c.args.nogood.now ∷ []) c.close-reply.result c.give.ensures.lawful c.close-reply.ensures.ok
    c.close-reply.ensures.err
