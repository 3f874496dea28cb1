use Rattle.std.proofs.Common.{◌≡◌, ℕ, List, [], refl, sym, subst}
use Rattle.std.specs.Result.{IfOk}
use Rattle.asp_vars.specs.Literals.{Literal}
use Rattle.asp_vault.specs.Seats.{view}
use Rattle.asp_book.specs.Calls.{Knows}
use Rattle.asp_book.proofs.DeskLaws.{HasTaken, cube-since, within-since, adds_surely, stays_surely, calls}
use Rattle.asp_book.proofs.desk.cube.Goals as goal

pub give-requires-clause-adds : goal.give-requires-clause-adds
give-requires-clause-adds g c =
    let v : Knows = view c.args.seat.now in
    let u : Knows = view c.take-book.new.seat in
    let has : HasTaken v u c.take-book.result u.number =
    record {
      misses = u.misses;
      took = c.take-book.ensures.view;
      learnt = c.take-book.ensures.learnt;
      about = c.take-book.ensures.about;
      sound =
          c.take-book.ensures.sound;
      number = refl;
    } in
    adds_surely v u c.take-book.result u.number has c.take-book.result (λ (k : ℕ) (x : Unit {0}). []) (λ _ _. tt) tt refl

pub returns-clause-stays : goal.returns-clause-stays
returns-clause-stays g c =
    let v : Knows = view c.args.seat.now in
    let u : Knows = view c.take-book.new.seat in
    let has : HasTaken v u c.take-book.result u.number =
    record {
      misses = u.misses;
      took = c.take-book.ensures.view;
      learnt = c.take-book.ensures.learnt;
      about = c.take-book.ensures.about;
      sound =
          c.take-book.ensures.sound;
      number = refl;
    } in
    stays_surely v u c.take-book.result u.number has (view c.give.new.seat) c.take-book.result c.give.ensures.view (λ (k : ℕ) (x : Unit {0}). []) tt refl

pub cube-reply-requires : goal.cube-reply-requires
cube-reply-requires g c =
    let v : Knows = view c.args.seat.now in
    let u : Knows = view c.take-book.new.seat in
    let has : HasTaken v u c.take-book.result u.number =
    record {
      misses = u.misses;
      took = c.take-book.ensures.view;
      learnt = c.take-book.ensures.learnt;
      about = c.take-book.ensures.about;
      sound =
          c.take-book.ensures.sound;
      number = refl;
    } in
    within-since v u c.take-book.result u.number has c.args.leaf c.requires.held

pub returns-clause-ok : goal.returns-clause-ok
returns-clause-ok g c =
    let v : Knows = view c.args.seat.now in
    let u : Knows = view c.take-book.new.seat in
    let has : HasTaken v u c.take-book.result u.number =
    record {
      misses = u.misses;
      took = c.take-book.ensures.view;
      learnt = c.take-book.ensures.learnt;
      about = c.take-book.ensures.about;
      sound =
          c.take-book.ensures.sound;
      number = refl;
    } in
    subst (λ (l : List Literal). IfOk c.cube-reply.result (λ x. x.items ≡ l)) (sym (cube-since v u c.take-book.result u.number has c.args.leaf c.requires.held)) c.cube-reply.ensures

pub returns-clause-call : goal.returns-clause-call
returns-clause-call g c =
    let v : Knows = view c.args.seat.now in
    let u : Knows = view c.take-book.new.seat in
    let has : HasTaken v u c.take-book.result u.number =
    record {
      misses = u.misses;
      took = c.take-book.ensures.view;
      learnt = c.take-book.ensures.learnt;
      about = c.take-book.ensures.about;
      sound =
          c.take-book.ensures.sound;
      number = refl;
    } in
    calls v u c.take-book.result u.number has (view c.give.new.seat) c.take-book.result c.give.ensures.view (λ (k : ℕ) (x : Unit {0}). []) tt c.give.ensures.lawful refl
