use Rattle.std.proofs.Common.{◌≡◌, List, Option, refl, sym, ap, ◌∙◌, subst}
use Rattle.std.specs.Prelude.{ℤ}
use Rattle.asp_model.specs.declared.results.Mode.TheVariants.{Opt}
use Rattle.asp_vault.specs.Seats.{view}
use Rattle.asp_book.specs.Calls.{IsCall}
use Rattle.asp_book.specs.Replies.{improved}
use Rattle.asp_search_laws.specs.Searching.{Searching}
use Rattle.asp_worker.specs.Working.{GoesOn}
use Rattle.asp_worker.proofs.GoingLaws.{lowered-same}
use Rattle.asp_worker.proofs.SeatLaws.{idles-self, none-idles}
use Rattle.asp_worker.proofs.Replies.{on-ok, on-err, always-err}
use Rattle.asp_worker.proofs.RecordLaws.{is-answer, is-sought, improved-goes, improved-idles, unimproved-by}
use Rattle.asp_worker.proofs.sharing.improve.Goals as goal

pub improve-requires-clause-goal : goal.improve-requires-clause-goal
improve-requires-clause-goal g c = let f = c.requires.found in is-sought (view c.args.seat.now) f.0 c.args.engine.now.search c.args.engine.now.fuel f.1 c.args.set f.2

pub improve-requires-clause-answer : goal.improve-requires-clause-answer
improve-requires-clause-answer g c = let f = c.requires.found in is-answer Opt (view c.args.seat.now) f.0 c.args.engine.now.search c.args.engine.now.fuel f.1 c.args.set c.requires.settled f.2

pub returns-in_err-_turn-clause-idles : goal.returns-in_err-_turn-clause-idles
returns-in_err-_turn-clause-idles g c = idles-self (view c.args.seat.now) c.requires.settled

pub returns-in_err-_turn-clause-err : goal.returns-in_err-_turn-clause-err
returns-in_err-_turn-clause-err g c = always-err c.from_residual.result (c.args.engine.now.search.program ≡ c.args.engine.now.search.program) refl

pub returns-in_err-improve-clause-idles : goal.returns-in_err-improve-clause-idles
returns-in_err-improve-clause-idles g c = none-idles (view c.args.seat.now) (view c.improve.new.seat) c.improve.ensures.stays c.in_err-improve.ensures.err

pub returns-in-None-clause-idles : goal.returns-in-None-clause-idles
returns-in-None-clause-idles g c =
    let f = c.requires.found in let k = c.in_ok-improve.ensures.ok in
    improved-idles (view c.args.seat.now) (view c.improve.new.seat) k.0 c.improve.ensures.stays f.0 c.args.engine.now.search c.args.engine.now.fuel f.1 c.args.set f.2 c.in_ok-improve.field-0 k.2

pub returns-in-None-clause-ok : goal.returns-in-None-clause-ok
returns-in-None-clause-ok g c =
    let f = c.requires.found in let k = c.in_ok-improve.ensures.ok in (
      improved-goes (view c.args.seat.now) (view c.improve.new.seat) k.0 c.improve.ensures.stays f.0 c.args.engine.now.search c.args.engine.now.fuel f.1 c.args.set f.2
          (subst (λ (r : Option (List ℤ)). IsCall (view c.args.seat.now) (view c.improve.new.seat) k.0 (improved (view c.args.seat.now).number c.args.set r)) c.in-None.is k.2),
      refl,
    )

pub returns-clause-idles : goal.returns-clause-idles
returns-clause-idles g c =
    let f = c.requires.found in let k = c.in_ok-improve.ensures.ok in
    improved-idles (view c.args.seat.now) (view c.improve.new.seat) k.0 c.improve.ensures.stays f.0 c.args.engine.now.search c.args.engine.now.fuel f.1 c.args.set f.2 c.in_ok-improve.field-0 k.2

pub returns-clause-ok : goal.returns-clause-ok
returns-clause-ok g c =
    let f = c.requires.found in let k = c.in_ok-improve.ensures.ok in let w = view c.improve.new.seat in let t = c.args.engine.now.search in let u = c.args.engine.now.fuel in
    let goes = unimproved-by (view c.args.seat.now) w k.0 c.improve.ensures.stays f.0 t u f.1 c.args.set f.2 c.in_ok-improve.field-0 c.in-Some.best c.in-Some.is k.1 k.2 in
    on-ok c.lower_bound.result (λ (e : c.lower_bound.new.search ≡ _).
    (subst (λ (x : Searching). GoesOn Opt w x u) (sym e) goes, ap (λ (x : Searching). x.cube) e ∙ (lowered-same t c.in-Some.best).3))
    c.lower_bound.ensures.ok

pub returns-clause-err : goal.returns-clause-err
returns-clause-err g c = on-err c.lower_bound.result (λ e. ap (λ (x : Searching). x.program) e) c.lower_bound.ensures.err

pub returns-in_err-improve-clause-err : goal.returns-in_err-improve-clause-err
returns-in_err-improve-clause-err g c = always-err c.from_residual-in_err-improve.result (c.args.engine.now.search.program ≡ c.args.engine.now.search.program) refl
