use Rattle.std.proofs.Common.{◌≡◌, Some, None, refl, sym, subst}
use Rattle.asp_model.specs.declared.results.Mode.{Mode}
use Rattle.asp_vault.specs.Seats.{view}
use Rattle.asp_book.specs.Calls.{seen_board}
use Rattle.asp_worker.specs.Sharing.{Remembers, TakesBest}
use Rattle.asp_worker.proofs.SeatLaws.{idles-self, idles-call, none-idles}
use Rattle.asp_worker.proofs.GoingLaws.{always-known, best-then, best-seen, taken-best, taken-over}
use Rattle.asp_worker.proofs.Replies.{on-err, on-ok, always-err}
use Rattle.asp_worker.proofs.SharingLaws.{forgotten-leaves}
use Rattle.asp_worker.proofs.sharing.take_best.Goals as goal

pub returns-in-Enum-clause-idles : goal.returns-in-Enum-clause-idles
returns-in-Enum-clause-idles g c = idles-self (view c.args.seat.now) c.requires.settled

pub returns-in-Enum-clause-ok : goal.returns-in-Enum-clause-ok
returns-in-Enum-clause-ok g c = subst (λ (m : Mode). TakesBest m (seen_board (view c.args.seat.now)) c.args.search.now c.args.search.now) (sym c.in-Enum.is) refl

pub returns-in_err-best-in-Opt-clause-idles : goal.returns-in_err-best-in-Opt-clause-idles
returns-in_err-best-in-Opt-clause-idles g c = none-idles (view c.args.seat.now) (view c.best.new.seat) c.best.ensures.stays c.in_err-best-in-Opt.ensures.err

pub returns-in-None-clause-idles : goal.returns-in-None-clause-idles
returns-in-None-clause-idles g c = let k = c.in_ok-best-in-Opt.ensures.ok in idles-call (view c.args.seat.now) (view c.best.new.seat) k.0 c.best.ensures.stays k.2

pub returns-in-None-clause-ok : goal.returns-in-None-clause-ok
returns-in-None-clause-ok g c =
    let k = c.in_ok-best-in-Opt.ensures.ok in let w = view c.best.new.seat in
    best-then c.args.shared.now.mode (seen_board w) c.args.search.now c.args.search.now c.in_ok-best-in-Opt.field-0 None c.in-Opt.is
    (best-seen (view c.args.seat.now) w k.0 c.best.ensures.stays k.2 c.in_ok-best-in-Opt.field-0 k.1) c.in-None.is refl

pub returns-in-Some-clause-idles : goal.returns-in-Some-clause-idles
returns-in-Some-clause-idles g c = let k = c.in_ok-best-in-Opt.ensures.ok in idles-call (view c.args.seat.now) (view c.best.new.seat) k.0 c.best.ensures.stays k.2

pub returns-in-Some-clause-ok : goal.returns-in-Some-clause-ok
returns-in-Some-clause-ok g c =
    let k = c.in_ok-best-in-Opt.ensures.ok in let w = view c.best.new.seat in
    on-ok c.lower_bound.result (λ (e : c.lower_bound.new.search ≡ _). best-then c.args.shared.now.mode (seen_board w) c.args.search.now
    c.lower_bound.new.search c.in_ok-best-in-Opt.field-0 (Some c.in-Some.best) c.in-Opt.is
    (best-seen (view c.args.seat.now) w k.0 c.best.ensures.stays k.2 c.in_ok-best-in-Opt.field-0 k.1) c.in-Some.is e) c.lower_bound.ensures.ok

pub returns-in-Some-clause-err : goal.returns-in-Some-clause-err
returns-in-Some-clause-err g c = on-err c.lower_bound.result (λ e. forgotten-leaves c.args.search.now c.lower_bound.new.search e) c.lower_bound.ensures.err

pub returns-in_err-best-in-Opt-clause-err : goal.returns-in_err-best-in-Opt-clause-err
returns-in_err-best-in-Opt-clause-err g c = always-err c.from_residual.result (Remembers c.args.search.now c.args.search.now) (record { program = refl; mode_is = refl; known = refl; bound = refl })

pub take_known-requires-clause-program : goal.take_known-requires-clause-program
take_known-requires-clause-program g c =
    let k = c.in_ok-known-in-Consequences.ensures.ok in let v = view c.args.seat.now in let w = view c.known.new.seat in
    (taken-over c.args.shared.now.mode v w k.0 c.known.ensures.stays k.2 c.args.search.now c.requires.going.0 c.in_ok-known-in-Consequences.field-0
    c.in-Some-2.known c.requires.going.1 k.1 c.in-Some-2.is).program

pub take_known-requires-clause-all : goal.take_known-requires-clause-all
take_known-requires-clause-all g c =
    let k = c.in_ok-known-in-Consequences.ensures.ok in let v = view c.args.seat.now in let w = view c.known.new.seat in
    (taken-over c.args.shared.now.mode v w k.0 c.known.ensures.stays k.2 c.args.search.now c.requires.going.0 c.in_ok-known-in-Consequences.field-0
    c.in-Some-2.known c.requires.going.1 k.1 c.in-Some-2.is).all

pub returns-in_err-known-in-Consequences-clause-idles : goal.returns-in_err-known-in-Consequences-clause-idles
returns-in_err-known-in-Consequences-clause-idles g c = none-idles (view c.args.seat.now) (view c.known.new.seat) c.known.ensures.stays c.in_err-known-in-Consequences.ensures.err

pub returns-in-Some-2-clause-idles : goal.returns-in-Some-2-clause-idles
returns-in-Some-2-clause-idles g c = let k = c.in_ok-known-in-Consequences.ensures.ok in idles-call (view c.args.seat.now) (view c.known.new.seat) k.0 c.known.ensures.stays k.2

pub returns-in-Some-2-clause-ok : goal.returns-in-Some-2-clause-ok
returns-in-Some-2-clause-ok g c =
    let k = c.in_ok-known-in-Consequences.ensures.ok in let v = view c.args.seat.now in let w = view c.known.new.seat in
    on-ok c.take_known.result (taken-best c.args.shared.now.mode v w k.0 c.known.ensures.stays k.2 c.args.search.now c.take_known.new.search
    c.requires.going.0 c.in_ok-known-in-Consequences.field-0 c.in-Some-2.known c.requires.going.1 k.1 c.in-Some-2.is) c.take_known.ensures.ok

pub returns-in-None-2-clause-ok : goal.returns-in-None-2-clause-ok
returns-in-None-2-clause-ok g c =
    let k = c.in_ok-known-in-Consequences.ensures.ok in let v = view c.args.seat.now in let w = view c.known.new.seat in
    always-known c.args.shared.now.mode c.in-Consequences.field-0 v w k.0 c.known.ensures.stays k.2 c.args.search.now c.args.search.now
    c.requires.going.0 c.in_ok-known-in-Consequences.field-0 c.requires.going.1 c.in-Consequences.is k.1 c.in-None-2.is
