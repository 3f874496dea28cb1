use Rattle.std.proofs.Common.{sym, subst, arith}
use Rattle.std.proofs.lemmas.Bool.{ltb-false}
use Rattle.asp_vars.specs.Paid.{Units}
use Rattle.asp_vault.specs.Seats.{view}
use Rattle.asp_worker.specs.Working.{GoesOn}
use Rattle.asp_worker.proofs.SeatLaws.{none-idles, idles-leases, idles-passes}
use Rattle.asp_worker.proofs.GoingLaws.{goes-on}
use Rattle.asp_worker.proofs.RecordLaws.{leased-program, leased-fits, leased-leases, leased-goes, leased-empty}
use Rattle.asp_worker.proofs.sharing.lease.Goals as goal

pub merge-requires-clause-program : goal.merge-requires-clause-program
merge-requires-clause-program g c =
    let k = c.in_ok-units.ensures.ok in
    leased-program (view c.args.seat.now) (view c.lease.new.seat) k.0 c.lease.ensures.stays c.args.shared.now.mode c.args.engine.now.search
    c.args.engine.now.fuel c.in_ok-units.units c.requires.settled c.requires.going k.1

pub merge-requires-clause-fits : goal.merge-requires-clause-fits
merge-requires-clause-fits g c =
    let k = c.in_ok-units.ensures.ok in
    leased-fits (view c.args.seat.now) (view c.lease.new.seat) k.0 c.lease.ensures.stays c.args.shared.now.mode c.args.engine.now.search
    c.args.engine.now.fuel c.in_ok-units.units c.requires.settled c.requires.going k.1 k.2

pub returns-in_err-units-clause-leases : goal.returns-in_err-units-clause-leases
returns-in_err-units-clause-leases g c =
    idles-leases (view c.args.seat.now) (view c.lease.new.seat) (none-idles (view c.args.seat.now) (view c.lease.new.seat) c.lease.ensures.stays c.in_err-units.ensures.err)

pub returns-in_err-units-clause-going : goal.returns-in_err-units-clause-going
returns-in_err-units-clause-going g c =
    goes-on c.args.shared.now.mode (view c.args.seat.now) (view c.lease.new.seat) c.args.engine.now.search c.args.engine.now.fuel c.requires.going
    (idles-passes (view c.args.seat.now) (view c.lease.new.seat) (none-idles (view c.args.seat.now) (view c.lease.new.seat) c.lease.ensures.stays c.in_err-units.ensures.err))

pub returns-clause-leases : goal.returns-clause-leases
returns-clause-leases g c =
    let k = c.in_ok-units.ensures.ok in
    leased-leases (view c.args.seat.now) (view c.lease.new.seat) k.0 c.lease.ensures.stays c.args.shared.now.mode c.args.engine.now.search
    c.args.engine.now.fuel c.in_ok-units.units c.requires.settled c.requires.going k.1 k.2

pub returns-clause-going : goal.returns-clause-going
returns-clause-going g c =
    let k = c.in_ok-units.ensures.ok in
    subst (λ (u : Units). GoesOn c.args.shared.now.mode (view c.lease.new.seat) c.args.engine.now.search u) (sym c.merge.ensures)
    (leased-goes (view c.args.seat.now) (view c.lease.new.seat) k.0 c.lease.ensures.stays c.args.shared.now.mode c.args.engine.now.search
    c.args.engine.now.fuel c.in_ok-units.units c.requires.settled c.requires.going k.1 k.2 c.requires.none)

pub returns-clause-spent : goal.returns-clause-spent
returns-clause-spent g c = λ e.
    let k = c.in_ok-units.ensures.ok in
    leased-empty (view c.args.seat.now) (view c.lease.new.seat) k.0 c.lease.ensures.stays c.args.shared.now.mode c.args.engine.now.search
    c.args.engine.now.fuel c.in_ok-units.units c.requires.settled c.requires.going k.1 k.2
    (omega (arith, c.left-some.ensures.left, ltb-false 0 c.left-some.result e))
