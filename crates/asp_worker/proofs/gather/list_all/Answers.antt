use Rattle.std.proofs.Common.{◌≡◌, true, ap, ◌∙◌}
use Rattle.asp_vault.specs.Seats.{view}
use Rattle.asp_core.specs.Boards.{is_enough}
use Rattle.asp_worker.proofs.OwnLaws.{was-now}
use Rattle.asp_worker.proofs.GatherLaws.{gathered-listings, listed-idles, then-is}
use Rattle.asp_worker.proofs.gather.list_all.Goals as goal

pub list_all-requires-clause-found : goal.list_all-requires-clause-found
list_all-requires-clause-found g c =
    let f = c.requires.found in
    gathered-listings c.args.shared.now.mode (view c.args.seat.now) f.0 f.1 f.2 f.3 c.args.found.items f.4 f.5 c.requires.settled

pub returns-in_err-listed-clause-idles : goal.returns-in_err-listed-clause-idles
returns-in_err-listed-clause-idles g c = let k = c.list_all.ensures.call in listed-idles (view c.args.seat.now) (view c.list_all.new.seat) k.0 c.list_all.ensures.stays k.1 k.3

pub returns-then-listed-clause-idles : goal.returns-then-listed-clause-idles
returns-then-listed-clause-idles g c = let k = c.list_all.ensures.call in listed-idles (view c.args.seat.now) (view c.list_all.new.seat) k.0 c.list_all.ensures.stays k.1 k.3

pub returns-else-listed-clause-idles : goal.returns-else-listed-clause-idles
returns-else-listed-clause-idles g c = let k = c.list_all.ensures.call in listed-idles (view c.args.seat.now) (view c.list_all.new.seat) k.0 c.list_all.ensures.stays k.1 k.3

pub returns-else-listed-clause-stop : goal.returns-else-listed-clause-stop
returns-else-listed-clause-stop g c =
    let k = c.in_ok-listed.ensures.call in
    was-now (λ b. is_enough b ≡ true) (view c.list_all.new.seat)
    (ap is_enough (then-is (view c.args.seat.now) (view c.list_all.new.seat) k.0 c.list_all.ensures.stays k.1 k.3) ∙ (k.2.enough c.if-listed.false).1)
