use Rattle.asp_vault.specs.Seats.{view}
use Rattle.asp_book.specs.Calls.{Knows}
use Rattle.asp_worker.proofs.SeatLaws.{passes-self, passes-trans, idles-trans, idles-passes, free-idles, none-idles, none-free, reply-taken, takes-some, takes-none, sees-err}
use Rattle.asp_worker.proofs.find.survey.Goals as goal

pub returns-then-not-is_due-clause-passes : goal.returns-then-not-is_due-clause-passes
returns-then-not-is_due-clause-passes g c = passes-self (view c.args.seat.now) c.requires.settled

pub returns-then-held-ne0-clause-passes : goal.returns-then-held-ne0-clause-passes
returns-then-held-ne0-clause-passes g c = idles-passes (view c.args.seat.now) (view c.count_paths-open.new.seat) c.count_paths-open.ensures.idles

pub returns-then-held-ne0-clause-sees : goal.returns-then-held-ne0-clause-sees
returns-then-held-ne0-clause-sees g c = free-idles (view c.args.seat.now) (view c.count_paths-open.new.seat) c.requires.free c.count_paths-open.ensures.idles

pub returns-then-open-eq0-clause-passes : goal.returns-then-open-eq0-clause-passes
returns-then-open-eq0-clause-passes g c = idles-passes (view c.args.seat.now) (view c.count_paths-open.new.seat) c.count_paths-open.ensures.idles

pub returns-then-open-eq0-clause-sees : goal.returns-then-open-eq0-clause-sees
returns-then-open-eq0-clause-sees g c =
    (free-idles (view c.args.seat.now) (view c.count_paths-open.new.seat) c.requires.free c.count_paths-open.ensures.idles, c.count_paths-open.ensures.quiet c.if-open-eq0.true)

pub take-requires-clause-free : goal.take-requires-clause-free
take-requires-clause-free g c = free-idles (view c.args.seat.now) (view c.count_paths-open.new.seat) c.requires.free c.count_paths-open.ensures.idles

pub returns-in_err-take-clause-passes : goal.returns-in_err-take-clause-passes
returns-in_err-take-clause-passes g c =
    let v : Knows = view c.args.seat.now in let w : Knows = view c.count_paths-open.new.seat in let x : Knows = view c.take.new.seat in
    idles-passes v x (idles-trans v w x c.count_paths-open.ensures.idles (none-idles w x c.take.ensures.stays c.in_err-take.ensures.err))

pub returns-in_err-take-clause-sees : goal.returns-in_err-take-clause-sees
returns-in_err-take-clause-sees g c =
    let v : Knows = view c.args.seat.now in let w : Knows = view c.count_paths-open.new.seat in let x : Knows = view c.take.new.seat in
    sees-err v.seen x c.from_residual.result c.from_residual.ensures.0 (none-free w x c.take.ensures.stays (free-idles v w c.requires.free c.count_paths-open.ensures.idles) c.in_err-take.ensures.err)

pub returns-in-None-clause-passes : goal.returns-in-None-clause-passes
returns-in-None-clause-passes g c =
    let v : Knows = view c.args.seat.now in let w : Knows = view c.count_paths-open.new.seat in let x : Knows = view c.take.new.seat in
    let k = c.in_ok-take.ensures.ok in
    passes-trans v w x (idles-passes v w c.count_paths-open.ensures.idles)
    (reply-taken w x c.take.ensures.stays (free-idles v w c.requires.free c.count_paths-open.ensures.idles) k.0 c.in_ok-take.field-0 k.2).0

pub returns-in-None-clause-sees : goal.returns-in-None-clause-sees
returns-in-None-clause-sees g c =
    let v : Knows = view c.args.seat.now in let w : Knows = view c.count_paths-open.new.seat in let x : Knows = view c.take.new.seat in
    let k = c.in_ok-take.ensures.ok in
    takes-none x c.in_ok-take.field-0 (reply-taken w x c.take.ensures.stays (free-idles v w c.requires.free c.count_paths-open.ensures.idles) k.0 c.in_ok-take.field-0 k.2).1 c.in-None.is

pub returns-in-Some-clause-passes : goal.returns-in-Some-clause-passes
returns-in-Some-clause-passes g c =
    let v : Knows = view c.args.seat.now in let w : Knows = view c.count_paths-open.new.seat in let x : Knows = view c.take.new.seat in
    let k = c.in_ok-take.ensures.ok in
    passes-trans v w x (idles-passes v w c.count_paths-open.ensures.idles)
    (reply-taken w x c.take.ensures.stays (free-idles v w c.requires.free c.count_paths-open.ensures.idles) k.0 c.in_ok-take.field-0 k.2).0

pub returns-in-Some-clause-sees : goal.returns-in-Some-clause-sees
returns-in-Some-clause-sees g c =
    let v : Knows = view c.args.seat.now in let w : Knows = view c.count_paths-open.new.seat in let x : Knows = view c.take.new.seat in
    let k = c.in_ok-take.ensures.ok in
    takes-some x c.in_ok-take.field-0 c.in-Some.leaf
    (reply-taken w x c.take.ensures.stays (free-idles v w c.requires.free c.count_paths-open.ensures.idles) k.0 c.in_ok-take.field-0 k.2).1
    c.in-Some.is
