use Rattle.std.proofs.Common.{sym, ◌∙◌}
use Rattle.std.proofs.lemmas.Result.{IfOk-weaker}
use Rattle.asp_vault.specs.Seats.{view}
use Rattle.asp_worker.specs.Seats.{IsQuietIf}
use Rattle.asp_worker.proofs.SeatLaws.{passes-trans, settled-passes, takes-not, takes-err}
use Rattle.asp_worker.proofs.OwnLaws.{quiet-if-later}
use Rattle.asp_worker.proofs.find.find.Goals as goal

pub returns-in_err-taken-clause-takes : goal.returns-in_err-taken-clause-takes
returns-in_err-taken-clause-takes g c = takes-err (view c.take_rest.new.seat) c.from_residual.result c.from_residual.ensures.0 c.in_err-taken.ensures.takes

pub look_for-requires-clause-settled : goal.look_for-requires-clause-settled
look_for-requires-clause-settled g c = settled-passes (view c.args.seat.now) (view c.take_rest.new.seat) c.requires.settled c.take_rest.ensures.passes

pub look_for-requires-clause-free : goal.look_for-requires-clause-free
look_for-requires-clause-free g c = takes-not (view c.take_rest.new.seat) c.in_ok-taken.taken c.in_ok-taken.ensures.takes (sym c.is_some.ensures ∙ c.if-is_some.false)

pub returns-clause-passes : goal.returns-clause-passes
returns-clause-passes g c = passes-trans (view c.args.seat.now) (view c.take_rest.new.seat) (view c.look_for.new.seat) c.take_rest.ensures.passes c.look_for.ensures.passes

pub returns-clause-quiet : goal.returns-clause-quiet
returns-clause-quiet g c =
    let v = view c.args.seat.now in let m = view c.take_rest.new.seat in let w = view c.look_for.new.seat in
    IfOk-weaker c.look_for.result (IsQuietIf m.seen w) (IsQuietIf v.seen w) (quiet-if-later v.seen m.seen w c.take_rest.ensures.passes.stays.seen) c.look_for.ensures.quiet
