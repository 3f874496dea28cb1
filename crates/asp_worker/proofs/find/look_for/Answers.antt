use Rattle.std.proofs.Common.{refl, sym, ◌∙◌, subst}
use Rattle.std.specs.Prelude.{Ok}
use Rattle.asp_vault.specs.Seats.{view}
use Rattle.asp_vault.proofs.Prefixes.{prefix_trans}
use Rattle.asp_book.specs.Calls.{Knows}
use Rattle.asp_worker.specs.declared.find.Sight.{Sight}
use Rattle.asp_worker.specs.Seats.{Sees}
use Rattle.asp_worker.proofs.SeatLaws.{passes-self, passes-trans, settled-passes, takes-not, takes-err}
use Rattle.asp_worker.proofs.OwnLaws.{quiet-later}
use Rattle.asp_worker.proofs.find.look_for.Goals as goal

pub rounds-init : goal.rounds-init
rounds-init g c = (refl, passes-self (view c.args.seat.now) c.requires.settled, c.requires.free, c.requires.pool)

pub take_offered-requires-clause-settled : goal.take_offered-requires-clause-settled
take_offered-requires-clause-settled g c = settled-passes (view c.args.seat.now) (view c.rounds.seat) c.requires.settled c.rounds.invariant.1

pub returns-in_err-taken-clause-passes : goal.returns-in_err-taken-clause-passes
returns-in_err-taken-clause-passes g c = passes-trans (view c.args.seat.now) (view c.rounds.seat) (view c.take_offered.new.seat) c.rounds.invariant.1 c.take_offered.ensures.passes

pub returns-in_err-taken-clause-takes : goal.returns-in_err-taken-clause-takes
returns-in_err-taken-clause-takes g c = takes-err (view c.take_offered.new.seat) c.from_residual.result c.from_residual.ensures.0 c.in_err-taken.ensures.takes

pub returns-then-is_some-clause-passes : goal.returns-then-is_some-clause-passes
returns-then-is_some-clause-passes g c = passes-trans (view c.args.seat.now) (view c.rounds.seat) (view c.take_offered.new.seat) c.rounds.invariant.1 c.take_offered.ensures.passes

pub survey-requires-clause-settled : goal.survey-requires-clause-settled
survey-requires-clause-settled g c =
    let v : Knows = view c.args.seat.now in let r : Knows = view c.rounds.seat in let o : Knows = view c.take_offered.new.seat in
    settled-passes v o c.requires.settled (passes-trans v r o c.rounds.invariant.1 c.take_offered.ensures.passes)

pub survey-requires-clause-free : goal.survey-requires-clause-free
survey-requires-clause-free g c = takes-not (view c.take_offered.new.seat) c.in_ok-taken.taken c.in_ok-taken.ensures.takes (sym c.is_some.ensures ∙ c.if-is_some.false)

pub returns-in_err-leaf-clause-passes : goal.returns-in_err-leaf-clause-passes
returns-in_err-leaf-clause-passes g c =
    let v : Knows = view c.args.seat.now in let r : Knows = view c.rounds.seat in let o : Knows = view c.take_offered.new.seat in let s : Knows = view c.survey.new.seat in
    passes-trans v o s (passes-trans v r o c.rounds.invariant.1 c.take_offered.ensures.passes) c.survey.ensures.passes

pub returns-in_err-leaf-clause-takes : goal.returns-in_err-leaf-clause-takes
returns-in_err-leaf-clause-takes g c = takes-err (view c.survey.new.seat) c.from_residual-in_err-leaf.result c.from_residual-in_err-leaf.ensures.0 c.in_err-leaf.ensures.sees

pub returns-in-Taken-clause-passes : goal.returns-in-Taken-clause-passes
returns-in-Taken-clause-passes g c =
    let v : Knows = view c.args.seat.now in let r : Knows = view c.rounds.seat in let o : Knows = view c.take_offered.new.seat in let s : Knows = view c.survey.new.seat in
    passes-trans v o s (passes-trans v r o c.rounds.invariant.1 c.take_offered.ensures.passes) c.survey.ensures.passes

pub returns-in-Taken-clause-takes : goal.returns-in-Taken-clause-takes
returns-in-Taken-clause-takes g c = subst (λ (x : Sight). Sees (view c.take_offered.new.seat).seen (view c.survey.new.seat) (Ok x)) c.in-Taken.is c.in_ok-leaf.ensures.sees

pub returns-in-Nothing-clause-passes : goal.returns-in-Nothing-clause-passes
returns-in-Nothing-clause-passes g c =
    let v : Knows = view c.args.seat.now in let r : Knows = view c.rounds.seat in let o : Knows = view c.take_offered.new.seat in let s : Knows = view c.survey.new.seat in
    passes-trans v o s (passes-trans v r o c.rounds.invariant.1 c.take_offered.ensures.passes) c.survey.ensures.passes

pub returns-in-Nothing-clause-takes : goal.returns-in-Nothing-clause-takes
returns-in-Nothing-clause-takes g c = (subst (λ (x : Sight). Sees (view c.take_offered.new.seat).seen (view c.survey.new.seat) (Ok x)) c.in-Nothing.is c.in_ok-leaf.ensures.sees).0

pub returns-in-Nothing-clause-quiet : goal.returns-in-Nothing-clause-quiet
returns-in-Nothing-clause-quiet g c =
    let v : Knows = view c.args.seat.now in let r : Knows = view c.rounds.seat in let o : Knows = view c.take_offered.new.seat in let s : Knows = view c.survey.new.seat in
    quiet-later v.seen o.seen s (prefix_trans v.seen r.seen o.seen c.rounds.invariant.1.stays.seen c.take_offered.ensures.passes.stays.seen)
    (subst (λ (x : Sight). Sees o.seen s (Ok x)) c.in-Nothing.is c.in_ok-leaf.ensures.sees).1

pub rounds-preserved : goal.rounds-preserved
rounds-preserved g c =
    let v : Knows = view c.args.seat.now in let r : Knows = view c.rounds.seat in let o : Knows = view c.take_offered.new.seat in let s : Knows = view c.survey.new.seat in (
      c.survey.ensures.of ∙ c.take_offered.ensures.of ∙ c.rounds.invariant.0,
      passes-trans v o s (passes-trans v r o c.rounds.invariant.1 c.take_offered.ensures.passes) c.survey.ensures.passes,
      subst (λ (x : Sight). Sees o.seen s (Ok x)) c.in-Others.is c.in_ok-leaf.ensures.sees,
      c.take_offered.ensures.pool,
    )
