use Rattle.std.proofs.Common.{List, sym, subst}
use Rattle.asp_book.specs.declared.listing.Listing.{Listing}
use Rattle.asp_worker.specs.Working.{Gathers}
use Rattle.asp_worker.proofs.GatherLaws.{closed-done, gathers-answer}
use Rattle.asp_worker.proofs.gather.turn.Goals as goal

pub returns-in-Answer-clause-gathers : goal.returns-in-Answer-clause-gathers
returns-in-Answer-clause-gathers g c = λ s q h.
    let k = c.in_ok-keep-in-Answer.ensures in
    subst (λ (l : List Listing). Gathers s c.step.new.search q l) (sym k.2)
    (gathers-answer s c.args.engine.now.search c.step.new.search q c.args.found.now.items h _ _ _ c.step.new.fuel _ c.in_ok-step.ensures.ok c.in-Answer.set k.0 c.in-Answer.is k.1)

pub returns-in-Closed-clause-pause : goal.returns-in-Closed-clause-pause
returns-in-Closed-clause-pause g c = λ p e.
    let G = c.requires.gathers in
    closed-done G.0 c.args.engine.now.search c.step.new.search G.1 c.args.found.now.items G.2 _ _ _ c.step.new.fuel _ c.in_ok-step.ensures.ok c.in-Closed.nogood p c.in-Closed.is e
