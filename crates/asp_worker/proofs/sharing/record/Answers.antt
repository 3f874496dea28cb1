use Rattle.std.proofs.Common.{ℕ, sym, subst}
use Rattle.asp_model.specs.declared.results.Mode.{Mode}
use Rattle.asp_vault.specs.Seats.{view}
use Rattle.asp_search_laws.specs.Searching.{Searching}
use Rattle.asp_worker.specs.Working.{GoesOn, Finds}
use Rattle.asp_worker.proofs.Replies.{memory-stop}
use Rattle.asp_worker.proofs.sharing.record.Goals as goal

pub improve-requires-clause-found : goal.improve-requires-clause-found
improve-requires-clause-found g c = subst (λ (m : Mode). (s : Searching) × (leaf : ℕ) ×
    Finds m (view c.args.seat.now) s c.args.engine.now.search c.args.engine.now.fuel leaf c.args.set) c.in-Opt.is c.requires.found

pub returns-in_ok-improve-in-Opt-clause-ok : goal.returns-in_ok-improve-in-Opt-clause-ok
returns-in_ok-improve-in-Opt-clause-ok g c = (
  subst (λ (m : Mode). GoesOn m (view c.improve.new.seat) c.improve.new.engine.search c.improve.new.engine.fuel) (sym c.in-Opt.is)
      c.in_ok-improve-in-Opt.ensures.ok.0,
  c.in_ok-improve-in-Opt.ensures.ok.1,
)

pub returns-in_err-improve-in-Opt-clause-stop : goal.returns-in_err-improve-in-Opt-clause-stop
returns-in_err-improve-in-Opt-clause-stop g c = memory-stop (view c.improve.new.seat) c.from_residual.result c.from_residual.ensures.1
