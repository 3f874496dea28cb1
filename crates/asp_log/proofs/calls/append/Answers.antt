use Rattle.std.proofs.Common.{subst}
use Rattle.asp_vault.specs.Seats.{view}
use Rattle.asp_log.specs.declared.scope.Scope.{Scope}
use Rattle.asp_log.specs.Entries.{IsLogFor, IsLogOf}
use Rattle.asp_log.proofs.CallLaws.{append-stays, append-moment}
use Rattle.asp_log.proofs.calls.append.Goals as goal

pub returns-clause-stays : goal.returns-clause-stays
returns-clause-stays g c =
    let was = view c.args.seat.now in
    append-stays (λ _. Unit {0}) was (view c.take-log.new.seat) (view c.give.new.seat) (view c.take-log.new.seat).misses c.take-log.result.entries c.add-added.new.self.entries c.args.nogood
    c.take-log.ensures.view c.give.ensures.view c.take-log.ensures.learnt c.add-added.result c.add-added.ensures.ok c.add-added.ensures.err

pub returns-clause-ok : goal.returns-clause-ok
returns-clause-ok g c =
    let was = view c.args.seat.now in
    let own : IsLogFor c.take-log.result.scope c.add-added.new.self.entries = subst (λ (s : Scope). IsLogFor s c.add-added.new.self.entries) c.add-added.ensures.scope c.add-added.ensures.keeps in
    append-moment (IsLogOf was.about) was (view c.take-log.new.seat) (view c.give.new.seat) (view c.take-log.new.seat).misses c.take-log.result.entries c.add-added.new.self.entries c.args.nogood
    c.take-log.ensures.view c.give.ensures.view c.take-log.ensures.learnt c.add-added.result (subst (λ a. IsLogOf a c.add-added.new.self.entries) c.take-log.ensures.about own) c.add-added.ensures.ok
