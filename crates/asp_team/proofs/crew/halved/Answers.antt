use Rattle.std.proofs.Common.{rules}
use Rattle.std.specs.Prelude.{slice_index_or}
use Rattle.asp_worker.specs.Seats.{Worked}
use Rattle.asp_team.proofs.BackLaws.{moved, zip-each}
use Rattle.asp_team.proofs.crew.halved.Goals as goal

pub returns : goal.returns
returns g c =
    zip-each (Worked (g.H.Halt.never c.args.halt.now → ⊥) c.args.shared.now) c.args.workers.now c.for_each_mut.new.s (search rules)
    (λ k d lt. let w = (c.for_each_mut.ensures k d lt).1 in
    moved (Worked (g.H.Halt.never c.args.halt.now → ⊥) c.args.shared.now) w.argument.now w.after_call.now
    (slice_index_or c.args.workers.now k d) (slice_index_or c.for_each_mut.new.s k d) w.argument_is w.left w.call)
