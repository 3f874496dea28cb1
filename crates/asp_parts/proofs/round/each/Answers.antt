use Rattle.std.proofs.Common.{rules, subst, sym}
use Rattle.std.specs.Prelude.{slice_index_or}
use Rattle.std.specs.List.{AllZip}
use Rattle.asp_parts.specs.declared.worker.Worker.{Worker}
use Rattle.asp_model.specs.declared.program.Program.{Program}
use Rattle.asp_parts.specs.Parts.{AreParts}
use Rattle.asp_parts.specs.Rounds.{IsBench, IsWorker}
use Rattle.asp_parts.proofs.RoundLaws.{WorkedOn, done-all, each-at, moved, own-bench, zip-each}
use Rattle.asp_parts.proofs.round.each.Goals as goal

pub for_each_mut-requires-clause-accepts : goal.for_each_mut-requires-clause-accepts
for_each_mut-requires-clause-accepts g c κs within = λ i p lt is.
    let q : Program = c.args.compiled.now in
    let b : IsBench q p.now.bench = subst (IsWorker q) (sym is) (each-at (IsWorker q) c.args.workers.now i p.now c.requires.workers lt) in
    (own-bench q p.now.bench b, subst (λ (r : Program). AreParts r c.args.parts.now) (sym b.program) c.requires.parts)

pub returns : goal.returns
returns g c =
    let R : Worker → Worker → Type 0 = WorkedOn c.args.parts.now in
    let zip : AllZip R c.args.workers.now c.for_each_mut.new.s =
    zip-each R c.args.workers.now c.for_each_mut.new.s (search rules)
    (λ k d lt. let w = (c.for_each_mut.ensures k d lt).1 in
    moved R w.argument.now w.after_call.now (slice_index_or c.args.workers.now k d) (slice_index_or c.for_each_mut.new.s k d) w.argument_is w.left w.call) in
    done-all c.args.compiled.now c.args.parts.now c.args.workers.now c.for_each_mut.new.s c.requires.workers zip
