use Rattle.std.proofs.Common.{refl, subst, sym}
use Rattle.std.specs.List.{AllByRecursion}
use Rattle.asp_parts.specs.Rounds.{IsDone}
use Rattle.asp_parts.proofs.RoundLaws.{each-reverse}
use Rattle.asp_parts.proofs.worker.work.Goals as goal

pub take_in_turn-taken-requires-clause-worker : goal.take_in_turn-taken-requires-clause-worker
take_in_turn-taken-requires-clause-worker c = record {
  worker = record { program = refl; divider = c.requires.worker.divider; search = c.requires.worker.search };
  done = subst (AllByRecursion (IsDone c.args.worker.now.bench.compiled.now c.args.parts.now)) (sym c.clear.ensures.items) tt;
}

pub returns : goal.returns
returns c = record {
  worker = c.take_in_turn-taken.ensures.worker;
  done =
      subst (AllByRecursion (IsDone c.args.worker.now.bench.compiled.now c.args.parts.now)) (sym c.reverse.ensures.items)
      (each-reverse (IsDone c.args.worker.now.bench.compiled.now c.args.parts.now) c.take_in_turn-taken.new.worker.done.items c.take_in_turn-taken.ensures.done);
}
