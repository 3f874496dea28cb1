use Rattle.std.proofs.Common.{◌++◌, ◌∷◌, subst, sym}
use Rattle.std.specs.Prelude.{reverse}
use Rattle.asp_model.specs.declared.program.Program.{Program}
use Rattle.asp_parts.specs.Parts.{AreParts}
use Rattle.asp_parts.specs.Rounds.{IsBench}
use Rattle.asp_parts.proofs.PartLaws.{row-none, row-taken, row-then, same-self}
use Rattle.asp_parts.proofs.RoundLaws.{own-bench}
use Rattle.asp_parts.proofs.worker.take_all.Goals as goal

pub loop-init : goal.loop-init
loop-init c = record {
  kept = c.requires.bench;
  same = same-self c.args.bench.now.compiled.now (c.args.waiting.now.items ++ reverse c.args.done.now.items) c.requires.row;
}

pub returns-in-None-clause-same : goal.returns-in-None-clause-same
returns-in-None-clause-same c =
    row-none c.args.bench.now.compiled.now (c.args.waiting.now.items ++ reverse c.args.done.now.items) c.loop.waiting.items c.pop.new.self.items (reverse c.loop.done.items)
    c.pop.result c.loop.invariant.same c.pop.ensures.items c.in-None.is

pub take_one-requires-clause-bench : goal.take_one-requires-clause-bench
take_one-requires-clause-bench c = own-bench c.args.bench.now.compiled.now c.loop.bench c.loop.invariant.kept

pub take_one-requires-clause-row : goal.take_one-requires-clause-row
take_one-requires-clause-row c =
    subst (λ (q : Program). AreParts q (c.pop.new.self.items ++ c.in-Some.part ∷ reverse c.loop.done.items)) (sym c.loop.invariant.kept.program)
    (row-taken c.args.bench.now.compiled.now (c.args.waiting.now.items ++ reverse c.args.done.now.items) c.loop.waiting.items c.pop.new.self.items (reverse c.loop.done.items)
    c.pop.result c.in-Some.part c.loop.invariant.same c.pop.ensures.items c.in-Some.is).parts

pub returns-in_err-take_one-in-Some-clause-kept : goal.returns-in_err-take_one-in-Some-clause-kept
returns-in_err-take_one-in-Some-clause-kept c = subst (λ (q : Program). IsBench q c.take_one.new.bench) c.loop.invariant.kept.program c.take_one.ensures.kept

pub loop-preserved : goal.loop-preserved
loop-preserved c = record {
  kept = subst (λ (q : Program). IsBench q c.take_one.new.bench) c.loop.invariant.kept.program c.take_one.ensures.kept;
  same =
      row-then c.args.bench.now.compiled.now c.loop.bench.compiled.now (c.args.waiting.now.items ++ reverse c.args.done.now.items) c.loop.waiting.items c.pop.new.self.items c.loop.done.items
      c.take_one.new.waiting.items c.take_one.new.done.items c.pop.result c.in-Some.part c.loop.invariant.kept.program c.loop.invariant.same c.pop.ensures.items c.in-Some.is
      c.in_ok-take_one-in-Some.ensures.same;
}
