use Rattle.std.proofs.Common.{Some, refl, sym, ap, ◌∙◌, subst}
use Rattle.asp_stream.specs.Leaves.{IsStreamAfter, LeavesPart}
use Rattle.asp_stream.specs.declared.told.End.{End}
use Rattle.asp_stream.proofs.LeafLaws.{left-finished, left-on, left-self}
use Rattle.asp_stream.proofs.PartLaws.{front-then, program-same, stream-front}
use Rattle.asp_stream.proofs.RunLaws.{covers-nothing, fewer-parts, part-popped, stream-popped}
use Rattle.asp_stream.proofs.run.work_off_all.Goals as goal

pub parts-init : goal.parts-init
parts-init g c = record {
  left = left-self c.args.stream.now.ledger c.args.search.now c.args.fuel.now c.requires.ready c.requires.alone;
  compiled = refl;
  stream = c.requires.stream;
  front = stream-front c.args.stream.now _ _ _ _ c.lawful.ensures.task c.lawful.ensures.journal c.requires.program c.requires.stream;
  after = g.met.R.Reader.begins c.args.reader.now;
  heard = g.met.W.Watch.begins c.args.watch.now;
}

pub work_off-requires : goal.work_off-requires
work_off-requires g c = record {
  ready = c.parts.invariant.left.ready;
  alone = c.parts.invariant.left.alone;
  part = part-popped c.parts.stream (record c.parts.stream { parts = c.pop.new.self }) _ _ c.in-Some.part c.parts.invariant.stream c.in-Some.ensures.items;
  stream = stream-popped c.parts.stream (record c.parts.stream { parts = c.pop.new.self }) _ _ c.in-Some.part c.parts.invariant.stream c.in-Some.ensures.items refl;
  program = program-same c.args.stream.now c.parts.stream _ c.parts.invariant.compiled c.parts.invariant.front.program;
}

pub parts-preserved : goal.parts-preserved
parts-preserved g c = record {
  left =
      (left-on c.args.stream.now.ledger c.parts.stream.ledger c.work_off.new.stream.ledger c.parts.search c.work_off.new.search c.parts.fuel c.work_off.new.fuel _
      c.parts.invariant.left (subst (LeavesPart c.parts.stream.ledger c.work_off.new.stream.ledger c.work_off.new.search c.work_off.new.fuel) c.in-None-2.is
      c.in_ok-work_off-in-Some.ensures.leaves));
  compiled = c.work_off.ensures.compiled ∙ c.parts.invariant.compiled;
  stream = subst (IsStreamAfter c.work_off.new.stream _ _) c.in-None-2.is c.in_ok-work_off-in-Some.ensures.stream;
  front = front-then c.args.stream.now c.parts.stream _ _ _ _ _ c.parts.invariant.compiled c.parts.invariant.front.all_are c.work_off.ensures.front;
  after = g.met.R.Reader.goes_on c.args.reader.now c.parts.reader c.work_off.new.reader c.parts.invariant.after c.work_off.ensures.after;
  heard = g.met.W.Watch.goes_on c.args.watch.now c.parts.watch c.work_off.new.watch c.parts.invariant.heard c.work_off.ensures.heard;
}

pub parts-smaller : goal.parts-smaller
parts-smaller g c =
    fewer-parts c.parts.stream.ledger c.work_off.new.stream.ledger c.parts.stream.parts.items c.pop.new.self.items c.work_off.new.stream.parts.items c.in-Some.part c.in-Some.ensures.items
    (c.in_ok-work_off-in-Some.ensures.less c.in-None-2.is)

-- ---- no part is left
pub returns-in-None-clause-leaves : goal.returns-in-None-clause-leaves
returns-in-None-clause-leaves g c =
    left-finished c.args.stream.now.ledger c.parts.stream.ledger c.parts.search c.parts.fuel c.parts.invariant.left (covers-nothing c.parts.stream _ _ c.parts.invariant.stream
    (sym c.parts.stream.parts.ok.0 ∙ c.in-None.ensures.cases.0))

pub returns-in-None-clause-stream : goal.returns-in-None-clause-stream
returns-in-None-clause-stream g c = record { program = c.parts.invariant.stream.program; told = c.parts.invariant.stream.told; counted = c.parts.invariant.stream.counted }

-- ---- the stream is at its end
pub returns-in-Some-2-clause-leaves : goal.returns-in-Some-2-clause-leaves
returns-in-Some-2-clause-leaves g c =
    (left-on c.args.stream.now.ledger c.parts.stream.ledger c.work_off.new.stream.ledger c.parts.search c.work_off.new.search c.parts.fuel c.work_off.new.fuel _
    c.parts.invariant.left (subst (LeavesPart c.parts.stream.ledger c.work_off.new.stream.ledger c.work_off.new.search c.work_off.new.fuel) c.in-Some-2.is
    c.in_ok-work_off-in-Some.ensures.leaves))

pub returns-in-Some-2-clause-stream : goal.returns-in-Some-2-clause-stream
returns-in-Some-2-clause-stream g c = subst (IsStreamAfter c.work_off.new.stream _ _) c.in-Some-2.is c.in_ok-work_off-in-Some.ensures.stream

pub returns-in-Some-2-clause-unwanted : goal.returns-in-Some-2-clause-unwanted
returns-in-Some-2-clause-unwanted g c = λ same. c.in_ok-work_off-in-Some.ensures.unwanted (c.in-Some-2.is ∙ ap (λ (e : End). Some e) same)

pub returns-in-Some-2-clause-front : goal.returns-in-Some-2-clause-front
returns-in-Some-2-clause-front g c = front-then c.args.stream.now c.parts.stream _ _ _ _ _ c.parts.invariant.compiled c.parts.invariant.front.all_are c.work_off.ensures.front

pub returns-in-Some-2-clause-after : goal.returns-in-Some-2-clause-after
returns-in-Some-2-clause-after g c = g.met.R.Reader.goes_on c.args.reader.now c.parts.reader c.work_off.new.reader c.parts.invariant.after c.work_off.ensures.after

pub returns-in-Some-2-clause-heard : goal.returns-in-Some-2-clause-heard
returns-in-Some-2-clause-heard g c = g.met.W.Watch.goes_on c.args.watch.now c.parts.watch c.work_off.new.watch c.parts.invariant.heard c.work_off.ensures.heard

-- ---- memory is wanting
pub returns-in_err-work_off-in-Some-clause-front : goal.returns-in_err-work_off-in-Some-clause-front
returns-in_err-work_off-in-Some-clause-front g c = front-then c.args.stream.now c.parts.stream _ _ _ _ _ c.parts.invariant.compiled c.parts.invariant.front.all_are c.work_off.ensures.front

pub returns-in_err-work_off-in-Some-clause-after : goal.returns-in_err-work_off-in-Some-clause-after
returns-in_err-work_off-in-Some-clause-after g c = g.met.R.Reader.goes_on c.args.reader.now c.parts.reader c.work_off.new.reader c.parts.invariant.after c.work_off.ensures.after

pub returns-in_err-work_off-in-Some-clause-heard : goal.returns-in_err-work_off-in-Some-clause-heard
returns-in_err-work_off-in-Some-clause-heard g c = g.met.W.Watch.goes_on c.args.watch.now c.parts.watch c.work_off.new.watch c.parts.invariant.heard c.work_off.ensures.heard
