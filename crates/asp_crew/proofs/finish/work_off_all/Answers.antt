use Rattle.std.proofs.Common.{Option, refl, sym, ◌∙◌, subst}
use Rattle.asp_vars.specs.Paid.{Clash}
use Rattle.asp_book.specs.Books.{board}
use Rattle.asp_crew.specs.Running.{LeavesLeaf}
use Rattle.asp_crew.proofs.AddLaws.{adds-self}
use Rattle.asp_crew.proofs.FinishLaws.{free-now, taken-by, held-taken, between-next, fewer-next, all-stopped, all-enough}
use Rattle.asp_crew.proofs.finish.work_off_all.Goals as goal

pub take-requires : goal.take-requires
take-requires g c = free-now (board c.leaves.book) c.leaves.invariant.between.alone

pub work_off-requires-clause-ready : goal.work_off-requires-clause-ready
work_off-requires-clause-ready g c =
    (taken-by c.args.mode c.leaves.book c.take.new.self c.in-Some.leaf c.leaves.search c.leaves.fuel _ c.leaves.invariant.between.ready
    c.leaves.invariant.between.alone c.in_ok-take.ensures.leaf c.in_ok-take.ensures.journal c.in-Some.is).ready

pub work_off-requires-clause-held : goal.work_off-requires-clause-held
work_off-requires-clause-held g c =
    held-taken c.args.mode c.leaves.book c.take.new.self c.in-Some.leaf c.leaves.search c.leaves.fuel
    (taken-by c.args.mode c.leaves.book c.take.new.self c.in-Some.leaf c.leaves.search c.leaves.fuel _ c.leaves.invariant.between.ready
    c.leaves.invariant.between.alone c.in_ok-take.ensures.leaf c.in_ok-take.ensures.journal c.in-Some.is)

pub leaves-smaller : goal.leaves-smaller
leaves-smaller g c =
    fewer-next c.args.mode c.leaves.book c.take.new.self c.work_off.new.book c.in-Some.leaf c.leaves.search c.work_off.new.search c.leaves.fuel
    c.work_off.new.fuel (sym c.enough.ensures ∙ c.if-enough.false)
    (taken-by c.args.mode c.leaves.book c.take.new.self c.in-Some.leaf c.leaves.search c.leaves.fuel _ c.leaves.invariant.between.ready
    c.leaves.invariant.between.alone c.in_ok-take.ensures.leaf c.in_ok-take.ensures.journal c.in-Some.is)
    (subst (λ (o : Option Clash). LeavesLeaf c.args.mode c.take.new.self c.work_off.new.book c.in-Some.leaf c.work_off.new.search c.work_off.new.fuel
    o) c.in-None-2.is c.in_ok-work_off-in-Some.ensures.leaves)

pub leaves-preserved : goal.leaves-preserved
leaves-preserved g c = record {
  between =
      between-next c.args.mode c.args.book.now c.leaves.book c.take.new.self c.work_off.new.book c.in-Some.leaf c.leaves.search c.work_off.new.search
      c.leaves.fuel c.work_off.new.fuel c.leaves.invariant.between
      (taken-by c.args.mode c.leaves.book c.take.new.self c.in-Some.leaf c.leaves.search c.leaves.fuel _ c.leaves.invariant.between.ready
      c.leaves.invariant.between.alone c.in_ok-take.ensures.leaf c.in_ok-take.ensures.journal c.in-Some.is)
      (subst (λ (o : Option Clash). LeavesLeaf c.args.mode c.take.new.self c.work_off.new.book c.in-Some.leaf c.work_off.new.search
      c.work_off.new.fuel o) c.in-None-2.is c.in_ok-work_off-in-Some.ensures.leaves);
  heard = g.met.W.Watch.goes_on c.args.watch.now c.leaves.watch c.work_off.new.watch c.leaves.invariant.heard c.work_off.ensures.heard;
}

pub returns-in-Some-2-clause-leaves : goal.returns-in-Some-2-clause-leaves
returns-in-Some-2-clause-leaves g c =
    all-stopped c.args.mode c.args.book.now c.leaves.book c.take.new.self c.work_off.new.book c.in-Some.leaf c.leaves.search c.work_off.new.search
    c.leaves.fuel c.work_off.new.fuel c.in-Some-2.conflict c.leaves.invariant.between
    (taken-by c.args.mode c.leaves.book c.take.new.self c.in-Some.leaf c.leaves.search c.leaves.fuel _ c.leaves.invariant.between.ready
    c.leaves.invariant.between.alone c.in_ok-take.ensures.leaf c.in_ok-take.ensures.journal c.in-Some.is)
    (subst (λ (o : Option Clash). LeavesLeaf c.args.mode c.take.new.self c.work_off.new.book c.in-Some.leaf c.work_off.new.search c.work_off.new.fuel
    o) c.in-Some-2.is c.in_ok-work_off-in-Some.ensures.leaves)

pub leaves-init : goal.leaves-init
leaves-init g c = record {
  between =
      record { ready = c.requires.ready; alone = c.requires.alone; task = refl; adds = adds-self c.args.book.now; pool = refl };
  heard =
      g.met.W.Watch.begins c.args.watch.now;
}

pub returns-in_err-work_off-in-Some-clause-heard : goal.returns-in_err-work_off-in-Some-clause-heard
returns-in_err-work_off-in-Some-clause-heard g c = g.met.W.Watch.goes_on c.args.watch.now c.leaves.watch c.work_off.new.watch c.leaves.invariant.heard c.work_off.ensures.heard

pub returns-in-Some-2-clause-heard : goal.returns-in-Some-2-clause-heard
returns-in-Some-2-clause-heard g c = g.met.W.Watch.goes_on c.args.watch.now c.leaves.watch c.work_off.new.watch c.leaves.invariant.heard c.work_off.ensures.heard

pub returns-then-enough-clause-leaves : goal.returns-then-enough-clause-leaves
returns-then-enough-clause-leaves g c = all-enough c.args.mode c.args.book.now c.leaves.book c.leaves.search c.leaves.fuel c.leaves.invariant.between (sym c.enough.ensures ∙ c.if-enough.true)
