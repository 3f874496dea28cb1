use Rattle.std.proofs.Common.{◌≡◌, ◌+◌, ◌^◌, ◌<◌, sym, ap, ◌∙◌, subst, arith}
use Rattle.std.proofs.lemmas.Result.{IfOk-weaker}
use Rattle.asp_vars.specs.Paid.{Units}
use Rattle.asp_core.specs.Units.{out_of}
use Rattle.asp_book.specs.Books.{board}
use Rattle.asp_search_laws.specs.Searching.{Searching}
use Rattle.asp_stream.specs.Endings.{IsOver}
use Rattle.asp_stream.proofs.EndLaws.{begins-ready, leased, run-over, units-are}
use Rattle.asp_stream.proofs.PartLaws.{stream-front}
use Rattle.asp_stream.proofs.RunLaws.{lease-fits, stream-leased}
use Rattle.asp_stream.proofs.run.stream_by.Goals as goal

-- ---- it begins
pub set_bound-requires : goal.set_bound-requires
set_bound-requires g c = ap (λ (s : Searching). s.bound) c.in_ok-search.ensures.same

pub lease-requires : goal.lease-requires
lease-requires g c = lease-fits c.args.stream.ledger c.args.budget c.args.stream.compiled.now c.of-fuel.result c.requires.begun c.requires.budget c.of-fuel.ensures

pub work_off_all-ended-requires : goal.work_off_all-ended-requires
work_off_all-ended-requires g c =
    let u = c.args.stream.ledger in
    let units = units-are u c.args.budget c.args.stream.compiled.now c.of-fuel.result c.requires.budget c.requires.stream.program c.of-fuel.ensures in
    let small = (let less : u.task.budget < 2 ^ 64 = omega (arith, c.ranges.budget, c.requires.budget) in less) in
    let all = leased u c.lease.new.self c.of-fuel.result small c.requires.begun units c.in_ok-lease.ensures.ok in
    let same = c.in_ok-set_bound.ensures ∙ ap (λ (s : Searching). let t : Searching = record s { bound = c.args.bound } in t) c.in_ok-search.ensures.same in
    record {
      ready = begins-ready u c.lease.new.self c.args.bound c.set_bound.new.search c.of-fuel.result small c.requires.begun c.lawful.ensures.task c.requires.goal all units
          (ap (λ (s : Searching). s.program) same ∙ sym c.requires.stream.program) (ap (λ (s : Searching). s.mode) same) (ap (λ (s : Searching). s.known) same)
          (ap (λ (s : Searching). s.bound) same);
      alone = all.alone;
      stream = stream-leased c.args.stream c.lease.new.self _ _ c.of-fuel.result c.requires.stream
          (lease-fits u c.args.budget c.args.stream.compiled.now c.of-fuel.result c.requires.begun c.requires.budget c.of-fuel.ensures) c.in_ok-lease.ensures.ok;
      program = c.requires.reader;
    }

pub returns-in_err-search-clause-front : goal.returns-in_err-search-clause-front
returns-in_err-search-clause-front g c = stream-front c.args.stream _ _ _ _ c.lawful.ensures.task c.lawful.ensures.journal c.requires.reader c.requires.stream

pub returns-in_err-search-clause-after : goal.returns-in_err-search-clause-after
returns-in_err-search-clause-after g c = g.met.R.Reader.begins c.args.reader.now

pub returns-in_err-search-clause-heard : goal.returns-in_err-search-clause-heard
returns-in_err-search-clause-heard g c = g.met.W.Watch.begins c.args.watch.now

pub returns-in_err-set_bound-clause-front : goal.returns-in_err-set_bound-clause-front
returns-in_err-set_bound-clause-front g c = stream-front c.args.stream _ _ _ _ c.lawful.ensures.task c.lawful.ensures.journal c.requires.reader c.requires.stream

pub returns-in_err-set_bound-clause-after : goal.returns-in_err-set_bound-clause-after
returns-in_err-set_bound-clause-after g c = g.met.R.Reader.begins c.args.reader.now

pub returns-in_err-set_bound-clause-heard : goal.returns-in_err-set_bound-clause-heard
returns-in_err-set_bound-clause-heard g c = g.met.W.Watch.begins c.args.watch.now

pub returns-in_err-lease-clause-front : goal.returns-in_err-lease-clause-front
returns-in_err-lease-clause-front g c = stream-front c.args.stream _ _ _ _ c.lawful.ensures.task c.lawful.ensures.journal c.requires.reader c.requires.stream

pub returns-in_err-lease-clause-after : goal.returns-in_err-lease-clause-after
returns-in_err-lease-clause-after g c = g.met.R.Reader.begins c.args.reader.now

pub returns-in_err-lease-clause-heard : goal.returns-in_err-lease-clause-heard
returns-in_err-lease-clause-heard g c = g.met.W.Watch.begins c.args.watch.now

-- ---- it ends
pub told-requires : goal.told-requires
told-requires g c = record {
  units = subst (λ (u : Units). u.left + u.burnt ≡ out_of (board c.work_off_all-ended.new.stream.ledger).out 0) (sym c.fuel-2.view_is)
      c.in_ok-ended.ensures.leaves.ready.work.units.1;
}

pub returns-clause-told : goal.returns-clause-told
returns-clause-told g c =
    let x = c.work_off_all-ended.new.stream in
    let f = c.work_off_all-ended.new.fuel in
    let e = c.in_ok-ended.field-0 in
    let u = c.args.stream.ledger in
    IfOk-weaker c.told.result _ _
    (λ r tells. (tells u _ _ (subst (λ (k : Units). IsOver u x.ledger k e) (sym c.fuel-2.view_is)
    (run-over u c.lease.new.self x.ledger c.args.budget c.args.stream.compiled.now c.of-fuel.result f c.work_off_all-ended.new.search e (omega (arith, c.ranges.budget)) c.requires.budget
    c.requires.stream.program c.requires.begun c.of-fuel.ensures c.in_ok-lease.ensures.ok c.in_ok-ended.ensures.leaves)) c.in_ok-ended.ensures.stream
    c.in_ok-ended.ensures.unwanted).0) c.told.ensures

pub returns-clause-some : goal.returns-clause-some
returns-clause-some g c =
    let x = c.work_off_all-ended.new.stream in
    let f = c.work_off_all-ended.new.fuel in
    let e = c.in_ok-ended.field-0 in
    let u = c.args.stream.ledger in
    IfOk-weaker c.told.result _ _
    (λ r tells. (tells u _ _ (subst (λ (k : Units). IsOver u x.ledger k e) (sym c.fuel-2.view_is)
    (run-over u c.lease.new.self x.ledger c.args.budget c.args.stream.compiled.now c.of-fuel.result f c.work_off_all-ended.new.search e (omega (arith, c.ranges.budget)) c.requires.budget
    c.requires.stream.program c.requires.begun c.of-fuel.ensures c.in_ok-lease.ensures.ok c.in_ok-ended.ensures.leaves)) c.in_ok-ended.ensures.stream
    c.in_ok-ended.ensures.unwanted).1) c.told.ensures
