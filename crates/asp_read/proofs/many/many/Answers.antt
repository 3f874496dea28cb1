use Rattle.std.proofs.Common.{arith}
use Rattle.std.proofs.lemmas.Result.{err_from_is_err_and}
use Rattle.asp_read.proofs.Loop.{goes_on, ends, is_done, known_more}
use Rattle.asp_read.proofs.many.many.Goals as goal

pub returns-in_err-item-clause-items : goal.returns-in_err-item-clause-items
returns-in_err-item-clause-items g c =
    let p = err_from_is_err_and c.from_residual-in_err-item.result c.from_residual-in_err-item.ensures.1 in
    rw (p.1, p.2)
    (ends (g.E.Entry.entry_atom c.args.entry.now) (g.E.Entry.entry_at c.args.entry.now) c.in_err-item.field-0.0 c.loop.items.items c.args.count
    c.loop.counter c.loop.known c.loop.rest.now _ c.loop-test.true c.in_err-item.ensures.item c.loop.invariant.read)

pub loop-preserved : goal.loop-preserved
loop-preserved g c =
    record {
      read = rw c.in_ok-push.ensures.items
          (rw c.in_ok-item.ensures.known
          (goes_on (g.E.Entry.entry_atom c.args.entry.now) (g.E.Entry.entry_at c.args.entry.now) c.loop.items.items c.args.count c.loop.counter
          c.loop.known c.loop.rest.now c.in_ok-item.item c.in_ok-item.after.now _ c.loop-test.true c.in_ok-item.ensures.item
          c.loop.invariant.read));
      len = omega (arith, c.in_ok-push.ensures.len, c.loop.invariant.len);
      known = known_more (g.E.Entry.entry_atom c.args.entry.now) (g.E.Entry.entry_at c.args.entry.now) _ c.loop.known _ c.loop.items.items _
          c.in_ok-item.item c.loop.invariant.known c.in_ok-item.ensures.known c.in_ok-push.ensures.items;
    }

pub returns-clause-items : goal.returns-clause-items
returns-clause-items g c =
    rw c.from_vec.ensures (is_done (g.E.Entry.entry_atom c.args.entry.now) (g.E.Entry.entry_at c.args.entry.now) c.loop.items.items c.args.count
    c.loop.counter c.loop.known c.loop.rest.now _ c.loop-test.false c.loop.invariant.read)
