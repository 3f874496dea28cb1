use Rattle.std.proofs.Common.{◌≡◌, ℕ, ◌<◌, true, get_or}
use Rattle.asp_trail.specs.declared.trail.Entry.{Entry}
use Rattle.asp_order.specs.Heaps.{is_in}
use Rattle.asp_order.specs.Waiting.{IsFuller}
use Rattle.asp_order.proofs.order.Order.restore_all.Given as goal

abbrev pub invariant-loop-i : goal.invariant-loop-i
invariant-loop-i l = record {
  fuller : IsFuller l.initial.self l.self;
  restored : (k : ℕ) (d : Entry) → k < l.i → is_in l.self.members (get_or l.trail.entries k d).lit.var ≡ true;
}
