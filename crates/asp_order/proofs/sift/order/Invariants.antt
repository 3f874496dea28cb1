use Rattle.std.proofs.Common.{Bool, List}
use Rattle.asp_order.specs.Sifting.{IsHeap, rank_at, IsPlaced}
use Rattle.asp_order.proofs.sift.order.Given as goal

abbrev pub invariant-loop-k : goal.invariant-loop-k
invariant-loop-k l = record {
  placed : (members : List Bool) → IsPlaced members l.fn.items l.fn.places → IsPlaced members l.items l.places;
  heap : IsHeap (rank_at l.activities l.items) l.k;
}
