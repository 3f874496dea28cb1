use Rattle.std.proofs.Common.{◌≡◌, ℕ, ◌+◌, ◌^◌, ◌≤◌, List, ◌∙◌, length, get_or, set, ap, sym, subst, arith}
use Rattle.std.specs.Vec.{vec_capacity}
use Rattle.std.proofs.lemmas.List.{take_at, get_or_default}
use Rattle.asp_order.specs.Heaps.{Ranking}
use Rattle.asp_order.specs.Sifting.{IsPlaced, IsHeap, rank_at}
use Rattle.asp_order.proofs.RankedLaws.{ranked_grown}
use Rattle.asp_order.proofs.heap.Heap.raise.Goals as goal

pub invariant_of-self : goal.invariant_of-self
invariant_of-self c =
    let t = c.self.invariant in
    let a = c.self.inside.activities.items in
    let m = c.self.inside.members.items in
    let items = c.self.inside.items.items in
    let places = c.self.inside.places.items in
    let x : ℕ = c.index_mut.result.now + c.self.inside.increment in
    let v = c.args.var in
    let known : length a ≡ length c.args.self.now.activities = ap (λ (h : Ranking). length h.activities) c.self.view_is in
    let was : c.index_mut.result.now ≡ get_or a v 0 = c.index_mut.ensures.value ∙ get_or_default a v c.index_mut.result.now 0 (omega (arith, c.requires.known, known)) in
    let fits : x ≤ 2 ^ 60 =
    omega (arith, was, c.requires.fits, ap (λ (h : Ranking). get_or h.activities v 0) c.self.view_is, ap (λ (h : Ranking). h.increment) c.self.view_is) in
    let li : length c.rise.new.items ≡ length items = omega (arith, c.rise.auto.items, ap (length {A = ℕ}) c.as_mut_slice.ensures.value) in
    let lp : length c.rise.new.places ≡ length places = omega (arith, c.rise.auto.places, ap (length {A = ℕ}) c.as_mut_slice-then-index.ensures.value) in
    let ei : length c.rise.new.items ≡ c.self.inside.items.len = omega (arith, li, c.self.inside.items.ok.0) in
    let ep : length c.rise.new.places ≡ c.self.inside.places.len = omega (arith, lp, c.self.inside.places.ok.0) in
    let placed : IsPlaced m c.as_mut_slice.result.now c.as_mut_slice-then-index.result.now =
    subst (λ (xs : List ℕ). IsPlaced m xs c.as_mut_slice-then-index.result.now) (sym c.as_mut_slice.ensures.value)
    (subst (λ (xs : List ℕ). IsPlaced m items xs) (sym c.as_mut_slice-then-index.ensures.value) t.placed) in
    let n : c.len-len.result ≡ length c.rise.new.items = omega (arith, li, c.len-len.ensures, c.self.inside.items.ok.0) in
    let heap : IsHeap (rank_at (set a v x) c.rise.new.items) (length c.rise.new.items) =
    subst (λ (k : ℕ). IsHeap (rank_at (set a v x) c.rise.new.items) k) n
    (subst (λ (xs : List ℕ). IsHeap (rank_at xs c.rise.new.items) c.len-len.result) c.as_slice.ensures.value c.rise.ensures.heap) in
    rw (take_at c.rise.new.places, take_at c.rise.new.items)
    (ranked_grown a m places items c.rise.new.items c.rise.new.places c.self.inside.increment (vec_capacity c.self.inside.items) v x t fits lp li
    (c.rise.ensures.placed m placed) heap)
