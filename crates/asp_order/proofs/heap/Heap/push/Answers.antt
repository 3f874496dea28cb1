use Rattle.std.proofs.Common.{◌≡◌, ℕ, ◌+◌, ◌<◌, List, true, false, [], ◌∷◌, ◌++◌, ◌∙◌, length, set, ap, sym, subst, arith}
use Rattle.std.specs.Vec.{vec_capacity}
use Rattle.std.proofs.lemmas.List.{take_at, length-append, length-set}
use Rattle.asp_order.specs.Heaps.{Ranking, is_in}
use Rattle.asp_order.specs.Sifting.{IsPlaced, IsHeap, rank_at}
use Rattle.asp_order.proofs.PlacedLaws.{placed_push}
use Rattle.asp_order.proofs.RankedLaws.{room_left, ranked_push}
use Rattle.asp_order.proofs.heap.Heap.push.Goals as goal

pub push_reserved-requires : goal.push_reserved-requires
push_reserved-requires c =
    let t = c.self.invariant in
    let out : is_in c.self.inside.members.items c.args.var ≡ false = ap (λ (h : Ranking). is_in h.members c.args.var) c.self.view_is ∙ c.requires.new in
    let known : length c.self.inside.activities.items ≡ length c.args.self.now.activities = ap (λ (h : Ranking). length h.activities) c.self.view_is in
    let room = room_left c.self.inside.members.items c.args.var (omega (arith, c.requires.known, known, t.sized)) out in
    omega (arith, c.self.inside.items.ok.0, t.counted, t.sized, t.roomy, room)

pub rise-requires-clause-placed : goal.rise-requires-clause-placed
rise-requires-clause-placed c =
    let t = c.self.invariant in
    let v = c.args.var in
    let m = c.self.inside.members.items in
    let items = c.self.inside.items.items in
    let places = c.self.inside.places.items in
    let out : is_in m v ≡ false = ap (λ (h : Ranking). is_in h.members v) c.self.view_is ∙ c.requires.new in
    let known : length c.self.inside.activities.items ≡ length c.args.self.now.activities = ap (λ (h : Ranking). length h.activities) c.self.view_is in
    let vm : v < length m = omega (arith, c.requires.known, known, t.sized) in
    let vp : v < length places = omega (arith, c.requires.known, known, t.placed_len) in
    let vn : v < 4294967296 = omega (arith, c.ranges.var.fits) in
    let e1 : c.as_mut_slice.result.now ≡ items ++ v ∷ [] = c.as_mut_slice.ensures.value ∙ c.push_reserved.ensures.items in
    let e2 : c.as_mut_slice-2.result.now ≡ set places v (length items) = c.as_mut_slice-2.ensures.value ∙ ap (set places v) (c.len-at.ensures ∙ c.self.inside.items.ok.0) in (
      set m v true,
      subst (λ (xs : List ℕ). IsPlaced (set m v true) xs c.as_mut_slice-2.result.now) (sym e1)
          (subst (λ (xs : List ℕ). IsPlaced (set m v true) (items ++ v ∷ []) xs) (sym e2) (placed_push m items places v t.placed vm vp vn out)),
    )

pub invariant_of-self : goal.invariant_of-self
invariant_of-self c =
    let t = c.self.invariant in
    let v = c.args.var in
    let a = c.self.inside.activities.items in
    let m = c.self.inside.members.items in
    let items = c.self.inside.items.items in
    let places = c.self.inside.places.items in
    let out : is_in m v ≡ false = ap (λ (h : Ranking). is_in h.members v) c.self.view_is ∙ c.requires.new in
    let known : length a ≡ length c.args.self.now.activities = ap (λ (h : Ranking). length h.activities) c.self.view_is in
    let va : v < length a = omega (arith, c.requires.known, known) in
    let vm : v < length m = omega (arith, va, t.sized) in
    let vp : v < length places = omega (arith, va, t.placed_len) in
    let vn : v < 4294967296 = omega (arith, c.ranges.var.fits) in
    let e1 : c.as_mut_slice.result.now ≡ items ++ v ∷ [] = c.as_mut_slice.ensures.value ∙ c.push_reserved.ensures.items in
    let e2 : c.as_mut_slice-2.result.now ≡ set places v (length items) = c.as_mut_slice-2.ensures.value ∙ ap (set places v) (c.len-at.ensures ∙ c.self.inside.items.ok.0) in
    let placed : IsPlaced (set m v true) c.as_mut_slice.result.now c.as_mut_slice-2.result.now =
    subst (λ (xs : List ℕ). IsPlaced (set m v true) xs c.as_mut_slice-2.result.now) (sym e1)
    (subst (λ (xs : List ℕ). IsPlaced (set m v true) (items ++ v ∷ []) xs) (sym e2) (placed_push m items places v t.placed vm vp vn out)) in
    let li : length c.rise.new.items ≡ length items + 1 = omega (arith, c.rise.auto.items, ap (length {A = ℕ}) e1, length-append items (v ∷ [])) in
    let lp : length c.rise.new.places ≡ length places = omega (arith, c.rise.auto.places, ap (length {A = ℕ}) e2, length-set places v (length items)) in
    let ei : length c.rise.new.items ≡ c.push_reserved.new.self.len =
    omega (arith, li, c.push_reserved.new.self.ok.0, ap (length {A = ℕ}) c.push_reserved.ensures.items, length-append items (v ∷ [])) in
    let ep : length c.rise.new.places ≡ c.self.inside.places.len = omega (arith, lp, c.self.inside.places.ok.0) in
    let n : c.len-at.result + 1 ≡ length c.rise.new.items = omega (arith, li, c.len-at.ensures, c.self.inside.items.ok.0) in
    let heap : IsHeap (rank_at a c.rise.new.items) (length c.rise.new.items) =
    subst (λ (k : ℕ). IsHeap (rank_at a c.rise.new.items) k) n
    (subst (λ (xs : List ℕ). IsHeap (rank_at xs c.rise.new.items) (c.len-at.result + 1)) c.as_slice.ensures.value c.rise.ensures.heap) in
    rw (take_at c.rise.new.places, take_at c.rise.new.items)
    (ranked_push a m places items c.rise.new.items c.rise.new.places c.self.inside.increment (vec_capacity c.self.inside.items) c.push_reserved.new.self.cap v t
    (omega (arith, c.push_reserved.ensures.capacity)) va out lp li (c.rise.ensures.placed (set m v true) placed) heap)
