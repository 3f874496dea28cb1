use Rattle.std.proofs.Common.{◌≡◌, ℕ, ◌+◌, ◌-◌, ◌≤◌, List, false, ◌++◌, ◌∙◌, length, take, replicate, ap, refl, arith}
use Rattle.std.specs.Vec.{vec_capacity, vec_len}
use Rattle.std.proofs.lemmas.List.{take_all}
use Rattle.asp_order.proofs.RankedLaws.{ranked_reserved}
use Rattle.asp_order.proofs.heap.Heap.reserve.Goals as goal

resized : {X : Type 0} (xs old new : List X) (n l : ℕ) (x : X) → new ≡ take n old ++ replicate (n - l) x → old ≡ xs → l ≡ length xs → length xs ≤ n →
    new ≡ xs ++ replicate (n - length xs) x
resized xs old new n l x e o q h =
    e ∙ (ap (λ ys. take n ys ++ replicate (n - l) x) o ∙ (ap (λ ys. ys ++ replicate (n - l) x) (take_all n xs h) ∙ ap (λ k. xs ++ replicate (n - k) x) q))

pub invariant_of-self-2 : goal.invariant_of-self-2
invariant_of-self-2 c =
    let t = c.self.invariant in
    let a = c.self.inside.activities.items in
    let m = c.self.inside.members.items in
    let places = c.self.inside.places.items in
    let n = c.in_ok-count.count in
    let la : vec_len c.self.inside.activities ≡ length a = c.self.inside.activities.ok.0 in
    let le : length a ≤ n = omega (arith, la, c.len-len.ensures, c.if-count-len.false) in
    let k : ℕ = n - length a in
    let ea : c.resize.new.self.items ≡ a ++ replicate k 0 =
    resized a c.self.inside.activities.items c.resize.new.self.items n (vec_len c.self.inside.activities) 0 c.in_ok-resize.ensures.items refl la le in
    let em : c.resize-2.new.self.items ≡ m ++ replicate k false =
    resized m c.reserve-2.new.self.items c.resize-2.new.self.items n (vec_len c.reserve-2.new.self) false c.in_ok-resize-2.ensures.items c.in_ok-reserve-2.ensures.items
    (c.in_ok-reserve-2.ensures.len ∙ c.self.inside.members.ok.0) (omega (arith, le, t.sized)) ∙ ap (λ j. m ++ replicate (n - j) false) t.sized in
    let ep : c.resize-3.new.self.items ≡ places ++ replicate k 0 =
    resized places c.reserve-3.new.self.items c.resize-3.new.self.items n (vec_len c.reserve-3.new.self) 0 c.in_ok-resize-3.ensures.items c.in_ok-reserve-3.ensures.items
    (c.in_ok-reserve-3.ensures.len ∙ c.self.inside.places.ok.0) (omega (arith, le, t.placed_len)) ∙ ap (λ j. places ++ replicate (n - j) 0) t.placed_len in
    let room : length a + k ≤ vec_capacity c.reserve.new.self =
    omega (arith, le, c.in_ok-reserve.ensures.ok, c.in_ok-reserve.ensures.len, c.saturating_sub.ensures, c.len.ensures) in
    rw (ea, em, ep, c.in_ok-reserve.ensures.items)
    (ranked_reserved a m places c.self.inside.items.items c.self.inside.increment (vec_capacity c.self.inside.items) (vec_capacity c.reserve.new.self) k t room)
