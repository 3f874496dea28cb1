use Rattle.std.proofs.Common.{◌≡◌, ℕ, ◌/◌, ◌^◌, ◌≤◌, List, drop, ◌∙◌, length, map, ap, sym, subst, arith}
use Rattle.std.specs.List.{All}
use Rattle.std.proofs.lemmas.List.{take_at, length-map}
use Rattle.asp_order.specs.Sifting.{IsPlaced, IsHeap, rank_at}
use Rattle.asp_order.proofs.RankedLaws.{all_divided, ranked_divided}
use Rattle.asp_order.proofs.heap.Heap.rescale.Goals as goal

pub invariant_of-self : goal.invariant_of-self
invariant_of-self c =
    let t = c.self.invariant in
    let a = c.self.inside.activities.items in
    let e : c.divide.new.activities ≡ map (λ n. n / 2 ^ 30) a = c.divide.ensures ∙ ap (map (λ n. n / 2 ^ 30)) c.as_mut_slice.ensures.value in
    let el : length c.divide.new.activities ≡ c.self.inside.activities.len = omega (arith, ap (length {A = ℕ}) e, length-map a (λ (n : ℕ). n / 2 ^ 30), c.self.inside.activities.ok.0) in
    let li : length c.order.new.items ≡ length c.self.inside.items.items = omega (arith, c.order.auto.items, ap (length {A = ℕ}) c.as_mut_slice-2.ensures.value) in
    let lp : length c.order.new.places ≡ length c.self.inside.places.items = omega (arith, c.order.auto.places, ap (length {A = ℕ}) c.as_mut_slice-3.ensures.value) in
    let ei : length c.order.new.items ≡ c.self.inside.items.len = omega (arith, li, c.self.inside.items.ok.0) in
    let ep : length c.order.new.places ≡ c.self.inside.places.len = omega (arith, lp, c.self.inside.places.ok.0) in
    let m = c.self.inside.members.items in
    let placed : IsPlaced m c.as_mut_slice-2.result.now c.as_mut_slice-3.result.now =
    subst (λ (xs : List ℕ). IsPlaced m xs c.as_mut_slice-3.result.now) (sym c.as_mut_slice-2.ensures.value)
    (subst (λ (xs : List ℕ). IsPlaced m c.self.inside.items.items xs) (sym c.as_mut_slice-3.ensures.value) t.placed) in
    let seen : c.as_slice.result.now ≡ c.divide.new.activities = c.as_slice.ensures.value ∙ take_at c.divide.new.activities (drop (length c.divide.new.activities) a) c.self.inside.activities.len el in
    rw (take_at c.divide.new.activities, take_at c.order.new.places, take_at c.order.new.items)
    (ranked_divided a c.divide.new.activities m c.self.inside.places.items c.self.inside.items.items c.order.new.items c.order.new.places c.self.inside.increment
    c.max-self-inside.result c.self.inside.items.cap t e c.max-self-inside.ensures lp li (c.order.ensures.placed m placed)
    (subst (λ (xs : List ℕ). IsHeap (rank_at xs c.order.new.items) (length c.order.new.items)) seen c.order.ensures.heap))

pub returns-clause-activities : goal.returns-clause-activities
returns-clause-activities c =
    let a = c.self.inside.activities.items in
    let e : c.divide.new.activities ≡ map (λ n. n / 2 ^ 30) a = c.divide.ensures ∙ ap (map (λ n. n / 2 ^ 30)) c.as_mut_slice.ensures.value in
    let el : length c.divide.new.activities ≡ c.self.inside.activities.len = omega (arith, ap (length {A = ℕ}) e, length-map a (λ (n : ℕ). n / 2 ^ 30), c.self.inside.activities.ok.0) in
    rw (take_at c.divide.new.activities) (subst (λ (xs : List ℕ). All (λ n. n ≤ 2 ^ 30) xs) (sym e) (all_divided a c.self.invariant.bounded))
