-- Ranks in a binary heap, where an item rises or sinks.
use Rattle.std.proofs.Common.{◌≡◌, ◌≢◌, ℕ, suc, zero, ◌<◌, ◌≤◌, Bool, true, false, eqb, refl, sym, ap, arith}
use Rattle.std.proofs.lemmas.Bool.{eqb-true}
use Rattle.std.proofs.lemmas.Bool.Decides.{nat_tests}
use Rattle.asp_order.specs.Sifting.{parent, IsHeap, MayRise, MaySink}

-- r is s with the ranks of two places exchanged
pub record Exchanged (r s : ℕ → ℕ) (i j : ℕ) : Type 0 where
  pub here : s i ≡ r j
  pub there : s j ≡ r i
  pub others : (k : ℕ) → k ≢ i → k ≢ j → s k ≡ r k

pub rise_up : (r s : ℕ → ℕ) (n at : ℕ) → 0 < at → at < n → Exchanged r s at (parent at) → r (parent at) < r at → MayRise r n at → MayRise s n (parent at)
rise_up r s n at pos lt x more m = record {
  others = λ k p h ne. other k p h ne (eqb k at) refl (eqb (parent k) at) refl (eqb (parent k) (parent at)) refl;
  around = λ k p h q up. near k p h q up (eqb k at) refl;
}
  where
    other : (k : ℕ) → 0 < k → k < n → k ≢ parent at → (a : Bool) → a ≡ eqb k at → (b : Bool) → b ≡ eqb (parent k) at → (c : Bool) → c ≡ eqb (parent k) (parent at) →
        s k ≤ s (parent k)
    other k p h ne true q b qb c qc =
        let e : k ≡ at = eqb-true k at (sym q) in
        omega (arith, x.here, x.there, more, ap s e, ap (λ j. s (parent j)) e)
    other k p h ne false q true qb c qc =
        let no : k ≢ at = grind (arith, nat_tests) in
        let e : parent k ≡ at = eqb-true (parent k) at (sym qb) in
        omega (arith, x.others k no ne, m.around k p h e pos, ap s e, x.here)
    other k p h ne false q false qb true qc =
        let no : k ≢ at = grind (arith, nat_tests) in
        let e : parent k ≡ parent at = eqb-true (parent k) (parent at) (sym qc) in
        omega (arith, x.others k no ne, m.others k p h no, ap s e, ap r e, x.there, more)
    other k p h ne false q false qb false qc =
        let no : k ≢ at = grind (arith, nat_tests) in
        let np : parent k ≢ at = grind (arith, nat_tests) in
        let nq : parent k ≢ parent at = grind (arith, nat_tests) in
        omega (arith, x.others k no ne, m.others k p h no, x.others (parent k) np nq)

    up_ne : 0 < parent at → (parent (parent at) ≢ at) × (parent (parent at) ≢ parent at)
    up_ne up = (omega arith, omega arith)

    near : (k : ℕ) → 0 < k → k < n → parent k ≡ parent at → 0 < parent at → (a : Bool) → a ≡ eqb k at → s k ≤ s (parent (parent at))
    near k p h q up true t =
        let e : k ≡ at = eqb-true k at (sym t) in
        let f = up_ne up in
        omega (arith, ap s e, x.here, x.others (parent (parent at)) f.0 f.1, m.others (parent at) up (omega arith) (omega arith))
    near k p h q up false t =
        let no : k ≢ at = grind (arith, nat_tests) in
        let f = up_ne up in
        let nk : k ≢ parent at = omega arith in
        omega (arith, x.others k no nk, m.others k p h no, ap r q, x.others (parent (parent at)) f.0 f.1, m.others (parent at) up (omega arith) (omega arith))

pub sink_down : (r s : ℕ → ℕ) (n at child : ℕ) → 0 < child → child < n → parent child ≡ at → Exchanged r s at child → r at < r child →
    ((k : ℕ) → 0 < k → k < n → parent k ≡ at → r k ≤ r child) → MaySink r n at → MaySink s n child
sink_down r s n at child pos lt up x more first m = record {
  others = λ k p h ne. other k p h ne (eqb k child) refl (eqb k at) refl (eqb (parent k) at) refl;
  around = λ k p h q z. near k p h q;
}
  where
    other : (k : ℕ) → 0 < k → k < n → parent k ≢ child → (a : Bool) → a ≡ eqb k child → (b : Bool) → b ≡ eqb k at → (c : Bool) → c ≡ eqb (parent k) at → s k ≤ s (parent k)
    other k p h ne true q b qb c qc =
        let e : k ≡ child = eqb-true k child (sym q) in
        omega (arith, x.here, x.there, more, ap s e, ap (λ j. s (parent j)) e, ap s up)
    other k p h ne false q true qb c qc =
        let e : k ≡ at = eqb-true k at (sym qb) in
        let pk : 0 < at = omega arith in
        let na : parent k ≢ at = omega arith in
        omega (arith, ap s e, x.here, x.others (parent k) na ne, ap (λ j. r (parent j)) e, m.around child pos lt up pk)
    other k p h ne false q false qb true qc =
        let nc : k ≢ child = grind (arith, nat_tests) in
        let na : k ≢ at = grind (arith, nat_tests) in
        let e : parent k ≡ at = eqb-true (parent k) at (sym qc) in
        omega (arith, x.others k na nc, ap s e, x.here, first k p h e)
    other k p h ne false q false qb false qc =
        let nc : k ≢ child = grind (arith, nat_tests) in
        let na : k ≢ at = grind (arith, nat_tests) in
        let np : parent k ≢ at = grind (arith, nat_tests) in
        omega (arith, x.others k na nc, x.others (parent k) np ne, m.others k p h np)

    near : (k : ℕ) → 0 < k → k < n → parent k ≡ child → s k ≤ s (parent child)
    near k p h q =
        let na : k ≢ at = omega arith in
        let nc : k ≢ child = omega arith in
        let np : parent k ≢ at = omega arith in
        omega (arith, x.others k na nc, ap s up, x.here, m.others k p h np, ap r q)

-- No place has a greater rank than the first.
pub first_best : (r : ℕ → ℕ) (n : ℕ) → IsHeap r n → (k : ℕ) → k < n → r k ≤ r 0
first_best r n h k l = go (suc k) k (omega arith) l
  where
    go : (fuel k : ℕ) → k < fuel → k < n → r k ≤ r 0
    go zero k f l = absurd (omega arith)
    go (suc fuel) k f l = cases (eqb k 0) refl (go fuel (parent k))
      where
        cases : (b : Bool) → b ≡ eqb k 0 → (parent k < fuel → parent k < n → r (parent k) ≤ r 0) → r k ≤ r 0
        cases true q rest = let e : k ≡ 0 = eqb-true k 0 (sym q) in omega (arith, ap r e)
        cases false q rest =
            let ne : k ≢ 0 = grind (arith, nat_tests) in
            omega (arith, h k (omega arith) l, rest (omega arith) (omega arith))
