-- Atoms that are looked for from a place on.
use Rattle.std.proofs.Common.{◌≡◌, ℕ, zero, suc, ◌+◌, ◌-◌, ◌<◌, ◌≤◌, nat_lt, Bool, true, false, [], ◌∷◌, length, get_or, refl, arith}
use Rattle.std.proofs.lemmas.Bool.Decides.{nat_tests}
use Rattle.asp_model.specs.Sets.{Atoms, IsAscending, has}
use Rattle.asp_model.proofs.SetLaws.{get_or-below, get_or-ascending, absent_between}
use Rattle.asp_rows.specs.Places.{IsBehind}

lower : (x a : ℕ) → nat_lt x a ≡ true → x < a
lower x a e = grind (arith, nat_tests)

pub behind_last : (S : Atoms) (place a : ℕ) → IsAscending S → 0 < place → place ≤ length S → nat_lt (get_or S (place - 1) 0) a ≡ true → IsBehind S place a
behind_last S place a up some small test =
    let below = lower (get_or S (place - 1) 0) a test in
    (small, λ k lt. let rises = get_or-ascending S k (place - 1) up (omega (arith, lt)) (omega (arith, some, small)) in omega (arith, rises, below))

-- ---- each atom is above those before it
rises : (S : Atoms) (k i : ℕ) → IsAscending S → k < i → i < length S → get_or S k 0 < get_or S i 0
rises [] k i up less lt = absurd (omega arith)
rises (b ∷ S) k zero up less lt = absurd (omega arith)
rises (b ∷ S) zero (suc i) up less lt = get_or-below b S i up.0 (omega arith)
rises (b ∷ S) (suc k) (suc i) up less lt = rises S k i up.1 (omega arith) (omega arith)

pub behind_found : (S : Atoms) (place a : ℕ) → IsAscending S → place < length S → get_or S place 0 ≡ a → IsBehind S place a
behind_found S place a up lt is = (omega (arith, lt), λ k less. let below = rises S k place up less lt in omega (arith, below, is))

-- ---- one walk through a set and some atoms
less_is : (m n : ℕ) → true ≡ nat_lt m n → m < n
less_is m n e = grind (arith, nat_tests)

not_less_is : (m n : ℕ) → false ≡ nat_lt m n → n ≤ m
not_less_is m n e = grind (arith, nat_tests)

-- an atom that isn't above the last one is behind fewer than all
pub stands : (atoms : Atoms) (at s : ℕ) → 0 < length atoms → IsBehind atoms at s → s ≤ get_or atoms (length atoms - 1) 0 → at < length atoms
stands atoms at s some behind le = cases (nat_lt at (length atoms)) refl
  where
    cases : (t : Bool) → t ≡ nat_lt at (length atoms) → at < length atoms
    cases true q = less_is at (length atoms) q
    cases false q =
        let end = not_less_is at (length atoms) q in
        let low = behind.1 (length atoms - 1) (omega (arith, end, some)) in
        absurd (omega (arith, low, le))

pub onward : (atoms : Atoms) (from at s : ℕ) → s ≤ get_or atoms at 0 → ((k : ℕ) → k < from → get_or atoms k 0 < s) → from ≤ at
onward atoms from at s here low = cases (nat_lt at from) refl
  where
    cases : (t : Bool) → t ≡ nat_lt at from → from ≤ at
    cases true q = let below = low at (less_is at from q) in absurd (omega (arith, below, here))
    cases false q = not_less_is at from q

-- between an atom that the set's next one isn't below and that one, none is in the set
pub passed : (S atoms : Atoms) (from next to : ℕ) → IsAscending S → IsAscending atoms → (from < length atoms → (j : ℕ) → j < next → get_or S j 0 < get_or atoms from 0) → to ≤ length atoms
    → (next < length S → (k : ℕ) → k < to → get_or atoms k 0 < get_or S next 0) → (k : ℕ) → from ≤ k → k < to → has S (get_or atoms k 0) ≡ false
passed S atoms from next to up rise high le low k after before =
    let lt : k < length atoms = omega (arith, before, le) in
    let more = get_or-ascending atoms from k rise after lt in
    absent_between S (get_or atoms k 0) next
    (λ j less. let below = high (omega (arith, after, lt)) j less in omega (arith, below, more))
    (λ j after_j lt_j. let up_j = get_or-ascending S next j up after_j lt_j in let above = low (omega (arith, after_j, lt_j)) k before in omega (arith, up_j, above))

pub low_next : (S atoms : Atoms) (from next : ℕ) → IsAscending S → ((k : ℕ) → k < from → get_or atoms k 0 ≤ get_or S next 0) → next + 1 < length S →
    (k : ℕ) → k < from → get_or atoms k 0 < get_or S (next + 1) 0
low_next S atoms from next up low lt k less =
    let more = rises S next (next + 1) up (omega arith) lt in
    let le = low k less in
    omega (arith, more, le)

pub high_next : (S atoms : Atoms) (from next : ℕ) → IsAscending S → next < length S → get_or S next 0 < get_or atoms from 0 → (j : ℕ) → j < next + 1 → get_or S j 0 < get_or atoms from 0
high_next S atoms from next up lt above j less =
    let le = get_or-ascending S j next up (omega (arith, less)) lt in
    omega (arith, le, above)

-- all atoms up to the last one are below what is above it
pub all_below : (atoms : Atoms) (s : ℕ) → IsAscending atoms → get_or atoms (length atoms - 1) 0 < s → (k : ℕ) → k < length atoms → get_or atoms k 0 < s
all_below atoms s rise last k lt =
    let le = get_or-ascending atoms k (length atoms - 1) rise (omega (arith, lt)) (omega (arith, lt)) in
    omega (arith, le, last)

pub up_to : (atoms : Atoms) (at k s : ℕ) → IsAscending atoms → at < length atoms → get_or atoms at 0 ≡ s → k < at + 1 → get_or atoms k 0 ≤ s
up_to atoms at k s rise lt is less =
    let le = get_or-ascending atoms k at rise (omega (arith, less)) lt in
    omega (arith, le, is)

pub next_above : (atoms : Atoms) (at s : ℕ) → IsAscending atoms → at + 1 < length atoms → get_or atoms at 0 ≡ s → s < get_or atoms (at + 1) 0
next_above atoms at s rise lt is =
    let more = rises atoms at (at + 1) rise (omega arith) lt in
    omega (arith, more, is)
