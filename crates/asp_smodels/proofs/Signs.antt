-- Literals of which the first are negated, read one after another as a loop does.
use Rattle.std.proofs.Common.{◌≡◌, ℕ, zero, suc, ◌+◌, ◌-◌, ◌≤◌, ◌<◌, Bool, true, false, List, [], ◌∷◌, ◌++◌, Ok, Err, refl, sym, ap, ◌∙◌, append_assoc, arith}
use Rattle.std.specs.Prelude.{ℤ, map, nat_lt}
use Rattle.std.proofs.lemmas.List.{append-nil}
use Rattle.std.proofs.lemmas.Bool.Decides.{nat_tests}
use Rattle.asp_model.specs.Sets.{Atoms, with_atom, with_atoms}
use Rattle.asp_model.specs.Holding.{atom_of}
use Rattle.asp_read.specs.declared.error.FaultAt.{FaultAt}
use Rattle.asp_read.specs.declared.error.LineError.{LineError}
use Rattle.asp_read.specs.declared.error.LineError.TheVariants as errors
use Rattle.asp_read.specs.Gives.{Fails}
use Rattle.asp_read.specs.Fields.{◌>>=◌, Reads, atom_at, many_at}
use Rattle.asp_read.proofs.Loop.{with_front}
use Rattle.asp_smodels.specs.Parts.{literal_of, literal_at, signed_at}

-- a literal, and what follows it
abbrev pub before : ℤ → Reads (List ℤ) → Reads (List ℤ)
before l read = read >>= λ x. Ok (l ∷ x.0, x.1)

-- negative literals, and then positive ones
abbrev pub both : List ℤ → Reads (List ℤ) → Reads (List ℤ)
both negative read = read >>= λ x. Ok (negative ++ x.0, x.1)

regroup : (front : List ℤ) (l : ℤ) (read : Reads (List ℤ)) → with_front front (before l read) ≡ with_front (front ++ l ∷ []) read
regroup front l (Ok x) = ap (λ (xs : List ℤ). Ok (xs, x.1)) (simp append_assoc)
regroup front l (Err f) = refl

pub atom_is : (negated : Bool) (a : ℕ) → atom_of (literal_of negated a) ≡ a
atom_is true zero = refl
atom_is true (suc a) = refl
atom_is false a = refl

all_positive : (read : Reads (List ℤ)) (l : ℤ) → both [] (before l read) ≡ before l (both [] read)
all_positive (Ok x) l = refl
all_positive (Err f) l = refl

still_negative : (l : ℤ) (ls : List ℤ) (read : Reads (List ℤ)) → both (l ∷ ls) read ≡ before l (both ls read)
still_negative l ls (Ok x) = refl
still_negative l ls (Err f) = refl

negative_first : (l : ℤ) (others : Atoms → List ℕ → Reads (List ℤ)) (known : Atoms) (read : Reads (List ℤ)) →
    (before l read >>= λ x. both x.0 (others (with_atoms known (map atom_of x.0)) x.1)) ≡ before l
    (read >>= λ x. both x.0 (others (with_atoms (with_atom (atom_of l) known) (map atom_of x.0)) x.1))
negative_first l others known (Ok x) = still_negative l x.0 (others (with_atoms known (map atom_of (l ∷ x.0))) x.1)
negative_first l others known (Err f) = refl

first_positive : (n : ℕ) (known : Atoms) (line : List ℕ) (a : ℕ) (after : List ℕ) → atom_at known line ≡ Ok (a, after) →
    signed_at (suc n) 0 known line ≡ before (literal_of false a) (signed_at n 0 (with_atom a known) after)
unfolding signed_at many_at literal_at
first_positive n known line a after h =
    let all : suc n - 0 ≡ suc n = omega arith in
    let others : n - 0 ≡ n = omega arith in
    rw (all, h, others) (all_positive (many_at atom_of (literal_at false) n (with_atom a known) after) (literal_of false a))

first_negative : (n k : ℕ) (known : Atoms) (line : List ℕ) (a : ℕ) (after : List ℕ) → atom_at known line ≡ Ok (a, after) →
    signed_at (suc n) (suc k) known line ≡ before (literal_of true a) (signed_at n k (with_atom (atom_of (literal_of true a)) known) after)
unfolding signed_at many_at literal_at
first_negative n k known line a after h =
    let fewer : suc n - suc k ≡ n - k = omega arith in
    rw (fewer, h) (negative_first (literal_of true a) (many_at atom_of (literal_at false) (n - k)) known (many_at atom_of (literal_at true) k (with_atom (atom_of (literal_of true a)) known) after))

-- the first of n + 1, of which k are negated
first_of_more : (n k : ℕ) (known : Atoms) (line : List ℕ) (a : ℕ) (after : List ℕ) → atom_at known line ≡ Ok (a, after) →
    signed_at (suc n) k known line ≡ before (literal_of (nat_lt 0 k) a) (signed_at n (k - 1) (with_atom a known) after)
first_of_more n zero known line a after h = first_positive n known line a after h
first_of_more n (suc k) known line a after h =
    let one_less : suc k - 1 ≡ k = omega arith in
    let negated : nat_lt 0 (suc k) ≡ true = grind (arith, nat_tests) in
    let step = first_negative n k known line a after h in
    rw (one_less, negated) (rw (atom_is true a) at step)

no_first : (n k : ℕ) (known : Atoms) (line : List ℕ) (b : FaultAt) → atom_at known line ≡ Err b → signed_at (suc n) k known line ≡ Err b
unfolding signed_at many_at literal_at
no_first n zero known line b h =
    let all : suc n - 0 ≡ suc n = omega arith in
    rw (all, h) refl
no_first n (suc k) known line b h = rw h refl

pub goes_on : (front : List ℤ) (n k i : ℕ) (known : Atoms) (line : List ℕ) (a : ℕ) (after : List ℕ) (total : Reads (List ℤ)) → i < n → atom_at known line ≡ Ok (a, after)
    → with_front front (signed_at (n - i) (k - i) known line) ≡ total → with_front (front ++ literal_of (nat_lt i k) a ∷ []) (signed_at (n - (i + 1)) (k - (i + 1)) (with_atom a known) after) ≡ total
goes_on front n k i known line a after total lt h so_far =
    let more : n - i ≡ suc (n - (i + 1)) = omega arith in
    let fewer : (k - i) - 1 ≡ k - (i + 1) = omega arith in
    let sign : nat_lt 0 (k - i) ≡ nat_lt i k = grind (arith, nat_tests) in
    let first : signed_at (n - i) (k - i) known line ≡ before (literal_of (nat_lt i k) a)
    (signed_at (n - (i + 1)) (k - (i + 1)) (with_atom a known) after) =
    rw (more, ← sign, ← fewer) (first_of_more (n - (i + 1)) (k - i) known line a after h) in
    sym (ap (with_front front) first ∙ regroup front (literal_of (nat_lt i k) a) (signed_at (n - (i + 1)) (k - (i + 1)) (with_atom a known) after)) ∙ so_far

pub ends : (e : LineError) (front : List ℤ) (n k i : ℕ) (known : Atoms) (line : List ℕ) (total : Reads (List ℤ)) → i < n → Fails e (atom_at known line)
    → with_front front (signed_at (n - i) (k - i) known line) ≡ total → Fails e total
ends errors.Memory front n k i known line total lt h so_far = tt
ends (errors.Fault b) front n k i known line total lt h so_far =
    let more : n - i ≡ suc (n - (i + 1)) = omega arith in
    let none : signed_at (n - i) (k - i) known line ≡ Err b = rw more (no_first (n - (i + 1)) (k - i) known line b h) in
    sym so_far ∙ ap (with_front front) none

pub is_done : (front : List ℤ) (n k i : ℕ) (known : Atoms) (line : List ℕ) (total : Reads (List ℤ)) → n ≤ i → k ≤ n →
    with_front front (signed_at (n - i) (k - i) known line) ≡ total → total ≡ Ok (front, line)
unfolding signed_at many_at
is_done front n k i known line total le fits so_far =
    let no_more : n - i ≡ 0 = omega arith in
    let none : k - i ≡ 0 = omega arith in
    let step : with_front front (signed_at (n - i) (k - i) known line) ≡ Ok (front, line) = rw (no_more, none) (ap (λ (xs : List ℤ). Ok (xs, line)) (append-nil front)) in
    sym so_far ∙ step
