-- Units that are out, added up.
use Rattle.std.proofs.Common.{◌≡◌, ℕ, zero, suc, ◌+◌, ◌<◌, ◌≤◌, Bool, true, false, cond, eqb, List, [], ◌∷◌, length, get_or, map, refl, sym, ap, ◌∙◌, subst, arith}
use Rattle.std.specs.List.{AllByRecursion, IsDistinct}
use Rattle.std.proofs.lemmas.Bool.{ne_eqb, eq-eqb, eqb-true}
use Rattle.std.proofs.lemmas.Bool.Decides.{nat_tests}
use Rattle.std.proofs.lemmas.List.Sums.{sum_by-cons}
use Rattle.asp_core.specs.Units.{out_of, leased, returned, total_out, IsEntry, HasNoEntry}

total-cons : (x : ℕ × ℕ) (out : List (ℕ × ℕ)) → total_out (x ∷ out) ≡ x.1 + total_out out
total-cons x out = sum_by-cons (λ (y : ℕ × ℕ). y.1) x out

pub total-leased : (s n : ℕ) (out : List (ℕ × ℕ)) → total_out (leased s n out) ≡ total_out out + n
total-leased s n [] = refl
total-leased s n (x ∷ out) = here (eqb x.0 s) (total-leased s n out)
  where
    here : (b : Bool) → total_out (leased s n out) ≡ total_out out + n → total_out (cond b ((x.0, x.1 + n) ∷ out) (x ∷ leased s n out)) ≡ total_out (x ∷ out) + n
    here true rest = omega (arith, total-cons (x.0, x.1 + n) out, total-cons x out)
    here false rest = omega (arith, total-cons x (leased s n out), total-cons x out, rest)

pub total-returned : (s : ℕ) (out : List (ℕ × ℕ)) → total_out (returned s out) + out_of out s ≡ total_out out
total-returned s [] = refl
total-returned s (x ∷ out) = here (eqb x.0 s) (total-returned s out)
  where
    here : (b : Bool) → total_out (returned s out) + out_of out s ≡ total_out out → total_out (cond b ((x.0, 0) ∷ out) (x ∷ returned s out)) + cond b x.1 (out_of out s) ≡ total_out (x ∷ out)
    here true rest = omega (arith, total-cons (x.0, 0) out, total-cons x out)
    here false rest = omega (arith, total-cons x (returned s out), total-cons x out, rest)

-- ---- where an entry stands
pub HasNoEntry-from : (s : ℕ) (out : List (ℕ × ℕ)) → ((k : ℕ) → k < length out → (get_or out k (0, 0)).0 ≡ s → ⊥) → HasNoEntry out s
HasNoEntry-from s [] none = record { units = refl; leases = λ n. refl; returns = refl }
HasNoEntry-from s (x ∷ out) none =
    let rest = HasNoEntry-from s out (λ k lt. none (suc k) (omega (arith, lt))) in
    let other : eqb x.0 s ≡ false = ne_eqb x.0 s (none 0 (omega arith)) in
    record {
      units = ap (λ b. cond b x.1 (out_of out s)) other ∙ rest.units;
      leases = λ n. ap (λ b. cond b ((x.0, x.1 + n) ∷ out) (x ∷ leased s n out)) other ∙ ap (λ (xs : List (ℕ × ℕ)). x ∷ xs) (rest.leases n);
      returns = ap (λ b. cond b ((x.0, 0) ∷ out) (x ∷ returned s out)) other ∙ ap (λ (xs : List (ℕ × ℕ)). x ∷ xs) rest.returns;
    }

pub IsEntry-from : (s : ℕ) (out : List (ℕ × ℕ)) (i : ℕ) → i < length out → ((k : ℕ) → k < i → (get_or out k (0, 0)).0 ≡ s → ⊥) → (get_or out i (0, 0)).0 ≡ s → IsEntry out s i
IsEntry-from s [] i lt none at = absurd (omega (arith, lt))
IsEntry-from s (x ∷ out) zero lt none at =
    let same : eqb x.0 s ≡ true = eq-eqb x.0 s at in
    record {
      within = lt;
      units = ap (λ b. cond b x.1 (out_of out s)) same;
      leases = λ n. ap (λ b. cond b ((x.0, x.1 + n) ∷ out) (x ∷ leased s n out)) same;
      returns = ap (λ b. cond b ((x.0, 0) ∷ out) (x ∷ returned s out)) same;
    }
IsEntry-from s (x ∷ out) (suc i) lt none at =
    let rest = IsEntry-from s out i (omega (arith, lt)) (λ k l. none (suc k) (omega (arith, l))) at in
    let other : eqb x.0 s ≡ false = ne_eqb x.0 s (none 0 (omega arith)) in
    record {
      within = lt;
      units = ap (λ b. cond b x.1 (out_of out s)) other ∙ rest.units;
      leases = λ n. ap (λ b. cond b ((x.0, x.1 + n) ∷ out) (x ∷ leased s n out)) other ∙ ap (λ (xs : List (ℕ × ℕ)). x ∷ xs) (rest.leases n);
      returns = ap (λ b. cond b ((x.0, 0) ∷ out) (x ∷ returned s out)) other ∙ ap (λ (xs : List (ℕ × ℕ)). x ∷ xs) rest.returns;
    }

pub out_of-le-total : (s : ℕ) (out : List (ℕ × ℕ)) → out_of out s ≤ total_out out
out_of-le-total s out = omega (arith, total-returned s out)

-- ---- one entry for each number
eqb_turned : (a b : ℕ) → eqb a b ≡ false → eqb b a ≡ false
eqb_turned a b h = grind (arith, nat_tests)

abbrev pub numbers_of : List (ℕ × ℕ) → List ℕ
numbers_of out = map (λ x. x.0) out

none-leased : (k s n : ℕ) (out : List (ℕ × ℕ)) → eqb k s ≡ false → AllByRecursion (λ m. eqb k m ≡ false) (numbers_of out) → AllByRecursion (λ m. eqb k m ≡ false) (numbers_of (leased s n out))
none-leased k s n [] apart h = (apart, tt)
none-leased k s n (x ∷ out) apart h = here (eqb x.0 s) (none-leased k s n out apart h.1)
  where
    here : (b : Bool) → AllByRecursion (λ m. eqb k m ≡ false) (numbers_of (leased s n out)) → AllByRecursion (λ m. eqb k m ≡ false) (numbers_of (cond b ((x.0, x.1 + n) ∷ out) (x ∷ leased s n out)))
    here true rest = h
    here false rest = (h.0, rest)

pub single-none : IsDistinct eqb (numbers_of [])
unfolding IsDistinct
single-none = tt

pub single-leased : (s n : ℕ) (out : List (ℕ × ℕ)) → IsDistinct eqb (numbers_of out) → IsDistinct eqb (numbers_of (leased s n out))
unfolding IsDistinct
single-leased s n [] h = (tt, tt)
single-leased s n (x ∷ out) h = here (eqb x.0 s) refl (single-leased s n out h.1)
  where
    here : (b : Bool) → b ≡ eqb x.0 s → IsDistinct eqb (numbers_of (leased s n out)) → IsDistinct eqb (numbers_of (cond b ((x.0, x.1 + n) ∷ out) (x ∷ leased s n out)))
    here true q rest = h
    here false q rest = (none-leased x.0 s n out (sym q) h.0, rest)

numbers-returned : (s : ℕ) (out : List (ℕ × ℕ)) → numbers_of (returned s out) ≡ numbers_of out
numbers-returned s [] = refl
numbers-returned s (x ∷ out) = here (eqb x.0 s) (numbers-returned s out)
  where
    here : (b : Bool) → numbers_of (returned s out) ≡ numbers_of out → numbers_of (cond b ((x.0, 0) ∷ out) (x ∷ returned s out)) ≡ numbers_of (x ∷ out)
    here true rest = refl
    here false rest = ap (λ (l : List ℕ). x.0 ∷ l) rest

pub single-returned : (s : ℕ) (out : List (ℕ × ℕ)) → IsDistinct eqb (numbers_of out) → IsDistinct eqb (numbers_of (returned s out))
single-returned s out h = subst (λ (l : List ℕ). IsDistinct eqb l) (sym (numbers-returned s out)) h

out_of-absent : (k : ℕ) (out : List (ℕ × ℕ)) → AllByRecursion (λ m. eqb k m ≡ false) (numbers_of out) → out_of out k ≡ 0
out_of-absent k [] h = refl
out_of-absent k (x ∷ out) h = ap (λ b. let n : ℕ = cond b x.1 (out_of out k) in n) (eqb_turned k x.0 h.0) ∙ out_of-absent k out h.1

-- where no number has units out, none are out
pub total-home : (out : List (ℕ × ℕ)) → IsDistinct eqb (numbers_of out) → ((s : ℕ) → out_of out s ≡ 0) → total_out out ≡ 0
unfolding IsDistinct
total-home [] single none = refl
total-home (x ∷ out) single none =
    let first : x.1 ≡ 0 = sym (ap (λ b. let n : ℕ = cond b x.1 (out_of out x.0) in n) (eq-eqb x.0 x.0 refl)) ∙ none x.0 in
    omega (arith, total-cons x out, first, total-home out single.1 (λ s. here s (eqb x.0 s) refl))
  where
    here : (s : ℕ) (b : Bool) → b ≡ eqb x.0 s → out_of out s ≡ 0
    here s true q = ap (λ k. out_of out k) (sym (eqb-true x.0 s (sym q))) ∙ out_of-absent x.0 out single.0
    here s false q = ap (λ b. let n : ℕ = cond b x.1 (out_of out s) in n) q ∙ none s
