-- How many numbers have units out after a lease and a return.
use Rattle.std.proofs.Common.{◌≡◌, ℕ, ◌+◌, ◌<◌, ◌≤◌, Bool, true, false, not, cond, eqb, List, [], ◌∷◌, refl, ap, ◌∙◌, arith}
use Rattle.std.proofs.lemmas.Bool.{ne_eqb}
use Rattle.std.proofs.lemmas.List.Sums.{sum_by-cons}
use Rattle.asp_core.specs.Units.{out_of, leased, returned}
use Rattle.asp_book.specs.Fuels.{lessees}

lessees-cons : (x : ℕ × ℕ) (out : List (ℕ × ℕ)) → lessees (x ∷ out) ≡ cond (not (eqb x.1 0)) 1 0 + lessees out
lessees-cons x out = sum_by-cons (λ (y : ℕ × ℕ). cond (not (eqb y.1 0)) 1 0) x out

some-is : (n : ℕ) → 0 < n → (let k : ℕ = cond (not (eqb n 0)) 1 0 in k ≡ 1)
some-is n some = ap (λ b. let k : ℕ = cond (not b) 1 0 in k) (ne_eqb n 0 (λ e. omega (arith, e, some)))

none-or : (n : ℕ) → cond (not (eqb n 0)) 1 0 + cond (eqb n 0) 1 0 ≡ 1
none-or n = here (eqb n 0)
  where
    here : (b : Bool) → cond (not b) 1 0 + cond b 1 0 ≡ 1
    here true = refl
    here false = refl

pub lessees-leased : (out : List (ℕ × ℕ)) (s n : ℕ) → 0 < n → lessees (leased s n out) ≡ lessees out + cond (eqb (out_of out s) 0) 1 0
lessees-leased [] s n some = omega (arith, lessees-cons (s, n) [], some-is n some)
lessees-leased (x ∷ out) s n some = here (eqb x.0 s) (lessees-leased out s n some)
  where
    here : (b : Bool) → lessees (leased s n out) ≡ lessees out + cond (eqb (out_of out s) 0) 1 0
        → lessees (cond b ((x.0, x.1 + n) ∷ out) (x ∷ leased s n out)) ≡ lessees (x ∷ out) + cond (eqb (cond b x.1 (out_of out s)) 0) 1 0
    here true rest = omega (arith, lessees-cons (x.0, x.1 + n) out, lessees-cons x out, some-is (x.1 + n) (omega (arith, some)), none-or x.1)
    here false rest = omega (arith, lessees-cons x (leased s n out), lessees-cons x out, rest)

pub lessees-returned : (out : List (ℕ × ℕ)) (s : ℕ) → lessees (returned s out) + cond (not (eqb (out_of out s) 0)) 1 0 ≡ lessees out
lessees-returned [] s = refl
lessees-returned (x ∷ out) s = here (eqb x.0 s) (lessees-returned out s)
  where
    here : (b : Bool) → lessees (returned s out) + cond (not (eqb (out_of out s) 0)) 1 0 ≡ lessees out
        → lessees (cond b ((x.0, 0) ∷ out) (x ∷ returned s out)) + cond (not (eqb (cond b x.1 (out_of out s)) 0)) 1 0 ≡ lessees (x ∷ out)
    here true rest = omega (arith, lessees-cons (x.0, 0) out, lessees-cons x out)
    here false rest = omega (arith, lessees-cons x (returned s out), lessees-cons x out, rest)

pub one-at-most : (b : Bool) → cond b 1 0 ≤ 1
one-at-most true = omega arith
one-at-most false = omega arith

-- a number with units gives them back
pub lessees-less : (out : List (ℕ × ℕ)) (s n : ℕ) → n ≡ out_of out s → (n ≡ 0 → ⊥) → lessees (returned s out) + 1 ≡ lessees out
lessees-less out s n is some = omega (arith, lessees-returned out s, ap (λ b. let k : ℕ = cond (not b) 1 0 in k) (ne_eqb (out_of out s) 0 (λ e. some (is ∙ e))))
