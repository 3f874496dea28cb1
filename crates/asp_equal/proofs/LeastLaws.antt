-- The least number below a bound that a function takes somewhere.
use Rattle.std.proofs.Common.{◌≡◌, ℕ, zero, suc, ◌<◌, ◌≤◌, Bool, true, false, cond, eqb, refl, ap, ◌∙◌, arith, inl, inr}
use Rattle.std.proofs.lemmas.Bool.{both_ways, cases_lt, eq-eqb, eqb-true}
use Rattle.asp_equal.specs.Copies.{least}

below_step : (f : ℕ → ℕ) (r k d : ℕ) (c : Bool) → ((e : ℕ) → k ≤ e → least f r k e ≤ e) → suc k ≤ d → least f r k (cond c k d) ≤ d
below_step f r k d true before h = omega (arith, before k (omega arith))
below_step f r k d false before h = before d (omega arith)

pub least-below : (f : ℕ → ℕ) (r n d : ℕ) → n ≤ d → least f r n d ≤ d
least-below f r zero d h = omega arith
least-below f r (suc k) d h = below_step f r k d (eqb (f k) r) (least-below f r k) h

found_step : (f : ℕ → ℕ) (r k d a : ℕ) (c : Bool) → ((e : ℕ) → a < k → least f r k e ≤ a) → a < suc k → f a ≡ r → eqb (f k) r ≡ c → least f r k (cond c k d) ≤ a
found_step f r k d a true before lt e t = elim (cases_lt a k) [ inl low ↦ before k low | inr high ↦ omega (arith, least-below f r k k (omega arith)) ]
found_step f r k d a false before lt e t = elim (cases_lt a k) [
  | inl low ↦ before d low
  | inr high ↦ let same : k ≡ a = omega arith in absurd (both_ways (eqb (f k) r) t (eq-eqb (f k) r (ap f same ∙ e)))
]

pub least-found : (f : ℕ → ℕ) (r n d a : ℕ) → a < n → f a ≡ r → least f r n d ≤ a
least-found f r zero d a lt e = absurd (omega arith)
least-found f r (suc k) d a lt e = found_step f r k d a (eqb (f k) r) (λ x low. least-found f r k x a low e) lt e refl

takes_step : (f : ℕ → ℕ) (r k d : ℕ) (c : Bool) → ((e : ℕ) → f e ≡ r → f (least f r k e) ≡ r) → f d ≡ r → eqb (f k) r ≡ c → f (least f r k (cond c k d)) ≡ r
takes_step f r k d true before h e = before k (eqb-true (f k) r e)
takes_step f r k d false before h e = before d h

pub least-takes : (f : ℕ → ℕ) (r n d : ℕ) → f d ≡ r → f (least f r n d) ≡ r
least-takes f r zero d h = h
least-takes f r (suc k) d h = takes_step f r k d (eqb (f k) r) (least-takes f r k) h refl

again_step : (f : ℕ → ℕ) (r k d : ℕ) (c : Bool) → least f r k (least f r k d) ≡ least f r k d → least f r k (cond c k (least f r k (cond c k d))) ≡ least f r k (cond c k d)
again_step f r k d true before = refl
again_step f r k d false before = before

pub least-again : (f : ℕ → ℕ) (r n d : ℕ) → least f r n (least f r n d) ≡ least f r n d
least-again f r zero d = refl
least-again f r (suc k) d = again_step f r k d (eqb (f k) r) (least-again f r k d)
