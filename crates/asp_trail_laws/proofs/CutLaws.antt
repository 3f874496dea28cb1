-- A cut leaves the front of the entries, those whose levels are small enough.
use Rattle.std.proofs.Common.{◌≡◌, ℕ, suc, zero, ◌<◌, ◌≤◌, Bool, true, false, cond, leb, List, [], ◌∷◌, length, get_or, take, refl, sym, ap, ◌∙◌, arith}
use Rattle.std.specs.List.{All, AllPairs}
use Rattle.std.proofs.lemmas.Bool.Decides.{nat_tests}
use Rattle.asp_trail.specs.declared.trail.Entry.{Entry}
use Rattle.asp_trail.specs.Entries.{cut}

pub record IsFront (l k : ℕ) (es : List Entry) : Type 0 where
  pub is : cut l es ≡ take k es
  pub fits : k ≤ length es
  pub low : (i : ℕ) (d : Entry) → i < length es → (get_or es i d).level ≤ l → i < k
  pub high : (i : ℕ) (d : Entry) → i < k → (get_or es i d).level ≤ l

pub front : (l : ℕ) (es : List Entry) → AllPairs (λ e f. e.level ≤ f.level) es → (k : ℕ) × IsFront l k es
front l [] r = (0, record { is = refl; fits = omega arith; low = λ i d h m. absurd (omega arith); high = λ i d h. absurd (omega arith) })
front l (e ∷ es) r = cases (leb e.level l) refl (front l es (λ i j d a b. r (suc i) (suc j) d (omega arith) (omega arith)))
  where
    none : (fs : List Entry) → All (λ f. e.level ≤ f.level) fs → leb e.level l ≡ false → cut l fs ≡ []
    none [] a q = refl
    none (f ∷ fs) a q =
        let above : e.level ≤ f.level = a 0 f (omega arith) in
        let no : leb f.level l ≡ false = grind (arith, nat_tests) in
        ap (λ b. cond b (f ∷ cut l fs) (cut l fs)) no ∙ none fs (λ i d h. a (suc i) d (omega arith)) q

    cases : (b : Bool) → b ≡ leb e.level l → (k : ℕ) × IsFront l k es → (k : ℕ) × IsFront l k (e ∷ es)
    cases true q f =
        let small : e.level ≤ l = grind (arith, nat_tests) in (
          suc f.0,
          record {
            is = ap (λ b. cond b (e ∷ cut l es) (cut l es)) (sym q) ∙ ap (λ fs. e ∷ fs) f.1.is;
            fits = omega (arith, f.1.fits);
            low = λ i d h m. below i d h m;
            high = λ i d h. upto i d h small;
          },
        )
      where
        below : (i : ℕ) (d : Entry) → i < length (e ∷ es) → (get_or (e ∷ es) i d).level ≤ l → i < suc f.0
        below zero d h m = omega arith
        below (suc i) d h m = omega (arith, f.1.low i d (omega arith) m)

        upto : (i : ℕ) (d : Entry) → i < suc f.0 → e.level ≤ l → (get_or (e ∷ es) i d).level ≤ l
        upto zero d h s = s
        upto (suc i) d h s = f.1.high i d (omega arith)
    cases false q f = (
      0,
      record {
        is = ap (λ b. cond b (e ∷ cut l es) (cut l es)) (sym q) ∙ none es (λ i d h. r 0 (suc i) d (omega arith) (omega arith)) (sym q);
        fits = omega arith;
        low = λ i d h m. absurd (over i d h m);
        high = λ i d h. absurd (omega arith);
      },
    )
      where
        over : (i : ℕ) (d : Entry) → i < length (e ∷ es) → (get_or (e ∷ es) i d).level ≤ l → ⊥
        over zero d h m = let big : l < e.level = grind (arith, nat_tests) in omega arith
        over (suc i) d h m = let big : l < e.level = grind (arith, nat_tests) in omega (arith, r 0 (suc i) d (omega arith) (omega arith))
