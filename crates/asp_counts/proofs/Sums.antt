-- Sums of counts, one entry more.
use Rattle.std.proofs.Common.{◌≡◌, ◌∙◌, ℕ, ◌+◌, ◌<◌, inl, inr, List, [], ◌∷◌, ◌++◌, length, take, get_or, refl, ap, sym, arith, length-append}
use Rattle.std.specs.List.{sum_by, range_with_len}
use Rattle.std.proofs.lemmas.List.Sums.{sum_by_more, sum_by-append}
use Rattle.std.proofs.lemmas.List.{map-id, map-append}
use Rattle.std.proofs.lemmas.List.FromFn.{map-range_with_len_more}
use Rattle.std.proofs.Math.ListN.{get_or-append}
use Rattle.std.proofs.Math.Nat.{eq-or-lt_of_le}
use Rattle.std.proofs.Math.Seq.{get_or-append_seam}
use Rattle.asp_counts.specs.declared.counts.Counts.{Counts}
use Rattle.asp_counts.specs.declared.tallies.WorkerCounts.{WorkerCounts}
use Rattle.asp_counts.specs.Counting.{capped, joined, nothing, together}
use Rattle.asp_counts.specs.Telling.{AreNumbered, IsSumWith}

capped_twice : (s m n : ℕ) → s ≡ m + n → capped s ≡ capped (capped m + n)
capped_twice s m n e = omega arith

module _ {X : Type 0} (f : X → Counts) where
  -- the sum of more entries, of which one was added
  joins_one : (more xs : List X) (x : X) → ((g : X → ℕ) → sum_by g more ≡ sum_by g xs + g x) → together f more ≡ joined (together f xs) (f x)
  joins_one more xs x e =
      let of : (g : Counts → ℕ) → capped (sum_by (λ y. g (f y)) more) ≡ capped (capped (sum_by (λ y. g (f y)) xs) + g (f x))
      = λ g. capped_twice _ _ _ (e (λ y. g (f y))) in
      rw (of (λ c. c.conflicts), of (λ c. c.decisions), of (λ c. c.propagated), of (λ c. c.restarts), of (λ c. c.answers), of (λ c. c.kept), of (λ c. c.dropped)) refl

  pub together_more : (xs : List X) (i : ℕ) (d : X) → i < length xs → together f (take (i + 1) xs) ≡ joined (together f (take i xs)) (f (get_or xs i d))
  together_more xs i d low = joins_one (take (i + 1) xs) (take i xs) (get_or xs i d) (λ g. sum_by_more g xs i d low)

  pub together_append : (xs : List X) (x : X) → together f (xs ++ x ∷ []) ≡ joined (together f xs) (f x)
  together_append xs x = joins_one (xs ++ x ∷ []) xs x (λ g. omega (arith, sum_by-append g xs (x ∷ [])))

-- one entry more, which is the known one at its place
pub sum_with_more : (n place : ℕ) (own sum c : Counts) → IsSumWith n place own sum → (n ≡ place → c ≡ own) → IsSumWith (n + 1) place own (joined sum c)
sum_with_more n place own sum c h at = record {
  all = h.all ++ c ∷ [];
  count = length-append h.all (c ∷ []) ∙ ap (λ k. k + 1) h.count;
  own_is = λ low. elim (eq-or-lt_of_le {n = place} {m = n} (omega arith)) [
    | inl here ↦ ap (λ k. get_or (h.all ++ c ∷ []) k nothing) (here ∙ sym h.count) ∙ get_or-append_seam h.all c [] nothing ∙ at (sym here)
    | inr below ↦ get_or-append h.all (c ∷ []) nothing place (omega (arith, h.count)) ∙ h.own_is below
  ];
  sum_is = ap (λ s. joined s c) h.sum_is ∙ sym (together_append (λ d. d) h.all c);
}

-- one worker more
pub numbered_more : (n : ℕ) (ws : List WorkerCounts) (w : WorkerCounts) → AreNumbered n ws → w.worker ≡ n + 1 → AreNumbered (n + 1) (ws ++ w ∷ [])
numbered_more n ws w are is =
    map-append (λ (v : WorkerCounts). v.worker) ws (w ∷ []) ∙ ap (λ ks. ks ++ w.worker ∷ []) are ∙ ap (λ k. range_with_len 1 n ++ k ∷ []) is
    ∙ sym (
    sym (map-id (range_with_len 1 (n + 1))) ∙ map-range_with_len_more (λ (k : ℕ). k) 1 n (n + 1) (omega arith)
    ∙ ap (λ ks. ks ++ (n + 1) ∷ []) (map-id (range_with_len 1 n)))
