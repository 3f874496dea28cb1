-- Reading one field after the other, as a loop does.
use Rattle.std.proofs.Common.{◌≡◌, ℕ, suc, ◌-◌, ◌+◌, ◌≤◌, ◌<◌, List, [], ◌∷◌, ◌++◌, Ok, Err, refl, sym, ap, ◌∙◌, append_assoc, arith}
use Rattle.std.specs.Prelude.{map, ℤ, Result}
use Rattle.std.proofs.lemmas.List.{append-nil, map_push}
use Rattle.std.proofs.lemmas.List.Sums.{fold_push}
use Rattle.asp_model.specs.Sets.{Atoms, with_atom, with_atoms}
use Rattle.asp_read.specs.declared.error.FaultAt.{FaultAt}
use Rattle.asp_read.specs.declared.error.LineError.{LineError}
use Rattle.asp_read.specs.declared.error.LineError.TheVariants as errors
use Rattle.asp_read.specs.Gives.{Fails}
use Rattle.asp_read.specs.Fields.{◌>>=◌, Reads, many_at, any_literal_at, passed_at}

-- what was read before, and what is still read
abbrev pub with_front : {A : Type 0} → List A → Reads (List A) → Reads (List A)
with_front front read = read >>= λ x. Ok (front ++ x.0, x.1)

module _ {A : Type 0} (atom : A → ℕ) (one : Atoms → List ℕ → Reads A) where
  regroup : (front : List A) (a : A) (read : Reads (List A)) → with_front front (read >>= λ x. Ok (a ∷ x.0, x.1)) ≡ with_front (front ++ a ∷ []) read
  regroup front a (Ok x) = ap (λ (xs : List A). Ok (xs, x.1)) (simp append_assoc)
  regroup front a (Err f) = refl

  pub goes_on : (front : List A) (count i : ℕ) (known : Atoms) (line : List ℕ) (a : A) (after : List ℕ) (total : Reads (List A)) → i < count → one known line ≡ Ok (a, after)
      → with_front front (many_at atom one (count - i) known line) ≡ total → with_front (front ++ a ∷ []) (many_at atom one (count - (i + 1)) (with_atom (atom a) known) after) ≡ total
  unfolding many_at
  goes_on front count i known line a after total lt h so_far =
      let k : count - i ≡ suc (count - (i + 1)) = omega arith in
      let step : with_front front (many_at atom one (count - i) known line) ≡ with_front (front ++ a ∷ [])
      (many_at atom one (count - (i + 1)) (with_atom (atom a) known) after) =
      rw (k, h) (regroup front a (many_at atom one (count - (i + 1)) (with_atom (atom a) known) after)) in
      sym step ∙ so_far

  pub ends : (e : LineError) (front : List A) (count i : ℕ) (known : Atoms) (line : List ℕ) (total : Reads (List A)) → i < count → Fails e (one known line)
      → with_front front (many_at atom one (count - i) known line) ≡ total → Fails e total
  unfolding many_at
  ends errors.Memory front count i known line total lt h so_far = tt
  ends (errors.Fault b) front count i known line total lt h so_far =
      let k : count - i ≡ suc (count - (i + 1)) = omega arith in
      let step : with_front front (many_at atom one (count - i) known line) ≡ Err b = rw (k, h) refl in
      sym so_far ∙ step

  pub is_done : (front : List A) (count i : ℕ) (known : Atoms) (line : List ℕ) (total : Reads (List A)) → count ≤ i →
      with_front front (many_at atom one (count - i) known line) ≡ total → total ≡ Ok (front, line)
  unfolding many_at
  is_done front count i known line total le so_far =
      let k : count - i ≡ 0 = omega arith in
      let step : with_front front (many_at atom one (count - i) known line) ≡ Ok (front, line) = rw k (ap (λ (xs : List A). Ok (xs, line)) (append-nil front)) in
      sym so_far ∙ step

  -- the atoms of one more
  pub known_more : (S now next : Atoms) (items more : List A) (a : A) → now ≡ with_atoms S (map atom items) → next ≡ with_atom (atom a) now →
      more ≡ items ++ a ∷ [] → next ≡ with_atoms S (map atom more)
  known_more S now next items more a so_far e more-is = rw (e, so_far, more-is, map_push) (sym (fold_push (λ T b. with_atom b T) S (map atom items) (atom a)))

-- ---- passing literals

pub passes_on : (count i : ℕ) (line : List ℕ) (literal : ℤ) (after : List ℕ) (total : Result (List ℕ) FaultAt) → i < count →
    any_literal_at line ≡ Ok (literal, after) → passed_at (count - i) line ≡ total
    → passed_at (count - (i + 1)) after ≡ total
unfolding passed_at
passes_on count i line literal after total lt h so_far =
    let k : count - i ≡ suc (count - (i + 1)) = omega arith in
    let step : passed_at (count - i) line ≡ passed_at (count - (i + 1)) after = rw (k, h) refl in
    sym step ∙ so_far

pub pass_ends : (e : LineError) (count i : ℕ) (line : List ℕ) (total : Result (List ℕ) FaultAt) → i < count → Fails e (any_literal_at line) → passed_at (count - i) line ≡ total → Fails e total
unfolding passed_at
pass_ends errors.Memory count i line total lt h so_far = tt
pass_ends (errors.Fault b) count i line total lt h so_far =
    let k : count - i ≡ suc (count - (i + 1)) = omega arith in
    let step : passed_at (count - i) line ≡ Err b = rw (k, h) refl in
    sym so_far ∙ step

pub pass_done : (count i : ℕ) (line : List ℕ) (total : Result (List ℕ) FaultAt) → count ≤ i → passed_at (count - i) line ≡ total → total ≡ Ok line
unfolding passed_at
pass_done count i line total le so_far =
    let k : count - i ≡ 0 = omega arith in
    let step : passed_at (count - i) line ≡ Ok line = rw k refl in
    sym so_far ∙ step
