-- Weights of literals, read one after another as a loop does.
use Rattle.std.proofs.Common.{◌≡◌, ℕ, ◌+◌, ◌≤◌, ◌<◌, List, [], ◌∷◌, ◌++◌, length, take, drop, get_or, Ok, Err, refl, sym, ap, ◌∙◌, append_assoc}
use Rattle.std.specs.Prelude.{ℤ, map}
use Rattle.std.proofs.lemmas.List.{append-nil, drop_all, drop_more, map_push, map_more}
use Rattle.asp_model.specs.Holding.{atom_of}
use Rattle.asp_read.specs.declared.error.LineError.{LineError}
use Rattle.asp_read.specs.declared.error.LineError.TheVariants as errors
use Rattle.asp_read.specs.Gives.{Fails}
use Rattle.asp_read.specs.Fields.{◌>>=◌, Reads}
use Rattle.asp_read.proofs.Loop.{with_front}
use Rattle.asp_smodels.specs.Parts.{weight_at, weights_at, with_weight_1}

regroup : (front : List (ℤ × ℤ)) (a : ℤ × ℤ) (read : Reads (List (ℤ × ℤ))) → with_front front (read >>= λ x. Ok (a ∷ x.0, x.1)) ≡ with_front (front ++ a ∷ []) read
regroup front a (Ok x) = ap (λ (xs : List (ℤ × ℤ)). Ok (xs, x.1)) (simp append_assoc)
regroup front a (Err f) = refl

pub goes_on : (front : List (ℤ × ℤ)) (ls : List ℤ) (i : ℕ) (d : ℤ) (line : List ℕ) (w : ℤ) (after : List ℕ) (total : Reads (List (ℤ × ℤ))) → i < length ls → weight_at line ≡ Ok (w, after)
    → with_front front (weights_at (drop i ls) line) ≡ total → with_front (front ++ (get_or ls i d, w) ∷ []) (weights_at (drop (i + 1) ls) after) ≡ total
unfolding weights_at
goes_on front ls i d line w after total lt h so_far =
    let step : with_front front (weights_at (drop i ls) line) ≡ with_front (front ++ (get_or ls i d, w) ∷ []) (weights_at (drop (i + 1) ls) after) =
    rw (drop_more ls i d lt, h) (regroup front (get_or ls i d, w) (weights_at (drop (i + 1) ls) after)) in
    sym step ∙ so_far

pub ends : (e : LineError) (front : List (ℤ × ℤ)) (ls : List ℤ) (i : ℕ) (d : ℤ) (line : List ℕ) (total : Reads (List (ℤ × ℤ))) → i < length ls → Fails e (weight_at line)
    → with_front front (weights_at (drop i ls) line) ≡ total → Fails e total
unfolding weights_at
ends errors.Memory front ls i d line total lt h so_far = tt
ends (errors.Fault b) front ls i d line total lt h so_far =
    let step : with_front front (weights_at (drop i ls) line) ≡ Err b = rw (drop_more ls i d lt, h) refl in
    sym so_far ∙ step

pub is_done : (front : List (ℤ × ℤ)) (ls : List ℤ) (i : ℕ) (line : List ℕ) (total : Reads (List (ℤ × ℤ))) → length ls ≤ i →
    with_front front (weights_at (drop i ls) line) ≡ total → total ≡ Ok (front, line)
unfolding weights_at
is_done front ls i line total le so_far =
    let step : with_front front (weights_at (drop i ls) line) ≡ Ok (front, line) = rw (drop_all i ls le) (ap (λ (xs : List (ℤ × ℤ)). Ok (xs, line)) (append-nil front)) in
    sym so_far ∙ step

abbrev pub atoms : List (ℤ × ℤ) → List ℕ
atoms items = map (λ (item : ℤ × ℤ). atom_of item.0) items

-- the atoms of one more
pub atoms_more : (items more : List (ℤ × ℤ)) (ls : List ℤ) (i : ℕ) (d w : ℤ) → i < length ls → more ≡ items ++ (get_or ls i d, w) ∷ [] →
    atoms items ≡ map atom_of (take i ls) → atoms more ≡ map atom_of (take (i + 1) ls)
atoms_more items more ls i d w lt e so_far =
    ap atoms e ∙ map_push (λ (item : ℤ × ℤ). atom_of item.0) items (get_or ls i d, w) ∙ ap (λ (xs : List ℕ). xs ++ atom_of (get_or ls i d) ∷ []) so_far ∙ sym (map_more atom_of ls i d lt)

pub atoms_of_1 : (ls : List ℤ) → atoms (with_weight_1 ls) ≡ map atom_of ls
atoms_of_1 [] = refl
atoms_of_1 (l ∷ ls) = ap (λ (xs : List ℕ). atom_of l ∷ xs) (atoms_of_1 ls)
