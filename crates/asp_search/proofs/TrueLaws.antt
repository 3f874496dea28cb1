-- The atoms that are true.
use Rattle.std.proofs.Common.{◌≡◌, ℕ, ◌+◌, ◌<◌, ◌≤◌, Bool, true, false, cond, List, ◌∷◌, ◌++◌, filter, length, get_or, set, take, Option, Some, None, refl, sym, ap, ◌∙◌, subst, arith, add-one, []}
use Rattle.std.specs.List.{AllByRecursion}
use Rattle.std.specs.Bool.{beq}
use Rattle.std.proofs.lemmas.List.{append-nil, take_all, take_more_set, take-set-le}
use Rattle.std.proofs.lemmas.List.Elements.{filter_more}
use Rattle.asp_model.specs.declared.program.Program.{Program}
use Rattle.asp_model.specs.Sets.{Atoms, IsAscending}
use Rattle.asp_model.specs.Models.{atoms_of, mentions}
use Rattle.asp_model.proofs.SetLaws.{IsAscending-set_of}
use Rattle.asp_vars.specs.Literals.{T, agrees, holds_in, is_true, value_of}
use Rattle.asp_vars.specs.Numbering.{var_of_atom}
use Rattle.asp_vars.proofs.PlaceLaws.{var_of_nth_atom}
use Rattle.asp_trail_laws.specs.Whole.{truths, truth_of}
use Rattle.asp_trail_laws.proofs.WholeLaws.{truth_at}

-- whether a variable is true
pub held_in : (a : List (Option Bool)) (v : ℕ) → holds_in a (T v) ≡ is_true (truths a) (T v)
held_in a v = cases (value_of a v) ∙ sym (ap (λ (b : Bool). beq b true) (truth_at a v))
  where
    cases : (o : Option Bool) → agrees o (T v) ≡ beq (truth_of o) true
    cases None = refl
    cases (Some b) = refl

pub one_at_most : (b : Bool) → cond b 1 0 ≤ 1
one_at_most true = omega arith
one_at_most false = omega arith

-- a list after one more is put behind its first ones, of which it is one or isn't
pub put_step : (xs : List ℕ) (len atom n : ℕ) (b : Bool) → len < length xs → n ≡ len + cond b 1 0 → take n (set xs len atom) ≡ take len xs ++ cond b (atom ∷ []) []
put_step xs len atom n true lt is = ap (λ (k : ℕ). take k (set xs len atom)) is ∙ take_more_set xs len atom lt
put_step xs len atom n false lt is =
    let same : n ≡ len = omega (arith, is) in
    ap (λ (k : ℕ). take k (set xs len atom)) same ∙ take-set-le len xs len atom (omega arith) ∙ sym (append-nil (take len xs))

-- whether an atom's variable is
abbrev pub is_held : Program → List (Option Bool) → ℕ → Bool
is_held p a b = is_true (truths a) (T (var_of_atom p b))

pub held_more : (p : Program) (a : List (Option Bool)) (held new : List ℕ) (i var atom : ℕ) → i < length (atoms_of p) → atom ≡ get_or (atoms_of p) i 0 → var ≡ i + 1 →
    held ≡ filter (is_held p a) (take i (atoms_of p)) → new ≡ held ++ cond (is_true (truths a) (T var)) (atom ∷ []) [] → new ≡ filter (is_held p a) (take (i + 1) (atoms_of p))
held_more p a held new i var atom h is v e q =
    q
    ∙ (ap (λ (xs : List ℕ). xs ++ cond (is_true (truths a) (T var)) (atom ∷ []) []) e
    ∙ (ap (λ (x : ℕ). filter (is_held p a) (take i (atoms_of p)) ++ cond (is_true (truths a) (T x)) (atom ∷ []) []) (v ∙ (add-one i ∙ sym (var_of_nth_atom p i h)))
    ∙ (ap (λ (x : ℕ). filter (is_held p a) (take i (atoms_of p)) ++ cond (is_held p a (get_or (atoms_of p) i 0)) (x ∷ []) []) is
    ∙ sym (filter_more (is_held p a) (atoms_of p) i 0 h))))

pub held_all : (p : Program) (a : List (Option Bool)) (held : List ℕ) (i : ℕ) → length (atoms_of p) ≡ i → held ≡ filter (is_held p a) (take i (atoms_of p)) → held ≡ filter (is_held p a) (atoms_of p)
held_all p a held i q e = e ∙ ap (filter (is_held p a)) (take_all i (atoms_of p) (omega (arith, q)))

-- the same, where the code has the atoms in a list
pub held_step : (p : Program) (a : List (Option Bool)) (xs held new : List ℕ) (i var atom : ℕ) → xs ≡ atoms_of p → i < length xs → atom ≡ get_or xs i 0 → var ≡ i + 1 →
    held ≡ filter (is_held p a) (take i (atoms_of p)) → new ≡ held ++ cond (is_true (truths a) (T var)) (atom ∷ []) [] → new ≡ filter (is_held p a) (take (i + 1) (atoms_of p))
held_step p a xs held new i var atom same h is v e q =
    held_more p a held new i var atom (subst (λ (ys : List ℕ). i < length ys) same h) (is ∙ ap (λ (ys : List ℕ). get_or ys i 0) same) v e q

pub held_end : (p : Program) (a : List (Option Bool)) (xs held : List ℕ) (i : ℕ) → xs ≡ atoms_of p → length xs ≤ i → i ≤ length xs →
    held ≡ filter (is_held p a) (take i (atoms_of p)) → held ≡ filter (is_held p a) (atoms_of p)
held_end p a xs held i same low high e = held_all p a held i (subst (λ (ys : List ℕ). length ys ≡ i) same (omega (arith, low, high))) e

-- what passes a test ascends as all does
above : (q : ℕ → Bool) (a : ℕ) (S : Atoms) → AllByRecursion (λ b. a < b) S → AllByRecursion (λ b. a < b) (filter q S)
above q a [] h = tt
above q a (b ∷ S) h = cases (q b) (above q a S h.1)
  where
    cases : (t : Bool) → AllByRecursion (λ c. a < c) (filter q S) → AllByRecursion (λ c. a < c) (cond t (b ∷ filter q S) (filter q S))
    cases true rest = (h.0, rest)
    cases false rest = rest

ascends : (q : ℕ → Bool) (S : Atoms) → IsAscending S → IsAscending (filter q S)
ascends q [] h = tt
ascends q (a ∷ S) h = cases (q a) (ascends q S h.1)
  where
    cases : (t : Bool) → IsAscending (filter q S) → IsAscending (cond t (a ∷ filter q S) (filter q S))
    cases true rest = (above q a S h.0, rest)
    cases false rest = rest

pub held_ascends : (p : Program) (a : List (Option Bool)) → IsAscending (filter (is_held p a) (atoms_of p))
held_ascends p a = ascends (is_held p a) (atoms_of p) (IsAscending-set_of (mentions p))
