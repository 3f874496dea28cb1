-- What the plain engines find.
use Rattle.std.proofs.Common.{◌≡◌, Bool, true, false, cond, ◌&&◌, List, [], ◌∷◌, ◌++◌, filter, fold, ℤ, Option, Some, None, refl, sym, ap, ◌∙◌, subst, append_assoc, inl, inr}
use Rattle.std.specs.List.{list_any}
use Rattle.std.specs.Option.{IfNone, IfSome}
use Rattle.std.specs.Ordering.{int_cmp, is_lt}
use Rattle.std.specs.declared.cmp.Ordering.{Ordering}
use Rattle.std.specs.declared.cmp.Ordering.TheVariants.{Less, Equal, Greater}
use Rattle.std.specs.Cmp.Lexicographic.{slice_cmp}
use Rattle.std.proofs.lemmas.Bool.{or_left, or_right, or_from, or_parts, cases_Bool, false≢true}
use Rattle.std.proofs.lemmas.Cmp.{tied_itself}
use Rattle.std.proofs.lemmas.List.{append-nil}
use Rattle.std.proofs.lemmas.List.Folds.{list_any-append}
use Rattle.asp_model.specs.declared.program.Program.{Program}
use Rattle.asp_model.specs.Sets.{Atoms, same_set, subsets}
use Rattle.asp_model.specs.Holding.{all_hold}
use Rattle.asp_model.specs.Models.{is_stable, atoms_of, answers}
use Rattle.asp_model.specs.Costs.{cost, betters, IsOptimum}
use Rattle.asp_model.specs.Orders.{costs_total}
use Rattle.asp_model.specs.Walks.{is_answer, improved, better_of}
use Rattle.asp_model.proofs.ListedLaws.{same_set-itself, contains_from_test}

filter_step : {X : Type 0} (b : Bool) (q : X → Bool) (x : X) (xs ys : List X) → ys ≡ filter q xs → cond (b && q x) (x ∷ ys) ys ≡ filter q (cond b (x ∷ xs) xs)
filter_step true q x xs ys e = ap (λ zs. cond (q x) (x ∷ zs) zs) e
filter_step false q x xs ys e = e

filter-both : {X : Type 0} (p q : X → Bool) (xs : List X) → filter (λ x. p x && q x) xs ≡ filter q (filter p xs)
filter-both p q [] = refl
filter-both p q (x ∷ xs) = filter_step (p x) q x (filter p xs) (filter (λ x. p x && q x) xs) (filter-both p q xs)

pub answers-filtered : (p : Program) → filter (is_answer p) (subsets (atoms_of p)) ≡ answers p
answers-filtered p = filter-both (is_stable p) (λ S. all_hold S p.assumptions) (subsets (atoms_of p))

-- what stands of the best among the sets seen so far
abbrev pub IsBestOf : Program → List Atoms → Option (Atoms × List ℤ) → Type 0
IsBestOf p seen None = seen ≡ []
IsBestOf p seen (Some best) = (list_any (same_set best.0) seen ≡ true) × (best.1 ≡ cost p best.0) × (list_any (λ T. betters (cost p T) best.1) seen ≡ false)

less : (o : Ordering) → is_lt o ≡ true → o ≡ Less
less Less h = refl
less Equal h = absurd (false≢true h)
less Greater h = absurd (false≢true h)

betters-trans : (c d e : List ℤ) → betters c d ≡ true → betters d e ≡ true → betters c e ≡ true
betters-trans c d e one two = ap is_lt (costs_total.trans c d e (less (slice_cmp int_cmp c d) one) (less (slice_cmp int_cmp d e) two))

betters-itself : (c : List ℤ) → betters c c ≡ false
betters-itself c = ap is_lt (tied_itself costs_total c)

-- what betters nothing of a list betters nothing that is worse
none_better : (p : Program) (c d : List ℤ) (seen : List Atoms) → betters c d ≡ true → list_any (λ T. betters (cost p T) d) seen ≡ false → list_any (λ T. betters (cost p T) c) seen ≡ false
none_better p c d [] better none = refl
none_better p c d (T ∷ seen) better none = elim (cases_Bool (betters (cost p T) c)) [
  | inl e ↦ absurd (false≢true (sym none ∙ or_left (betters (cost p T) d) (list_any (λ U. betters (cost p U) d) seen) (betters-trans (cost p T) c d e better)))
  | inr e ↦ or_from (betters (cost p T) c) (list_any (λ U. betters (cost p U) c) seen) e
      (none_better p c d seen better (or_parts (betters (cost p T) d) (list_any (λ U. betters (cost p U) d) seen) none).1)
]

improved-best : (p : Program) (seen : List Atoms) (best : Option (Atoms × List ℤ)) (S : Atoms) → IsBestOf p seen best → IsBestOf p (seen ++ S ∷ []) (improved best (S, cost p S))
improved-best p seen None S h = (
  list_any-append (same_set S) seen (S ∷ []) ∙ or_right (list_any (same_set S) seen) (list_any (same_set S) (S ∷ [])) (or_left (same_set S S) false (same_set-itself S)),
  refl,
  list_any-append (λ T. betters (cost p T) (cost p S)) seen (S ∷ [])
      ∙ or_from (list_any (λ T. betters (cost p T) (cost p S)) seen) (list_any (λ T. betters (cost p T) (cost p S)) (S ∷ []))
      (ap (list_any (λ T. betters (cost p T) (cost p S))) h) (or_from (betters (cost p S) (cost p S)) false (betters-itself (cost p S)) refl),
)
improved-best p seen (Some best) S h = by_test (betters (cost p S) best.1) refl
  where
    by_test : (b : Bool) → betters (cost p S) best.1 ≡ b → IsBestOf p (seen ++ S ∷ []) (cond b (Some (S, cost p S)) (Some best))
    by_test true e = (
      list_any-append (same_set S) seen (S ∷ []) ∙ or_right (list_any (same_set S) seen) (list_any (same_set S) (S ∷ [])) (or_left (same_set S S) false (same_set-itself S)),
      refl,
      list_any-append (λ T. betters (cost p T) (cost p S)) seen (S ∷ [])
          ∙ or_from (list_any (λ T. betters (cost p T) (cost p S)) seen) (list_any (λ T. betters (cost p T) (cost p S)) (S ∷ []))
          (none_better p (cost p S) best.1 seen e h.2) (or_from (betters (cost p S) (cost p S)) false (betters-itself (cost p S)) refl),
    )
    by_test false e = (
      list_any-append (same_set best.0) seen (S ∷ []) ∙ or_left (list_any (same_set best.0) seen) (list_any (same_set best.0) (S ∷ [])) h.0,
      h.1,
      list_any-append (λ T. betters (cost p T) best.1) seen (S ∷ [])
          ∙ or_from (list_any (λ T. betters (cost p T) best.1) seen) (list_any (λ T. betters (cost p T) best.1) (S ∷ [])) h.2
          (or_from (betters (cost p S) best.1) false e refl),
    )

better_of-best : (p : Program) (seen : List Atoms) (best : Option (Atoms × List ℤ)) (S : Atoms) → IsBestOf p seen best → IsBestOf p (seen ++ filter (is_answer p) (S ∷ [])) (better_of p best S)
better_of-best p seen best S h = by_test (is_answer p S)
  where
    by_test : (b : Bool) → IsBestOf p (seen ++ cond b (S ∷ []) []) (cond b (improved best (S, cost p S)) best)
    by_test true = improved-best p seen best S h
    by_test false = subst (λ Ts. IsBestOf p Ts best) (sym (append-nil seen)) h

pub filter_first : (b : Bool) (S : Atoms) (Ss Ts : List Atoms) → (Ss ++ cond b (S ∷ []) []) ++ Ts ≡ Ss ++ cond b (S ∷ Ts) Ts
filter_first true S Ss Ts = append_assoc Ss (S ∷ []) Ts
filter_first false S Ss Ts = append_assoc Ss [] Ts

fold-best : (p : Program) (seen Ss : List Atoms) (best : Option (Atoms × List ℤ)) → IsBestOf p seen best → IsBestOf p (seen ++ filter (is_answer p) Ss) (fold (better_of p) best Ss)
fold-best p seen [] best h = subst (λ Ts. IsBestOf p Ts best) (sym (append-nil seen)) h
fold-best p seen (S ∷ Ss) best h =
    let after = better_of p best S in
    let Best : List Atoms → Type 0 = λ Ts. IsBestOf p Ts (fold (better_of p) after Ss) in
    subst Best (filter_first (is_answer p S) S seen (filter (is_answer p) Ss)) (fold-best p (seen ++ filter (is_answer p) (S ∷ [])) Ss after (better_of-best p seen best S h))

-- what the walk over all subsets finds
abbrev pub walked : Program → Option (Atoms × List ℤ)
walked p = fold (better_of p) None (subsets (atoms_of p))

walked-best : (p : Program) → IsBestOf p (answers p) (walked p)
walked-best p =
    let Best : List Atoms → Type 0 = λ Ts. IsBestOf p Ts (walked p) in
    subst Best (answers-filtered p) (fold-best p [] (subsets (atoms_of p)) None refl)

pub walked-none : (p : Program) (best : Option (Atoms × List ℤ)) → best ≡ walked p → IfNone best (answers p ≡ [])
walked-none p best e = read best (subst (IsBestOf p (answers p)) (sym e) (walked-best p))
  where
    read : (best : Option (Atoms × List ℤ)) → IsBestOf p (answers p) best → IfNone best (answers p ≡ [])
    read None h = h
    read (Some b) h = tt

pub walked-some : (p : Program) (best : Option (Atoms × List ℤ)) → best ≡ walked p → IfSome best (λ b. IsOptimum p b.0 b.1)
walked-some p best e = read best (subst (IsBestOf p (answers p)) (sym e) (walked-best p))
  where
    read : (best : Option (Atoms × List ℤ)) → IsBestOf p (answers p) best → IfSome best (λ b. IsOptimum p b.0 b.1)
    read None h = tt
    read (Some b) h = record { answer = contains_from_test (answers p) b.0 h.0; sums = h.1; least = h.2 }
