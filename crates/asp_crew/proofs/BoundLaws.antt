-- What stays done, and bounds that fall.
use Rattle.std.proofs.Common.{◌≡◌, ◌<◌, ◌≤◌, Bool, true, false, not, cond, ◌||◌, List, [], ◌∷◌, ◌++◌, length, filter, Option, Some, None, refl, sym, ap, ◌∙◌, subst, inl, inr, arith}
use Rattle.std.specs.Prelude.{ℤ, IsTrue}
use Rattle.std.specs.List.{list_any}
use Rattle.std.specs.Cmp.Lexicographic.{same_text}
use Rattle.std.proofs.lemmas.Bool.{false≢true, or_cases, or_left, or_right}
use Rattle.std.proofs.lemmas.List.Folds.{list_any-append}
use Rattle.asp_model.specs.declared.program.Program.{Program}
use Rattle.asp_model.specs.Sets.{Atoms, same_set}
use Rattle.asp_model.specs.Models.{is_stable, models}
use Rattle.asp_model.specs.Costs.{cost, betters}
use Rattle.asp_model.specs.declared.results.Reasoning.{Reasoning}
use Rattle.asp_model.specs.Consequences.{common_sets, used_up}
use Rattle.asp_model.proofs.ConsequenceLaws.{AreAmong, used-common, used-itself}
use Rattle.asp_model.proofs.ListedLaws.{test_from_contains}
use Rattle.asp_model.proofs.ModelLaws.{models-are}
use Rattle.asp_vars.specs.Entailment.{costs, costs_bound, is_done}
use Rattle.asp_vars.proofs.ResolutionLaws.{betters_itself, costs_within, smaller_left, not_true}
use Rattle.asp_core.proofs.BoardLaws.{among-more, done-used}
use Rattle.asp_core.proofs.SortingLaws.{same_itself}
use Rattle.asp_propagate.specs.Useful.{IsSmaller}
use Rattle.asp_crew.specs.Running.{unfound}

not_after : (c d : List ℤ) → betters d c ≡ true → betters c d ≡ false
not_after c d e = subst (λ x. betters c (cond x d c) ≡ false) e (smaller_left c d)

-- ---- what is done
done-push : (p : Program) (K : List Atoms) (b : Option (List ℤ)) (S T : Atoms) → is_done p K b T ≡ true → is_done p (K ++ S ∷ []) b T ≡ true
done-push p K b S T h = ap (λ x. x || costs_bound p b T) (list_any-append (same_set T) K (S ∷ [])) ∙ more (list_any (same_set T) K) (list_any (same_set T) (S ∷ [])) (costs_bound p b T) h
  where
    more : (x y z : Bool) → (x || z) ≡ true → ((x || y) || z) ≡ true
    more true y z e = refl
    more false true z e = refl
    more false false z e = e

costs-lower : (p : Program) (c : List ℤ) (b : Option (List ℤ)) (T : Atoms) → IsSmaller c b → costs_bound p b T ≡ true → costs p c T ≡ true
costs-lower p c None T less h = absurd (false≢true h)
costs-lower p c (Some d) T less h = costs_within p T d c (not_after d c less) h

done-lower : (p : Program) (K : List Atoms) (c : List ℤ) (b : Option (List ℤ)) (T : Atoms) → IsSmaller c b → is_done p K b T ≡ true → is_done p K (Some c) T ≡ true
done-lower p K c b T less h = here (list_any (same_set T) K) h
  where
    here : (x : Bool) → (x || costs_bound p b T) ≡ true → (x || costs p c T) ≡ true
    here true e = refl
    here false e = costs-lower p c b T less e

not_done : (p : Program) (K : List Atoms) (b : Option (List ℤ)) (S : Atoms) → list_any (same_set S) K ≡ false → IsSmaller (cost p S) b → is_done p K b S ≡ false
not_done p K None S new less = ap (λ x. x || false) new
not_done p K (Some d) S new less = ap (λ x. x || costs p d S) new ∙ ap not less

-- ---- the count of those not yet done
no_more : (q r : Atoms → Bool) (L : List Atoms) → ((T : Atoms) → r T ≡ true → q T ≡ true) → length (filter r L) ≤ length (filter q L)
no_more q r [] w = omega arith
no_more q r (T ∷ L) w = here (r T) (q T) (w T) (no_more q r L w)
  where
    here : (x y : Bool) → (x ≡ true → y ≡ true) → length (filter r L) ≤ length (filter q L) → length (cond x (T ∷ filter r L) (filter r L)) ≤ length (cond y (T ∷ filter q L) (filter q L))
    here true true h e = omega arith
    here true false h e = absurd (false≢true (h refl))
    here false true h e = omega arith
    here false false h e = e

fewer : (q r : Atoms → Bool) (L : List Atoms) (S : Atoms) → ((T : Atoms) → r T ≡ true → q T ≡ true) → q S ≡ true → r S ≡ false →
    list_any (same_set S) L ≡ true → length (filter r L) < length (filter q L)
fewer q r [] S w passes fails h = absurd (false≢true h)
fewer q r (T ∷ L) S w passes fails h = here (same_set S T) refl h (r T) (q T) refl refl (w T) (no_more q r L w) (fewer q r L S w passes fails)
  where
    here : (s : Bool) → s ≡ same_set S T → (s || list_any (same_set S) L) ≡ true → (x y : Bool) → x ≡ r T → y ≡ q T → (x ≡ true → y ≡ true) → length (filter r L) ≤ length (filter q L) →
        (list_any (same_set S) L ≡ true → length (filter r L) < length (filter q L)) → length (cond x (T ∷ filter r L) (filter r L)) < length (cond y (T ∷ filter q L) (filter q L))
    here true e any true y f g w le rest = absurd (false≢true (sym fails ∙ ap r (same_text S T e) ∙ sym f))
    here true e any false true f g w le rest = omega arith
    here true e any false false f g w le rest = absurd (false≢true (g ∙ sym (ap q (same_text S T e)) ∙ passes))
    here false e any true true f g w le rest = omega (arith, rest any)
    here false e any true false f g w le rest = absurd (false≢true (w refl))
    here false e any false true f g w le rest = omega arith
    here false e any false false f g w le rest = rest any

not_turned : (a b : Bool) → (a ≡ true → b ≡ true) → not b ≡ true → not a ≡ true
not_turned true b w h = absurd (false≢true (sym (not_true b h) ∙ w refl))
not_turned false b w h = refl

fewer-open : (p : Program) (K M : List Atoms) (b c : Option (List ℤ)) (S : Atoms) → IsTrue (is_stable p S) →
    ((T : Atoms) → is_done p K b T ≡ true → is_done p M c T ≡ true) → is_done p K b S ≡ false → is_done p M c S ≡ true → unfound p M c < unfound p K b
fewer-open p K M b c S stable w fails passes =
    fewer (λ T. not (is_done p K b T)) (λ T. not (is_done p M c T)) (models p) S (λ T. not_turned (is_done p K b T) (is_done p M c T) (w T)) (ap not fails) (ap not passes)
    (test_from_contains (models p) S ((models-are p S).1 stable))

-- What is used up stays so.
pub fewer-among : (p : Program) (K M : List Atoms) (b : Option (List ℤ)) → AreAmong K M → unfound p M b ≤ unfound p K b
fewer-among p K M b among = no_more (λ T. not (is_done p K b T)) (λ T. not (is_done p M b T)) (models p) (λ T. not_turned (is_done p K b T) (is_done p M b T) (done T))
  where
    done : (T : Atoms) → is_done p K b T ≡ true → is_done p M b T ≡ true
    done T h = elim (or_cases (list_any (same_set T) K) (costs_bound p b T) h) [
      | inl e ↦ or_left (list_any (same_set T) M) (costs_bound p b T) (among T e)
      | inr e ↦ or_right (list_any (same_set T) M) (costs_bound p b T) e
    ]

-- An answer that is added is done from then on, and so is one whose cost is the bound.
pub fewer-push : (p : Program) (K : List Atoms) (b : Option (List ℤ)) (S : Atoms) → IsTrue (is_stable p S) → list_any (same_set S) K ≡ false →
    IsSmaller (cost p S) b → unfound p (K ++ S ∷ []) b < unfound p K b
fewer-push p K b S stable new less =
    fewer-open p K (K ++ S ∷ []) b b S stable (done-push p K b S) (not_done p K b S new less)
    (or_left (list_any (same_set S) (K ++ S ∷ [])) (costs_bound p b S)
    (list_any-append (same_set S) K (S ∷ []) ∙ or_right (list_any (same_set S) K) (list_any (same_set S) (S ∷ [])) (or_left (same_set S S) false (same_itself S))))

-- So it is where consequences are sought: the answer is used up from then on, as all is that was.
pub fewer-told : (p : Program) (r : Reasoning) (K L : List Atoms) (b : Option (List ℤ)) (S : Atoms) → IsTrue (is_stable p S) →
    list_any (same_set S) (used_up (Some r) p K) ≡ false → IsSmaller (cost p S) b →
    L ≡ common_sets r p (K ++ S ∷ []) → unfound p (used_up (Some r) p L) b < unfound p (used_up (Some r) p K) b
fewer-told p r K L b S stable new less is =
    subst (λ (U : List Atoms). unfound p U b < unfound p (used_up (Some r) p K) b) (sym (used-common r p (K ++ S ∷ [])) ∙ ap (used_up (Some r) p) (sym is))
    (fewer-open p (used_up (Some r) p K) (used_up (Some r) p (K ++ S ∷ [])) b b S stable more (not_done p (used_up (Some r) p K) b S new less)
    (or_left (list_any (same_set S) (used_up (Some r) p (K ++ S ∷ []))) (costs_bound p b S) (used-itself (Some r) p (K ++ S ∷ []) S stable here)))
  where
    here : list_any (same_set S) (K ++ S ∷ []) ≡ true
    here = list_any-append (same_set S) K (S ∷ []) ∙ or_right (list_any (same_set S) K) (list_any (same_set S) (S ∷ [])) (or_left (same_set S S) false (same_itself S))

    more : (T : Atoms) → is_done p (used_up (Some r) p K) b T ≡ true → is_done p (used_up (Some r) p (K ++ S ∷ [])) b T ≡ true
    more T h = done-used (Some r) p K (K ++ S ∷ []) b T (among-more K S) h

pub fewer-lower : (p : Program) (K : List Atoms) (b : Option (List ℤ)) (S : Atoms) → IsTrue (is_stable p S) → list_any (same_set S) K ≡ false →
    IsSmaller (cost p S) b → unfound p K (Some (cost p S)) < unfound p K b
fewer-lower p K b S stable new less =
    fewer-open p K K b (Some (cost p S)) S stable (λ T. done-lower p K (cost p S) b T less) (not_done p K b S new less)
    (or_right (list_any (same_set S) K) (costs p (cost p S) S) (ap not (betters_itself (cost p S))))
