-- Stable models: least models are least, and the list of models has exactly the stable sets.
use Rattle.std.proofs.Common.{◌≡◌, ℕ, zero, suc, ◌+◌, Bool, true, false, not, ◌&&◌, List, [], ◌∷◌, length, map, filter, refl, sym, ap, ◌∙◌, subst, Contains, ◌↔◌}
use Rattle.std.specs.List.{AllByRecursion, AllPairs, list_any}
use Rattle.std.specs.Cmp.Lexicographic.{same_text}
use Rattle.std.proofs.lemmas.Bool.{and_parts, and_from}
use Rattle.std.proofs.lemmas.List.Kept.{AllPairs-filter}
use Rattle.asp_model.specs.declared.program.Program.{Program}
use Rattle.asp_model.specs.Sets.{Atoms, IsAscending, has, same_set, IsSubset, subsets, IsBefore}
use Rattle.asp_model.specs.Holding.{all_hold, body_holds}
use Rattle.asp_model.specs.Reduct.{Definite, reduct, step, steps, IsClosed}
use Rattle.asp_model.specs.Costs.{cost, betters, optima, IsOptimum}
use Rattle.asp_model.specs.declared.program.Rule.{Rule}
use Rattle.asp_model.specs.Models.{head_atoms, is_stable, least_model, models, answers, rules_in_force, mentions, atoms_of}
use Rattle.asp_model.specs.Sound.{IsSound}
use Rattle.asp_model.proofs.SetLaws.{IsAscending-set_of, same_from_has}
use Rattle.asp_model.proofs.MemberLaws.{list_any-filter, list_any-weaker, one_passes, each_of, HasAll-flat_map, heads_of}
use Rattle.asp_model.proofs.StepLaws.{steps-least, steps-closed, steps-rise, steps-in, step-closed, AreMonotone, HeadsAreIn}
use Rattle.asp_model.proofs.ReductLaws.{reduct-monotone, reduct-heads, rules_in_force-weights, rules_in_force-heads}
use Rattle.asp_model.proofs.ListedLaws.{contains_from_test, test_from_contains, same_from_members}
use Rattle.asp_model.proofs.SubsetLaws.{subsets-are, subsets-have, subsets-rise, pairs_from_rising, IsSubsetOf}

pub monotone : (p : Program) (S : Atoms) → IsSound p → AreMonotone (reduct S (rules_in_force p))
monotone p S sound = reduct-monotone S (rules_in_force p) (rules_in_force-weights p sound)

pub heads : (p : Program) (S : Atoms) → HeadsAreIn (atoms_of p) (reduct S (rules_in_force p))
heads p S = reduct-heads (atoms_of p) S (rules_in_force p) (rules_in_force-heads p)

pub least_model-closed : (p : Program) (S : Atoms) → IsSound p → IsClosed (reduct S (rules_in_force p)) (least_model p S)
least_model-closed p S sound = steps-closed (atoms_of p) (reduct S (rules_in_force p)) (monotone p S sound) (heads p S)

pub least_model-least : (p : Program) (S T : Atoms) → IsSound p → IsClosed (reduct S (rules_in_force p)) T → IsSubset (least_model p S) T
least_model-least p S T sound closed =
    steps-least (reduct S (rules_in_force p)) (length (atoms_of p) + 1) T (monotone p S sound) closed

step-ascends : (rules : List Definite) (T : Atoms) → IsAscending (step rules T)
step-ascends rules T = IsAscending-set_of (map (λ r. r.head) (filter (λ r. body_holds T r.body) rules))

pub steps-ascend : (rules : List Definite) (n : ℕ) → IsAscending (steps rules n)
steps-ascend rules zero = tt
steps-ascend rules (suc n) = step-ascends rules (steps rules n)

pub least_model-ascends : (p : Program) (S : Atoms) → IsAscending (least_model p S)
least_model-ascends p S = steps-ascend (reduct S (rules_in_force p)) (length (atoms_of p) + 1)

pub least_model-stands : (p : Program) (S : Atoms) → IsSubset (least_model p S) (atoms_of p)
least_model-stands p S = steps-in (atoms_of p) (reduct S (rules_in_force p)) (length (atoms_of p) + 1) (heads p S)

pub same_bools : (x y : Bool) → (x ≡ true → y ≡ true) → (y ≡ true → x ≡ true) → x ≡ y
same_bools true y f g = sym (f refl)
same_bools false true f g = g refl
same_bools false false f g = refl

-- The least model is what it derives.
pub least_model-derived : (p : Program) (S : Atoms) → IsSound p → step (reduct S (rules_in_force p)) (least_model p S) ≡ least_model p S
least_model-derived p S sound =
    let rules = reduct S (rules_in_force p) in
    same_from_has (step rules (least_model p S)) (least_model p S) (step-ascends rules (least_model p S)) (least_model-ascends p S) (λ a.
    same_bools (has (step rules (least_model p S)) a) (has (least_model p S) a) (step-closed rules (least_model p S) (least_model-closed p S sound) a)
    (steps-rise rules (length (atoms_of p) + 1) (monotone p S sound) a))

-- ---- stable sets
pub stable-least : (p : Program) (S : Atoms) → is_stable p S ≡ true → S ≡ least_model p S
stable-least p S h = same_text S (least_model p S) (sym (and_parts (same_set S (least_model p S)) _ h).0)

pub stable-subset : (p : Program) (S : Atoms) → is_stable p S ≡ true → IsSubsetOf (atoms_of p) S
stable-subset p S h = subst (IsSubsetOf (atoms_of p)) (sym (stable-least p S h)) (least_model-ascends p S, least_model-stands p S)

-- what a filter keeps
pub contains-filter : (q : Atoms → Bool) (Ss : List Atoms) (S : Atoms) → Contains (filter q Ss) S ↔ (Contains Ss S × (q S ≡ true))
contains-filter q Ss S = (there, back)
  where
    there : Contains (filter q Ss) S → Contains Ss S × (q S ≡ true)
    there h =
        let both : list_any (λ T. q T && same_set S T) Ss ≡ true = sym (list_any-filter (same_set S) q Ss) ∙ test_from_contains (filter q Ss) S h in (
          contains_from_test Ss S (list_any-weaker (λ T. q T && same_set S T) (same_set S) Ss
              (each_of (λ T. (q T && same_set S T) ≡ true → same_set S T ≡ true) (λ T e. (and_parts (q T) (same_set S T) e).1) Ss) both),
          one_passes (q S ≡ true) (λ T. q T && same_set S T) Ss
              (each_of (λ T. (q T && same_set S T) ≡ true → q S ≡ true)
              (λ T e. let parts = and_parts (q T) (same_set S T) e in ap q (same_text S T (sym parts.1)) ∙ parts.0) Ss) both,
        )

    back : Contains Ss S × (q S ≡ true) → Contains (filter q Ss) S
    back h =
        contains_from_test (filter q Ss) S (list_any-filter (same_set S) q Ss
        ∙ list_any-weaker (same_set S) (λ T. q T && same_set S T) Ss
        (each_of (λ T. same_set S T ≡ true → (q T && same_set S T) ≡ true) (λ T e.
        and_from (q T) (same_set S T) (ap q (sym (same_text S T (sym e))) ∙ h.1) e) Ss) (test_from_contains Ss S h.0))

pub subsets-exact : (L S : Atoms) → IsAscending L → Contains (subsets L) S ↔ (IsAscending S × IsSubset S L)
subsets-exact L S up = (
  λ h. one_passes (IsSubsetOf L S) (same_set S) (subsets L) (each_same (subsets L) (subsets-are L up)) (test_from_contains (subsets L) S h),
  λ h. contains_from_test (subsets L) S (subsets-have L S up h.0 h.1),
)
  where
    each_same : (Ss : List Atoms) → AllByRecursion (IsSubsetOf L) Ss → AllByRecursion (λ T. same_set S T ≡ true → IsSubsetOf L S) Ss
    each_same [] all = tt
    each_same (T ∷ Ss) all = (λ e. subst (IsSubsetOf L) (sym (same_text S T (sym e))) all.0, each_same Ss all.1)

-- among the subsets of any set that has the atoms of the program
pub models-among : (p : Program) (L : Atoms) → IsAscending L → IsSubset (atoms_of p) L → (S : Atoms) → Contains (filter (is_stable p) (subsets L)) S ↔ (is_stable p S ≡ true)
models-among p L up sub S = (
  λ h. ((contains-filter (is_stable p) (subsets L) S).0 h).1,
  λ h. let parts = stable-subset p S h in (contains-filter (is_stable p) (subsets L) S).1 ((subsets-exact L S up).1 (parts.0, λ a e. sub a (parts.1 a e)), h),
)

pub models-are : (p : Program) (S : Atoms) → Contains (models p) S ↔ (is_stable p S ≡ true)
models-are p = models-among p (atoms_of p) (IsAscending-set_of (mentions p)) (λ a e. e)

not-true : (b : Bool) → not b ≡ true → b ≡ false
not-true true h = sym h
not-true false h = refl

pub optima-are : (p : Program) (S : Atoms) → Contains (optima p) S ↔ IsOptimum p S (cost p S)
optima-are p S =
    let kept = contains-filter (λ T. not (list_any (λ U. betters (cost p U) (cost p T)) (answers p))) (answers p) S in (
      λ h. record { answer = (kept.0 h).0; sums = refl; least = not-true _ (kept.0 h).1 },
      λ o. kept.1 (o.answer, ap not o.least),
    )

-- ---- the lists are in order
among-rise : (p : Program) (L : Atoms) → IsAscending L → AllPairs IsBefore (filter (is_stable p) (subsets L))
among-rise p L up = AllPairs-filter IsBefore (is_stable p) (subsets L) (pairs_from_rising (subsets L) (subsets-rise L up))

pub models-rise : (p : Program) → AllPairs IsBefore (models p)
models-rise p = among-rise p (atoms_of p) (IsAscending-set_of (mentions p))

pub answers-rise : (p : Program) → AllPairs IsBefore (answers p)
answers-rise p = AllPairs-filter IsBefore (λ S. all_hold S p.assumptions) (models p) (models-rise p)

-- A larger universe has the same models.
pub models-any : (p : Program) (L : Atoms) → IsAscending L → IsSubset (atoms_of p) L → filter (is_stable p) (subsets L) ≡ models p
models-any p L up sub = same_from_members (filter (is_stable p) (subsets L)) (models p) (among-rise p L up) (models-rise p) (λ S.
    (λ h. (models-are p S).1 ((models-among p L up sub S).0 h), λ h. (models-among p L up sub S).1 ((models-are p S).0 h)))

-- what derives the least model stands in a head
pub stable-heads : (p : Program) (S : Atoms) → is_stable p S ≡ true → IsSubset S (heads_of (rules_in_force p))
stable-heads p S h =
    let L = heads_of (rules_in_force p) in
    let rules = reduct S (rules_in_force p) in
    let within : IsSubset (least_model p S) L =
    steps-in L rules (length (atoms_of p) + 1)
    (reduct-heads L S (rules_in_force p) (HasAll-flat_map (λ (r : Rule). head_atoms r.head) (rules_in_force p))) in
    subst (λ T. IsSubset T L) (sym (stable-least p S h)) within

pub answers-are : (p : Program) (S : Atoms) → Contains (answers p) S ↔ ((is_stable p S ≡ true) × (all_hold S p.assumptions ≡ true))
answers-are p S =
    let kept = contains-filter (λ T. all_hold T p.assumptions) (models p) S in (
      λ h. let parts = kept.0 h in ((models-are p S).0 parts.0, parts.1),
      λ h. kept.1 ((models-are p S).1 h.0, h.1),
    )
