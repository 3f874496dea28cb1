-- A best of the bests is a best of the whole.
use Rattle.std.proofs.Common.{◌≡◌, ℕ, zero, suc, ◌<◌, Bool, false, List, [], ◌∷◌, ◌++◌, length, get_or, Option, Some, None, refl, sym, ap, ◌∙◌, subst, arith}
use Rattle.std.specs.Prelude.{ℤ, Contains}
use Rattle.std.specs.List.{list_any, All}
use Rattle.std.proofs.lemmas.Bool.{false≢true, or_parts, or_from}
use Rattle.std.proofs.lemmas.List.Elements.{All-head, All-tail, Contains-append_left, Contains-append_right}
use Rattle.std.proofs.lemmas.List.Folds.{list_any-append}
use Rattle.asp_model.specs.declared.program.Program.{Program}
use Rattle.asp_model.specs.Sets.{Atoms}
use Rattle.asp_model.specs.Models.{answers}
use Rattle.asp_model.specs.Costs.{cost, betters, IsOptimum}
use Rattle.asp_vars.proofs.ResolutionLaws.{betters_trans}
use Rattle.asp_split.specs.Parts.{assuming, answers_of_parts}
use Rattle.asp_split.specs.Bests.{AreBests, IsBest, is_better}

any_weaker : {X : Type 0} (q r : X → Bool) (xs : List X) → ((x : X) → q x ≡ false → r x ≡ false) → list_any q xs ≡ false → list_any r xs ≡ false
any_weaker q r [] f h = refl
any_weaker q r (x ∷ xs) f h = let parts = or_parts (q x) (list_any q xs) h in or_from (r x) (list_any r xs) (f x parts.0) (any_weaker q r xs f parts.1)

-- ---- no part has a best
none_best : (p : Program) (cubes : List (List ℤ)) (bests : List (Option (Atoms × List ℤ))) → AreBests p cubes bests → All (λ other. is_better other None ≡ false) bests → answers_of_parts p cubes ≡ []
none_best p [] [] bests none = refl
none_best p (cube ∷ cubes) [] bests none = absurd bests
none_best p [] (best ∷ bests) h none = absurd h
none_best p (cube ∷ cubes) (None ∷ bests) h none =
    ap (λ (Ss : List Atoms). Ss ++ answers_of_parts p cubes) h.0 ∙ none_best p cubes bests h.1 (All-tail (λ (o : Option (Atoms × List ℤ)). is_better o None ≡ false) None bests none)
none_best p (cube ∷ cubes) (Some best ∷ bests) h none = absurd (false≢true (sym (All-head (λ (o : Option (Atoms × List ℤ)). is_better o None ≡ false) (Some best) bests none)))

-- ---- one of them is an answer, with its cost
one_best : (p : Program) (cubes : List (List ℤ)) (bests : List (Option (Atoms × List ℤ))) (best : Atoms × List ℤ) (k : ℕ) → AreBests p cubes bests →
    k < length bests → get_or bests k (Some best) ≡ Some best →
    Contains (answers_of_parts p cubes) best.0 × (best.1 ≡ cost p best.0)
one_best p [] [] best k h lt e = absurd (omega (arith, lt))
one_best p (cube ∷ cubes) [] best k h lt e = absurd h
one_best p [] (other ∷ bests) best k h lt e = absurd h
one_best p (cube ∷ cubes) (other ∷ bests) best zero h lt e =
    let best_of : IsOptimum (assuming p cube) best.0 best.1 = subst (IsBest (assuming p cube)) e h.0 in
    (Contains-append_left (answers (assuming p cube)) (answers_of_parts p cubes) best.0 best_of.answer, best_of.sums)
one_best p (cube ∷ cubes) (other ∷ bests) best (suc k) h lt e =
    let rest = one_best p cubes bests best k h.1 (omega (arith, lt)) e in
    (Contains-append_right (answers (assuming p cube)) (answers_of_parts p cubes) best.0 rest.0, rest.1)

-- ---- and no answer betters it
part_least : (p : Program) (cube : List ℤ) (other : Option (Atoms × List ℤ)) (best : Atoms × List ℤ) → IsBest (assuming p cube) other → is_better other (Some best) ≡ false →
    list_any (λ T. betters (cost p T) best.1) (answers (assuming p cube)) ≡ false
part_least p cube None best h worse = ap (list_any (λ T. betters (cost p T) best.1)) h
part_least p cube (Some other) best h worse =
    any_weaker (λ T. betters (cost p T) other.1) (λ T. betters (cost p T) best.1) (answers (assuming p cube)) (λ T e. betters_trans (cost p T) other.1 best.1 e worse) h.least

all_least : (p : Program) (cubes : List (List ℤ)) (bests : List (Option (Atoms × List ℤ))) (best : Atoms × List ℤ) → AreBests p cubes bests → All (λ other. is_better other (Some best) ≡ false) bests →
    list_any (λ T. betters (cost p T) best.1) (answers_of_parts p cubes) ≡ false
all_least p [] [] best h worse = refl
all_least p (cube ∷ cubes) [] best h worse = absurd h
all_least p [] (other ∷ bests) best h worse = absurd h
all_least p (cube ∷ cubes) (other ∷ bests) best h worse =
    list_any-append (λ T. betters (cost p T) best.1) (answers (assuming p cube)) (answers_of_parts p cubes)
    ∙ or_from (list_any (λ T. betters (cost p T) best.1) (answers (assuming p cube))) (list_any (λ T. betters (cost p T) best.1) (answers_of_parts p cubes))
    (part_least p cube other best h.0 (All-head (λ (o : Option (Atoms × List ℤ)). is_better o (Some best) ≡ false) other bests worse))
    (all_least p cubes bests best h.1 (All-tail (λ (o : Option (Atoms × List ℤ)). is_better o (Some best) ≡ false) other bests worse))

pub best_of_bests : (p : Program) (cubes : List (List ℤ)) (bests : List (Option (Atoms × List ℤ))) (best : Option (Atoms × List ℤ)) →
    answers_of_parts p cubes ≡ answers p → AreBests p cubes bests → Contains bests best →
    All (λ other. is_better other best ≡ false) bests → IsBest p best
best_of_bests p cubes bests None parts h has worse = sym parts ∙ none_best p cubes bests h worse
best_of_bests p cubes bests (Some best) parts h has worse =
    let one = one_best p cubes bests best has.0 h has.1 has.2 in
    record {
      answer = subst (λ (Ss : List Atoms). Contains Ss best.0) parts one.0;
      sums = one.1;
      least = ap (list_any (λ T. betters (cost p T) best.1)) (sym parts) ∙ all_least p cubes bests best h worse;
    }
