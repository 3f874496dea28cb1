-- Which answers are as good as a best one.
use Rattle.std.proofs.Common.{◌≡◌, Bool, true, false, not, ◌||◌, List, [], ◌∷◌, length, filter, None, Some, refl, sym, ap, ◌∙◌, subst, arith}
use Rattle.std.specs.Prelude.{ℤ}
use Rattle.std.specs.List.{list_any}
use Rattle.std.specs.Cmp.Lexicographic.{same_text}
use Rattle.std.proofs.lemmas.Bool.{false≢true, or_left, or_right, or_from, or_parts}
use Rattle.asp_model.specs.declared.program.Program.{Program}
use Rattle.asp_model.specs.Sets.{Atoms, same_set}
use Rattle.asp_model.specs.Models.{answers}
use Rattle.asp_model.specs.Costs.{cost, betters, just_above, optima, raised, IsOptimum}
use Rattle.asp_model.proofs.AboveLaws.{raised-betters}
use Rattle.asp_model.proofs.CostLaws.{length-cost}
use Rattle.asp_model.proofs.ListedLaws.{test_from_contains}
use Rattle.asp_model.proofs.ModelLaws.{same_bools}
use Rattle.asp_vars.specs.Entailment.{costs_bound}
use Rattle.asp_vars.proofs.ResolutionLaws.{betters_trans, betters_itself}
use Rattle.asp_core.proofs.BoardLaws.{not_after}

-- ---- what costs no more than c
tie-by : (p : Program) (c : List ℤ) (T : Atoms) → length (cost p T) ≡ length c → not (costs_bound p (just_above c) T) ≡ not (betters c (cost p T))
tie-by p [] T long = ap not (sym (none (cost p T) long))
  where
    none : (d : List ℤ) → length d ≡ 0 → betters [] d ≡ false
    none [] e = refl
    none (q ∷ d) e = absurd (omega (arith, e))
tie-by p (q ∷ c) T long = twice (betters (cost p T) (raised (q ∷ c))) ∙ raised-betters q c (cost p T) long
  where
    twice : (x : Bool) → not (not x) ≡ x
    twice true = refl
    twice false = refl

-- what is listed among ties of S
pub tie-listed : (p : Program) (S T : Atoms) → not (costs_bound p (just_above (cost p S)) T) ≡ not (betters (cost p S) (cost p T))
tie-listed p S T = tie-by p (cost p S) T (length-cost p T S)

-- the next cost isn't smaller
pub not-above : (c d : List ℤ) → just_above c ≡ Some d → betters d c ≡ false
not-above [] d e = absurd (none e)
  where
    none : None ≡ Some d → ⊥
    none e = cc
not-above (q ∷ c) d e =
    subst (λ (x : List ℤ). betters x (q ∷ c) ≡ false) (let f : raised (q ∷ c) ≡ d = cc in f)
    (not_after (raised (q ∷ c)) (q ∷ c) (raised-betters q c (q ∷ c) refl ∙ ap not (betters_itself (q ∷ c))))

-- ---- the optima
passes-by : (f : Atoms → Bool) (S : Atoms) (L : List Atoms) → list_any (same_set S) L ≡ true → f S ≡ true → list_any f L ≡ true
passes-by f S [] h e = absurd (false≢true h)
passes-by f S (T ∷ L) h e = here (same_set S T) refl h (passes-by f S L)
  where
    here : (x : Bool) → x ≡ same_set S T → (x || list_any (same_set S) L) ≡ true → (list_any (same_set S) L ≡ true → f S ≡ true → list_any f L ≡ true) → (f T || list_any f L) ≡ true
    here true q any rest = or_left (f T) (list_any f L) (ap f (sym (same_text S T q)) ∙ e)
    here false q any rest = or_right (f T) (list_any f L) (rest any e)

none-weaker : (f g : Atoms → Bool) (L : List Atoms) → ((U : Atoms) → g U ≡ true → f U ≡ true) → list_any f L ≡ false → list_any g L ≡ false
none-weaker f g [] w h = refl
none-weaker f g (U ∷ L) w h =
    let parts = or_parts (f U) (list_any f L) h in
    or_from (g U) (list_any g L) (here (g U) refl parts.0) (none-weaker f g L w parts.1)
  where
    here : (x : Bool) → x ≡ g U → f U ≡ false → x ≡ false
    here true q e = absurd (false≢true (sym e ∙ w U (sym q)))
    here false q e = refl

-- An answer costs more than the best exactly where some answer betters it.
dearer : (p : Program) (S T : Atoms) (c : List ℤ) → IsOptimum p S c → betters c (cost p T) ≡ list_any (λ U. betters (cost p U) (cost p T)) (answers p)
dearer p S T c is =
    same_bools (betters c (cost p T)) (list_any (λ U. betters (cost p U) (cost p T)) (answers p))
    (λ h. passes-by (λ U. betters (cost p U) (cost p T)) S (answers p) (test_from_contains (answers p) S is.answer) (ap (λ (d : List ℤ). betters d (cost p T)) (sym is.sums) ∙ h))
    (λ h. here (betters c (cost p T)) refl h)
  where
    here : (x : Bool) → x ≡ betters c (cost p T) → list_any (λ U. betters (cost p U) (cost p T)) (answers p) ≡ true → x ≡ true
    here true q h = refl
    here false q h =
        absurd (false≢true (sym (none-weaker (λ U. betters (cost p U) c) (λ U. betters (cost p U) (cost p T)) (answers p) (λ U better. smaller U (betters (cost p U) c) refl better) is.least) ∙ h))
      where
        smaller : (U : Atoms) (y : Bool) → y ≡ betters (cost p U) c → betters (cost p U) (cost p T) ≡ true → betters (cost p U) c ≡ true
        smaller U true e better = sym e
        smaller U false e better = absurd (false≢true (sym (betters_trans (cost p U) c (cost p T) (sym e) (sym q)) ∙ better))

pub ties-optima : (p : Program) (S : Atoms) (c : List ℤ) → IsOptimum p S c → filter (λ T. not (costs_bound p (just_above c) T)) (answers p) ≡ optima p
ties-optima p S c is = λ i. filter (λ T. same T i) (answers p)
  where
    same : (T : Atoms) → not (costs_bound p (just_above c) T) ≡ not (list_any (λ U. betters (cost p U) (cost p T)) (answers p))
    same T =
        ap (λ (d : List ℤ). not (costs_bound p (just_above d) T)) is.sums ∙ tie-listed p S T ∙ ap (λ (d : List ℤ). not (betters d (cost p T))) (sym is.sums) ∙ ap not (dearer p S T c is)

-- a best one is one of them
pub best-listed : (p : Program) (S : Atoms) (c : List ℤ) → IsOptimum p S c → not (costs_bound p (just_above c) S) ≡ true
best-listed p S c is =
    ap (λ (d : List ℤ). not (costs_bound p (just_above d) S)) is.sums ∙ tie-listed p S S ∙ ap not (betters_itself (cost p S))
