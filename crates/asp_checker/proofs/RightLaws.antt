-- What right proofs show.
use Rattle.std.proofs.Common.{◌≡◌, ℕ, zero, suc, ◌<◌, ◌≤◌, Bool, true, false, not, List, [], ◌∷◌, length, filter, get_or, Ordering, refl, sym, ap, ◌∙◌, subst, arith, inl, inr}
use Rattle.std.specs.Prelude.{AllPairs, Contains, ℤ, Option}
use Rattle.std.specs.declared.cmp.Ordering.TheVariants.{Less, Equal, Greater}
use Rattle.std.specs.Ordering.{int_cmp, is_lt, ordering_reverse}
use Rattle.std.specs.Cmp.Lexicographic.{slice_cmp}
use Rattle.std.specs.List.{list_any, AllByRecursion}
use Rattle.std.proofs.lemmas.Bool.{false≢true, or_cases, or_from, or_parts}
use Rattle.std.proofs.lemmas.List.Elements.{All-contains, recursion_from_All, All-from_recursion, All-contains_itself}
use Rattle.std.proofs.lemmas.List.Kept.{AllPairs-filter}
use Rattle.asp_model.specs.declared.program.Program.{Program}
use Rattle.asp_model.specs.Sets.{Atoms, same_set, IsBefore}
use Rattle.asp_model.specs.Models.{answers}
use Rattle.asp_model.specs.Costs.{cost, betters, just_above, optima, IsOptimum}
use Rattle.asp_model.specs.Sound.{IsSound}
use Rattle.asp_model.specs.Orders.{costs_total}
use Rattle.asp_model.proofs.ListedLaws.{same_from_members, contains_from_test}
use Rattle.asp_model.proofs.AboveLaws.{raised-betters}
use Rattle.asp_model.proofs.CostLaws.{length-cost}
use Rattle.asp_model.proofs.ModelLaws.{answers-are, optima-are, answers-rise}
use Rattle.asp_model.proofs.MemberLaws.{each_weaker}
use Rattle.asp_vars.specs.Entailment.{costs, costs_bound}
use Rattle.asp_vars.proofs.ResolutionLaws.{betters_itself}
use Rattle.asp_proof.specs.Changes.{last_from}
use Rattle.asp_proof.specs.declared.proof.Line.{Line}
use Rattle.asp_proof.specs.declared.proof.Proof.{Proof}
use Rattle.asp_proof.specs.declared.proof.Sought.{Sought}
use Rattle.asp_proof.specs.declared.proof.Sought.TheVariants.{All, Best, Optima}
use Rattle.asp_checker.specs.Lines.{AreConfirmed, first_gathered}
use Rattle.asp_checker.specs.Right.{closes, is_best, AreAlike, promised, found_of, IsRight, Shows, ShowsAll, ShowsBest, ShowsBy}
use Rattle.asp_checker.proofs.ExcuseLaws.{excused_by, undone, closed-excused}

-- ---- what is shown
none_listed : (xs : List Atoms) → ((S : Atoms) → Contains xs S → ⊥) → xs ≡ []
none_listed [] h = refl
none_listed (S ∷ xs) h = absurd (h S (0, omega arith, refl))

none_passes : (q : Atoms → Bool) (xs : List Atoms) → AllByRecursion (λ x. q x ≡ false) xs → list_any q xs ≡ false
none_passes q [] h = refl
none_passes q (x ∷ xs) h = or_from (q x) (list_any q xs) h.0 (none_passes q xs h.1)

-- Each answer is excused by what was found.
abbrev AreExcused : Program → Sought → List Atoms → Type 0
AreExcused p o found = (S : Atoms) → Contains (answers p) S → excused_by p o found S ≡ true

are-excused : (p : Program) (o : Sought) (lines : List Line) → IsSound p → AreConfirmed p o (first_gathered p) lines → list_any (closes p) lines ≡ true → AreExcused p o (found_of p lines)
are-excused p o lines sound c whole S h = let is = (answers-are p S).0 h in closed-excused p o lines sound c whole S is.0 is.1

-- each member of sets that are in the list is in it
among : (K found : List Atoms) (S : Atoms) → AllByRecursion (Contains K) found → Contains found S → Contains K S
among K found S kept h = All-contains (Contains K) found S (All-from_recursion (Contains K) found kept) h

shows-all : (p : Program) (K found : List Atoms) → AllByRecursion (Contains (answers p)) K → AllPairs IsBefore K → AreExcused p All found → AllByRecursion (Contains K) found → K ≡ answers p
shows-all p K found members order excused kept = same_from_members K (answers p) order (answers-rise p) (λ S. (
  λ h. All-contains (Contains (answers p)) K S (All-from_recursion (Contains (answers p)) K members) h,
  λ h. among K found S kept (contains_from_test found S (known S (excused S h))),
))
  where
    known : (S : Atoms) → excused_by p All found S ≡ true → list_any (same_set S) found ≡ true
    known S e = elim (or_cases (list_any (same_set S) found) false e) [ inl h ↦ h | inr h ↦ absurd (false≢true h) ]

-- where all answers are excused by nothing, there is none
no-answers : (p : Program) → ((S : Atoms) → Contains (answers p) S → false ≡ true) → answers p ≡ []
no-answers p h = none_listed (answers p) (λ S k. false≢true (h S k))

no-members : (p : Program) (K : List Atoms) → answers p ≡ [] → AllByRecursion (Contains (answers p)) K → K ≡ []
no-members p [] none h = refl
no-members p (S ∷ K) none h = absurd (no_place S (subst (λ (L : List Atoms). Contains L S) none h.0))
  where
    no_place : (S : Atoms) → Contains [] S → ⊥
    no_place S c = omega (arith, c.1)

-- what is in a list of one
only : (S T : Atoms) → Contains (S ∷ []) T → T ≡ S
only S T c = at c.0 c.1 c.2
  where
    at : (k : ℕ) → k < 1 → get_or (S ∷ []) k T ≡ T → T ≡ S
    at zero lt e = sym e
    at (suc k) lt e = absurd (omega (arith, lt))

shows-best : (p : Program) (K found : List Atoms) → AllByRecursion (Contains (answers p)) K → length K ≤ 1 → AreExcused p Best found →
    AllByRecursion (Contains K) (promised Best found) → ShowsBest p K
shows-best p [] [] members single excused kept = no-answers p (λ S h. excused S h)
shows-best p (T ∷ K) [] members single excused kept = let none = no-members p (T ∷ K) (no-answers p (λ S h. excused S h)) members in absurd cc
shows-best p [] (U ∷ found) members single excused kept = absurd (omega (arith, kept.0.1))
shows-best p (S ∷ K) (U ∷ found) members single excused kept = (
  alone K single,
  record {
    answer = members.0;
    sums = refl;
    least = none_passes (λ T. betters (cost p T) (cost p S)) (answers p)
        (each_weaker (Contains (answers p)) (λ T. betters (cost p T) (cost p S) ≡ false) dearer (answers p)
        (recursion_from_All (Contains (answers p)) (answers p) (All-contains_itself (answers p))));
  },
)
  where
    alone : (K : List Atoms) → length (S ∷ K) ≤ 1 → K ≡ []
    alone [] le = refl
    alone (T ∷ K) le = absurd (omega arith)

    is_last : last_from U found ≡ S
    is_last = only S (last_from U found) (subst (λ (L : List Atoms). Contains (S ∷ L) (last_from U found)) (alone K single) kept.0)

    dearer : (T : Atoms) → Contains (answers p) T → betters (cost p T) (cost p S) ≡ false
    dearer T h = undone (betters (cost p T) (cost p S)) (ap (λ (V : Atoms). costs p (cost p V) T) (sym is_last) ∙ excused T h)

above-by : (p : Program) (c : List ℤ) (T : Atoms) → length (cost p T) ≡ length c → costs_bound p (just_above c) T ≡ betters c (cost p T)
above-by p [] T long = sym (none (cost p T) long)
  where
    none : (d : List ℤ) → length d ≡ 0 → betters [] d ≡ false
    none [] e = refl
    none (q ∷ d) e = absurd (omega (arith, e))
above-by p (q ∷ c) T long = ap not (raised-betters q c (cost p T) long) ∙ twice (betters (q ∷ c) (cost p T))
  where
    twice : (x : Bool) → not (not x) ≡ x
    twice true = refl
    twice false = refl

lt-reversed : (o : Ordering) → is_lt o ≡ true → is_lt (ordering_reverse o) ≡ false
lt-reversed Less e = refl
lt-reversed Equal e = refl
lt-reversed Greater e = absurd (false≢true e)

betters-back : (c d : List ℤ) → betters c d ≡ true → betters d c ≡ false
betters-back c d e = ap is_lt (costs_total.antisymm d c) ∙ lt-reversed (slice_cmp int_cmp c d) e

any-false : (q : Atoms → Bool) (L : List Atoms) → list_any q L ≡ false → AllByRecursion (λ x. q x ≡ false) L
any-false q [] h = tt
any-false q (S ∷ L) h = let parts = or_parts (q S) (list_any q L) h in (parts.0, any-false q L parts.1)

-- an optimum isn't bettered by an answer
unbettered : (p : Program) (S T : Atoms) → IsOptimum p T (cost p T) → Contains (answers p) S → betters (cost p S) (cost p T) ≡ false
unbettered p S T h answer =
    let each = any-false (λ U. betters (cost p U) (cost p T)) (answers p) h.least in
    All-contains (λ U. betters (cost p U) (cost p T) ≡ false) (answers p) S (All-from_recursion (λ U. betters (cost p U) (cost p T) ≡ false) (answers p) each) answer

no-optima : (p : Program) → answers p ≡ [] → [] ≡ optima p
no-optima p e = sym (ap (λ L. filter (λ S. not (list_any (λ T. betters (cost p T) (cost p S)) L)) L) e)

optima-rise : (p : Program) → AllPairs IsBefore (optima p)
optima-rise p = AllPairs-filter IsBefore (λ S. not (list_any (λ T. betters (cost p T) (cost p S)) (answers p))) (answers p) (answers-rise p)

shows-optima : (p : Program) (K found : List Atoms) → AllByRecursion (Contains (answers p)) K → AllPairs IsBefore K → AreAlike p Optima K →
    AreExcused p Optima found → AllByRecursion (Contains K) found → K ≡ optima p
shows-optima p K [] members order alike excused kept =
    let none = no-answers p (λ S h. excused S h) in no-members p K none members ∙ no-optima p none
shows-optima p K (S ∷ found) members order alike excused kept = same_from_members K (optima p) order (optima-rise p) (λ T. (
  λ h. (optima-are p T).1 (best T h),
  λ h. listed T ((optima-are p T).0 h),
))
  where
    L : List Atoms
    L = S ∷ found

    o : Option (List ℤ)
    o = just_above (cost p S)

    costs_of : (K : List Atoms) → AreAlike p Optima K → (T U : Atoms) → Contains K T → Contains K U → cost p T ≡ cost p U
    costs_of [] a T U h k = absurd (omega (arith, h.1))
    costs_of (V ∷ K) a T U h k = as_first T h ∙ sym (as_first U k)
      where
        as_first : (W : Atoms) → Contains (V ∷ K) W → cost p W ≡ cost p V
        as_first W c = All-contains (λ X. cost p X ≡ cost p V) (V ∷ K) W (All-from_recursion (λ X. cost p X ≡ cost p V) (V ∷ K) (refl, a)) c

    costs : (T : Atoms) → Contains K T → cost p T ≡ cost p S
    costs T h = costs_of K alike T S h kept.0

    is-answer : (T : Atoms) → Contains K T → Contains (answers p) T
    is-answer T h = All-contains (Contains (answers p)) K T (All-from_recursion (Contains (answers p)) K members) h

    among_listed : (T : Atoms) → list_any (same_set T) L ≡ true → Contains K T
    among_listed T e = among K L T kept (contains_from_test L T e)

    above : (T : Atoms) → costs_bound p o T ≡ betters (cost p S) (cost p T)
    above T = above-by p (cost p S) T (length-cost p T S)

    dearer : (T : Atoms) → Contains (answers p) T → betters (cost p T) (cost p S) ≡ false
    dearer T h = elim (or_cases (list_any (same_set T) L) (costs_bound p o T) (excused T h)) [
      | inl one ↦ ap (λ c. betters c (cost p S)) (costs T (among_listed T one)) ∙ betters_itself (cost p S)
      | inr dear ↦ betters-back (cost p S) (cost p T) (sym (above T) ∙ dear)
    ]

    best : (T : Atoms) → Contains K T → IsOptimum p T (cost p T)
    best T h = record {
      answer = is-answer T h;
      sums = refl;
      least = none_passes (λ U. betters (cost p U) (cost p T)) (answers p)
          (each_weaker (Contains (answers p)) (λ U. betters (cost p U) (cost p T) ≡ false) (λ U k. ap (betters (cost p U)) (costs T h) ∙ dearer U k) (answers p)
          (recursion_from_All (Contains (answers p)) (answers p) (All-contains_itself (answers p))));
    }

    listed : (T : Atoms) → IsOptimum p T (cost p T) → Contains K T
    listed T h = elim (or_cases (list_any (same_set T) L) (costs_bound p o T) (excused T h.answer)) [
      | inl one ↦ among_listed T one
      | inr dear ↦ absurd (false≢true (sym (unbettered p S T h (is-answer S kept.0)) ∙ sym (above T) ∙ dear))
    ]

-- ---- the whole
all-shown : (p : Program) (o : Sought) (K found : List Atoms) → AllByRecursion (Contains (answers p)) K → AllPairs IsBefore K → (is_best o ≡ true → length K ≤ 1) →
    AreAlike p o K → AreExcused p o found → AllByRecursion (Contains K) (promised o found) → ShowsAll p o K
all-shown p All K found members order single alike excused kept = shows-all p K found members order excused kept
all-shown p Best K found members order single alike excused kept = shows-best p K found members (single refl) excused kept
all-shown p Optima K found members order single alike excused kept = shows-optima p K found members order alike excused kept

by-part : (p : Program) (proof : Proof) (part : Bool) → IsSound p → IsRight p proof → proof.part ≡ part → ShowsBy p part proof.sought proof.answers
by-part p proof true sound right e = record { members = right.members; order = right.order }
by-part p proof false sound right e =
    all-shown p proof.sought proof.answers (found_of p proof.lines) right.members right.order right.single right.alike
    (are-excused p proof.sought proof.lines sound right.lines (right.whole e)) (right.kept e)

pub right-shows : (p : Program) (proof : Proof) → IsSound p → IsRight p proof → Shows p proof
right-shows p proof sound right = by-part p proof proof.part sound right refl
