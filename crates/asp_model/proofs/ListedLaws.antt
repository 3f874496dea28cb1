-- Lists of sets: their members, and that their order makes them one list.
use Rattle.std.proofs.Common.{◌≡◌, suc, true, List, [], ◌∷◌, refl, sym, ap, ◌∙◌, subst, arith, inl, inr, Contains, ◌↔◌}
use Rattle.std.specs.List.{AllByRecursion, AllPairs, list_any}
use Rattle.std.specs.Cmp.Lexicographic.{same_text}
use Rattle.std.proofs.lemmas.Bool.{and_from, eq-eqb, or_cases, or_left, or_right, false≢true}
use Rattle.std.proofs.lemmas.List.Elements.{recursion_from_All}
use Rattle.std.proofs.lemmas.List.Folds.{Any-from_list_any, list_any-from_Any}
use Rattle.asp_model.specs.Sets.{Atoms, same_set, IsBefore}
use Rattle.asp_model.proofs.MemberLaws.{one_passes, each_weaker}
use Rattle.asp_model.proofs.OrderLaws.{not_both, not_itself}
use Rattle.asp_model.proofs.SubsetLaws.{IsRising}

pub same_set-itself : (S : Atoms) → same_set S S ≡ true
same_set-itself [] = refl
same_set-itself (a ∷ S) = and_from _ _ (eq-eqb a a refl) (same_set-itself S)

-- a test of sets by their members, as a membership
pub contains_from_test : (Ss : List Atoms) (S : Atoms) → list_any (same_set S) Ss ≡ true → Contains Ss S
contains_from_test Ss S h =
    let any = Any-from_list_any (same_set S) Ss h in
    let same : S ≡ any.1 = same_text S any.1 (sym any.4) in
    let P : Atoms → Type 0 = λ T. Contains Ss T in
    subst P (sym same) (any.0, any.2, any.3)

pub test_from_contains : (Ss : List Atoms) (S : Atoms) → Contains Ss S → list_any (same_set S) Ss ≡ true
test_from_contains Ss S h = list_any-from_Any (same_set S) Ss (h.0, S, h.1, h.2, same_set-itself S)

-- ---- one list
rising_from_pairs : (Ss : List Atoms) → AllPairs IsBefore Ss → IsRising Ss
rising_from_pairs [] pairs = tt
rising_from_pairs (S ∷ Ss) pairs = (
  recursion_from_All (IsBefore S) Ss (λ k d lt. pairs 0 (suc k) d (omega arith) (omega arith)),
  rising_from_pairs Ss (λ i j d lt len. pairs (suc i) (suc j) d (omega arith) (omega arith)),
)

-- the first set of a list is before each other member
before_member : (S U : Atoms) (Ss : List Atoms) → AllByRecursion (IsBefore S) Ss → list_any (same_set U) Ss ≡ true → IsBefore S U
before_member S U Ss all h =
    one_passes (IsBefore S U) (same_set U) Ss (each_weaker (IsBefore S) (λ T. same_set U T ≡ true → IsBefore S U) (λ T before e. subst (IsBefore S) (sym (same_text U T (sym e))) before) Ss all) h

-- each member of the one list is a member of the other
abbrev pub AreMembers : List Atoms → List Atoms → Type 0
AreMembers Ss Ts = (U : Atoms) → list_any (same_set U) Ss ≡ true → list_any (same_set U) Ts ≡ true

first_member : (S : Atoms) (Ss : List Atoms) → list_any (same_set S) (S ∷ Ss) ≡ true
first_member S Ss = or_left (same_set S S) (list_any (same_set S) Ss) (same_set-itself S)

members_after : (S : Atoms) (Ss Ts : List Atoms) → AllByRecursion (IsBefore S) Ss → AreMembers (S ∷ Ss) (S ∷ Ts) → AreMembers Ss Ts
members_after S Ss Ts low sub U h = elim (or_cases (same_set U S) (list_any (same_set U) Ts) (sub U (or_right (same_set U S) (list_any (same_set U) Ss) h))) [
  | inl e ↦ absurd (not_itself S U (sym (same_text U S (sym e))) (before_member S U Ss low h))
  | inr there ↦ there
]

first_same : (S T : Atoms) (Ss Ts : List Atoms) → AllByRecursion (IsBefore S) Ss → AllByRecursion (IsBefore T) Ts → AreMembers (S ∷ Ss) (T ∷ Ts) → AreMembers (T ∷ Ts) (S ∷ Ss) → S ≡ T
first_same S T Ss Ts s t there back = elim (or_cases (same_set S T) (list_any (same_set S) Ts) (there S (first_member S Ss))) [
  | inl e ↦ same_text S T (sym e)
  | inr later ↦ elim (or_cases (same_set T S) (list_any (same_set T) Ss) (back T (first_member T Ts))) [
    | inl e ↦ sym (same_text T S (sym e))
    | inr after ↦ absurd (not_both S T (before_member S T Ss s after) (before_member T S Ts t later))
  ]
]

same_lists : (Ss Ts : List Atoms) → IsRising Ss → IsRising Ts → AreMembers Ss Ts → AreMembers Ts Ss → Ss ≡ Ts
same_lists [] [] s t there back = refl
same_lists [] (T ∷ Ts) s t there back = absurd (false≢true (back T (first_member T Ts)))
same_lists (S ∷ Ss) [] s t there back = absurd (false≢true (there S (first_member S Ss)))
same_lists (S ∷ Ss) (T ∷ Ts) s t there back =
    let first : S ≡ T = first_same S T Ss Ts s.0 t.0 there back in
    let t' : AllByRecursion (IsBefore S) Ts = subst (λ U. AllByRecursion (IsBefore U) Ts) (sym first) t.0 in
    let there' : AreMembers (S ∷ Ss) (S ∷ Ts) = subst (λ U. AreMembers (S ∷ Ss) (U ∷ Ts)) (sym first) there in
    let back' : AreMembers (S ∷ Ts) (S ∷ Ss) = subst (λ U. AreMembers (U ∷ Ts) (S ∷ Ss)) (sym first) back in
    ap (λ U. U ∷ Ss) first ∙ ap (λ Us. T ∷ Us) (same_lists Ss Ts s.1 t.1 (members_after S Ss Ts s.0 there') (members_after S Ts Ss t' back'))

-- Two ascending lists with the same members are one list.
pub same_from_members : (Ss Ts : List Atoms) → AllPairs IsBefore Ss → AllPairs IsBefore Ts → ((S : Atoms) → Contains Ss S ↔ Contains Ts S) → Ss ≡ Ts
same_from_members Ss Ts s t same =
    same_lists Ss Ts (rising_from_pairs Ss s) (rising_from_pairs Ts t) (λ U h. test_from_contains Ts U ((same U).0 (contains_from_test Ss U h)))
    (λ U h. test_from_contains Ss U ((same U).1 (contains_from_test Ts U h)))
