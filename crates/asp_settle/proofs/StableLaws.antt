-- A set is a stable model of what is left exactly where with the facts it is one of the program.
use Rattle.std.proofs.Common.{◌≡◌, ℕ, suc, Bool, true, false, not, ◌&&◌, ◌||◌, eqb, List, [], ◌∷◌, ◌++◌, map, flat_map, get_or, refl, sym, ap, ◌∙◌, subst, arith, inl, inr, Contains}
use Rattle.std.specs.List.{AllByRecursion, AllPairs, list_any}
use Rattle.std.specs.Cmp.Lexicographic.{same_text}
use Rattle.std.proofs.lemmas.Bool.{and_parts, both_ways, false_from_ne_true, or_cases, or_from, or_left, or_right}
use Rattle.std.proofs.lemmas.List.{get_or_default}
use Rattle.std.proofs.lemmas.List.Elements.{recursion_from_All}
use Rattle.std.proofs.lemmas.List.Folds.{Any-from_list_any, list_any-append}
use Rattle.asp_model.specs.declared.program.Program.{Program}
use Rattle.asp_model.specs.Sets.{Atoms, IsAscending, IsBefore, IsSubset, has, same_set, set_of, with_atom}
use Rattle.asp_model.specs.Reduct.{reduct, step}
use Rattle.asp_model.specs.Holding.{all_hold}
use Rattle.asp_model.specs.Models.{answers, is_stable, is_violated, least_model, rules_in_force}
use Rattle.asp_model.specs.Sound.{HasBody, IsSound}
use Rattle.asp_model.proofs.SetLaws.{IsAscending-set_of, IsAscending-with_atom, has-set_of, same_from_has}
use Rattle.asp_model.proofs.MemberLaws.{each_of, list_any-map, list_any-weaker}
use Rattle.asp_model.proofs.StepLaws.{closed_from_step}
use Rattle.asp_model.proofs.ListedLaws.{contains_from_test, same_from_members, same_set-itself, test_from_contains}
use Rattle.asp_model.proofs.ModelLaws.{answers-are, answers-rise, least_model-ascends, least_model-derived, least_model-least, same_bools, stable-least}
use Rattle.asp_model.proofs.SubsetLaws.{IsRising, pairs_from_rising}
use Rattle.asp_model.proofs.SoundLaws.{rules_in_force-bodies}
use Rattle.asp_model.proofs.ConsequenceLaws.{ascends-filter, has-filter}
use Rattle.asp_settle.specs.Settled.{settled_rule, united, without}
use Rattle.asp_settle.proofs.ReadLaws.{has-united}
use Rattle.asp_settle.proofs.RuleLaws.{HaveSoundBodies, all-violated, step-apart, step-left}

-- What is left of a program when F is set aside: its rules are those in force without F, and F is in each least model.
pub record IsLeft (F : Atoms) (p q : Program) : Type 0 where
  pub ascending : IsAscending F
  pub rules : rules_in_force q ≡ flat_map (settled_rule F) (rules_in_force p)
  pub derived : (S : Atoms) → IsSubset F (least_model p S)
  pub whole : IsSound p
  pub sound : IsSound q

abbrev pub IsApart : Atoms → Atoms → Type 0
IsApart F S = (a : ℕ) → has F a ≡ true → has S a ≡ false

pub has-without : (F S : Atoms) (a : ℕ) → has (without F S) a ≡ (not (has F a) && has S a)
has-without F S a = has-filter (λ b. not (has F b)) S a

pub united-ascends : (F S : Atoms) → IsAscending S → IsAscending (united F S)
united-ascends [] S up = up
united-ascends (a ∷ F) S up = united-ascends F (with_atom a S) (IsAscending-with_atom a S up)

-- a list of the atoms of both
pub united-from : (F S : Atoms) (atoms : List ℕ) → IsAscending S → atoms ≡ S ++ F → set_of atoms ≡ united F S
united-from F S atoms up e =
    same_from_has (set_of atoms) (united F S) (IsAscending-set_of atoms) (united-ascends F S up) (λ a.
    has-set_of atoms a ∙ ap (λ xs. has xs a) e ∙ list_any-append (λ b. eqb b a) S F ∙ sym (has-united F S a))

parted : (f s : Bool) → (f ≡ true → s ≡ true) → ((not f && s) || f) ≡ s
parted true s h = sym (h refl)
parted false true h = refl
parted false false h = refl

pub united-without : (F S : Atoms) → IsAscending S → IsSubset F S → united F (without F S) ≡ S
united-without F S up sub =
    same_from_has (united F (without F S)) S (united-ascends F (without F S) (ascends-filter (λ a. not (has F a)) S up)) up (λ a.
    has-united F (without F S) a ∙ ap (λ b. b || has F a) (has-without F S a) ∙ parted (has F a) (has S a) (sub a))

joined : (f s : Bool) → (f ≡ true → s ≡ false) → (not f && (s || f)) ≡ s
joined true s h = sym (h refl)
joined false true h = refl
joined false false h = refl

pub without-united : (F S : Atoms) → IsAscending S → IsApart F S → without F (united F S) ≡ S
without-united F S up apart =
    same_from_has (without F (united F S)) S (ascends-filter (λ a. not (has F a)) (united F S) (united-ascends F S up)) up (λ a.
    has-without F (united F S) a ∙ ap (λ b. not (has F a) && b) (has-united F S a) ∙ joined (has F a) (has S a) (apart a))

-- ---- least models
sound_bodies : (p : Program) → IsSound p → HaveSoundBodies (rules_in_force p)
sound_bodies p sound = recursion_from_All HasBody (rules_in_force p) (rules_in_force-bodies p sound)

left-step : (F : Atoms) (p q : Program) → IsLeft F p q → (S T : Atoms) (a : ℕ) → has F a ≡ false →
    has (step (reduct S (rules_in_force q)) T) a ≡ has (step (reduct (united F S) (rules_in_force p)) (united F T)) a
left-step F p q l S T a out =
    ap (λ rs. has (step (reduct S rs) T) a) l.rules ∙ step-left F S T (rules_in_force p) a (sound_bodies p l.whole) out

left-apart : (F : Atoms) (p q : Program) → IsLeft F p q → (S T : Atoms) (a : ℕ) → has F a ≡ true → has (step (reduct S (rules_in_force q)) T) a ≡ false
left-apart F p q l S T a fact = ap (λ rs. has (step (reduct S rs) T) a) l.rules ∙ step-apart F S T (rules_in_force p) a fact

pub derived-has : (p : Program) (S : Atoms) (a : ℕ) → IsSound p → has (step (reduct S (rules_in_force p)) (least_model p S)) a ≡ has (least_model p S) a
derived-has p S a sound = ap (λ T. has T a) (least_model-derived p S sound)

pub least-apart : (F : Atoms) (p q : Program) → IsLeft F p q → (S : Atoms) → IsApart F (least_model q S)
least-apart F p q l S a fact = sym (derived-has q S a l.sound) ∙ left-apart F p q l S (least_model q S) a fact

-- what the program derives from a set with F, once F itself is left out
least-within : (F : Atoms) (p q : Program) → IsLeft F p q → (S : Atoms) → IsSubset (least_model p (united F S)) (united F (least_model q S))
least-within F p q l S =
    least_model-least p (united F S) (united F (least_model q S)) l.whole (closed_from_step (reduct (united F S) (rules_in_force p)) (united F (least_model q S)) (λ a h.
    has-united F (least_model q S) a ∙ by a (has F a) refl h))
  where
    by : (a : ℕ) (f : Bool) → has F a ≡ f → has (step (reduct (united F S) (rules_in_force p)) (united F (least_model q S))) a ≡ true → (has (least_model q S) a || has F a) ≡ true
    by a true e h = or_right (has (least_model q S) a) (has F a) e
    by a false e h = or_left (has (least_model q S) a) (has F a) (sym (derived-has q S a l.sound) ∙ left-step F p q l S (least_model q S) a e ∙ h)

least-without : (F : Atoms) (p q : Program) → IsLeft F p q → (S : Atoms) → IsSubset (least_model q S) (without F (least_model p (united F S)))
least-without F p q l S =
    least_model-least q S (without F (least_model p (united F S))) l.sound (closed_from_step (reduct S (rules_in_force q)) (without F (least_model p (united F S))) (λ a h.
    has-without F (least_model p (united F S)) a ∙ by a (has F a) refl h))
  where
    whole : united F (without F (least_model p (united F S))) ≡ least_model p (united F S)
    whole = united-without F (least_model p (united F S)) (least_model-ascends p (united F S)) (l.derived (united F S))

    there : (a : ℕ) → has F a ≡ false → has (step (reduct S (rules_in_force q)) (without F (least_model p (united F S)))) a ≡ has (least_model p (united F S)) a
    there a e =
        left-step F p q l S (without F (least_model p (united F S))) a e
        ∙ ap (λ T. has (step (reduct (united F S) (rules_in_force p)) T) a) whole
        ∙ derived-has p (united F S) a l.whole

    by : (a : ℕ) (f : Bool) → has F a ≡ f → has (step (reduct S (rules_in_force q)) (without F (least_model p (united F S)))) a ≡ true → (not (has F a) && has (least_model p (united F S)) a) ≡ true
    by a true e h = absurd (both_ways _ (left-apart F p q l S (without F (least_model p (united F S))) a e) h)
    by a false e h = ap (λ b. not b && has (least_model p (united F S)) a) e ∙ sym (there a e) ∙ h

-- The least model of the program is that of what is left, with F.
pub least-left : (F : Atoms) (p q : Program) → IsLeft F p q → (S : Atoms) → least_model p (united F S) ≡ united F (least_model q S)
least-left F p q l S =
    same_from_has (least_model p (united F S)) (united F (least_model q S)) (least_model-ascends p (united F S)) (united-ascends F (least_model q S) (least_model-ascends q S)) (λ a.
    same_bools (has (least_model p (united F S)) a) (has (united F (least_model q S)) a) (least-within F p q l S a) (λ h.
    elim (or_cases (has (least_model q S) a) (has F a) (sym (has-united F (least_model q S) a) ∙ h)) [
      | inl m ↦ (and_parts (not (has F a)) (has (least_model p (united F S)) a) (sym (has-without F (least_model p (united F S)) a) ∙ least-without F p q l S a m)).1
      | inr f ↦ l.derived (united F S) a f
    ]))

-- ---- stable models
same_test : (S T : Atoms) → S ≡ T → same_set S T ≡ true
same_test S T e = subst (λ U. same_set S U ≡ true) e (same_set-itself S)

same_left : (F : Atoms) (p q : Program) → IsLeft F p q → (S : Atoms) → IsAscending S → IsApart F S → same_set (united F S) (least_model p (united F S)) ≡ same_set S (least_model q S)
same_left F p q l S up apart =
    same_bools (same_set (united F S) (least_model p (united F S))) (same_set S (least_model q S))
    (λ e. same_test S (least_model q S) (sym (without-united F S up apart)
    ∙ ap (without F) (same_text (united F S) (least_model p (united F S)) (sym e) ∙ least-left F p q l S)
    ∙ without-united F (least_model q S) (least_model-ascends q S) (least-apart F p q l S)))
    (λ e. same_test (united F S) (least_model p (united F S)) (ap (united F) (same_text S (least_model q S) (sym e)) ∙ sym (least-left F p q l S)))

pub stable-left : (F : Atoms) (p q : Program) → IsLeft F p q → (S : Atoms) → IsAscending S → IsApart F S → is_stable p (united F S) ≡ is_stable q S
stable-left F p q l S up apart =
    ap (λ b. b && not (list_any (is_violated (united F S)) (rules_in_force p))) (same_left F p q l S up apart)
    ∙ ap (λ b. same_set S (least_model q S) && not b) (sym (ap (list_any (is_violated S)) l.rules ∙ all-violated F S (rules_in_force p) (sound_bodies p l.whole)))

pub stable-apart : (F : Atoms) (p q : Program) → IsLeft F p q → (S : Atoms) → is_stable q S ≡ true → IsAscending S × IsApart F S
stable-apart F p q l S h =
    let P : Atoms → Type 0 = λ T. IsAscending T × IsApart F T in
    subst P (sym (stable-least q S h)) (least_model-ascends q S, least-apart F p q l S)

pub stable-whole : (F : Atoms) (p q : Program) → IsLeft F p q → (S : Atoms) → is_stable p S ≡ true → IsAscending S × IsSubset F S
stable-whole F p q l S h =
    let P : Atoms → Type 0 = λ T. IsAscending T × IsSubset F T in
    subst P (sym (stable-least p S h)) (least_model-ascends p S, l.derived S)

-- ---- lists of sets
pub contains-map : (f : Atoms → Atoms) (Ss : List Atoms) (S : Atoms) → Contains Ss S → Contains (map f Ss) (f S)
contains-map f Ss S h =
    contains_from_test (map f Ss) (f S) (list_any-map (same_set (f S)) f Ss
    ∙ list_any-weaker (same_set S) (λ T. same_set (f S) (f T)) Ss (each_of (λ T. same_set S T ≡ true → same_set (f S) (f T) ≡ true) (λ T e.
    same_test (f S) (f T) (ap f (same_text S T (sym e)))) Ss) (test_from_contains Ss S h))

pub map-contains : (f : Atoms → Atoms) (Ss : List Atoms) (X : Atoms) → Contains (map f Ss) X → (S : Atoms) × Contains Ss S × (X ≡ f S)
map-contains f Ss X h =
    let any = Any-from_list_any (λ S. same_set X (f S)) Ss (sym (list_any-map (same_set X) f Ss) ∙ test_from_contains (map f Ss) X h) in
    (any.1, (any.0, any.2, any.3), same_text X (f any.1) (sym any.4))

rising_from_pairs : (Ss : List Atoms) → AllPairs IsBefore Ss → IsRising Ss
rising_from_pairs [] pairs = tt
rising_from_pairs (S ∷ Ss) pairs = (
  recursion_from_All (IsBefore S) Ss (λ k d lt. pairs 0 (suc k) d (omega arith) (omega arith)),
  rising_from_pairs Ss (λ i j d lt len. pairs (suc i) (suc j) d (omega arith) (omega arith)),
)

before-united : (F S T : Atoms) → IsApart F T → IsBefore S T → IsBefore (united F S) (united F T)
before-united F S T apart h =
    let out : has F h.0 ≡ false = false_from_ne_true (has F h.0) (λ fact. both_ways (has T h.0) (apart h.0 fact) h.1) in (
      h.0,
      has-united F T h.0 ∙ or_left (has T h.0) (has F h.0) h.1,
      has-united F S h.0 ∙ or_from (has S h.0) (has F h.0) h.2 out,
      λ b lt. has-united F S b ∙ ap (λ c. c || has F b) (h.3 b lt) ∙ sym (has-united F T b),
    )

each-before : (F S : Atoms) (Ss : List Atoms) → AllByRecursion (IsApart F) Ss → AllByRecursion (IsBefore S) Ss → AllByRecursion (IsBefore (united F S)) (map (united F) Ss)
each-before F S [] apart h = tt
each-before F S (T ∷ Ss) apart h = (before-united F S T apart.0 h.0, each-before F S Ss apart.1 h.1)

rising-united : (F : Atoms) (Ss : List Atoms) → AllByRecursion (IsApart F) Ss → IsRising Ss → IsRising (map (united F) Ss)
rising-united F [] apart h = tt
rising-united F (S ∷ Ss) apart h = (each-before F S Ss apart.1 h.0, rising-united F Ss apart.1 h.1)

pub each-contained : (P : Atoms → Type 0) (Ss : List Atoms) → ((S : Atoms) → Contains Ss S → P S) → AllByRecursion P Ss
each-contained P Ss h = recursion_from_All P Ss (λ k d lt. h (get_or Ss k d) (k, lt, get_or_default Ss k (get_or Ss k d) d lt))

pub pairs-united : (F : Atoms) (Ss : List Atoms) → AllByRecursion (IsApart F) Ss → AllPairs IsBefore Ss → AllPairs IsBefore (map (united F) Ss)
pairs-united F Ss apart h = pairs_from_rising (map (united F) Ss) (rising-united F Ss apart (rising_from_pairs Ss h))

-- ---- answers
-- The assumptions are those of the program, and speak of no atom of F.
pub record HasAnswersOf (F : Atoms) (p q : Program) : Type 0 where
  pub is : IsLeft F p q
  pub assumed : (S : Atoms) → all_hold (united F S) p.assumptions ≡ all_hold S q.assumptions

pub answers-left : (F : Atoms) (p q : Program) → HasAnswersOf F p q → answers p ≡ map (united F) (answers q)
answers-left F p q l =
    same_from_members (answers p) (map (united F) (answers q)) (answers-rise p)
    (pairs-united F (answers q) (each-contained (IsApart F) (answers q) (λ S h. (stable-apart F p q l.is S ((answers-are q S).0 h).0).1))
    (answers-rise q)) (λ X. (there X, back X))
  where
    there : (X : Atoms) → Contains (answers p) X → Contains (map (united F) (answers q)) X
    there X h =
        let parts = (answers-are p X).0 h in
        let ok = stable-whole F p q l.is X parts.0 in
        let e : united F (without F X) ≡ X = united-without F X ok.0 ok.1 in
        let apart : IsApart F (without F X) = λ a fact. has-without F X a ∙ ap (λ b. not b && has X a) fact in
        let stable : is_stable q (without F X) ≡ true = sym (stable-left F p q l.is (without F X) (ascends-filter (λ a. not (has F a)) X ok.0) apart) ∙ ap (is_stable p) e ∙ parts.0 in
        let holds : all_hold (without F X) q.assumptions ≡ true = sym (l.assumed (without F X)) ∙ ap (λ S. all_hold S p.assumptions) e ∙ parts.1 in
        subst (Contains (map (united F) (answers q))) e (contains-map (united F) (answers q) (without F X) ((answers-are q (without F X)).1 (stable, holds)))

    back : (X : Atoms) → Contains (map (united F) (answers q)) X → Contains (answers p) X
    back X h =
        let one = map-contains (united F) (answers q) X h in
        let parts = (answers-are q one.0).0 one.1 in
        let ok = stable-apart F p q l.is one.0 parts.0 in
        subst (Contains (answers p)) (sym one.2) ((answers-are p (united F one.0)).1 (stable-left F p q l.is one.0 ok.0 ok.1 ∙ parts.0, l.assumed one.0 ∙ parts.1))
