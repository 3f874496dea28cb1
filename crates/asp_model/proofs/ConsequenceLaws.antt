-- What answers show, what they cover, and what they have in common.
use Rattle.std.proofs.Common.{◌≡◌, ℕ, Bool, true, false, not, cond, ◌&&◌, ◌||◌, eqb, List, [], ◌∷◌, ◌++◌, ◌<◌, filter, Option, None, Some, refl, sym, ap, ◌∙◌, subst, inl, inr, Contains, ◌↔◌}
use Rattle.std.specs.List.{AllByRecursion, list_any, list_all}
use Rattle.std.specs.Cmp.Lexicographic.{same_text}
use Rattle.std.proofs.lemmas.Bool.{and_parts, and_from, cases_Bool, eqb-true, not-true, or_left, or_right, false≢true}
use Rattle.std.proofs.lemmas.List.Folds.{Any-from_list_any, list_any-append}
use Rattle.asp_model.specs.declared.program.Program.{Program}
use Rattle.asp_model.specs.declared.results.Reasoning.{Reasoning}
use Rattle.asp_model.specs.declared.results.Reasoning.TheVariants.{Brave, Cautious}
use Rattle.asp_model.specs.Sets.{Atoms, IsAscending, has, same_set, IsSubset}
use Rattle.asp_model.specs.Models.{is_stable, mentions, models, answers, atoms_of}
use Rattle.asp_model.specs.Consequences.{union, intersection, consequences, consequences_of, common_sets, shows, unshown, told_set, covers, used_up}
use Rattle.asp_model.proofs.MemberLaws.{list_any-filter, list_any-weaker, one_passes, each_of, each_weaker, each-filter, HasAll-itself}
use Rattle.asp_model.proofs.SetLaws.{IsAscending-set_of}
use Rattle.asp_model.proofs.ListedLaws.{test_from_contains, same_set-itself}
use Rattle.asp_model.proofs.ModelLaws.{same_bools, models-are, answers-are, stable-subset}

-- ---- tests of members
-- a test that one element alone passes, of what another test leaves
any-filter_at : {X : Type 0} (e q : X → Bool) (a : X) → ((x : X) → e x ≡ true → x ≡ a) → (xs : List X) → list_any e (filter q xs) ≡ (q a && list_any e xs)
any-filter_at e q a only xs = list_any-filter e q xs ∙ same_bools (list_any (λ x. q x && e x) xs) (q a && list_any e xs) there back
  where
    there : list_any (λ x. q x && e x) xs ≡ true → (q a && list_any e xs) ≡ true
    there h =
        and_from (q a) (list_any e xs)
        (one_passes (q a ≡ true) (λ x. q x && e x) xs (each_of (λ x. (q x && e x) ≡ true → q a ≡ true) (λ x g. let parts = and_parts (q x) (e x) g in ap q (sym (only x parts.1)) ∙ parts.0) xs) h)
        (list_any-weaker (λ x. q x && e x) e xs (each_of (λ x. (q x && e x) ≡ true → e x ≡ true) (λ x g. (and_parts (q x) (e x) g).1) xs) h)

    back : (q a && list_any e xs) ≡ true → list_any (λ x. q x && e x) xs ≡ true
    back h =
        let parts = and_parts (q a) (list_any e xs) h in
        list_any-weaker e (λ x. q x && e x) xs (each_of (λ x. e x ≡ true → (q x && e x) ≡ true) (λ x g. and_from (q x) (e x) (ap q (only x g) ∙ parts.0) g) xs) parts.1

pub has-filter : (q : ℕ → Bool) (L : Atoms) (a : ℕ) → has (filter q L) a ≡ (q a && has L a)
has-filter q L a = any-filter_at (λ b. eqb b a) q a (λ b e. eqb-true b a e) L

pub listed-filter : (q : Atoms → Bool) (L : List Atoms) (S : Atoms) → list_any (same_set S) (filter q L) ≡ (q S && list_any (same_set S) L)
listed-filter q L S = any-filter_at (same_set S) q S (λ T e. sym (same_text S T (sym e))) L

-- what a member passes, one passes
pub any-at : (f : ℕ → Bool) (L : Atoms) (a : ℕ) → has L a ≡ true → f a ≡ true → list_any f L ≡ true
any-at f L a h e = list_any-weaker (λ b. eqb b a) f L (each_of (λ b. eqb b a ≡ true → f b ≡ true) (λ b g. ap f (eqb-true b a g) ∙ e) L) h

pub any-of : (f : Atoms → Bool) (L : List Atoms) (S : Atoms) → list_any (same_set S) L ≡ true → f S ≡ true → list_any f L ≡ true
any-of f L S h e = list_any-weaker (same_set S) f L (each_of (λ T. same_set S T ≡ true → f T ≡ true) (λ T g. ap f (sym (same_text S T (sym g))) ∙ e) L) h

-- each of these sets is among the others
abbrev pub AreAmong : List Atoms → List Atoms → Type 0
AreAmong K L = (S : Atoms) → list_any (same_set S) K ≡ true → list_any (same_set S) L ≡ true

pub any-among : (f : Atoms → Bool) (K L : List Atoms) → AreAmong K L → list_any f K ≡ true → list_any f L ≡ true
any-among f K L among h =
    let any = Any-from_list_any f K h in
    any-of f L any.1 (among any.1 (test_from_contains K any.1 (any.0, any.2, any.3))) any.4

pub any-same : (f : Atoms → Bool) (K L : List Atoms) → AreAmong K L → AreAmong L K → list_any f K ≡ list_any f L
any-same f K L there back = same_bools (list_any f K) (list_any f L) (any-among f K L there) (any-among f L K back)

-- the first of a list is among its members
pub first-among : (S : Atoms) (K : List Atoms) → list_any (same_set S) (S ∷ K) ≡ true
first-among S K = or_left (same_set S S) (list_any (same_set S) K) (same_set-itself S)

-- ---- what answers cover
pub covered-shown : (r : Reasoning) (p : Program) (K : List Atoms) (S : Atoms) → covers r p K S ≡ true → (a : ℕ) → has (atoms_of p) a ≡ true → shows r S a ≡ true → list_any (λ T. shows r T a) K ≡ true
covered-shown r p [] S c a h s = absurd (false≢true c)
covered-shown r p (U ∷ K) S c a h s = elim (cases_Bool (list_any (λ T. shows r T a) (U ∷ K))) [
  | inl e ↦ e
  | inr e ↦ absurd (false≢true (sym (not-true (list_any (shows r S) (unshown r p (U ∷ K))) c) ∙ lacking e))
]
  where
    lacking : list_any (λ T. shows r T a) (U ∷ K) ≡ false → list_any (shows r S) (unshown r p (U ∷ K)) ≡ true
    lacking e =
        list_any-filter (shows r S) (λ b. not (list_any (λ T. shows r T b) (U ∷ K))) (atoms_of p)
        ∙ any-at (λ b. not (list_any (λ T. shows r T b) (U ∷ K)) && shows r S b) (atoms_of p) a h (and_from (not (list_any (λ T. shows r T a) (U ∷ K))) (shows r S a) (ap not e) s)

pub covers-from : (r : Reasoning) (p : Program) (K : List Atoms) (S : Atoms) → (K ≡ [] → ⊥) →
    ((a : ℕ) → has (atoms_of p) a ≡ true → shows r S a ≡ true → list_any (λ T. shows r T a) K ≡ true) → covers r p K S ≡ true
covers-from r p [] S some h = absurd (some refl)
covers-from r p (U ∷ K) S some h = elim (cases_Bool (list_any (shows r S) (unshown r p (U ∷ K)))) [
  | inl e ↦ absurd (one_passes ⊥ (λ b. not (list_any (λ T. shows r T b) (U ∷ K)) && shows r S b) (atoms_of p) none
      (sym (list_any-filter (shows r S) (λ b. not (list_any (λ T. shows r T b) (U ∷ K))) (atoms_of p)) ∙ e))
  | inr e ↦ ap not e
]
  where
    none : AllByRecursion (λ b. (not (list_any (λ T. shows r T b) (U ∷ K)) && shows r S b) ≡ true → ⊥) (atoms_of p)
    none =
        each_weaker (λ b. has (atoms_of p) b ≡ true) (λ b. (not (list_any (λ T. shows r T b) (U ∷ K)) && shows r S b) ≡ true → ⊥)
        (λ b there g. let parts = and_parts (not (list_any (λ T. shows r T b) (U ∷ K))) (shows r S b) g in
        false≢true (sym (not-true (list_any (λ T. shows r T b) (U ∷ K)) parts.0) ∙ h b there parts.1))
        (atoms_of p) (HasAll-itself (atoms_of p))

pub covers-some : (r : Reasoning) (p : Program) (K : List Atoms) (S : Atoms) → covers r p K S ≡ true → K ≡ [] → ⊥
covers-some r p K S c e = false≢true (ap (λ (L : List Atoms). covers r p L S) (sym e) ∙ c)

member-some : (K : List Atoms) (S : Atoms) → list_any (same_set S) K ≡ true → K ≡ [] → ⊥
member-some K S h e = false≢true (ap (λ (L : List Atoms). list_any (same_set S) L) (sym e) ∙ h)

among-some : (K L : List Atoms) → AreAmong K L → (K ≡ [] → ⊥) → L ≡ [] → ⊥
among-some [] L among some e = some refl
among-some (S ∷ K) L among some e = member-some L S (among S (first-among S K)) e

pub covers-more : (r : Reasoning) (p : Program) (K L : List Atoms) (S : Atoms) → AreAmong K L → covers r p K S ≡ true → covers r p L S ≡ true
covers-more r p K L S among c =
    covers-from r p L S (among-some K L among (covers-some r p K S c)) (λ a h s. any-among (λ T. shows r T a) K L among (covered-shown r p K S c a h s))

pub covers-itself : (r : Reasoning) (p : Program) (K : List Atoms) (S : Atoms) → list_any (same_set S) K ≡ true → covers r p K S ≡ true
covers-itself r p K S h = covers-from r p K S (member-some K S h) (λ a there s. any-of (λ T. shows r T a) K S h s)

-- ---- what need not be found again
and-true : (a b : Bool) → b ≡ true → (a && b) ≡ a
and-true true b e = e
and-true false b e = refl

pub listed-used : (r : Reasoning) (p : Program) (K : List Atoms) (S : Atoms) → is_stable p S ≡ true → list_any (same_set S) (used_up (Some r) p K) ≡ covers r p K S
listed-used r p K S stable = listed-filter (covers r p K) (models p) S ∙ and-true (covers r p K S) (list_any (same_set S) (models p)) (test_from_contains (models p) S ((models-are p S).1 stable))

pub used-covered : (r : Reasoning) (p : Program) (K : List Atoms) (S : Atoms) → list_any (same_set S) (used_up (Some r) p K) ≡ true → covers r p K S ≡ true
used-covered r p K S h = (and_parts (covers r p K S) (list_any (same_set S) (models p)) (sym (listed-filter (covers r p K) (models p) S) ∙ h)).0

used-models : (r : Reasoning) (p : Program) (K : List Atoms) (S : Atoms) → list_any (same_set S) (used_up (Some r) p K) ≡ true → list_any (same_set S) (models p) ≡ true
used-models r p K S h = (and_parts (covers r p K S) (list_any (same_set S) (models p)) (sym (listed-filter (covers r p K) (models p) S) ∙ h)).1

-- More answers cover more.
pub used-more : (k : Option Reasoning) (p : Program) (K L : List Atoms) → AreAmong K L → AreAmong (used_up k p K) (used_up k p L)
used-more None p K L among = among
used-more (Some r) p K L among = λ S h.
    listed-filter (covers r p L) (models p) S ∙ and_from (covers r p L S) (list_any (same_set S) (models p)) (covers-more r p K L S among (used-covered r p K S h)) (used-models r p K S h)

-- a stable model that is known is used up
pub used-itself : (k : Option Reasoning) (p : Program) (K : List Atoms) (S : Atoms) → is_stable p S ≡ true → list_any (same_set S) K ≡ true → list_any (same_set S) (used_up k p K) ≡ true
used-itself None p K S stable h = h
used-itself (Some r) p K S stable h = listed-used r p K S stable ∙ covers-itself r p K S h

-- ---- what they have in common
filter-same : (f g : ℕ → Bool) (xs : Atoms) → AllByRecursion (λ a. f a ≡ g a) xs → filter f xs ≡ filter g xs
filter-same f g [] h = refl
filter-same f g (x ∷ xs) h = ap (λ b. cond b (x ∷ filter f xs) (filter f xs)) h.0 ∙ ap (λ (ys : Atoms). cond (g x) (x ∷ ys) ys) (filter-same f g xs h.1)

pub filter-atoms : (f g : ℕ → Bool) (L : Atoms) → ((a : ℕ) → has L a ≡ true → f a ≡ g a) → filter f L ≡ filter g L
filter-atoms f g L h = filter-same f g L (each_weaker (λ a. has L a ≡ true) (λ a. f a ≡ g a) h L (HasAll-itself L))

all-any : (f : Atoms → Bool) (K : List Atoms) → list_all f K ≡ not (list_any (λ S. not (f S)) K)
all-any f [] = refl
all-any f (S ∷ K) = here (f S) (all-any f K)
  where
    here : (b : Bool) → list_all f K ≡ not (list_any (λ T. not (f T)) K) → (b && list_all f K) ≡ not (not b || list_any (λ T. not (f T)) K)
    here true e = e
    here false e = refl

consequences-by : (r : Reasoning) (p : Program) (K L : List Atoms) →
    ((a : ℕ) → has (atoms_of p) a ≡ true → list_any (λ T. shows r T a) K ≡ list_any (λ T. shows r T a) L) → consequences r p K ≡ consequences r p L
consequences-by Brave p K L h = filter-atoms (λ a. list_any (λ S. has S a) K) (λ a. list_any (λ S. has S a) L) (atoms_of p) h
consequences-by Cautious p K L h =
    filter-atoms (λ a. list_all (λ S. has S a) K) (λ a. list_all (λ S. has S a) L) (atoms_of p)
    (λ a there. all-any (λ S. has S a) K ∙ ap not (h a there) ∙ sym (all-any (λ S. has S a) L))

pub consequences-same : (r : Reasoning) (p : Program) (K L : List Atoms) →
    ((a : ℕ) → has (atoms_of p) a ≡ true → list_any (λ T. shows r T a) K ≡ list_any (λ T. shows r T a) L) → (K ≡ [] → L ≡ []) → (L ≡ [] → K ≡ []) →
    consequences_of r p K ≡ consequences_of r p L
consequences-same r p [] [] h there back = refl
consequences-same r p [] (T ∷ L) h there back = absurd (member-some (T ∷ L) T (first-among T L) (there refl))
consequences-same r p (S ∷ K) [] h there back = absurd (member-some (S ∷ K) S (first-among S K) (back refl))
consequences-same r p (S ∷ K) (T ∷ L) h there back = ap (λ (B : Atoms). Some B) (consequences-by r p (S ∷ K) (T ∷ L) h)

empty-among : (K L : List Atoms) → AreAmong K L → L ≡ [] → K ≡ []
empty-among [] L among e = refl
empty-among (S ∷ K) L among e = absurd (member-some L S (among S (first-among S K)) e)

-- Where each answer is covered by those found, these have all in common that the answers have.
pub consequences-covered : (r : Reasoning) (p : Program) (K L : List Atoms) → AreAmong K L →
    ((S : Atoms) → list_any (same_set S) L ≡ true → covers r p K S ≡ true) → consequences_of r p K ≡ consequences_of r p L
consequences-covered r p K L among all =
    consequences-same r p K L (λ a there. same_bools (list_any (λ T. shows r T a) K) (list_any (λ T. shows r T a) L) (any-among (λ T. shows r T a) K L among) (shown a there))
    (none L all) (empty-among K L among)
  where
    shown : (a : ℕ) → has (atoms_of p) a ≡ true → list_any (λ T. shows r T a) L ≡ true → list_any (λ T. shows r T a) K ≡ true
    shown a there h =
        let any = Any-from_list_any (λ T. shows r T a) L h in
        covered-shown r p K any.1 (all any.1 (test_from_contains L any.1 (any.0, any.2, any.3))) a there any.4

    none : (M : List Atoms) → ((S : Atoms) → list_any (same_set S) M ≡ true → covers r p K S ≡ true) → K ≡ [] → M ≡ []
    none [] h e = refl
    none (T ∷ M) h e = absurd (covers-some r p K T (h T (first-among T M)) e)

-- Those found are as good as what a choice of the answers leaves.
pub consequences-chosen : (r : Reasoning) (p : Program) (K L : List Atoms) → AreAmong K L → consequences_of r p K ≡ consequences_of r p (filter (λ S. list_any (same_set S) K) L)
consequences-chosen r p K L among =
    let chosen : List Atoms = filter (λ S. list_any (same_set S) K) L in
    consequences-same r p K chosen (λ a there. any-same (λ T. shows r T a) K chosen in_chosen of_chosen) (empty-among chosen K of_chosen) (empty-among K chosen in_chosen)
  where
    in_chosen : AreAmong K (filter (λ S. list_any (same_set S) K) L)
    in_chosen S h = listed-filter (λ T. list_any (same_set T) K) L S ∙ and_from (list_any (same_set S) K) (list_any (same_set S) L) h (among S h)

    of_chosen : AreAmong (filter (λ S. list_any (same_set S) K) L) K
    of_chosen S h = (and_parts (list_any (same_set S) K) (list_any (same_set S) L) (sym (listed-filter (λ T. list_any (same_set T) K) L S) ∙ h)).0

-- ---- what holds in some answer, and in each
pub union-has : (p : Program) (a : ℕ) → (has (union p (answers p)) a ≡ true) ↔ ((S : Atoms) × Contains (answers p) S × (has S a ≡ true))
union-has p a = (there, back)
  where
    there : has (union p (answers p)) a ≡ true → (S : Atoms) × Contains (answers p) S × (has S a ≡ true)
    there h =
        let parts = and_parts (list_any (λ S. has S a) (answers p)) (has (atoms_of p) a) (sym (has-filter (λ b. list_any (λ S. has S b) (answers p)) (atoms_of p) a) ∙ h) in
        let any = Any-from_list_any (λ S. has S a) (answers p) parts.0 in
        (any.1, (any.0, any.2, any.3), any.4)

    back : (S : Atoms) × Contains (answers p) S × (has S a ≡ true) → has (union p (answers p)) a ≡ true
    back h =
        has-filter (λ b. list_any (λ S. has S b) (answers p)) (atoms_of p) a
        ∙ and_from (list_any (λ S. has S a) (answers p)) (has (atoms_of p) a) (any-of (λ S. has S a) (answers p) h.0 (test_from_contains (answers p) h.0 h.1) h.2)
        ((stable-subset p h.0 ((answers-are p h.0).0 h.1).0).1 a h.2)

all-holds : (f : Atoms → Bool) (K : List Atoms) (S : Atoms) → list_all f K ≡ true → list_any (same_set S) K ≡ true → f S ≡ true
all-holds f K S all h = elim (cases_Bool (f S)) [
  | inl e ↦ e
  | inr e ↦ absurd (false≢true (sym (not-true (list_any (λ T. not (f T)) K) (sym (all-any f K) ∙ all)) ∙ any-of (λ T. not (f T)) K S h (ap not e)))
]

pub intersection-has : (p : Program) (a : ℕ) (S : Atoms) → Contains (answers p) S → (has (intersection p (answers p)) a ≡ true) ↔ ((T : Atoms) → Contains (answers p) T → has T a ≡ true)
intersection-has p a S in_answers = (there, back)
  where
    there : has (intersection p (answers p)) a ≡ true → (T : Atoms) → Contains (answers p) T → has T a ≡ true
    there h T c =
        let parts = and_parts (list_all (λ U. has U a) (answers p)) (has (atoms_of p) a) (sym (has-filter (λ b. list_all (λ U. has U b) (answers p)) (atoms_of p) a) ∙ h) in
        all-holds (λ U. has U a) (answers p) T parts.0 (test_from_contains (answers p) T c)

    none : ((T : Atoms) → Contains (answers p) T → has T a ≡ true) → list_any (λ T. not (has T a)) (answers p) ≡ true → ⊥
    none h e =
        let any = Any-from_list_any (λ T. not (has T a)) (answers p) e in
        false≢true (sym (not-true (has any.1 a) any.4) ∙ h any.1 (any.0, any.2, any.3))

    every : ((T : Atoms) → Contains (answers p) T → has T a ≡ true) → list_all (λ U. has U a) (answers p) ≡ true
    every h = all-any (λ U. has U a) (answers p) ∙ elim (cases_Bool (list_any (λ T. not (has T a)) (answers p))) [ inl e ↦ absurd (none h e) | inr e ↦ ap not e ]

    back : ((T : Atoms) → Contains (answers p) T → has T a ≡ true) → has (intersection p (answers p)) a ≡ true
    back h =
        has-filter (λ b. list_all (λ U. has U b) (answers p)) (atoms_of p) a
        ∙ and_from (list_all (λ U. has U a) (answers p)) (has (atoms_of p) a) (every h) ((stable-subset p S ((answers-are p S).0 in_answers).0).1 a (h S in_answers))

-- ---- some of the answers
fewer-among : (q : Atoms → Bool) (L : List Atoms) → AreAmong (filter q L) L
fewer-among q L S h = (and_parts (q S) (list_any (same_set S) L) (sym (listed-filter q L S) ∙ h)).1

pub union-fewer : (p : Program) (chosen : Atoms → Bool) → IsSubset (union p (filter chosen (answers p))) (union p (answers p))
union-fewer p chosen a h =
    let parts = and_parts (list_any (λ S. has S a) (filter chosen (answers p))) (has (atoms_of p) a) (sym (has-filter (λ b. list_any (λ S. has S b) (filter chosen (answers p))) (atoms_of p) a) ∙ h) in
    has-filter (λ b. list_any (λ S. has S b) (answers p)) (atoms_of p) a
    ∙ and_from (list_any (λ S. has S a) (answers p)) (has (atoms_of p) a) (any-among (λ S. has S a) (filter chosen (answers p)) (answers p) (fewer-among chosen (answers p)) parts.0) parts.1

all-fewer : (f : Atoms → Bool) (K L : List Atoms) → AreAmong K L → list_all f L ≡ true → list_all f K ≡ true
all-fewer f K L among all =
    all-any f K ∙ elim (cases_Bool (list_any (λ T. not (f T)) K)) [
      | inl e ↦ absurd (false≢true (sym (not-true (list_any (λ T. not (f T)) L) (sym (all-any f L) ∙ all)) ∙ any-among (λ T. not (f T)) K L among e))
      | inr e ↦ ap not e
    ]

pub intersection-fewer : (p : Program) (chosen : Atoms → Bool) → IsSubset (intersection p (answers p)) (intersection p (filter chosen (answers p)))
intersection-fewer p chosen a h =
    let parts = and_parts (list_all (λ S. has S a) (answers p)) (has (atoms_of p) a) (sym (has-filter (λ b. list_all (λ S. has S b) (answers p)) (atoms_of p) a) ∙ h) in
    has-filter (λ b. list_all (λ S. has S b) (filter chosen (answers p))) (atoms_of p) a
    ∙ and_from (list_all (λ S. has S a) (filter chosen (answers p))) (has (atoms_of p) a)
    (all-fewer (λ S. has S a) (filter chosen (answers p)) (answers p) (fewer-among chosen (answers p)) parts.0) parts.1

-- ---- how the unshown atoms are kept
cond-filter : {X : Type 0} (f : X → Bool) (b : Bool) (x : X) (xs : List X) → filter f (cond b (x ∷ xs) xs) ≡ cond (b && f x) (x ∷ filter f xs) (filter f xs)
cond-filter f true x xs = refl
cond-filter f false x xs = refl

pub filter-twice : {X : Type 0} (f g : X → Bool) (xs : List X) → filter f (filter g xs) ≡ filter (λ x. g x && f x) xs
filter-twice f g [] = refl
filter-twice f g (x ∷ xs) = cond-filter f (g x) x (filter g xs) ∙ ap (λ ys. cond (g x && f x) (x ∷ ys) ys) (filter-twice f g xs)

pub filter-every : (f : ℕ → Bool) (xs : Atoms) → ((a : ℕ) → f a ≡ true) → filter f xs ≡ xs
filter-every f [] h = refl
filter-every f (x ∷ xs) h = ap (λ b. cond b (x ∷ filter f xs) (filter f xs)) (h x) ∙ ap (λ (ys : Atoms). x ∷ ys) (filter-every f xs h)

cond-ascends : (b : Bool) (x : ℕ) (xs : Atoms) → AllByRecursion (λ a. x < a) xs → IsAscending xs → IsAscending (cond b (x ∷ xs) xs)
cond-ascends true x xs low up = (low, up)
cond-ascends false x xs low up = up

pub ascends-filter : (f : ℕ → Bool) (xs : Atoms) → IsAscending xs → IsAscending (filter f xs)
ascends-filter f [] up = tt
ascends-filter f (x ∷ xs) up = cond-ascends (f x) x (filter f xs) (each-filter (λ a. x < a) f xs up.0) (ascends-filter f xs up.1)

pub atoms-ascend : (p : Program) → IsAscending (atoms_of p)
atoms-ascend p = IsAscending-set_of (mentions p)

pub unshown-ascends : (r : Reasoning) (p : Program) (K : List Atoms) → IsAscending (unshown r p K)
unshown-ascends r p K = ascends-filter (λ a. not (list_any (λ S. shows r S a) K)) (atoms_of p) (atoms-ascend p)

pub unshown-none : (r : Reasoning) (p : Program) → unshown r p [] ≡ atoms_of p
unshown-none r p = filter-every (λ a. true) (atoms_of p) (λ a. refl)

not-or : (a b : Bool) → not (a || (b || false)) ≡ (not a && not b)
not-or true b = refl
not-or false true = refl
not-or false false = refl

pub unshown-more : (r : Reasoning) (p : Program) (K : List Atoms) (S : Atoms) → filter (λ a. not (shows r S a)) (unshown r p K) ≡ unshown r p (K ++ S ∷ [])
unshown-more r p K S =
    filter-twice (λ a. not (shows r S a)) (λ a. not (list_any (λ T. shows r T a) K)) (atoms_of p)
    ∙ filter-atoms (λ a. not (list_any (λ T. shows r T a) K) && not (shows r S a)) (λ a. not (list_any (λ T. shows r T a) (K ++ S ∷ []))) (atoms_of p)
    (λ a there. sym (ap not (list_any-append (λ T. shows r T a) K (S ∷ [])) ∙ not-or (list_any (λ T. shows r T a) K) (shows r S a)))

not-not : (a : Bool) → not (not a) ≡ a
not-not true = refl
not-not false = refl

pub brave-shown : (p : Program) (K : List Atoms) → filter (λ a. not (has (unshown Brave p K) a)) (atoms_of p) ≡ union p K
brave-shown p K =
    filter-atoms (λ a. not (has (unshown Brave p K) a)) (λ a. list_any (λ S. has S a) K) (atoms_of p)
    (λ a there. ap not (has-filter (λ b. not (list_any (λ S. has S b) K)) (atoms_of p) a ∙ and-true (not (list_any (λ S. has S a) K)) (has (atoms_of p) a) there) ∙ not-not (list_any (λ S. has S a) K))

pub cautious-shown : (p : Program) (K : List Atoms) → unshown Cautious p K ≡ intersection p K
cautious-shown p K = filter-atoms (λ a. not (list_any (λ S. not (has S a)) K)) (λ a. list_all (λ S. has S a) K) (atoms_of p) (λ a there. sym (all-any (λ S. has S a) K))

-- ---- what they have in common stands for them
or-nil : (b : Bool) → (b || false) ≡ b
or-nil true = refl
or-nil false = refl

pub shows-common : (r : Reasoning) (p : Program) (K : List Atoms) (a : ℕ) → has (atoms_of p) a ≡ true → shows r (consequences r p K) a ≡ list_any (λ S. shows r S a) K
shows-common Brave p K a there = has-filter (λ b. list_any (λ S. has S b) K) (atoms_of p) a ∙ and-true (list_any (λ S. has S a) K) (has (atoms_of p) a) there
shows-common Cautious p K a there =
    ap not (has-filter (λ b. list_all (λ S. has S b) K) (atoms_of p) a ∙ and-true (list_all (λ S. has S a) K) (has (atoms_of p) a) there
    ∙ all-any (λ S. has S a) K) ∙ not-not (list_any (λ S. not (has S a)) K)

any-common : (r : Reasoning) (p : Program) (K : List Atoms) (a : ℕ) → has (atoms_of p) a ≡ true → list_any (λ S. shows r S a) (common_sets r p K) ≡ list_any (λ S. shows r S a) K
any-common r p [] a there = refl
any-common r p (S ∷ K) a there = or-nil (shows r (consequences r p (S ∷ K)) a) ∙ shows-common r p (S ∷ K) a there

unshown-same : (r : Reasoning) (p : Program) (K L : List Atoms) → ((a : ℕ) → has (atoms_of p) a ≡ true → list_any (λ S. shows r S a) K ≡ list_any (λ S. shows r S a) L) → unshown r p K ≡ unshown r p L
unshown-same r p K L h = filter-atoms (λ a. not (list_any (λ S. shows r S a) K)) (λ a. not (list_any (λ S. shows r S a) L)) (atoms_of p) (λ a there. ap not (h a there))

pub unshown-common : (r : Reasoning) (p : Program) (K : List Atoms) → unshown r p (common_sets r p K) ≡ unshown r p K
unshown-common r p K = unshown-same r p (common_sets r p K) K (any-common r p K)

any-common-more : (r : Reasoning) (p : Program) (K : List Atoms) (T : Atoms) (a : ℕ) → has (atoms_of p) a ≡ true →
    list_any (λ S. shows r S a) (common_sets r p K ++ T ∷ []) ≡ list_any (λ S. shows r S a) (K ++ T ∷ [])
any-common-more r p K T a there =
    list_any-append (λ S. shows r S a) (common_sets r p K) (T ∷ []) ∙ ap (λ b. b || list_any (λ S. shows r S a) (T ∷ [])) (any-common r p K a there)
    ∙ sym (list_any-append (λ S. shows r S a) K (T ∷ []))

push-some : (K : List Atoms) (T : Atoms) → K ++ T ∷ [] ≡ [] → ⊥
push-some K T e = member-some (K ++ T ∷ []) T (list_any-append (same_set T) K (T ∷ []) ∙ or_right (list_any (same_set T) K) (list_any (same_set T) (T ∷ [])) (first-among T [])) e

common-by : (r : Reasoning) (p : Program) (K L : List Atoms) → (K ≡ [] → ⊥) → (L ≡ [] → ⊥) → consequences r p K ≡ consequences r p L → common_sets r p K ≡ common_sets r p L
common-by r p [] L k l e = absurd (k refl)
common-by r p (S ∷ K) [] k l e = absurd (l refl)
common-by r p (S ∷ K) (T ∷ L) k l e = ap (λ (B : Atoms). B ∷ []) e

-- One answer more is added to what the others have in common.
pub common-more : (r : Reasoning) (p : Program) (K : List Atoms) (T : Atoms) → common_sets r p (common_sets r p K ++ T ∷ []) ≡ common_sets r p (K ++ T ∷ [])
common-more r p K T =
    common-by r p (common_sets r p K ++ T ∷ []) (K ++ T ∷ []) (push-some (common_sets r p K) T) (push-some K T)
    (consequences-by r p (common_sets r p K ++ T ∷ []) (K ++ T ∷ []) (any-common-more r p K T))

-- what they cover it covers
covers-same : (r : Reasoning) (p : Program) (K L : List Atoms) (S : Atoms) → (K ≡ [] → L ≡ []) → (L ≡ [] → K ≡ []) → unshown r p K ≡ unshown r p L → covers r p K S ≡ covers r p L S
covers-same r p [] [] S there back e = refl
covers-same r p [] (T ∷ L) S there back e = absurd (member-some (T ∷ L) T (first-among T L) (there refl))
covers-same r p (U ∷ K) [] S there back e = absurd (member-some (U ∷ K) U (first-among U K) (back refl))
covers-same r p (U ∷ K) (T ∷ L) S there back e = ap (λ (A : Atoms). not (list_any (shows r S) A)) e

common-none : (r : Reasoning) (p : Program) (K : List Atoms) → common_sets r p K ≡ [] → K ≡ []
common-none r p [] e = refl
common-none r p (S ∷ K) e = absurd (member-some (consequences r p (S ∷ K) ∷ []) (consequences r p (S ∷ K)) (first-among (consequences r p (S ∷ K)) []) e)

none-common : (r : Reasoning) (p : Program) (K : List Atoms) → K ≡ [] → common_sets r p K ≡ []
none-common r p K e = ap (common_sets r p) e

pub covers-common : (r : Reasoning) (p : Program) (K : List Atoms) (S : Atoms) → covers r p (common_sets r p K) S ≡ covers r p K S
covers-common r p K S = covers-same r p (common_sets r p K) K S (common-none r p K) (none-common r p K) (unshown-common r p K)

pub used-common : (r : Reasoning) (p : Program) (K : List Atoms) → used_up (Some r) p (common_sets r p K) ≡ used_up (Some r) p K
used-common r p K = λ i. filter (λ S. covers-common r p K S i) (models p)

-- ---- how a set that stands for answers is kept: by the atoms that it doesn't show
pub told-unshown : (r : Reasoning) (p : Program) (K : List Atoms) → told_set r p (unshown r p K) ≡ consequences r p K
told-unshown Brave p K = brave-shown p K
told-unshown Cautious p K = cautious-shown p K

pub common-push : (r : Reasoning) (p : Program) (K : List Atoms) (S : Atoms) → common_sets r p (K ++ S ∷ []) ≡ consequences r p (K ++ S ∷ []) ∷ []
common-push r p [] S = refl
common-push r p (T ∷ K) S = refl

pub told-common : (r : Reasoning) (p : Program) (K : List Atoms) (S L : Atoms) → L ≡ unshown r p (K ++ S ∷ []) → told_set r p L ∷ [] ≡ common_sets r p (K ++ S ∷ [])
told-common r p K S L e = ap (λ (B : Atoms). B ∷ []) (ap (told_set r p) e ∙ told-unshown r p (K ++ S ∷ [])) ∙ sym (common-push r p K S)

pub unshown-told : (r : Reasoning) (p : Program) (K : List Atoms) (S L : Atoms) → L ≡ unshown r p (K ++ S ∷ []) → L ≡ unshown r p (told_set r p L ∷ [])
unshown-told r p K S L e = e ∙ sym (unshown-common r p (K ++ S ∷ [])) ∙ ap (unshown r p) (sym (told-common r p K S L e))

pub filtered-ascends : (f : ℕ → Bool) (p : Program) (xs ys : Atoms) → xs ≡ filter f ys → ys ≡ atoms_of p → IsAscending xs
filtered-ascends f p xs ys e a = subst IsAscending (sym (e ∙ ap (filter f) a)) (ascends-filter f (atoms_of p) (atoms-ascend p))

-- ---- more answers leave less unshown
pub unshown-among : (r : Reasoning) (p : Program) (K L : List Atoms) → AreAmong K L → IsSubset (unshown r p L) (unshown r p K)
unshown-among r p K L among a h =
    let parts = and_parts (not (list_any (λ S. shows r S a) L)) (has (atoms_of p) a) (sym (has-filter (λ b. not (list_any (λ S. shows r S b) L)) (atoms_of p) a) ∙ h) in
    has-filter (λ b. not (list_any (λ S. shows r S b) K)) (atoms_of p) a
    ∙ and_from (not (list_any (λ S. shows r S a) K)) (has (atoms_of p) a) (elim (cases_Bool (list_any (λ S. shows r S a) K)) [
      | inl e ↦ absurd (false≢true (sym (not-true (list_any (λ S. shows r S a) L) parts.0) ∙ any-among (λ S. shows r S a) K L among e))
      | inr e ↦ ap not e
    ]) parts.1

-- Where less is unshown more is covered.
pub covers-less : (r : Reasoning) (p : Program) (K L : List Atoms) (S : Atoms) → IsSubset (unshown r p L) (unshown r p K) → (L ≡ [] → ⊥) → covers r p K S ≡ true → covers r p L S ≡ true
covers-less r p K L S sub some c = covers-from r p L S some (λ a there s. elim (cases_Bool (list_any (λ T. shows r T a) L)) [
  | inl e ↦ e
  | inr e ↦ absurd (unseen a there s e)
])
  where
    unseen : (a : ℕ) → has (atoms_of p) a ≡ true → shows r S a ≡ true → list_any (λ T. shows r T a) L ≡ false → ⊥
    unseen a there s e =
        let left : has (unshown r p L) a ≡ true =
        has-filter (λ b. not (list_any (λ T. shows r T b) L)) (atoms_of p) a
        ∙ and_from (not (list_any (λ T. shows r T a) L)) (has (atoms_of p) a) (ap not e) there in
        let parts = and_parts (not (list_any (λ T. shows r T a) K)) (has (atoms_of p) a) (sym (has-filter (λ b. not (list_any (λ T. shows r T b) K)) (atoms_of p) a) ∙ sub a left) in
        false≢true (sym (not-true (list_any (λ T. shows r T a) K) parts.0) ∙ covered-shown r p K S c a there s)

pub used-less : (r : Reasoning) (p : Program) (K L : List Atoms) → IsSubset (unshown r p L) (unshown r p K) → (L ≡ [] → ⊥) → AreAmong (used_up (Some r) p K) (used_up (Some r) p L)
used-less r p K L sub some S h =
    listed-filter (covers r p L) (models p) S ∙ and_from (covers r p L S) (list_any (same_set S) (models p)) (covers-less r p K L S sub some (used-covered r p K S h)) (used-models r p K S h)

pub unshown-push : (r : Reasoning) (p : Program) (K L : List Atoms) (S : Atoms) → IsSubset (unshown r p L) (unshown r p K) → IsSubset (unshown r p (L ++ S ∷ [])) (unshown r p (K ++ S ∷ []))
unshown-push r p K L S sub a h =
    let before : has (filter (λ b. not (shows r S b)) (unshown r p L)) a ≡ true = ap (λ (A : Atoms). has A a) (unshown-more r p L S) ∙ h in
    let parts = and_parts (not (shows r S a)) (has (unshown r p L) a) (sym (has-filter (λ b. not (shows r S b)) (unshown r p L) a) ∙ before) in
    ap (λ (A : Atoms). has A a) (sym (unshown-more r p K S)) ∙ has-filter (λ b. not (shows r S b)) (unshown r p K) a ∙ and_from (not (shows r S a)) (has (unshown r p K) a) parts.0 (sub a parts.1)

pub pushed-some : (K : List Atoms) (T : Atoms) → K ++ T ∷ [] ≡ [] → ⊥
pushed-some = push-some

-- where nothing is known nothing is used up
pub used-none : (k : Option Reasoning) (p : Program) (S : Atoms) → list_any (same_set S) (used_up k p []) ≡ false
used-none None p S = refl
used-none (Some r) p S = listed-filter (covers r p []) (models p) S

pub unshown-all : (r : Reasoning) (p : Program) (K : List Atoms) → IsSubset (unshown r p K) (unshown r p [])
unshown-all r p K = unshown-among r p [] K (λ S h. absurd (false≢true h))
