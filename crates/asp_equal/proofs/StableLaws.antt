-- A set is a stable model of the merged program exactly where with the atoms that went it is one of the program.
use Rattle.std.proofs.Common.{◌≡◌, ℕ, suc, ◌≤◌, Bool, true, false, not, ◌&&◌, eqb, List, [], ◌∷◌, map, filter, flat_map, get_or, refl, sym, ap, ◌∙◌, subst, arith, inl, inr, Contains}
use Rattle.std.specs.List.{AllByRecursion, AllPairs, list_any}
use Rattle.std.specs.Cmp.Lexicographic.{same_text}
use Rattle.std.proofs.lemmas.Bool.{and_from, and_parts, both_ways, eq-eqb, eqb-true, false_from_ne_true}
use Rattle.std.proofs.lemmas.List.{get_or_default}
use Rattle.std.proofs.lemmas.List.Elements.{recursion_from_All}
use Rattle.std.proofs.lemmas.List.Folds.{Any-from_list_any}
use Rattle.asp_model.specs.declared.program.Program.{Program}
use Rattle.asp_model.specs.Sets.{Atoms, IsAscending, IsBefore, IsSubset, has, same_set}
use Rattle.asp_model.specs.Reduct.{reduct}
use Rattle.asp_model.specs.Holding.{all_hold}
use Rattle.asp_model.specs.Models.{answers, is_stable, is_violated, least_model, rules_in_force}
use Rattle.asp_model.specs.Sound.{IsSound}
use Rattle.asp_model.proofs.SetLaws.{same_from_has}
use Rattle.asp_model.proofs.MemberLaws.{each_of, list_any-map, list_any-weaker}
use Rattle.asp_model.proofs.StepLaws.{closed_from_step}
use Rattle.asp_model.proofs.ListedLaws.{contains_from_test, same_from_members, same_set-itself, test_from_contains}
use Rattle.asp_model.proofs.ModelLaws.{answers-are, answers-rise, least_model-ascends, least_model-least, same_bools, stable-least}
use Rattle.asp_model.proofs.SubsetLaws.{IsRising, pairs_from_rising}
use Rattle.asp_model.proofs.ConsequenceLaws.{ascends-filter, has-filter}
use Rattle.asp_equal.specs.Merged.{merged_rule}
use Rattle.asp_equal.proofs.ReadLaws.{IsProper, Reads}
use Rattle.asp_equal.proofs.RuleLaws.{derives_at, has-step, rules-back, rules-fixed, rules-there, rules-violated}
use Rattle.asp_equal.proofs.SourceLaws.{derived-has}

-- No atom of the set goes.
abbrev pub IsApart : (ℕ → ℕ) → Atoms → Type 0
IsApart m S = (a : ℕ) → has S a ≡ true → m a ≡ a

-- q is p with each atom a as m a, and x S is S with the atoms that went.
pub record IsMerged (m : ℕ → ℕ) (x : Atoms → Atoms) (p q : Program) : Type 0 where
  pub low : (a : ℕ) → m a ≤ a
  pub twice : (a : ℕ) → m (m a) ≡ m a
  pub proper : IsProper m
  pub reads : (S : Atoms) → Reads m (x S) S
  pub ascends : (S : Atoms) → IsAscending S → IsAscending (x S)
  pub rules : rules_in_force q ≡ flat_map (merged_rule m) (rules_in_force p)
  pub alike : (S : Atoms) → Reads m (least_model p S) (least_model p S)
  pub whole : IsSound p
  pub sound : IsSound q

-- the set without the atoms that go
abbrev pub kept : (ℕ → ℕ) → Atoms → Atoms
kept m X = filter (λ a. eqb (m a) a) X

pub has-kept : (m : ℕ → ℕ) (X : Atoms) (a : ℕ) → has (kept m X) a ≡ (eqb (m a) a && has X a)
has-kept m X a = has-filter (λ b. eqb (m b) b) X a

pub kept-apart : (m : ℕ → ℕ) (X : Atoms) → IsApart m (kept m X)
kept-apart m X a h = eqb-true (m a) a (and_parts (eqb (m a) a) (has X a) (sym (has-kept m X a) ∙ h)).0

-- A set that has an atom where it has the one by which it goes is known by those that stay.
pub kept-reads : (m : ℕ → ℕ) → ((a : ℕ) → m (m a) ≡ m a) → (X : Atoms) → Reads m X X → Reads m X (kept m X)
kept-reads m twice X r a = r a ∙ sym (has-kept m X (m a) ∙ ap (λ b. b && has X (m a)) (eq-eqb (m (m a)) (m a) (twice a)))

stays : (m : ℕ → ℕ) (S : Atoms) → IsApart m S → (a : ℕ) (c : Bool) → eqb (m a) a ≡ c → (c && has S (m a)) ≡ has S a
stays m S apart a true e = ap (has S) (eqb-true (m a) a e)
stays m S apart a false e = sym (false_from_ne_true (has S a) (λ h. both_ways (eqb (m a) a) e (eq-eqb (m a) a (apart a h))))

pub kept-extended : (m : ℕ → ℕ) (X S : Atoms) → IsAscending X → IsAscending S → IsApart m S → Reads m X S → kept m X ≡ S
kept-extended m X S up ups apart r =
    same_from_has (kept m X) S (ascends-filter (λ a. eqb (m a) a) X up) ups (λ a.
    has-kept m X a ∙ ap (λ b. eqb (m a) a && b) (r a) ∙ stays m S apart a (eqb (m a) a) refl)

-- ---- least models
pub least-apart : (m : ℕ → ℕ) (x : Atoms → Atoms) (p q : Program) → IsMerged m x p q → (S : Atoms) → IsApart m (least_model q S)
least-apart m x p q g S c h =
    let L = least_model q S in
    rules-fixed m S L g.twice c (rules_in_force p) (ap (list_any (derives_at S L c)) (sym g.rules) ∙ sym (has-step S L (rules_in_force q) c) ∙ derived-has q S c g.sound ∙ h)

pub least-within : (m : ℕ → ℕ) (x : Atoms → Atoms) (p q : Program) → IsMerged m x p q → (S : Atoms) → IsSubset (least_model p (x S)) (x (least_model q S))
least-within m x p q g S =
    let L = least_model q S in
    least_model-least p (x S) (x L) g.whole (closed_from_step (reduct (x S) (rules_in_force p)) (x L) (λ a h.
    let reads : Reads m (x L) L = g.reads L in
    elim (rules-there m (x S) S (x L) L g.proper (g.reads S) reads a (rules_in_force p) (sym (has-step (x S) (x L) (rules_in_force p) a) ∙ h)) [
      | inl e ↦ reads a ∙ sym (derived-has q S (m a) g.sound) ∙ has-step S L (rules_in_force q) (m a) ∙ ap (list_any (derives_at S L (m a))) g.rules ∙ e
      | inr e ↦ e
    ]))

pub least-without : (m : ℕ → ℕ) (x : Atoms → Atoms) (p q : Program) → IsMerged m x p q → (S : Atoms) → IsSubset (least_model q S) (kept m (least_model p (x S)))
least-without m x p q g S =
    let M = least_model p (x S) in
    let reads : Reads m M (kept m M) = kept-reads m g.twice M (g.alike (x S)) in
    least_model-least q S (kept m M) g.sound (closed_from_step (reduct S (rules_in_force q)) (kept m M) (λ c h.
    let t = rules-back m (x S) S M (kept m M) g.proper (g.reads S) reads c (rules_in_force p)
    (ap (list_any (derives_at S (kept m M) c)) (sym g.rules) ∙ sym (has-step S (kept m M) (rules_in_force q) c) ∙ h) in
    let there : has M t.0 ≡ true = sym (derived-has p (x S) t.0 g.whole) ∙ has-step (x S) M (rules_in_force p) t.0 ∙ t.2 in
    has-kept m M c
    ∙ and_from (eqb (m c) c) (has M c) (eq-eqb (m c) c (ap m (sym t.1) ∙ g.twice t.0 ∙ t.1)) (ap (has M) (sym t.1) ∙ sym (g.alike (x S) t.0) ∙ there)))

-- The least model of the program is that of the merged one, with the atoms that went.
pub least-merged : (m : ℕ → ℕ) (x : Atoms → Atoms) (p q : Program) → IsMerged m x p q → (S : Atoms) → least_model p (x S) ≡ x (least_model q S)
least-merged m x p q g S =
    let M = least_model p (x S) in
    let L = least_model q S in
    same_from_has M (x L) (least_model-ascends p (x S)) (g.ascends L (least_model-ascends q S)) (λ a.
    same_bools (has M a) (has (x L) a) (least-within m x p q g S a) (λ h.
    let low : has (kept m M) (m a) ≡ true = least-without m x p q g S (m a) (sym (g.reads L a) ∙ h) in
    g.alike (x S) a ∙ (and_parts (eqb (m (m a)) (m a)) (has M (m a)) (sym (has-kept m M (m a)) ∙ low)).1))

-- ---- stable models
pub same_test : (S T : Atoms) → S ≡ T → same_set S T ≡ true
same_test S T e = subst (λ U. same_set S U ≡ true) e (same_set-itself S)

same_merged : (m : ℕ → ℕ) (x : Atoms → Atoms) (p q : Program) → IsMerged m x p q → (S : Atoms) → IsAscending S → IsApart m S → same_set (x S) (least_model p (x S)) ≡ same_set S (least_model q S)
same_merged m x p q g S up apart =
    let L = least_model q S in
    same_bools (same_set (x S) (least_model p (x S))) (same_set S L)
    (λ e. same_test S L (sym (kept-extended m (x S) S (g.ascends S up) up apart (g.reads S))
    ∙ ap (kept m) (same_text (x S) (least_model p (x S)) (sym e) ∙ least-merged m x p q g S)
    ∙ kept-extended m (x L) L (g.ascends L (least_model-ascends q S)) (least_model-ascends q S) (least-apart m x p q g S) (g.reads L)))
    (λ e. same_test (x S) (least_model p (x S)) (ap x (same_text S L (sym e)) ∙ sym (least-merged m x p q g S)))

pub stable-merged : (m : ℕ → ℕ) (x : Atoms → Atoms) (p q : Program) → IsMerged m x p q → (S : Atoms) → IsAscending S → IsApart m S → is_stable p (x S) ≡ is_stable q S
stable-merged m x p q g S up apart =
    ap (λ b. b && not (list_any (is_violated (x S)) (rules_in_force p))) (same_merged m x p q g S up apart)
    ∙ ap (λ b. same_set S (least_model q S) && not b) (sym (ap (list_any (is_violated S)) g.rules ∙ rules-violated m (x S) S g.proper (g.reads S) (rules_in_force p)))

pub stable-apart : (m : ℕ → ℕ) (x : Atoms → Atoms) (p q : Program) → IsMerged m x p q → (S : Atoms) → is_stable q S ≡ true → IsAscending S × IsApart m S
stable-apart m x p q g S h =
    let P : Atoms → Type 0 = λ T. IsAscending T × IsApart m T in
    subst P (sym (stable-least q S h)) (least_model-ascends q S, least-apart m x p q g S)

pub stable-whole : (m : ℕ → ℕ) (x : Atoms → Atoms) (p q : Program) → IsMerged m x p q → (X : Atoms) → is_stable p X ≡ true → IsAscending X × Reads m X X
stable-whole m x p q g X h =
    let P : Atoms → Type 0 = λ T. IsAscending T × Reads m T T in
    subst P (sym (stable-least p X h)) (least_model-ascends p X, g.alike X)

pub extended-kept : (m : ℕ → ℕ) (x : Atoms → Atoms) (p q : Program) → IsMerged m x p q → (X : Atoms) → IsAscending X → Reads m X X → x (kept m X) ≡ X
extended-kept m x p q g X up r =
    same_from_has (x (kept m X)) X (g.ascends (kept m X) (ascends-filter (λ a. eqb (m a) a) X up)) up (λ a.
    g.reads (kept m X) a ∙ sym (kept-reads m g.twice X r a))

-- ---- lists of sets
pub contains-map : (f : Atoms → Atoms) (Ss : List Atoms) (S : Atoms) → Contains Ss S → Contains (map f Ss) (f S)
contains-map f Ss S h =
    contains_from_test (map f Ss) (f S) (list_any-map (same_set (f S)) f Ss
    ∙ list_any-weaker (same_set S) (λ T. same_set (f S) (f T)) Ss (each_of (λ T. same_set S T ≡ true → same_set (f S) (f T) ≡ true) (λ T e.
    same_test (f S) (f T) (ap f (same_text S T (sym e)))) Ss) (test_from_contains Ss S h))

pub map-contains : (f : Atoms → Atoms) (Ss : List Atoms) (X : Atoms) → Contains (map f Ss) X → (S : Atoms) × Contains Ss S × (X ≡ f S)
map-contains f Ss X h =
    let any = Any-from_list_any (λ S. same_set X (f S)) Ss (sym (list_any-map (same_set X) f Ss) ∙ test_from_contains (map f Ss) X h) in
    (any.1, (any.0, any.2, any.3), same_text X (f any.1) (sym any.4))

rising_from_pairs : (Ss : List Atoms) → AllPairs IsBefore Ss → IsRising Ss
rising_from_pairs [] pairs = tt
rising_from_pairs (S ∷ Ss) pairs = (
  recursion_from_All (IsBefore S) Ss (λ k d lt. pairs 0 (suc k) d (omega arith) (omega arith)),
  rising_from_pairs Ss (λ i j d lt len. pairs (suc i) (suc j) d (omega arith) (omega arith)),
)

-- The least atom on which two answers differ stays, and those below it go by ones that are lower still.
before-extended : (m : ℕ → ℕ) (x : Atoms → Atoms) (p q : Program) → IsMerged m x p q → (S T : Atoms) → IsApart m T → IsBefore S T → IsBefore (x S) (x T)
before-extended m x p q g S T aT h =
    let stays : m h.0 ≡ h.0 = aT h.0 h.1 in (
      h.0,
      g.reads T h.0 ∙ ap (has T) stays ∙ h.1,
      g.reads S h.0 ∙ ap (has S) stays ∙ h.2,
      λ b lt. g.reads S b ∙ h.3 (m b) (omega (arith, g.low b, lt)) ∙ sym (g.reads T b),
    )

each-before : (m : ℕ → ℕ) (x : Atoms → Atoms) (p q : Program) → IsMerged m x p q → (S : Atoms) (Ss : List Atoms) → AllByRecursion (IsApart m) Ss →
    AllByRecursion (IsBefore S) Ss → AllByRecursion (IsBefore (x S)) (map x Ss)
each-before m x p q g S [] apart h = tt
each-before m x p q g S (T ∷ Ss) apart h = (before-extended m x p q g S T apart.0 h.0, each-before m x p q g S Ss apart.1 h.1)

rising-extended : (m : ℕ → ℕ) (x : Atoms → Atoms) (p q : Program) → IsMerged m x p q → (Ss : List Atoms) → AllByRecursion (IsApart m) Ss → IsRising Ss → IsRising (map x Ss)
rising-extended m x p q g [] apart h = tt
rising-extended m x p q g (S ∷ Ss) apart h = (each-before m x p q g S Ss apart.1 h.0, rising-extended m x p q g Ss apart.1 h.1)

pub each-contained : (P : Atoms → Type 0) (Ss : List Atoms) → ((S : Atoms) → Contains Ss S → P S) → AllByRecursion P Ss
each-contained P Ss h = recursion_from_All P Ss (λ k d lt. h (get_or Ss k d) (k, lt, get_or_default Ss k (get_or Ss k d) d lt))

-- ---- answers
-- The merged program's assumptions hold in a set where the program's do in the extended one.
abbrev pub AreAssumed : (ℕ → ℕ) → Program → Program → Type 0
AreAssumed m p q = (X S : Atoms) → Reads m X S → all_hold S q.assumptions ≡ all_hold X p.assumptions

pub answers-merged : (m : ℕ → ℕ) (x : Atoms → Atoms) (p q : Program) → IsMerged m x p q → AreAssumed m p q → answers p ≡ map x (answers q)
answers-merged m x p q g assumed =
    same_from_members (answers p) (map x (answers q)) (answers-rise p)
    (pairs_from_rising (map x (answers q)) (rising-extended m x p q g (answers q)
    (each-contained (IsApart m) (answers q) (λ S h. (stable-apart m x p q g S ((answers-are q S).0 h).0).1))
    (rising_from_pairs (answers q) (answers-rise q)))) (λ X. (there X, back X))
  where
    there : (X : Atoms) → Contains (answers p) X → Contains (map x (answers q)) X
    there X h =
        let parts = (answers-are p X).0 h in
        let ok = stable-whole m x p q g X parts.0 in
        let e : x (kept m X) ≡ X = extended-kept m x p q g X ok.0 ok.1 in
        let stable : is_stable q (kept m X) ≡ true = sym (stable-merged m x p q g (kept m X) (ascends-filter (λ a. eqb (m a) a) X ok.0) (kept-apart m X)) ∙ ap (is_stable p) e ∙ parts.0 in
        let holds : all_hold (kept m X) q.assumptions ≡ true = assumed X (kept m X) (kept-reads m g.twice X ok.1) ∙ parts.1 in
        subst (Contains (map x (answers q))) e (contains-map x (answers q) (kept m X) ((answers-are q (kept m X)).1 (stable, holds)))

    back : (X : Atoms) → Contains (map x (answers q)) X → Contains (answers p) X
    back X h =
        let one = map-contains x (answers q) X h in
        let parts = (answers-are q one.0).0 one.1 in
        let ok = stable-apart m x p q g one.0 parts.0 in
        subst (Contains (answers p)) (sym one.2) ((answers-are p (x one.0)).1 (stable-merged m x p q g one.0 ok.0 ok.1 ∙ parts.0, sym (assumed (x one.0) one.0 (g.reads one.0)) ∙ parts.1))
