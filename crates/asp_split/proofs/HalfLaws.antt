-- A part whose sets agree below an atom is its half without the atom, followed by its half with it.
use Rattle.std.proofs.Common.{◌≡◌, ℕ, zero, suc, ◌<◌, ◌≤◌, Bool, true, false, not, cond, ◌&&◌, List, [], ◌∷◌, ◌++◌, get_or, ◌⊎◌, inl, inr, refl, sym, ap, ◌∙◌, subst, append_assoc, arith}
use Rattle.std.specs.Prelude.{ℤ, pos, neg_ℤ, filter, Contains}
use Rattle.std.specs.List.{All, AllPairs}
use Rattle.std.proofs.lemmas.Bool.{false≢true, cases_lt}
use Rattle.std.proofs.lemmas.List.Elements.{All-head, All-tail, Contains-get_or}
use Rattle.std.proofs.lemmas.List.Folds.{list_all-append}
use Rattle.std.proofs.lemmas.List.Kept.{AllPairs-filter}
use Rattle.asp_model.specs.declared.program.Program.{Program}
use Rattle.asp_model.specs.Sets.{Atoms, has, IsBefore}
use Rattle.asp_model.specs.Holding.{holds, all_hold}
use Rattle.asp_model.specs.Models.{models}
use Rattle.asp_model.proofs.ModelLaws.{models-rise}
use Rattle.asp_trail.proofs.EntryLaws.{filter_all}
use Rattle.asp_split.specs.Dividing.{part, AgreeBelow}

-- ---- filters
pub filter_none : {X : Type 0} (q : X → Bool) (xs : List X) → All (λ x. q x ≡ false) xs → filter q xs ≡ []
filter_none q [] h = refl
filter_none {X} q (x ∷ xs) h =
    ap (λ b. cond b (x ∷ filter q xs) (filter q xs)) (All-head (λ (y : X). q y ≡ false) x xs h) ∙ filter_none q xs (All-tail (λ (y : X). q y ≡ false) x xs h)

-- two tests, one after the other
filter_both : {X : Type 0} (q r t : X → Bool) (xs : List X) → ((x : X) → t x ≡ (q x && r x)) → filter t xs ≡ filter r (filter q xs)
filter_both q r t [] same = refl
filter_both {X} q r t (x ∷ xs) same = ap (λ b. cond b (x ∷ filter t xs) (filter t xs)) (same x) ∙ cases (q x) (r x) refl (filter_both q r t xs same)
  where
    cases : (a b : Bool) → b ≡ r x → filter t xs ≡ filter r (filter q xs) → cond (a && b) (x ∷ filter t xs) (filter t xs) ≡ filter r (cond a (x ∷ filter q xs) (filter q xs))
    cases false b e rest = rest
    cases true true e rest = ap (λ (ys : List X). x ∷ ys) rest ∙ ap (λ c. cond c (x ∷ filter r (filter q xs)) (filter r (filter q xs))) e
    cases true false e rest = rest ∙ ap (λ c. cond c (x ∷ filter r (filter q xs)) (filter r (filter q xs))) e

pairs_rest : {X : Type 0} (R : X → X → Type 0) (x : X) (xs : List X) → AllPairs R (x ∷ xs) → AllPairs R xs
pairs_rest R x xs h i j d lt len = h (suc i) (suc j) d (omega (arith, lt)) (omega (arith, len))

-- a list in which all elements after one that passes pass
in_two : {X : Type 0} (q : X → Bool) (xs : List X) → AllPairs (λ x y. q x ≡ true → q y ≡ true) xs → filter (λ x. not (q x)) xs ++ filter q xs ≡ xs
in_two q [] h = refl
in_two {X} q (x ∷ xs) h = cases (q x) refl (in_two q xs (pairs_rest (λ x y. q x ≡ true → q y ≡ true) x xs h))
  where
    all : q x ≡ true → All (λ y. q y ≡ true) xs
    all e j d len = h 0 (suc j) d (omega arith) (omega (arith, len)) e

    cases : (b : Bool) → b ≡ q x → filter (λ y. not (q y)) xs ++ filter q xs ≡ xs →
        cond (not (q x)) (x ∷ filter (λ y. not (q y)) xs) (filter (λ y. not (q y)) xs) ++ cond (q x) (x ∷ filter q xs) (filter q xs) ≡ x ∷ xs
    cases false e tail =
        subst (λ b. cond (not b) (x ∷ filter (λ y. not (q y)) xs) (filter (λ y. not (q y)) xs) ++ cond b (x ∷ filter q xs) (filter q xs) ≡ x ∷ xs) e
        (ap (λ (ys : List X). x ∷ ys) tail)
    cases true e tail =
        subst (λ b. cond (not b) (x ∷ filter (λ y. not (q y)) xs) (filter (λ y. not (q y)) xs) ++ cond b (x ∷ filter q xs) (filter q xs) ≡ x ∷ xs) e
        (ap (λ (ys : List X). ys ++ x ∷ filter q xs) (filter_none (λ y. not (q y)) xs (λ j d len. ap not (all (sym e) j d len))) ∙ ap (λ (ys : List X). x ∷ ys) (filter_all q xs (all (sym e))))

-- ---- parts
part-more : (p : Program) (cube : List ℤ) (l : ℤ) (q : Atoms → Bool) → ((S : Atoms) → holds S l ≡ q S) → part p (cube ++ l ∷ []) ≡ filter q (part p cube)
part-more p cube l q same =
    filter_both (λ S. all_hold S (p.assumptions ++ cube)) q (λ S. all_hold S (p.assumptions ++ (cube ++ l ∷ []))) (models p)
    (λ S. ap (all_hold S) (sym (append_assoc p.assumptions cube (l ∷ []))) ∙ list_all-append (holds S) (p.assumptions ++ cube) (l ∷ [])
    ∙ ap (λ b. all_hold S (p.assumptions ++ cube) && b) (and_true (holds S l) ∙ same S))
  where
    and_true : (b : Bool) → (b && true) ≡ b
    and_true true = refl
    and_true false = refl

-- one that comes later has the atom where the earlier has it
later_has : (Ss : List Atoms) (a : ℕ) (S T : Atoms) → AgreeBelow Ss a → Contains Ss S → Contains Ss T → IsBefore S T → has S a ≡ true → has T a ≡ true
later_has Ss a S T agree s t before h = cases (cases_lt before.0 a) (cases_lt a before.0)
  where
    cases : (before.0 < a) ⊎ (a ≤ before.0) → (a < before.0) ⊎ (before.0 ≤ a) → has T a ≡ true
    cases (inl lt) other = absurd (false≢true (sym before.2 ∙ agree S T s t before.0 lt ∙ before.1))
    cases (inr ge) (inl gt) = sym (before.3 a gt) ∙ h
    cases (inr ge) (inr le) =
        let same : before.0 ≡ a = omega (arith, ge, le) in
        absurd (false≢true (sym before.2 ∙ ap (has S) same ∙ h))

pub part-halves : (p : Program) (cube : List ℤ) (a : ℕ) (without with_it : ℤ) → AgreeBelow (part p cube) a →
    ((S : Atoms) → holds S without ≡ not (has S a)) → ((S : Atoms) → holds S with_it ≡ has S a) →
    part p (cube ++ without ∷ []) ++ part p (cube ++ with_it ∷ []) ≡ part p cube
part-halves p cube a without with_it agree lacks has_it =
    ap (λ (Ss : List Atoms). Ss ++ part p (cube ++ with_it ∷ [])) (part-more p cube without (λ S. not (has S a)) lacks)
    ∙ ap (λ (Ss : List Atoms). filter (λ S. not (has S a)) (part p cube) ++ Ss) (part-more p cube with_it (λ S. has S a) has_it)
    ∙ in_two (λ S. has S a) (part p cube)
    (λ i j d lt len. later_has (part p cube) a (get_or (part p cube) i d) (get_or (part p cube) j d) agree
    (Contains-get_or (part p cube) i d (omega (arith, lt, len))) (Contains-get_or (part p cube) j d len)
    (AllPairs-filter IsBefore (λ S. all_hold S (p.assumptions ++ cube)) (models p) (models-rise p) i j d lt len))

-- ---- the two literals
pub holds-with : (a : ℕ) (S : Atoms) → holds S (pos a) ≡ has S a
holds-with a S = refl

pub holds-without : (a : ℕ) (S : Atoms) → 0 < a → holds S (neg_ℤ (pos a)) ≡ not (has S a)
holds-without zero S h = absurd (omega (arith, h))
holds-without (suc a) S h = refl
