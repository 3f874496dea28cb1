-- Which variables wait, where values come and go.
use Rattle.std.proofs.Common.{◌≡◌, ◌≢◌, ℕ, suc, zero, ◌+◌, ◌-◌, ◌<◌, ◌≤◌, ◌⊎◌, inl, inr, Bool, true, false, cond, leb, List, [], ◌∷◌, ◌++◌, length, Option, Some, None, filter, replicate, set, get_or, refl, sym, ap, ◌∙◌, subst, arith, get_or-set_other}
use Rattle.std.specs.Option.{is_some}
use Rattle.std.proofs.lemmas.Bool.{false≢true}
use Rattle.std.proofs.lemmas.Bool.Decides.{nat_tests}
use Rattle.std.proofs.lemmas.List.{length-append, get_or_push}
use Rattle.std.proofs.lemmas.Grind.{fold-append}
use Rattle.asp_trail.specs.declared.trail.Entry.{Entry}
use Rattle.asp_trail.specs.Entries.{assign, assignment, cut}
use Rattle.asp_trail.specs.Trails.{IsVar, IsOrdered}
use Rattle.asp_trail.proofs.EntryLaws.{entry_assigned, fold_found, none_at}
use Rattle.asp_order.specs.Heaps.{Ranking, is_in}
use Rattle.asp_order.specs.Waiting.{AreWaiting, IsFuller}

-- ---- a value more
-- what has no value after an entry has none before, and is another variable
pub open_before : (vars : ℕ) (es : List Entry) (e : Entry) (w : ℕ) → IsVar vars w → get_or (assignment vars (es ++ e ∷ [])) w None ≡ None →
    (w ≢ e.lit.var) × (get_or (assignment vars es) w None ≡ None)
open_before vars es e w iv n = (
  apart,
  sym (get_or-set_other (assignment vars es) e.lit.var w (Some e.lit.truth) None apart)
      ∙ (sym (ap (λ a. get_or a w None) (fold-append assign (replicate (vars + 1) None) es (e ∷ []))) ∙ n),
)
  where
    at_end : get_or (es ++ e ∷ []) (length es) e ≡ e
    at_end = get_or_push es e e (length es) refl

    apart : w ≢ e.lit.var
    apart q =
        let small : (get_or (es ++ e ∷ []) (length es) e).lit.var ≤ vars = omega (arith, ap (λ (f : Entry). f.lit.var) at_end, q, iv.1) in
        let has = entry_assigned vars (es ++ e ∷ []) (length es) e (omega (arith, length-append es (e ∷ []))) small in
        let here : w ≡ (get_or (es ++ e ∷ []) (length es) e).lit.var = q ∙ sym (ap (λ (f : Entry). f.lit.var) at_end) in
        false≢true (sym (ap is_some (sym (ap (λ v. get_or (assignment vars (es ++ e ∷ [])) v None) here) ∙ n)) ∙ has)

-- fewer variables wait where there are more entries
pub waiting_more : (vars : ℕ) (es : List Entry) (e : Entry) (h : Ranking) → AreWaiting vars es h → AreWaiting vars (es ++ e ∷ []) h
waiting_more vars es e h a w iv n = a w iv (open_before vars es e w iv n).1

-- ---- the next one
pub waiting_next : (vars : ℕ) (es : List Entry) (old new : Ranking) (v : ℕ) → new ≡ record old { members = set old.members v false } →
    AreWaiting vars es old → (e : Entry) → e.lit.var ≡ v → AreWaiting vars (es ++ e ∷ []) new
waiting_next vars es old new v q a e is w iv n =
    let b = open_before vars es e w iv n in
    let ne : w ≢ v = λ x. b.0 (x ∙ sym is) in
    ap (λ (x : Ranking). is_in x.members w) q ∙ (get_or-set_other old.members v w false false ne ∙ a w iv b.1)

-- ---- values that go
-- what passes the test is still there
filter_index : {X : Type 0} → (p : X → Bool) (xs : List X) (i : ℕ) (d : X) → i < length xs → p (get_or xs i d) ≡ true →
    (j : ℕ) × (j < length (filter p xs)) × (get_or (filter p xs) j d ≡ get_or xs i d)
filter_index p [] i d h t = absurd (omega arith)
filter_index p (x ∷ xs) i d h t = cases (p x) refl i h t (λ k l u. filter_index p xs k d l u)
  where
    cases : (b : Bool) → b ≡ p x → (i : ℕ) → i < length (x ∷ xs) → p (get_or (x ∷ xs) i d) ≡ true →
        ((k : ℕ) → k < length xs → p (get_or xs k d) ≡ true → (j : ℕ) × (j < length (filter p xs)) × (get_or (filter p xs) j d ≡ get_or xs k d)) →
        (j : ℕ) × (j < length (cond b (x ∷ filter p xs) (filter p xs))) × (get_or (cond b (x ∷ filter p xs) (filter p xs)) j d ≡ get_or (x ∷ xs) i d)
    cases true q zero h t rest = (0, omega arith, refl)
    cases true q (suc i) h t rest = let f = rest i (omega arith) t in (suc f.0, omega (arith, f.1), f.2)
    cases false q zero h t rest = absurd (false≢true (q ∙ t))
    cases false q (suc i) h t rest = rest i (omega arith) t

-- an entry of a level up to this one is among those that are left
cut_has : (vars : ℕ) (es : List Entry) (level i : ℕ) (d : Entry) → i < length es → (get_or es i d).level ≤ level → (get_or es i d).lit.var ≤ vars →
    is_some (get_or (assignment vars (cut level es)) (get_or es i d).lit.var None) ≡ true
cut_has vars es level i d h low small =
    let stays : leb (get_or es i d).level level ≡ true = grind (arith, nat_tests) in
    let f = filter_index (λ e. leb e.level level) es i d h stays in
    let is : (get_or (cut level es) f.0 d).lit.var ≡ (get_or es i d).lit.var = ap (λ (e : Entry). e.lit.var) f.2 in
    subst (λ (v : ℕ). is_some (get_or (assignment vars (cut level es)) v None) ≡ true) is
    (entry_assigned vars (cut level es) f.0 d f.1 (omega (arith, is, small)))

less : (i j : ℕ) → (i < j) ⊎ (j ≤ i)
less i j = grind arith

-- from an entry on all variables are in the heap, and before it no level is above this one
pub waiting_above : (vars : ℕ) (es : List Entry) (level from : ℕ) (old new : Ranking) → IsOrdered vars es → IsFuller old new →
    ((i : ℕ) (d : Entry) → from ≤ i → i < length es → is_in new.members (get_or es i d).lit.var ≡ true) →
    ((i : ℕ) (d : Entry) → i < from → i < length es → (get_or es i d).level ≤ level) →
    AreWaiting vars es old → AreWaiting vars (cut level es) new
waiting_above vars es level from old new o f restored low a v iv n = cases (get_or (assignment vars es) v None) refl
  where
    apart : (i : ℕ) (d : Entry) → i < length es → (get_or es i d).lit.var ≡ v → i < from → ⊥
    apart i d h q l =
        let has = cut_has vars es level i d h (low i d l h) (o.within i d h).1 in
        false≢true (sym (ap is_some (ap (λ w. get_or (assignment vars (cut level es)) w None) q ∙ n)) ∙ has)

    d0 : Entry
    d0 = record { lit = record { var = 0; truth = true }; level = 0; reason = None }

    cases : (x : Option Bool) → x ≡ get_or (assignment vars es) v None → is_in new.members v ≡ true
    cases None q = f.stays v (a v iv (sym q))
    cases (Some b) q =
        let e = fold_found (replicate (vars + 1) None) es v (none_at (vars + 1) v) (ap is_some (sym q)) in
        elim (less e.0 from) [
          | inl l ↦ absurd (apart e.0 d0 e.1 (e.2 d0) l)
          | inr l ↦ subst (λ (w : ℕ). is_in new.members w ≡ true) (e.2 d0) (restored e.0 d0 l e.1)
        ]

pub above_in : (es : List Entry) (level from : ℕ) (new : Ranking) →
    ((i : ℕ) (d : Entry) → from ≤ i → i < length es → is_in new.members (get_or es i d).lit.var ≡ true) →
    ((i : ℕ) (d : Entry) → i < from → i < length es → (get_or es i d).level ≤ level) →
    (i : ℕ) (d : Entry) → i < length es → level < (get_or es i d).level → is_in new.members (get_or es i d).lit.var ≡ true
above_in es level from new restored low i d h above = elim (less i from) [
  | inl l ↦ absurd (omega (arith, low i d l h, above))
  | inr g ↦ restored i d g h
]

-- with all entries restored each variable is in the heap
pub all_in : (vars : ℕ) (es : List Entry) (old new : Ranking) → IsFuller old new →
    ((i : ℕ) (d : Entry) → i < length es → is_in new.members (get_or es i d).lit.var ≡ true) →
    AreWaiting vars es old → (v : ℕ) → IsVar vars v → is_in new.members v ≡ true
all_in vars es old new f restored a v iv = cases (get_or (assignment vars es) v None) refl
  where
    d0 : Entry
    d0 = record { lit = record { var = 0; truth = true }; level = 0; reason = None }

    cases : (x : Option Bool) → x ≡ get_or (assignment vars es) v None → is_in new.members v ≡ true
    cases None q = f.stays v (a v iv (sym q))
    cases (Some b) q =
        let e = fold_found (replicate (vars + 1) None) es v (none_at (vars + 1) v) (ap is_some (sym q)) in
        subst (λ (w : ℕ). is_in new.members w ≡ true) (e.2 d0) (restored e.0 d0 e.1)

-- where an entry isn't above the level, none before it is
pub low_before : (vars : ℕ) (es : List Entry) (level from : ℕ) → IsOrdered vars es → 0 < from → from ≤ length es →
    ((d : Entry) → (get_or es (from - 1) d).level ≤ level) → (i : ℕ) (d : Entry) → i < from → i < length es → (get_or es i d).level ≤ level
low_before vars es level from o p h low i d l m = elim (one_of i from l) [
  | inl e ↦ subst (λ (k : ℕ). (get_or es k d).level ≤ level) (sym e) (low d)
  | inr g ↦ omega (arith, o.rising i (from - 1) d g (omega arith), low d)
]
  where
    one_of : (a b : ℕ) → a < b → (a ≡ b - 1) ⊎ (a < b - 1)
    one_of a b q = grind arith
