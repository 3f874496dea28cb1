-- What a search keeps true while it goes on, and what it has found at its end.
use Rattle.std.proofs.Common.{◌≡◌, ◌≢◌, ℕ, zero, suc, ◌+◌, ◌<◌, ◌≤◌, Bool, true, false, cond, ◌||◌, eqb, List, [], ◌∷◌, ◌++◌, length, get_or, set, refl, sym, ap, ◌∙◌, subst, arith, length-append, append_assoc}
use Rattle.std.specs.Prelude.{fold, All}
use Rattle.std.specs.List.{count_by, AllByRecursion}
use Rattle.std.proofs.lemmas.Bool.{false≢true, eqb-true, eq-eqb, ne_eqb}
use Rattle.std.proofs.lemmas.List.{get_or-set_same, get_or-set_other}
use Rattle.std.proofs.Math.ListN.{length-set, get_or-append}
use Rattle.std.proofs.lemmas.List.Sums.{sum_by-set}
use Rattle.std.proofs.lemmas.List.Folds.{list_any-append}
use Rattle.std.proofs.lemmas.List.Elements.{All-push, All-head, All-tail}
use Rattle.asp_scc.specs.Graphs.{Graph, edges, is_in, LeadsWithin}
use Rattle.asp_scc.specs.Graphs.LeadsWithin.{here, on}
use Rattle.asp_scc.specs.Searches.{mark, Finds}

pub record Searching (g : Graph) (old new from : ℕ) (before after found : List ℕ) : Type 0 where
  pub size : length after ≡ length before
  pub states : (v : ℕ) → get_or after v 0 ≡ cond (is_in found v) new (get_or before v 0)
  pub reached : (v : ℕ) → is_in found v ≡ true → LeadsWithin g before old from v
  pub within : All (λ v. v < length before) found
  pub count : count_by (λ s. eqb s old) after + length found ≡ count_by (λ s. eqb s old) before

-- the later list goes on from the earlier one
pub record GoesOn (found found' : List ℕ) : Type 0 where
  pub more : List ℕ
  pub is : found' ≡ found ++ more

or_left : (a b : Bool) → a ≡ true → (a || b) ≡ true
or_left true b e = refl
or_left false b e = absurd (false≢true e)

or_right : (a b : Bool) → b ≡ true → (a || b) ≡ true
or_right true b e = refl
or_right false b e = e

last_or : (a : Bool) → (a || false) ≡ a
last_or true = refl
last_or false = refl

pub is_in-push : (found : List ℕ) (w v : ℕ) → is_in (found ++ w ∷ []) v ≡ (is_in found v || eqb w v)
is_in-push found w v =
    list_any-append (λ u. eqb u v) found (w ∷ []) ∙ ap (λ b. is_in found v || b) (last_or (eqb w v))

pub grown : (found found' : List ℕ) (v : ℕ) → GoesOn found found' → is_in found v ≡ true → is_in found' v ≡ true
grown found found' v on_ e =
    ap (λ f. is_in f v) on_.is ∙ list_any-append (λ u. eqb u v) found on_.more ∙ or_left (is_in found v) (is_in on_.more v) e

-- ---- one node
marked : (g : Graph) (old new from u w : ℕ) (before after found : List ℕ) → old ≢ new → w < length before → get_or after w 0 ≡ old →
    is_in (edges g u) w ≡ true → is_in found u ≡ true → Searching g old new from before after found →
    Searching g old new from before (set after w new) (found ++ w ∷ [])
marked g old new from u w before after found differ lt is_old edge_ from_u h =
    let lt' : w < length after = omega (arith, h.size) in
    let fresh : is_in found w ≡ false = cases (is_in found w) refl in
    let was : get_or before w 0 ≡ old = sym (h.states w ∙ ap (λ b. cond b new (get_or before w 0)) fresh) ∙ is_old in
    record {
      size = length-set after w new ∙ h.size;
      states = λ v. state v lt' (eqb w v) refl;
      reached = λ v e. reach v was (is_in found v) refl (eqb w v) refl e;
      within = All-push (λ v. v < length before) found w h.within lt;
      count = counted lt';
    }
  where
    cases : (b : Bool) → b ≡ is_in found w → is_in found w ≡ false
    cases false e = sym e
    cases true e = absurd (differ (sym is_old ∙ h.states w ∙ ap (λ b. cond b new (get_or before w 0)) (sym e)))

    state : (v : ℕ) → w < length after → (b : Bool) → b ≡ eqb w v → get_or (set after w new) v 0 ≡ cond (is_in (found ++ w ∷ []) v) new (get_or before v 0)
    state v lt' true e =
        let same : w ≡ v = eqb-true w v (sym e) in
        subst (λ (x : ℕ). get_or (set after w new) x 0 ≡ new) same (get_or-set_same after w new 0 lt')
        ∙ sym (ap (λ b. cond b new (get_or before v 0)) (is_in-push found w v ∙ or_right (is_in found v) (eqb w v) (sym e)))
    state v lt' false e =
        let other : v ≢ w = λ q. false≢true (e ∙ eq-eqb w v (sym q)) in
        get_or-set_other after w v new 0 other ∙ h.states v
        ∙ ap (λ b. cond b new (get_or before v 0)) (sym (last_or (is_in found v)) ∙ ap (λ b. is_in found v || b) e ∙ sym (is_in-push found w v))

    reach : (v : ℕ) → get_or before w 0 ≡ old → (a : Bool) → a ≡ is_in found v → (b : Bool) → b ≡ eqb w v → is_in (found ++ w ∷ []) v ≡ true → LeadsWithin g before old from v
    reach v was true p b q e = h.reached v (sym p)
    reach v was false p true q e =
        subst (λ (x : ℕ). LeadsWithin g before old from x) (eqb-true w v (sym q)) (on (h.reached u from_u) edge_ was)
    reach v was false p false q e =
        absurd (false≢true (ap (λ b. false || b) q ∙ ap (λ a. a || eqb w v) p ∙ sym (is_in-push found w v) ∙ e))

    counted : w < length after → count_by (λ s. eqb s old) (set after w new) + length (found ++ w ∷ []) ≡ count_by (λ s. eqb s old) before
    counted lt' =
        let f : ℕ → ℕ = λ s. cond (eqb s old) 1 0 in
        let changed = sum_by-set f after w new 0 lt' in
        let one : f (get_or after w 0) ≡ 1 = ap (λ b. cond b 1 0) (eq-eqb (get_or after w 0) old is_old) in
        let none : f new ≡ 0 = ap (λ b. cond b 1 0) (ne_eqb new old (λ e. differ (sym e))) in
        omega (arith, changed, one, none, h.count, length-append found (w ∷ []))

pub mark_keeps : (g : Graph) (old new from u w : ℕ) (before after found : List ℕ) → old ≢ new → w < length before → is_in (edges g u) w ≡ true →
    is_in found u ≡ true → Searching g old new from before after found →
    Searching g old new from before (mark old new (after, found) w).0 (mark old new (after, found) w).1 ×
    GoesOn found (mark old new (after, found) w).1 × (get_or before w 0 ≡ old → is_in (mark old new (after, found) w).1 w ≡ true)
mark_keeps g old new from u w before after found differ lt edge_ from_u h = cases (eqb (get_or after w 0) old) refl
  where
    P : Bool → Type 0
    P b = let s : List ℕ × List ℕ = cond b (set after w new, found ++ w ∷ []) (after, found) in
        Searching g old new from before s.0 s.1 × GoesOn found s.1 × (get_or before w 0 ≡ old → is_in s.1 w ≡ true)

    cases : (b : Bool) → b ≡ eqb (get_or after w 0) old →
        Searching g old new from before (mark old new (after, found) w).0 (mark old new (after, found) w).1 ×
        GoesOn found (mark old new (after, found) w).1 × (get_or before w 0 ≡ old → is_in (mark old new (after, found) w).1 w ≡ true)
    cases true e =
        let is_old : get_or after w 0 ≡ old = eqb-true (get_or after w 0) old (sym e) in
        rw (← e) (
          marked g old new from u w before after found differ lt is_old edge_ from_u h,
          record { more = w ∷ []; is = refl },
          λ _. is_in-push found w w ∙ or_right (is_in found w) (eqb w w) (eq-eqb w w refl),
        )
    cases false e =
        rw (← e) (h, record { more = []; is = sym (append_nil found) }, λ was. found_already was (is_in found w) refl)
      where
        append_nil : (xs : List ℕ) → xs ++ [] ≡ xs
        append_nil [] = refl
        append_nil (x ∷ xs) = ap (λ ys. x ∷ ys) (append_nil xs)

        found_already : get_or before w 0 ≡ old → (b : Bool) → b ≡ is_in found w → is_in found w ≡ true
        found_already was true q = sym q
        found_already was false q =
            absurd (false≢true (e ∙ eq-eqb (get_or after w 0) old (h.states w ∙ ap (λ b. cond b new (get_or before w 0)) (sym q) ∙ was)))

-- ---- a row of nodes
abbrev pub marks : ℕ → ℕ → List ℕ × List ℕ → List ℕ → List ℕ × List ℕ
marks old new s row = fold (mark old new) s row

-- what the marks of a row keep and reach
pub record Marked (g : Graph) (old new from : ℕ) (before found row : List ℕ) (s : List ℕ × List ℕ) : Type 0 where
  pub searching : Searching g old new from before s.0 s.1
  pub goes_on : GoesOn found s.1
  pub done : (w : ℕ) → is_in row w ≡ true → get_or before w 0 ≡ old → is_in s.1 w ≡ true

goes_on_twice : (a b c : List ℕ) → GoesOn a b → GoesOn b c → GoesOn a c
goes_on_twice a b c h k = record {
  more = h.more ++ k.more;
  is = k.is ∙ ap (λ x. x ++ k.more) h.is ∙ append_assoc a h.more k.more;
}

pub marks_keep : (g : Graph) (old new from u : ℕ) (row before after found : List ℕ) → old ≢ new →
    AllByRecursion (λ w. (w < length before) × (is_in (edges g u) w ≡ true)) row → is_in found u ≡ true →
    Searching g old new from before after found → Marked g old new from before found row (marks old new (after, found) row)
marks_keep g old new from u [] before after found differ each from_u h = record {
  searching = h;
  goes_on = record { more = []; is = sym (append_nil found) };
  done = λ w e. absurd (false≢true e);
}
  where
    append_nil : (xs : List ℕ) → xs ++ [] ≡ xs
    append_nil [] = refl
    append_nil (x ∷ xs) = ap (λ ys. x ∷ ys) (append_nil xs)
marks_keep g old new from u (x ∷ row) before after found differ each from_u h =
    let s : List ℕ × List ℕ = mark old new (after, found) x in
    let first = mark_keeps g old new from u x before after found differ each.0.0 each.0.1 from_u h in
    let rest = marks_keep g old new from u row before s.0 s.1 differ each.1 (grown found s.1 u first.1 from_u) first.0 in
    record {
      searching = rest.searching;
      goes_on = goes_on_twice found s.1 (marks old new s row).1 first.1 rest.goes_on;
      done = λ w e was. cases w (eqb x w) refl (grown s.1 (marks old new s row).1 x rest.goes_on) (first.2) (rest.done w) was e;
    }
  where
    cases : (w : ℕ) (b : Bool) → b ≡ eqb x w →
        (is_in (mark old new (after, found) x).1 x ≡ true → is_in (marks old new (mark old new (after, found) x) row).1 x ≡ true) →
        (get_or before x 0 ≡ old → is_in (mark old new (after, found) x).1 x ≡ true) →
        (is_in row w ≡ true → get_or before w 0 ≡ old → is_in (marks old new (mark old new (after, found) x) row).1 w ≡ true) →
        get_or before w 0 ≡ old → (eqb x w || is_in row w) ≡ true → is_in (marks old new (mark old new (after, found) x) row).1 w ≡ true
    cases w true q grows first later was e =
        let same : x ≡ w = eqb-true x w (sym q) in
        subst (λ (y : ℕ). is_in (marks old new (mark old new (after, found) x) row).1 y ≡ true) same (grows (first (ap (λ y. get_or before y 0) same ∙ was)))
    cases w false q grows first later was e = later (ap (λ b. b || is_in row w) q ∙ e) was

-- ---- the whole search
-- the edges of the first i nodes found have been followed
abbrev pub AreFollowed : Graph → ℕ → List ℕ → List ℕ → ℕ → Type 0
AreFollowed g old before found i =
    (k : ℕ) → k < i → (w : ℕ) → is_in (edges g (get_or found k 0)) w ≡ true → get_or before w 0 ≡ old → is_in found w ≡ true

pub is_in-at : (xs : List ℕ) (k : ℕ) → k < length xs → is_in xs (get_or xs k 0) ≡ true
is_in-at [] k lt = absurd (omega arith)
is_in-at (x ∷ xs) zero lt = or_left (eqb x x) (is_in xs x) (eq-eqb x x refl)
is_in-at (x ∷ xs) (suc k) lt = or_right (eqb x (get_or xs k 0)) (is_in xs (get_or xs k 0)) (is_in-at xs k (omega arith))

-- where a member stands
pub place : (xs : List ℕ) (v : ℕ) → is_in xs v ≡ true → (k : ℕ) × (k < length xs) × (get_or xs k 0 ≡ v)
place [] v e = absurd (false≢true e)
place (x ∷ xs) v e = cases (eqb x v) refl (place xs v)
  where
    cases : (b : Bool) → b ≡ eqb x v → (is_in xs v ≡ true → (k : ℕ) × (k < length xs) × (get_or xs k 0 ≡ v)) → (k : ℕ) × (k < length (x ∷ xs)) × (get_or (x ∷ xs) k 0 ≡ v)
    cases true q later = (0, omega arith, eqb-true x v (sym q))
    cases false q later =
        let found = later (ap (λ b. b || is_in xs v) q ∙ e) in (suc found.0, omega (arith, found.1), found.2)

pub each_in : (xs : List ℕ) → AllByRecursion (λ w. is_in xs w ≡ true) xs
each_in xs = sub xs xs (λ w e. e)
  where
    sub : (ys zs : List ℕ) → ((w : ℕ) → is_in zs w ≡ true → is_in ys w ≡ true) → AllByRecursion (λ w. is_in ys w ≡ true) zs
    sub ys [] f = tt
    sub ys (z ∷ zs) f =
        (f z (or_left (eqb z z) (is_in zs z) (eq-eqb z z refl)), sub ys zs (λ w e. f w (or_right (eqb z w) (is_in zs w) e)))

both_each : (n : ℕ) (P : ℕ → Type 0) (xs : List ℕ) → All (λ v. v < n) xs → AllByRecursion P xs → AllByRecursion (λ w. (w < n) × P w) xs
both_each n P [] small h = tt
both_each n P (x ∷ xs) small h = ((All-head (λ v. v < n) x xs small, h.0), both_each n P xs (All-tail (λ v. v < n) x xs small) h.1)

pub followed_more : (g : Graph) (old new from i u : ℕ) (before after found : List ℕ) (s : List ℕ × List ℕ) → old ≢ new → i < length found →
    u ≡ get_or found i 0 → All (λ v. v < length before) (edges g u) → Searching g old new from before after found → AreFollowed g old before found i →
    s ≡ marks old new (after, found) (edges g u) → Searching g old new from before s.0 s.1 × AreFollowed g old before s.1 (i + 1) × GoesOn found s.1
followed_more g old new from i u before after found s differ lt at within h followed is =
    let from_u : is_in found u ≡ true = subst (λ (x : ℕ). is_in found x ≡ true) (sym at) (is_in-at found i lt) in
    let m = marks_keep g old new from u (edges g u) before after found differ (both_each (length before) (λ w. is_in (edges g u) w ≡ true) (edges g u) within (each_in (edges g u))) from_u h in
    let P : List ℕ × List ℕ → Type 0 = λ t. Searching g old new from before t.0 t.1 × AreFollowed g old before t.1 (i + 1) × GoesOn found t.1 in
    subst P (sym is) (m.searching, λ k le w e was. cases m k le w e was (eqb k i) refl, m.goes_on)
  where
    cases : Marked g old new from before found (edges g u) (marks old new (after, found) (edges g u)) → (k : ℕ) → k < i + 1 → (w : ℕ) →
        is_in (edges g (get_or (marks old new (after, found) (edges g u)).1 k 0)) w ≡ true → get_or before w 0 ≡ old → (b : Bool) → b ≡ eqb k i →
        is_in (marks old new (after, found) (edges g u)).1 w ≡ true
    cases m k le w e was b q =
        let lt' : k < length found = omega arith in
        let kept : get_or (marks old new (after, found) (edges g u)).1 k 0 ≡ get_or found k 0 = ap (λ f. get_or f k 0) m.goes_on.is ∙ get_or-append found m.goes_on.more 0 k lt' in
        let e' : is_in (edges g (get_or found k 0)) w ≡ true = sym (ap (λ v. is_in (edges g v) w) kept) ∙ e in
        split b q e' lt'
      where
        split : (b : Bool) → b ≡ eqb k i → is_in (edges g (get_or found k 0)) w ≡ true → k < length found → is_in (marks old new (after, found) (edges g u)).1 w ≡ true
        split true q e' lt' =
            m.done w (ap (λ v. is_in (edges g v) w) (at ∙ ap (λ j. get_or found j 0) (sym (eqb-true k i (sym q)))) ∙ e') was
        split false q e' lt' =
            let other : k ≢ i = λ same. false≢true (q ∙ eq-eqb k i same) in
            let lt'' : k < i = omega arith in
            grown found (marks old new (after, found) (edges g u)).1 w m.goes_on (followed k lt'' w e' was)

-- where all edges have been followed
pub finds : (g : Graph) (old new from i : ℕ) (before after found : List ℕ) → Searching g old new from before after found →
    AreFollowed g old before found i → length found ≤ i → is_in found from ≡ true → Finds g old new from before after found
finds g old new from i before after found h followed all begun = record {
  size = h.size;
  within = h.within;
  states = h.states;
  reached = h.reached;
  all = λ v path. closed v path;
}
  where
    closed : (v : ℕ) → LeadsWithin g before old from v → is_in found v ≡ true
    closed v here = begun
    closed v (on path edge_ was) =
        let spot = place found _ (closed _ path) in
        followed spot.0 (omega (arith, spot.1, all)) v (ap (λ x. is_in (edges g x) v) spot.2 ∙ edge_) was

-- what each round keeps
pub record Round (g : Graph) (old new from : ℕ) (before after found : List ℕ) (i : ℕ) : Type 0 where
  pub searching : Searching g old new from before after found
  pub followed : AreFollowed g old before found i
  pub begun : is_in found from ≡ true

pub first_round : (g : Graph) (old new from : ℕ) (before : List ℕ) (s : List ℕ × List ℕ) → old ≢ new → from < length before →
    get_or before from 0 ≡ old → s ≡ mark old new (before, []) from → Round g old new from before s.0 s.1 0
first_round g old new from before s differ lt is_old is =
    let P : List ℕ × List ℕ → Type 0 = λ t. Round g old new from before t.0 t.1 0 in
    subst P (sym is) (rw (eq-eqb (get_or before from 0) old is_old) record {
      searching = record {
        size = length-set before from new;
        states = λ v. state v (eqb from v) refl;
        reached = λ v e. subst (λ (x : ℕ). LeadsWithin g before old from x) (eqb-true from v (sym (last_or (eqb from v)) ∙ e)) here;
        within = All-push (λ v. v < length before) [] from (λ k d lt. absurd (omega arith)) lt;
        count = counted;
      };
      followed = λ k none. absurd (omega arith);
      begun = or_left (eqb from from) false (eq-eqb from from refl);
    })
  where
    state : (v : ℕ) (b : Bool) → b ≡ eqb from v → get_or (set before from new) v 0 ≡ cond (is_in (from ∷ []) v) new (get_or before v 0)
    state v true e =
        subst (λ (x : ℕ). get_or (set before from new) x 0 ≡ new) (eqb-true from v (sym e)) (get_or-set_same before from new 0 lt)
        ∙ ap (λ b. cond (b || false) new (get_or before v 0)) e
    state v false e =
        get_or-set_other before from v new 0 (λ q. false≢true (e ∙ eq-eqb from v (sym q)))
        ∙ ap (λ b. cond (b || false) new (get_or before v 0)) e

    counted : count_by (λ s. eqb s old) (set before from new) + 1 ≡ count_by (λ s. eqb s old) before
    counted =
        let f : ℕ → ℕ = λ s. cond (eqb s old) 1 0 in
        let changed = sum_by-set f before from new 0 lt in
        let one : f (get_or before from 0) ≡ 1 = ap (λ b. cond b 1 0) (eq-eqb (get_or before from 0) old is_old) in
        let none : f new ≡ 0 = ap (λ b. cond b 1 0) (ne_eqb new old (λ e. differ (sym e))) in
        omega (arith, changed, one, none)

pub get_or-any : {X : Type 0} (xs : List X) (i : ℕ) (d e : X) → i < length xs → get_or xs i d ≡ get_or xs i e
get_or-any [] i d e lt = absurd (omega arith)
get_or-any (x ∷ xs) zero d e lt = refl
get_or-any (x ∷ xs) (suc i) d e lt = get_or-any xs i d e (omega arith)

-- one more round
pub next_round : (g : Graph) (old new from i u : ℕ) (before after found row : List ℕ) (s : List ℕ × List ℕ) → old ≢ new → length before ≡ length g →
    All (All (λ w. w < length g)) g → i < length found → u ≡ get_or found i u → row ≡ edges g u → Round g old new from before after found i →
    s ≡ marks old new (after, found) row → Round g old new from before s.0 s.1 (i + 1)
next_round g old new from i u before after found row s differ size graph lt at row_is h is =
    let at' : u ≡ get_or found i 0 = at ∙ get_or-any found i u 0 lt in
    let small : u < length before = subst (λ (x : ℕ). x < length before) (sym at') (h.searching.within i 0 lt) in
    let row_within : All (λ v. v < length before) (edges g u) = λ k d lt'. let w = graph u [] (omega (arith, small, size)) k d lt' in omega (arith, w, size) in
    let more = followed_more g old new from i u before after found s differ lt at' row_within h.searching h.followed (is ∙ ap (marks old new (after, found)) row_is) in
    record { searching = more.0; followed = more.1; begun = grown found s.1 from more.2 h.begun }
