-- Literals are left out of a nogood of the bound, as long as the bound is reached without them.
use Rattle.std.proofs.Common.{◌≡◌, ◌≢◌, ℕ, zero, suc, ◌+◌, ◌^◌, ◌<◌, ◌≤◌, Bool, true, false, cond, eqb, ◌||◌, List, [], ◌∷◌, length, get_or, set, Option, Some, None, ℤ, pos, ◌+ℤ◌, ◌≤ℤ◌, ◌<ℤ◌, refl, sym, ap, ◌∙◌, subst, inl, inr, ◌⊎◌, arith, get_or-set_same, get_or-set_other, add-one, drop, drop-cons, ◌++◌, fold, replicate}
use Rattle.std.specs.List.{All, list_all, count_by, sum_by}
use Rattle.std.specs.List.Sorted.{IsPermutation}
use Rattle.std.specs.Bool.{beq}
use Rattle.std.proofs.lemmas.Int.{ints}
use Rattle.std.proofs.lemmas.Bool.{false≢true, cases_lt, cases_eq, eqb-true, eq-eqb, or_left, or_right}
use Rattle.std.proofs.lemmas.Bool.Decides.{nat_tests}
use Rattle.std.proofs.lemmas.List.{get_or-map, get_or_past, get_or_default, same_lists, length-map, length-set, length-replicate, append-nil}
use Rattle.std.proofs.lemmas.List.Elements.{All-cons, All-head, All-tail}
use Rattle.std.proofs.lemmas.List.Sums.{sum_by-cons, sum_by_push}
use Rattle.std.proofs.lemmas.List.Sorted.{list_any-IsPermutation, sum_by-IsPermutation}
use Rattle.asp_model.specs.declared.program.Program.{Program}
use Rattle.asp_model.specs.Costs.{priorities, betters}
use Rattle.asp_vars.specs.Literals.{Literal, literal_eq, has_literal, value_of, holds_in, agrees, hits, is_true}
use Rattle.asp_vars.specs.Numbering.{var_count}
use Rattle.asp_vars.proofs.LiteralLaws.{beq_same, hits-has, same_literal, and_both, and_left, and_right}
use Rattle.asp_trail.specs.Entries.{assign, assignment}
use Rattle.asp_trail.specs.Trails.{IsVar}
use Rattle.asp_trail.specs.declared.trail.Entry.{Entry}
use Rattle.asp_bound.specs.declared.place.Place.{Place}
use Rattle.asp_bound.specs.declared.place.Item.{Item}
use Rattle.asp_bound.specs.Optimism.{optimistic_at, optimistic}
use Rattle.asp_bound.specs.Definition.{cost_of_at, cost_of}
use Rattle.asp_bound.specs.Rises.{rise_at, raised, row_at, nth_priority}
use Rattle.asp_bound.specs.Reach.{reach}
use Rattle.asp_bound.specs.Needed.{is_shown, lowered, raised_by, total, without, needed}
use Rattle.asp_bound.specs.Kept.{IsKept}
use Rattle.asp_bound.proofs.CostLaws.{optimistic_at-le}
use Rattle.asp_bound.proofs.KeptLaws.{kept-untold, sums-low}
use Rattle.asp_bound.proofs.ReachLaws.{reach-above}

-- ---- values that agree with those that raise the first priorities
-- what holds of each value that raises one of the first priorities
abbrev pub OfRaising : Program → List (Option Bool) → ℕ → (ℕ → Bool → Type 0) → Type 0
OfRaising p a d P =
    (j v : ℕ) (b : Bool) → j < d → j < length (priorities p.minimize) → 0 < v → v ≤ var_count p → value_of a v ≡ Some b → 0 < rise_at p (nth_priority p j) v b → P v b

-- Where the first priorities reach the bound, values of all variables that agree with what raises them cost no less.
pub excluded_at : (p : Program) (a : List (Option Bool)) (c : List ℤ) (d : ℕ) (x : List Bool) → reach (optimistic p a) c ≡ Some d →
    OfRaising p a d (λ v b. get_or x v false ≡ b) → betters (cost_of p x) c ≡ false
excluded_at p a c d x r agree =
    let qs = priorities p.minimize in
    let same : length (optimistic p a) ≡ length (cost_of p x) = length-map qs (optimistic_at p a) ∙ sym (length-map qs (cost_of_at p x)) in
    let above : (j : ℕ) → j < d → get_or (optimistic p a) j (pos 0) ≤ℤ get_or (cost_of p x) j (pos 0) = λ j lt. elim (cases_lt j (length qs)) [
      | inl low ↦ (
          let left : get_or (optimistic p a) j (pos 0) ≡ optimistic_at p a (nth_priority p j) = get_or-map (optimistic_at p a) qs j (pos 0) (pos 0) low in
          let right : get_or (cost_of p x) j (pos 0) ≡ cost_of_at p x (nth_priority p j) = get_or-map (cost_of_at p x) qs j (pos 0) (pos 0) low in
          let le = optimistic_at-le p a x (nth_priority p j) (λ v b i k e up. sym (agree j v b lt low i k e up)) in
          omega (arith, ints, left, right, le))
      | inr out ↦ (
          let left : get_or (optimistic p a) j (pos 0) ≡ pos 0 = get_or_past (optimistic p a) j (pos 0) (omega (arith, length-map qs (optimistic_at p a), out)) in
          let right : get_or (cost_of p x) j (pos 0) ≡ pos 0 = get_or_past (cost_of p x) j (pos 0) (omega (arith, length-map qs (cost_of_at p x), out)) in
          omega (arith, ints, left, right))
    ] in
    reach-above (optimistic p a) (cost_of p x) c d r same above

-- ---- literals of a list
pub beq-itself : (b : Bool) → beq b b ≡ true
beq-itself true = refl
beq-itself false = refl

pub itself : (v : ℕ) (b : Bool) → literal_eq (record { var = v; truth = b }) (record { var = v; truth = b }) ≡ true
itself v b = and_both (eqb v v) (beq b b) (eq-eqb v v refl) (beq-itself b)

pub or_split : (x y : Bool) → (x || y) ≡ true → (x ≡ true) ⊎ (y ≡ true)
or_split true y h = inl refl
or_split false y h = inr h

has-first : (l : Literal) (n : List Literal) → has_literal (l ∷ n) l ≡ true
has-first l n = or_left (literal_eq l l) (has_literal n l) (itself l.var l.truth)

has-later : (l k : Literal) (n : List Literal) → has_literal n k ≡ true → has_literal (l ∷ n) k ≡ true
has-later l k n h = or_right (literal_eq l k) (has_literal n k) h

pub all-has : (P : Literal → Type 0) (n : List Literal) → ((k : Literal) → has_literal n k ≡ true → P k) → All P n
all-has P [] h = λ k e lt. absurd (omega arith)
all-has P (l ∷ n) h = All-cons P l n (h l (has-first l n)) (all-has P n (λ k g. h k (has-later l k n g)))

-- what all have, one has
pub of-has : (P : Literal → Type 0) (n : List Literal) (k : Literal) → All P n → has_literal n k ≡ true → P k
of-has P [] k h g = absurd (false≢true g)
of-has P (l ∷ n) k h g = elim (or_split (literal_eq l k) (has_literal n k) g) [
  | inl here ↦ subst P (same_literal l k here) (All-head P l n h)
  | inr later ↦ of-has P n k (All-tail P l n h) later
]

pub passes-has : (q : Literal → Bool) (n : List Literal) (k : Literal) → list_all q n ≡ true → has_literal n k ≡ true → q k ≡ true
passes-has q [] k h g = absurd (false≢true g)
passes-has q (l ∷ n) k h g = elim (or_split (literal_eq l k) (has_literal n k) g) [
  | inl here ↦ sym (ap q (same_literal l k here)) ∙ and_left (q l) (list_all q n) h
  | inr later ↦ passes-has q n k (and_right (q l) (list_all q n) h) later
]

holds-at : (a : List (Option Bool)) (l : Literal) → value_of a l.var ≡ Some l.truth → holds_in a l ≡ true
holds-at a l e = ap (λ o. agrees o l) e ∙ beq-itself l.truth

pub hold-has : (a : List (Option Bool)) (n : List Literal) → ((k : Literal) → has_literal n k ≡ true → value_of a k.var ≡ Some k.truth) → list_all (holds_in a) n ≡ true
hold-has a [] h = refl
hold-has a (l ∷ n) h = and_both (holds_in a l) (list_all (holds_in a) n) (holds-at a l (h l (has-first l n))) (hold-has a n (λ k g. h k (has-later l k n g)))

-- how often a variable stands in the list
abbrev pub times : ℕ → List Literal → ℕ
times v n = sum_by (λ (l : Literal). cond (eqb l.var v) 1 0) n

times-cons : (v : ℕ) (l : Literal) (n : List Literal) → times v (l ∷ n) ≡ cond (eqb l.var v) 1 0 + times v n
times-cons v l n = sum_by-cons (λ (k : Literal). cond (eqb k.var v) 1 0) l n

one_if : (t : Bool) → t ≡ true → (let n : ℕ = cond t 1 0 in n) ≡ 1
one_if true e = refl
one_if false e = absurd (false≢true e)

times-has : (n : List Literal) (k : Literal) → has_literal n k ≡ true → 0 < times k.var n
times-has [] k h = absurd (false≢true h)
times-has (l ∷ n) k h = elim (or_split (literal_eq l k) (has_literal n k) h) [
  | inl here ↦ omega (arith, times-cons k.var l n, one_if (eqb l.var k.var) (and_left (eqb l.var k.var) (beq l.truth k.truth) here))
  | inr later ↦ omega (arith, times-cons k.var l n, times-has n k later)
]

-- The literals hold, each of another variable.
pub record AreHeld (p : Program) (a : List (Option Bool)) (n : List Literal) : Type 0 where
  pub held : (k : Literal) → has_literal n k ≡ true → value_of a k.var ≡ Some k.truth
  pub within : (k : Literal) → has_literal n k ≡ true → IsVar (var_count p) k.var
  pub once : (v : ℕ) → times v n ≤ 1

pub held-permuted : (p : Program) (a : List (Option Bool)) (n m : List Literal) → IsPermutation n m → AreHeld p a n → AreHeld p a m
held-permuted p a n m moved h = record {
  held = λ k g. h.held k (list_any-IsPermutation (λ l. literal_eq l k) n m moved ∙ g);
  within = λ k g. h.within k (list_any-IsPermutation (λ l. literal_eq l k) n m moved ∙ g);
  once = λ v. omega (arith, h.once v, sum_by-IsPermutation (λ (l : Literal). cond (eqb l.var v) 1 0) n m moved);
}

held-later : (p : Program) (a : List (Option Bool)) (l : Literal) (n : List Literal) → AreHeld p a (l ∷ n) → AreHeld p a n
held-later p a l n h = record {
  held = λ k g. h.held k (has-later l k n g);
  within = λ k g. h.within k (has-later l k n g);
  once = λ v. omega (arith, times-cons v l n, h.once v);
}

other-var : (p : Program) (a : List (Option Bool)) (l k : Literal) (n : List Literal) → AreHeld p a (l ∷ n) → has_literal n k ≡ true → k.var ≢ l.var
other-var p a l k n h g = λ e. absurd (omega (arith, times-cons k.var l n, one_if (eqb l.var k.var) (eq-eqb l.var k.var (sym e)), times-has n k g, h.once k.var))

held-without : (p : Program) (a : List (Option Bool)) (l : Literal) (n : List Literal) → AreHeld p a (l ∷ n) → AreHeld p (set a l.var None) n
held-without p a l n h =
    let rest = held-later p a l n h in
    record {
      held = λ k g. get_or-set_other a l.var k.var None None (other-var p a l k n h g) ∙ rest.held k g;
      within = rest.within;
      once = rest.once;
    }

-- ---- sums without what a literal adds
pub length-lowered : (f : ℕ → ℕ) (x : List ℤ) → length (lowered f x) ≡ length x
length-lowered f [] = refl
length-lowered f (s ∷ x) = omega (arith, length-lowered (λ j. f (suc j)) x)

pub get_or-lowered : (f : ℕ → ℕ) (x : List ℤ) (j : ℕ) → j < length x → get_or (lowered f x) j (pos 0) +ℤ pos (f j) ≡ get_or x j (pos 0)
get_or-lowered f [] j lt = absurd (omega arith)
get_or-lowered f (s ∷ x) zero lt = omega (arith, ints)
get_or-lowered f (s ∷ x) (suc j) lt = get_or-lowered (λ j. f (suc j)) x j (omega arith)

kept-without : (p : Program) (a : List (Option Bool)) (rows : List (List Place)) (columns : List (List Item)) (vars : List ℕ) (sums : List ℤ) → IsKept p a rows columns vars sums →
    (l : Literal) (n : List Literal) → AreHeld p a (l ∷ n) → IsKept p (set a l.var None) rows columns vars (without rows sums l)
kept-without p a rows columns vars sums kept l n h =
    let within : IsVar (var_count p) l.var = h.within l (has-first l n) in
    kept-untold p a rows columns vars sums (without rows sums l) kept l.var l.truth within.0 within.1 (h.held l (has-first l n))
    (length-lowered (λ j. raised_by rows j l) sums) (λ j lt. get_or-lowered (λ j. raised_by rows j l) sums j lt)

-- what the literals add at most
pub total-low : (p : Program) (rows : List (List Place)) (columns : List (List Item)) (vars : List ℕ) (n : List Literal) (a : List (Option Bool))
    (sums : List ℤ) → IsKept p a rows columns vars sums → AreHeld p a n →
    (j : ℕ) → j < length sums → pos (total rows j n) ≤ℤ (get_or sums j (pos 0) +ℤ pos (2 ^ 55))
total-low p rows columns vars [] a sums kept h j lt = sums-low p a rows columns vars sums kept j lt
total-low p rows columns vars (l ∷ n) a sums kept h j lt =
    let f : ℕ → ℕ = λ j. raised_by rows j l in
    let rest = total-low p rows columns vars n (set a l.var None) (without rows sums l) (kept-without p a rows columns vars sums kept l n h)
    (held-without p a l n h) j (omega (arith, length-lowered f sums)) in
    omega (arith, ints, rest, get_or-lowered f sums j lt, sum_by-cons (raised_by rows j) l n)

-- ---- what is needed
pub needed-among : (rows : List (List Place)) (c : List ℤ) (depth : ℕ) (n : List Literal) (sums : List ℤ) (k : Literal) → has_literal (needed rows c depth sums n) k ≡ true → has_literal n k ≡ true
needed-among rows c depth [] sums k h = h
needed-among rows c depth (l ∷ n) sums k h = by_test (is_shown depth (reach (without rows sums l) c)) (needed-among rows c depth n (without rows sums l) k) (needed-among rows c depth n sums k) h
  where
    by_test : (t : Bool) → (has_literal (needed rows c depth (without rows sums l) n) k ≡ true → has_literal n k ≡ true) →
        (has_literal (needed rows c depth sums n) k ≡ true → has_literal n k ≡ true) →
        has_literal (cond t (needed rows c depth (without rows sums l) n) (l ∷ needed rows c depth sums n)) k ≡ true → has_literal (l ∷ n) k ≡ true
    by_test true out stays g = has-later l k n (out g)
    by_test false out stays g = elim (or_split (literal_eq l k) (has_literal (needed rows c depth sums n) k) g) [
      | inl here ↦ or_left (literal_eq l k) (has_literal n k) here
      | inr later ↦ has-later l k n (stays later)
    ]

shown : (depth : ℕ) (r : Option ℕ) → is_shown depth r ≡ true → (d : ℕ) × (r ≡ Some d) × (d ≤ depth)
shown depth None h = absurd (false≢true h)
shown depth (Some d) h = (d, refl, grind (arith, nat_tests))

-- Each value that raises one of the first priorities is a literal's that is left, or one of x.
abbrev pub Covers : Program → List (Option Bool) → ℕ → List Literal → List Bool → Type 0
Covers p a d n x = OfRaising p a d (λ v b. (has_literal n (record { var = v; truth = b }) ≡ true) ⊎ (get_or x v false ≡ b))

covers-without : (p : Program) (a : List (Option Bool)) (d : ℕ) (l : Literal) (n : List Literal) (x : List Bool) → l.var < length a → Covers p a d (l ∷ n) x → Covers p (set a l.var None) d n x
covers-without p a d l n x inside h = λ j v b lt low i k e up. elim (cases_eq v l.var) [
  | inl is ↦ absurd (none_some b (sym (get_or-set_same a l.var None None inside) ∙ subst (λ (w : ℕ). value_of (set a l.var None) w ≡ Some b) is e))
  | inr ne ↦ elim (h j v b lt low i k (sym (get_or-set_other a l.var v None None ne) ∙ e) up) [
    | inl has ↦ elim (or_split (literal_eq l (record { var = v; truth = b })) (has_literal n (record { var = v; truth = b })) has) [
      | inl here ↦ absurd (ne (sym (eqb-true l.var v (and_left (eqb l.var v) (beq l.truth b) here))))
      | inr later ↦ inl later
    ]
    | inr agree ↦ inr agree
  ]
]
  where
    none_some : (b : Bool) → None ≡ Some b → ⊥
    none_some b e = cc

covers-kept : (p : Program) (a : List (Option Bool)) (d : ℕ) (l : Literal) (n : List Literal) (x : List Bool) → is_true x l ≡ true → Covers p a d (l ∷ n) x → Covers p a d n x
covers-kept p a d l n x hit h = λ j v b lt low i k e up. elim (h j v b lt low i k e up) [
  | inl has ↦ elim (or_split (literal_eq l (record { var = v; truth = b })) (has_literal n (record { var = v; truth = b })) has) [
    | inl here ↦ inr (beq_same (get_or x v false) b
        (hits-has x (l ∷ []) (record { var = v; truth = b }) (and_both (is_true x l) true hit refl)
        (or_left (literal_eq l (record { var = v; truth = b })) false here)))
    | inr later ↦ inl later
  ]
  | inr agree ↦ inr agree
]

-- Values of all variables that hit what is needed cost no less than the bound.
pub needed-excludes : (p : Program) (rows : List (List Place)) (columns : List (List Item)) (vars : List ℕ) (c : List ℤ) (depth : ℕ) (x : List Bool)
    (n : List Literal) (a : List (Option Bool)) (sums : List ℤ) → IsKept p a rows columns vars sums → AreHeld p a n → Covers p a depth n x →
    (d : ℕ) → reach sums c ≡ Some d → d ≤ depth → hits x (needed rows c depth sums n) ≡ true → betters (cost_of p x) c ≡ false
needed-excludes p rows columns vars c depth x [] a sums kept h covers d r le hit =
    excluded_at p a c d x (ap (λ (s : List ℤ). reach s c) (sym kept.summed) ∙ r)
    (λ j v b lt low i k e up. elim (covers j v b (omega arith) low i k e up) [ inl has ↦ absurd (false≢true has) | inr agree ↦ agree ])
needed-excludes p rows columns vars c depth x (l ∷ n) a sums kept h covers d r le hit =
    let inside : l.var < length a = omega (arith, kept.sized, (h.within l (has-first l n)).1) in
    by_test (is_shown depth (reach (without rows sums l) c)) refl
    (λ e g.
    let s = shown depth (reach (without rows sums l) c) e in
    needed-excludes p rows columns vars c depth x n (set a l.var None) (without rows sums l) (kept-without p a rows columns vars sums kept l n h)
    (held-without p a l n h) (covers-without p a depth l n x inside covers) s.0 s.1 s.2 g)
    (λ g.
    needed-excludes p rows columns vars c depth x n a sums kept (held-later p a l n h)
    (covers-kept p a depth l n x (and_left (is_true x l) (hits x (needed rows c depth sums n)) g) covers) d r le
    (and_right (is_true x l) (hits x (needed rows c depth sums n)) g))
    hit
  where
    by_test : (t : Bool) → is_shown depth (reach (without rows sums l) c) ≡ t →
        (is_shown depth (reach (without rows sums l) c) ≡ true → hits x (needed rows c depth (without rows sums l) n) ≡ true → betters (cost_of p x) c ≡ false) →
        (hits x (l ∷ needed rows c depth sums n) ≡ true → betters (cost_of p x) c ≡ false) →
        hits x (cond t (needed rows c depth (without rows sums l) n) (l ∷ needed rows c depth sums n)) ≡ true → betters (cost_of p x) c ≡ false
    by_test true e out stays g = out e g
    by_test false e out stays g = stays g

-- ---- by what the calls say
pub lowered-is : (f : ℕ → ℕ) (old new : List ℤ) → length new ≡ length old → ((j : ℕ) → j < length old → get_or new j (pos 0) +ℤ pos (f j) ≡ get_or old j (pos 0)) → new ≡ lowered f old
lowered-is f old new long each = same_lists new (lowered f old) (long ∙ sym (length-lowered f old)) (λ k d lt.
    let low : k < length old = omega (arith, long) in
    let inside : k < length (lowered f old) = omega (arith, length-lowered f old, low) in
    let same : get_or new k (pos 0) ≡ get_or (lowered f old) k (pos 0) = omega (arith, ints, each k low, get_or-lowered f old k low) in
    get_or_default new k d (pos 0) lt ∙ (same ∙ get_or_default (lowered f old) k (pos 0) d inside))

pub restored : (f : ℕ → ℕ) (old low new : List ℤ) → length low ≡ length old → length new ≡ length low → ((j : ℕ) → j < length old → get_or low j (pos 0) +ℤ pos (f j) ≡ get_or old j (pos 0)) →
    ((j : ℕ) → j < length low → get_or new j (pos 0) ≡ get_or low j (pos 0) +ℤ pos (f j)) → new ≡ old
restored f old low new ll ln down up = same_lists new old (ln ∙ ll) (λ k d lt.
    let inside : k < length old = omega (arith, ln, ll) in
    let beneath : k < length low = omega (arith, ln) in
    get_or_default new k d (pos 0) lt ∙ ((up k beneath ∙ down k inside) ∙ get_or_default old k (pos 0) d inside))

pub lowered-at : (f : ℕ → ℕ) (old new : List ℤ) → new ≡ lowered f old → (j : ℕ) → j < length old → get_or new j (pos 0) +ℤ pos (f j) ≡ get_or old j (pos 0)
lowered-at f old new e j lt = ap (λ (s : List ℤ). get_or s j (pos 0) +ℤ pos (f j)) e ∙ get_or-lowered f old j lt

drop-next : (n : List Literal) (i : ℕ) (d : Literal) → i < length n → drop i n ≡ get_or n i d ∷ drop (i + 1) n
drop-next n i d lt = rw (add-one, drop-cons n i d) refl

drop-turn : (n : List Literal) (i : ℕ) (l : Literal) → i < length n → l ≡ get_or n i l → drop i n ≡ l ∷ drop (i + 1) n
drop-turn n i l lt is = drop-next n i l lt ∙ ap (λ (k : Literal). k ∷ drop (i + 1) n) (sym is)

pub needed-next : (rows : List (List Place)) (c : List ℤ) (depth : ℕ) (n : List Literal) (i : ℕ) (l : Literal) (old new whole : List Literal)
    (before after : List ℤ) → i < length n → l ≡ get_or n i l →
    ((rest : List Literal) → new ++ needed rows c depth after rest ≡ old ++ needed rows c depth before (l ∷ rest)) →
    old ++ needed rows c depth before (drop i n) ≡ whole → new ++ needed rows c depth after (drop (i + 1) n) ≡ whole
needed-next rows c depth n i l old new whole before after lt is step e = step (drop (i + 1) n) ∙ (ap (λ (m : List Literal). old ++ needed rows c depth before m) (sym (drop-turn n i l lt is)) ∙ e)

drop-none : (n : List Literal) (i : ℕ) → length n ≤ i → drop i n ≡ []
drop-none [] zero le = refl
drop-none [] (suc i) le = refl
drop-none (l ∷ n) zero le = absurd (omega arith)
drop-none (l ∷ n) (suc i) le = drop-none n i (omega arith)

pub needed-last : (rows : List (List Place)) (c : List ℤ) (depth : ℕ) (n : List Literal) (i : ℕ) (lits whole : List Literal) (sums : List ℤ) →
    length n ≤ i → lits ++ needed rows c depth sums (drop i n) ≡ whole → lits ≡ whole
needed-last rows c depth n i lits whole sums le e = sym (append-nil lits) ∙ (ap (λ (m : List Literal). lits ++ needed rows c depth sums m) (sym (drop-none n i le)) ∙ e)

total-next : (rows : List (List Place)) (j : ℕ) (n : List Literal) (i : ℕ) (l : Literal) → i < length n → l ≡ get_or n i l →
    total rows j (drop i n) ≡ raised_by rows j l + total rows j (drop (i + 1) n)
total-next rows j n i l lt is = ap (total rows j) (drop-turn n i l lt is) ∙ sum_by-cons (raised_by rows j) l (drop (i + 1) n)

-- what the literals from a place on add leaves the sums above a limit
abbrev pub IsRoom : List (List Place) → List Literal → ℤ → List ℤ → Type 0
IsRoom rows n m sums = (j : ℕ) → j < length sums → (m +ℤ pos (total rows j n)) ≤ℤ get_or sums j (pos 0)

pub room-first : (rows : List (List Place)) (n : List Literal) (i : ℕ) (l : Literal) (m : ℤ) (sums : List ℤ) → i < length n → l ≡ get_or n i l →
    IsRoom rows (drop i n) m sums → (j : ℕ) → j < length sums → (m +ℤ pos (raised (row_at rows l.var) j l.truth)) ≤ℤ get_or sums j (pos 0)
room-first rows n i l m sums lt is room j low = omega (arith, ints, room j low, total-next rows j n i l lt is)

pub room-next : (rows : List (List Place)) (n : List Literal) (i : ℕ) (l : Literal) (m : ℤ) (before after : List ℤ) → i < length n →
    l ≡ get_or n i l → length after ≡ length before → IsRoom rows (drop i n) m before →
    ((j : ℕ) → j < length before → get_or before j (pos 0) ≤ℤ (get_or after j (pos 0) +ℤ pos (raised (row_at rows l.var) j l.truth))) → IsRoom rows (drop (i + 1) n) m after
room-next rows n i l m before after lt is long room least j low =
    let inside : j < length before = omega (arith, long, low) in
    omega (arith, ints, room j inside, total-next rows j n i l lt is, least j inside)

pub high-next : (m : ℤ) (before after : List ℤ) → length after ≡ length before → ((j : ℕ) → j < length before → get_or before j (pos 0) <ℤ m) →
    ((j : ℕ) → j < length before → get_or after j (pos 0) ≤ℤ get_or before j (pos 0)) →
    (j : ℕ) → j < length after → get_or after j (pos 0) <ℤ m
high-next m before after long high fallen j low =
    let inside : j < length before = omega (arith, long, low) in
    omega (arith, ints, high j inside, fallen j inside)

-- ---- variables, each once
pub record IsCounted (vars : List ℕ) (n : ℕ) : Type 0 where
  pub once : (v : ℕ) → count_by (λ x. eqb x v) vars ≤ 1
  pub none : (v : ℕ) → n ≤ v → count_by (λ x. eqb x v) vars ≡ 0

pub counted_push : (vars : List ℕ) (n : ℕ) → IsCounted vars n → IsCounted (vars ++ n ∷ []) (n + 1)
counted_push vars n h = record {
  once = λ v. elim (cases_eq n v) [
    | inl is ↦ omega (arith, more v, one_if (eqb n v) (eq-eqb n v is), h.none v (omega (arith, is)))
    | inr ne ↦ omega (arith, more v, zero_if (eqb n v) (λ e. ne (eqb-true n v e)), h.once v)
  ];
  none = λ v le. omega (arith, more v, zero_if (eqb n v) (λ e. absurd (omega (arith, eqb-true n v e, le))), h.none v (omega (arith, le)));
}
  where
    more : (v : ℕ) → count_by (λ x. eqb x v) (vars ++ n ∷ []) ≡ count_by (λ x. eqb x v) vars + cond (eqb n v) 1 0
    more v = sum_by_push (λ (x : ℕ). cond (eqb x v) 1 0) vars n

    zero_if : (t : Bool) → (t ≡ true → ⊥) → (let k : ℕ = cond t 1 0 in k) ≡ 0
    zero_if true never = absurd (never refl)
    zero_if false never = refl

pub counted_more : (vars : List ℕ) (n : ℕ) → IsCounted vars n → IsCounted vars (n + 1)
counted_more vars n h = record { once = h.once; none = λ v le. h.none v (omega (arith, le)) }

-- ---- values by a trail
assigned-length : (es : List Entry) (a : List (Option Bool)) → length (fold assign a es) ≡ length a
assigned-length [] a = refl
assigned-length (e ∷ es) a = assigned-length es (assign a e) ∙ length-set a e.lit.var (Some e.lit.truth)

pub assignment-length : (vars : ℕ) (es : List Entry) → length (assignment vars es) ≡ vars + 1
assignment-length vars es = assigned-length es (replicate (vars + 1) None) ∙ length-replicate (vars + 1) None
