-- What the nogoods that the bound gives say.
use Rattle.std.proofs.Common.{◌≡◌, ℕ, zero, suc, ◌+◌, ◌<◌, ◌≤◌, Bool, true, false, cond, not, eqb, ltb, ◌&&◌, ◌||◌, List, [], ◌∷◌, ◌++◌, length, get_or, set, Option, Some, None, ℤ, pos, ◌+ℤ◌, neg_ℤ, ◌^◌, ◌≤ℤ◌, refl, sym, ap, ◌∙◌, subst, inl, inr, arith, get_or-set_same, get_or-set_other}
use Rattle.std.specs.List.{All, list_all, list_any, flat_map, count_by}
use Rattle.std.specs.List.Sorted.{IsPermutation}
use Rattle.std.specs.Option.{is_none}
use Rattle.std.proofs.lemmas.Int.{ints}
use Rattle.std.proofs.lemmas.Bool.{false≢true, cases_lt, cases_eq, eqb-true, lt-ltb, or_left, or_right}
use Rattle.std.proofs.lemmas.List.{append-nil}
use Rattle.std.proofs.lemmas.List.Elements.{All-append, All-head, All-tail, All-push, All-weaker}
use Rattle.std.proofs.lemmas.List.Sums.{sum_by-cons, sum_by-append}
use Rattle.std.proofs.lemmas.List.Sorted.{list_any-IsPermutation}
use Rattle.std.proofs.lemmas.List.Folds.{list_any-append, list_all-append}
use Rattle.asp_model.specs.declared.program.Program.{Program}
use Rattle.asp_model.specs.Costs.{priorities, betters}
use Rattle.asp_model.proofs.MemberLaws.{list_any-flat_map}
use Rattle.asp_vars.specs.Literals.{Literal, literal_eq, has_literal, value_of, holds_in, agrees, hits, is_true}
use Rattle.asp_vars.specs.Numbering.{var_count, values}
use Rattle.asp_vars.specs.Entailment.{Below}
use Rattle.asp_vars.specs.declared.nogood.Base.TheVariants as base
use Rattle.asp_vars.specs.declared.nogood.Nogood.{Nogood}
use Rattle.asp_vars.proofs.LiteralLaws.{beq_same, and_both, and_left, and_right}
use Rattle.asp_trail.specs.Trails.{IsVar}
use Rattle.asp_trail.specs.Fixpoint.{is_open, is_violated, is_unit, is_at_fixpoint}
use Rattle.asp_bound.specs.declared.place.Place.{Place}
use Rattle.asp_bound.specs.declared.place.Item.{Item}
use Rattle.asp_bound.specs.Optimism.{optimistic}
use Rattle.asp_bound.specs.Definition.{ExcludesBelow}
use Rattle.asp_bound.specs.Rises.{rise_at, rise_by, raised, row_at, nth_priority}
use Rattle.asp_bound.specs.Needed.{total, needed, MayFall}
use Rattle.asp_bound.specs.Reasons.{raises, literal_if, raising_at, held_at}
use Rattle.asp_bound.specs.Late.{HaveRaisers}
use Rattle.asp_bound.specs.Raisers.{is_raising, is_raising_by, is_raiser}
use Rattle.asp_bound.specs.Reach.{reach, lifted}
use Rattle.asp_bound.specs.Kept.{IsKept}
use Rattle.asp_bound.specs.Found.{Reaches}
use Rattle.asp_bound.specs.Bounded.{IsGivenBy}
use Rattle.asp_bound.specs.declared.find.Implied.{Implied}
use Rattle.asp_bound.proofs.CostLaws.{cost_of-values}
use Rattle.asp_bound.proofs.ReachLaws.{reached_now}
use Rattle.asp_bound.proofs.SilentLaws.{reach_at-set}
use Rattle.asp_bound.proofs.KeptLaws.{held-value, kept-told, sums-count, rows-small, sums-room}
use Rattle.asp_bound.proofs.NeededLaws.{OfRaising, Covers, AreHeld, held-permuted, needed-excludes, needed-among, all-has, total-low, of-has, passes-has, hold-has, times, itself, beq-itself}

-- ---- what a nogood says
-- It is below the cost.
pub excludes_below : (p : Program) (c : List ℤ) (n : List Literal) → ExcludesBelow p c n → Below p c n
excludes_below p c n h = record {
  excused = λ S stable hit. ap not (subst (λ (k : List ℤ). betters k c ≡ false) (cost_of-values p S) (h.excluded (values p S) hit));
}

-- ---- the literals that raise the cost
pub raised-raises : (row : List Place) (j d : ℕ) (b : Bool) → j < d → 0 < raised row j b → raises row d b ≡ true
raised-raises [] j d b lt up = absurd (omega arith)
raised-raises (o ∷ row) j d b lt up =
    let split : raised (o ∷ row) j b ≡ cond (eqb o.level j) (rise_by b o) 0 + raised row j b = sum_by-cons (λ (x : Place). cond (eqb x.level j) (rise_by b x) 0) o row in
    elim (cases_lt 0 (cond (eqb o.level j) (rise_by b o) 0)) [
      | inl here ↦ or_left (ltb o.level d && ltb 0 (rise_by b o)) (raises row d b) (first (eqb o.level j) refl here)
      | inr none ↦ (
          let rest : 0 < raised row j b = omega arith in
          or_right (ltb o.level d && ltb 0 (rise_by b o)) (raises row d b) (raised-raises row j d b lt rest))
    ]
  where
    first : (t : Bool) → eqb o.level j ≡ t → 0 < cond t (rise_by b o) 0 → (ltb o.level d && ltb 0 (rise_by b o)) ≡ true
    first true e h = and_both (ltb o.level d) (ltb 0 (rise_by b o)) (lt-ltb o.level d (omega (arith, eqb-true o.level j e))) (lt-ltb 0 (rise_by b o) h)
    first false e h = absurd (omega arith)

pub raises-raising : (row : List Place) (d : ℕ) (b : Bool) → raises row d b ≡ true → is_raising row b ≡ true
raises-raising [] d b h = absurd (false≢true h)
raises-raising (o ∷ row) d b h = by_tests (ltb o.level d) (ltb 0 (rise_by b o)) h (λ g. raises-raising row d b g)
  where
    by_tests : (x y : Bool) → ((x && y) || raises row d b) ≡ true → (raises row d b ≡ true → is_raising row b ≡ true) → (y || is_raising row b) ≡ true
    by_tests true true g rest = refl
    by_tests true false g rest = rest g
    by_tests false true g rest = refl
    by_tests false false g rest = rest g

among-any : (vs : List ℕ) (v : ℕ) (q : ℕ → Bool) → list_any (λ x. eqb x v) vs ≡ true → q v ≡ true → list_any q vs ≡ true
among-any [] v q h e = absurd (false≢true h)
among-any (x ∷ vs) v q h e = any_by (eqb x v) refl h (λ g. among-any vs v q g e)
  where
    any_by : (t : Bool) → eqb x v ≡ t → (t || list_any (λ y. eqb y v) vs) ≡ true → (list_any (λ y. eqb y v) vs ≡ true → list_any q vs ≡ true) → (q x || list_any q vs) ≡ true
    any_by true f g rest = or_left (q x) (list_any q vs) (ap q (eqb-true x v f) ∙ e)
    any_by false f g rest = or_right (q x) (list_any q vs) (rest g)

one_has : (t : Bool) (v : ℕ) (b : Bool) → t ≡ true → has_literal (cond t (record { var = v; truth = b } ∷ []) []) (record { var = v; truth = b }) ≡ true
one_has true v b e = or_left (literal_eq (record { var = v; truth = b }) (record { var = v; truth = b })) false (itself v b)
one_has false v b e = absurd (false≢true e)

-- those of the variables' literals that pass a test
abbrev at_test : List (Option Bool) → (ℕ → Bool → Bool) → ℕ → List Literal
at_test a q v = literal_if (q v) v (value_of a v)

abbrev pub chosen : List (Option Bool) → (ℕ → Bool → Bool) → List ℕ → List Literal
chosen a q vs = flat_map (at_test a q) vs

-- the test that those pass that raise the first priorities
abbrev pub raises_at : List (List Place) → ℕ → ℕ → Bool → Bool
raises_at rows d v = raises (row_at rows v) d

abbrev pub raising_of : List (Option Bool) → List (List Place) → ℕ → List ℕ → List Literal
raising_of a rows d vs = flat_map (raising_at a rows d) vs

literal_if-has : (q : Bool → Bool) (v : ℕ) (b : Bool) (o : Option Bool) → o ≡ Some b → q b ≡ true → has_literal (literal_if q v o) (record { var = v; truth = b }) ≡ true
literal_if-has q v b o e pass = subst (λ o. has_literal (literal_if q v o) (record { var = v; truth = b }) ≡ true) (sym e) (one_has (q b) v b pass)

chosen-has : (a : List (Option Bool)) (q : ℕ → Bool → Bool) (vs : List ℕ) (v : ℕ) (b : Bool) → list_any (λ x. eqb x v) vs ≡ true →
    value_of a v ≡ Some b → q v b ≡ true → has_literal (chosen a q vs) (record { var = v; truth = b }) ≡ true
chosen-has a q vs v b among e pass =
    let l : Literal = record { var = v; truth = b } in
    list_any-flat_map (λ k. literal_eq k l) (at_test a q) vs ∙ among-any vs v (λ x. has_literal (at_test a q x) l) among (literal_if-has (q v) v b (value_of a v) e pass)

-- all that raise the first priorities are among them, where these pass
chosen-raising : (p : Program) (a : List (Option Bool)) (rows : List (List Place)) (columns : List (List Item)) (vars : List ℕ) (sums : List ℤ)
    (vs : List ℕ) (d : ℕ) (q : ℕ → Bool → Bool) → IsKept p a rows columns vars sums → HaveRaisers a rows vs →
    ((v : ℕ) (b : Bool) → raises_at rows d v b ≡ true → q v b ≡ true) →
    (j v : ℕ) (b : Bool) → j < d → j < length (priorities p.minimize) → 0 < v → v ≤ var_count p → value_of a v ≡ Some b →
    0 < rise_at p (nth_priority p j) v b → has_literal (chosen a q vs) (record { var = v; truth = b }) ≡ true
chosen-raising p a rows columns vars sums vs d q kept are pass j v b lt low i k e up =
    let raise : 0 < raised (row_at rows v) j b = omega (arith, kept.rowed.sums j v b low i k) in
    let raises_it : raises (row_at rows v) d b ≡ true = raised-raises (row_at rows v) j d b lt raise in
    let raiser : is_raiser a rows v ≡ true = ap (is_raising_by (row_at rows v)) e ∙ raises-raising (row_at rows v) d b raises_it in
    chosen-has a q vs v b (are.whole v raiser) e (pass v b raises_it)

-- ---- they hold
literal_if-hold : (a : List (Option Bool)) (q : Bool → Bool) (v : ℕ) (o : Option Bool) → value_of a v ≡ o → list_all (holds_in a) (literal_if q v o) ≡ true
literal_if-hold a q v None e = refl
literal_if-hold a q v (Some b) e = by_test (q b)
  where
    holds : holds_in a (record { var = v; truth = b }) ≡ true
    holds = ap (λ o. agrees o (record { var = v; truth = b })) e ∙ beq-itself b

    by_test : (t : Bool) → list_all (holds_in a) (cond t (record { var = v; truth = b } ∷ []) []) ≡ true
    by_test true = and_both (holds_in a (record { var = v; truth = b })) true holds refl
    by_test false = refl

chosen-hold : (a : List (Option Bool)) (q : ℕ → Bool → Bool) (vs : List ℕ) → list_all (holds_in a) (chosen a q vs) ≡ true
chosen-hold a q [] = refl
chosen-hold a q (v ∷ vs) =
    list_all-append (holds_in a) (at_test a q v) (chosen a q vs)
    ∙ and_both (list_all (holds_in a) (at_test a q v)) (list_all (holds_in a) (chosen a q vs))
    (literal_if-hold a (q v) v (value_of a v) refl) (chosen-hold a q vs)

-- ---- so they are violated, or unit with one more
pub violated-loud : (a : List (Option Bool)) (n : List Literal) → list_all (holds_in a) n ≡ true → is_at_fixpoint a n ≡ false
violated-loud a n h = ap (λ b. not b && not (is_unit a n)) h

weaker-all : (f g : Literal → Bool) (n : List Literal) → ((k : Literal) → f k ≡ true → g k ≡ true) → list_all f n ≡ true → list_all g n ≡ true
weaker-all f g [] h e = refl
weaker-all f g (k ∷ n) h e = and_both (g k) (list_all g n) (h k (and_left (f k) (list_all f n) e)) (weaker-all f g n h (and_right (f k) (list_all f n) e))

pub unit-loud : (a : List (Option Bool)) (n : List Literal) (v : ℕ) (b : Bool) → list_all (holds_in a) n ≡ true → value_of a v ≡ None →
    is_at_fixpoint a (n ++ record { var = v; truth = b } ∷ []) ≡ false
unit-loud a n v b h none =
    let l : Literal = record { var = v; truth = b } in
    let test : Literal → Bool = λ k. literal_eq k l || holds_in a k in
    let others : list_all test (n ++ l ∷ []) ≡ true =
    list_all-append test n (l ∷ []) ∙ and_both (list_all test n) (list_all test (l ∷ []))
    (weaker-all (holds_in a) test n (λ k e. or_right (literal_eq k l) (holds_in a k) e) h)
    (and_both (test l) true (or_left (literal_eq l l) (holds_in a l) (itself v b)) refl) in
    let free : is_open a l ≡ true = ap is_none none in
    let here : (is_open a l && list_all test (n ++ l ∷ [])) ≡ true = and_both (is_open a l) (list_all test (n ++ l ∷ [])) free others in
    let unit : is_unit a (n ++ l ∷ []) ≡ true =
    list_any-append (λ x. is_open a x && list_all (λ k. literal_eq k x || holds_in a k) (n ++ l ∷ [])) n (l ∷ [])
    ∙ or_right (list_any (λ x. is_open a x && list_all (λ k. literal_eq k x || holds_in a k) (n ++ l ∷ [])) n)
    ((is_open a l && list_all test (n ++ l ∷ [])) || false) (or_left (is_open a l && list_all test (n ++ l ∷ [])) false here) in
    and_right_false (not (is_violated a (n ++ l ∷ []))) (not (is_unit a (n ++ l ∷ []))) (ap not unit)
  where
    and_right_false : (x y : Bool) → y ≡ false → (x && y) ≡ false
    and_right_false true y e = e
    and_right_false false y e = refl

-- ---- their variables are the program's
literal_if-within : (P : ℕ → Type 0) (q : Bool → Bool) (v : ℕ) (o : Option Bool) → P v → All (λ (l : Literal). P l.var) (literal_if q v o)
literal_if-within P q v None h = λ k e lt. absurd (omega arith)
literal_if-within P q v (Some b) h = by_test (q b)
  where
    by_test : (t : Bool) → All (λ (l : Literal). P l.var) (cond t (record { var = v; truth = b } ∷ []) [])
    by_test true zero e lt = h
    by_test true (suc k) e lt = absurd (omega arith)
    by_test false k e lt = absurd (omega arith)

chosen-within : (P : ℕ → Type 0) (a : List (Option Bool)) (q : ℕ → Bool → Bool) (vs : List ℕ) → All P vs → All (λ (l : Literal). P l.var) (chosen a q vs)
chosen-within P a q [] h = λ k e lt. absurd (omega arith)
chosen-within P a q (v ∷ vs) h =
    All-append (λ (l : Literal). P l.var) (at_test a q v) (chosen a q vs)
    (literal_if-within P (q v) v (value_of a v) (All-head P v vs h)) (chosen-within P a q vs (All-tail P v vs h))

-- ---- each holds, and stands once
times_if : (q : Bool → Bool) (u v : ℕ) (o : Option Bool) → times v (literal_if q u o) ≤ cond (eqb u v) 1 0
times_if q u v None = omega arith
times_if q u v (Some b) = by_test (q b)
  where
    by_test : (t : Bool) → times v (cond t (record { var = u; truth = b } ∷ []) []) ≤ cond (eqb u v) 1 0
    by_test true = omega (arith, sum_by-cons (λ (l : Literal). cond (eqb l.var v) 1 0) (record { var = u; truth = b }) [])
    by_test false = omega arith

chosen-times : (a : List (Option Bool)) (q : ℕ → Bool → Bool) (vs : List ℕ) (v : ℕ) → times v (chosen a q vs) ≤ count_by (λ x. eqb x v) vs
chosen-times a q [] v = omega arith
chosen-times a q (u ∷ vs) v =
    let split : times v (chosen a q (u ∷ vs)) ≡ times v (at_test a q u) + times v (chosen a q vs) =
    sum_by-append (λ (l : Literal). cond (eqb l.var v) 1 0) (at_test a q u) (chosen a q vs) in
    let first : times v (at_test a q u) ≤ cond (eqb u v) 1 0 = times_if (q u) u v (value_of a u) in
    let counted : count_by (λ x. eqb x v) (u ∷ vs) ≡ cond (eqb u v) 1 0 + count_by (λ x. eqb x v) vs = sum_by-cons (λ (x : ℕ). cond (eqb x v) 1 0) u vs in
    omega (arith, split, first, counted, chosen-times a q vs v)

pub chosen-held : (p : Program) (a : List (Option Bool)) (rows : List (List Place)) (columns : List (List Item)) (vars : List ℕ) (sums : List ℤ)
    (vs : List ℕ) (q : ℕ → Bool → Bool) (found : List Literal) → IsKept p a rows columns vars sums → HaveRaisers a rows vs →
    IsPermutation (chosen a q vs) found → AreHeld p a found
chosen-held p a rows columns vars sums vs q found kept are moved =
    let lits : List Literal = chosen a q vs in
    let within : All (IsVar (var_count p)) vs = All-weaker (λ v. (0 < v) × (v < length a)) (IsVar (var_count p)) (λ v h. (h.0, omega (arith, kept.sized, h.1))) vs are.within in
    held-permuted p a lits found moved (record {
      held = λ k g. held-value a k (passes-has (holds_in a) lits k (chosen-hold a q vs) g);
      within = λ k g. of-has (λ (l : Literal). IsVar (var_count p) l.var) lits k (chosen-within (IsVar (var_count p)) a q vs within) g;
      once = λ v. omega (arith, chosen-times a q vs v, are.once v);
    })

pub chosen-whole : (p : Program) (a : List (Option Bool)) (rows : List (List Place)) (columns : List (List Item)) (vars : List ℕ) (sums : List ℤ)
    (vs : List ℕ) (d : ℕ) (q : ℕ → Bool → Bool) (found : List Literal) → IsKept p a rows columns vars sums → HaveRaisers a rows vs →
    ((v : ℕ) (b : Bool) → raises_at rows d v b ≡ true → q v b ≡ true) → IsPermutation (chosen a q vs) found →
    OfRaising p a d (λ v b. has_literal found (record { var = v; truth = b }) ≡ true)
chosen-whole p a rows columns vars sums vs d q found kept are pass moved = λ j v b lt low i k e up.
    sym (list_any-IsPermutation (λ (l : Literal). literal_eq l (record { var = v; truth = b })) (chosen a q vs) found moved)
    ∙ chosen-raising p a rows columns vars sums vs d q kept are pass j v b lt low i k e up

-- those that raise the first priorities
pub found-held : (p : Program) (a : List (Option Bool)) (rows : List (List Place)) (columns : List (List Item)) (vars : List ℕ) (sums : List ℤ)
    (vs : List ℕ) (d : ℕ) (found : List Literal) → IsKept p a rows columns vars sums → HaveRaisers a rows vs →
    IsPermutation (raising_of a rows d vs) found → AreHeld p a found
found-held p a rows columns vars sums vs d found kept are moved = chosen-held p a rows columns vars sums vs (raises_at rows d) found kept are moved

found-whole : (p : Program) (a : List (Option Bool)) (rows : List (List Place)) (columns : List (List Item)) (vars : List ℕ) (sums : List ℤ)
    (vs : List ℕ) (d : ℕ) (found : List Literal) → IsKept p a rows columns vars sums → HaveRaisers a rows vs →
    IsPermutation (raising_of a rows d vs) found → OfRaising p a d (λ v b. has_literal found (record { var = v; truth = b }) ≡ true)
found-whole p a rows columns vars sums vs d found kept are moved = chosen-whole p a rows columns vars sums vs d (raises_at rows d) found kept are (λ v b up. up) moved

-- all of them
abbrev pub held_of : List (Option Bool) → List ℕ → List Literal
held_of a vs = flat_map (held_at a) vs

pub all-held : (p : Program) (a : List (Option Bool)) (rows : List (List Place)) (columns : List (List Item)) (vars : List ℕ) (sums : List ℤ)
    (vs : List ℕ) (found : List Literal) → IsKept p a rows columns vars sums → HaveRaisers a rows vs →
    IsPermutation (held_of a vs) found → AreHeld p a found
all-held p a rows columns vars sums vs found kept are moved = chosen-held p a rows columns vars sums vs (λ v b. true) found kept are moved

pub all-whole : (p : Program) (a : List (Option Bool)) (rows : List (List Place)) (columns : List (List Item)) (vars : List ℕ) (sums : List ℤ)
    (vs : List ℕ) (d : ℕ) (found : List Literal) → IsKept p a rows columns vars sums → HaveRaisers a rows vs →
    IsPermutation (held_of a vs) found → OfRaising p a d (λ v b. has_literal found (record { var = v; truth = b }) ≡ true)
all-whole p a rows columns vars sums vs d found kept are moved = chosen-whole p a rows columns vars sums vs d (λ v b. true) found kept are (λ v b up. refl) moved

-- ---- what is given
abbrev nogood_of : List ℤ → List Literal → Nogood
nogood_of c n = record { lits = n; base = base.Below c }

pub given-now : (p : Program) (a : List (Option Bool)) (rows : List (List Place)) (columns : List (List Item)) (vars : List ℕ) (sums : List ℤ) → IsKept p a rows columns vars sums →
    (vs : List ℕ) → HaveRaisers a rows vs → (c : List ℤ) (d : ℕ) (n : Nogood) (found : List Literal) → IsPermutation (raising_of a rows d vs) found →
    reach sums c ≡ Some d → n ≡ record { lits = needed rows c d sums found ++ []; base = base.Below c } →
    IsGivenBy (record { program = p; values = a }) c n
given-now p a rows columns vars sums kept vs are c d n found moved r e =
    let lits : List Literal = needed rows c d sums found in
    let plain : lits ++ [] ≡ lits = append-nil lits in
    let held = found-held p a rows columns vars sums vs d found kept are moved in
    let whole = found-whole p a rows columns vars sums vs d found kept are moved in
    let excluded : ExcludesBelow p c lits = record {
      excluded = λ x hit. needed-excludes p rows columns vars c d x found a sums kept held (λ j v b lt low i k e up. inl (whole j v b lt low i k e up)) d r (omega arith) hit;
    } in
    let is : IsGivenBy (record { program = p; values = a }) c (record { lits = lits; base = base.Below c }) = record {
      base = refl;
      excluded = excluded;
      below = excludes_below p c lits excluded;
      within = all-has (λ (l : Literal). IsVar (var_count p) l.var) lits (λ k g. held.within k (needed-among rows c d found sums k g));
      wanted = violated-loud a lits (hold-has a lits (λ k g. held.held k (needed-among rows c d found sums k g)));
    } in
    subst (IsGivenBy (record { program = p; values = a }) c) (sym (e ∙ ap (nogood_of c) plain)) is

same_inside : (x y : Bool) → Some x ≡ Some y → x ≡ y
same_inside x y e = cc

none_some : (b : Bool) → None ≡ Some b → ⊥
none_some b e = cc

-- They hold with one more value too.
pub held-told : (p : Program) (a : List (Option Bool)) (n : List Literal) (u : ℕ) (t : Bool) → value_of a u ≡ None → AreHeld p a n → AreHeld p (set a u (Some t)) n
held-told p a n u t none h = record {
  held = λ k g. elim (cases_eq k.var u) [
    | inl is ↦ absurd (none_some k.truth (sym none ∙ subst (λ (w : ℕ). value_of a w ≡ Some k.truth) is (h.held k g)))
    | inr ne ↦ get_or-set_other a u k.var (Some t) None ne ∙ h.held k g
  ];
  within = h.within;
  once = h.once;
}

-- With one more value, each that raises the cost is that one, which x has, or a literal's.
covers-told : (p : Program) (a : List (Option Bool)) (d : ℕ) (n : List Literal) (u : ℕ) (t : Bool) (x : List Bool) → u < length a →
    is_true x (record { var = u; truth = t }) ≡ true → OfRaising p a d (λ v b. has_literal n (record { var = v; truth = b }) ≡ true) →
    Covers p (set a u (Some t)) d n x
covers-told p a d n u t x inside hit whole = λ j v b lt low i k e up. elim (cases_eq v u) [
  | inl is ↦ (
      let here : value_of (set a u (Some t)) u ≡ Some b = subst (λ (w : ℕ). value_of (set a u (Some t)) w ≡ Some b) is e in
      let same : t ≡ b = same_inside t b (sym (get_or-set_same a u (Some t) None inside) ∙ here) in
      inr (ap (λ (w : ℕ). get_or x w false) is ∙ (beq_same (get_or x u false) t hit ∙ same)))
  | inr ne ↦ inl (whole j v b lt low i k (sym (get_or-set_other a u v (Some t) None ne) ∙ e) up)
]

pub given-with : (p : Program) (a : List (Option Bool)) (rows : List (List Place)) (columns : List (List Item)) (vars : List ℕ) (sums : List ℤ) → IsKept p a rows columns vars sums →
    (c : List ℤ) (x : Implied) (n : Nogood) (found : List Literal) (left : List ℤ) → AreHeld p a found →
    OfRaising p a x.depth (λ v b. has_literal found (record { var = v; truth = b }) ≡ true) → IsKept p (set a x.lit.var (Some x.lit.truth)) rows columns vars left →
    Reaches a rows sums c x → 0 < x.lit.var → x.lit.var ≤ var_count p →
    n ≡ record { lits = needed rows c x.depth left found ++ x.lit ∷ []; base = base.Below c } → IsGivenBy (record { program = p; values = a }) c n
given-with p a rows columns vars sums kept c x n found left held whole more r i k e =
    let d = x.depth in
    let one : List Literal = x.lit ∷ [] in
    let told : List (Option Bool) = set a x.lit.var (Some x.lit.truth) in
    let lits : List Literal = needed rows c d left found in
    let inside : x.lit.var < length a = omega (arith, kept.sized, k) in
    let reached : reach (optimistic p told) c ≡ Some d = sym (reach_at-set p a rows columns vars sums kept c x.lit.var x.lit.truth i k r.no_value) ∙ r.reached in
    let excluded : ExcludesBelow p c (lits ++ one) = record {
      excluded = λ y hit.
          let both : (hits y lits && hits y one) ≡ true = sym (list_all-append (is_true y) lits one) ∙ hit in
          let last : is_true y x.lit ≡ true = and_left (is_true y x.lit) true (and_right (hits y lits) (hits y one) both) in
          needed-excludes p rows columns vars c d y found told left more (held-told p a found x.lit.var x.lit.truth r.no_value held)
          (covers-told p a d found x.lit.var x.lit.truth y inside last whole) d (ap (λ (s : List ℤ). reach s c) more.summed ∙ reached)
          (omega arith) (and_left (hits y lits) (hits y one) both);
    } in
    let is : IsGivenBy (record { program = p; values = a }) c (record { lits = lits ++ one; base = base.Below c }) = record {
      base = refl;
      excluded = excluded;
      below = excludes_below p c (lits ++ one) excluded;
      within = All-push (λ (l : Literal). IsVar (var_count p) l.var) lits x.lit
          (all-has (λ (l : Literal). IsVar (var_count p) l.var) lits (λ k g. held.within k (needed-among rows c d found left k g))) (i, k);
      wanted = unit-loud a lits x.lit.var x.lit.truth (hold-has a lits (λ k g. held.held k (needed-among rows c d found left k g))) r.no_value;
    } in
    subst (IsGivenBy (record { program = p; values = a }) c) (sym e) is

-- ---- the same, by what the calls say
pub given_now_as : (p : Program) (a : List (Option Bool)) (rows : List (List Place)) (columns : List (List Item)) (vars : List ℕ) (sums : List ℤ) → IsKept p a rows columns vars sums →
    (vs : List ℕ) → HaveRaisers a rows vs → (c s limits : List ℤ) (d : ℕ) (n : Nogood) (lits found : List Literal) (left : List ℤ) → s ≡ sums →
    limits ≡ c → Some d ≡ reach (lifted (λ j. 0) s) limits → IsPermutation (raising_of a rows d vs) found → left ≡ s →
    lits ≡ needed rows limits d left found → n ≡ record { lits = lits ++ []; base = base.Below c } → IsGivenBy (record { program = p; values = a }) c n
given_now_as p a rows columns vars sums kept vs are c s limits d n lits found left es el r moved same elits e =
    let is : lits ≡ needed rows c d sums found = elits ∙ (ap (λ (k : List ℤ). needed rows k d left found) el ∙ ap (λ (z : List ℤ). needed rows c d z found) (same ∙ es)) in
    given-now p a rows columns vars sums kept vs are c d n found moved (reached_now sums c s limits (Some d) es el r) (e ∙ ap (λ (ls : List Literal). nogood_of c (ls ++ [])) is)

-- what the sums are with one value more
pub kept_raised : (p : Program) (a : List (Option Bool)) (rows : List (List Place)) (columns : List (List Item)) (vars : List ℕ) (sums : List ℤ) → IsKept p a rows columns vars sums →
    (v : ℕ) (b : Bool) (row : List Place) (s left : List ℤ) → 0 < v → v ≤ var_count p → value_of a v ≡ None → row ≡ row_at rows v → s ≡ sums → length left ≡ length s →
    ((j : ℕ) → j < length s → get_or left j (pos 0) ≡ get_or s j (pos 0) +ℤ pos (raised row j b)) → IsKept p (set a v (Some b)) rows columns vars left
kept_raised p a rows columns vars sums kept v b row s left i k none er es long each =
    kept-told p a rows columns vars sums left kept v b i k none (long ∙ ap length es) (λ j lt.
    let inside : j < length s = omega (arith, lt, ap length es) in
    omega (arith, ints, each j inside, ap (λ (z : List ℤ). get_or z j (pos 0)) es, ap (λ (r : List Place). raised r j b) er))

pub given_with_as : (p : Program) (a : List (Option Bool)) (rows : List (List Place)) (columns : List (List Item)) (vars : List ℕ) (sums : List ℤ) → IsKept p a rows columns vars sums →
    (c s limits : List ℤ) (x : Implied) (n : Nogood) (lits found : List Literal) (left : List ℤ) → s ≡ sums →
    limits ≡ c → Reaches a rows s limits x → (0 < x.lit.var) × (x.lit.var < length a) → AreHeld p a found →
    OfRaising p a x.depth (λ v b. has_literal found (record { var = v; truth = b }) ≡ true) →
    IsKept p (set a x.lit.var (Some x.lit.truth)) rows columns vars left → lits ≡ needed rows limits x.depth left found →
    n ≡ record { lits = lits ++ x.lit ∷ []; base = base.Below c } → IsGivenBy (record { program = p; values = a }) c n
given_with_as p a rows columns vars sums kept c s limits x n lits found left es el r within held whole more elits e =
    let reaches : Reaches a rows sums c x = subst (λ (l : List ℤ). Reaches a rows sums l x) el (subst (λ (z : List ℤ). Reaches a rows z limits x) es r) in
    let is : lits ≡ needed rows c x.depth left found = elits ∙ ap (λ (k : List ℤ). needed rows k x.depth left found) el in
    given-with p a rows columns vars sums kept c x n found left held whole more reaches within.0 (omega (arith, kept.sized, within.1))
    (e ∙ ap (λ (ls : List Literal). nogood_of c (ls ++ x.lit ∷ [])) is)

-- ---- what the search for what is needed asks for
left-vars : (p : Program) (a : List (Option Bool)) (rows : List (List Place)) (columns : List (List Item)) (vars : List ℕ) (left : List ℤ)
    (found : List Literal) → IsKept p a rows columns vars left → AreHeld p a found → All (λ (l : Literal). (0 < l.var) × (l.var < length rows)) found
left-vars p a rows columns vars left found kept held =
    all-has (λ (l : Literal). (0 < l.var) × (l.var < length rows)) found
    (λ k g. ((held.within k g).0, omega (arith, kept.rowed.count, (held.within k g).1)))

pub left-within : (p : Program) (a : List (Option Bool)) (rows : List (List Place)) (columns : List (List Item)) (vars : List ℕ) (left : List ℤ) →
    IsKept p a rows columns vars left → (v : ℕ) → All (λ (o : Place). o.level < length left) (row_at rows v)
left-within p a rows columns vars left kept v = subst (λ (n : ℕ). All (λ (o : Place). o.level < n) (row_at rows v)) (sym (sums-count p a rows columns vars left kept)) (kept.rowed.within v)

left-low : (p : Program) (a : List (Option Bool)) (rows : List (List Place)) (columns : List (List Item)) (vars : List ℕ) (left : List ℤ)
    (found : List Literal) → IsKept p a rows columns vars left → AreHeld p a found →
    (j : ℕ) → j < length left → (neg_ℤ (pos (2 ^ 60)) +ℤ pos (total rows j found)) ≤ℤ get_or left j (pos 0)
left-low p a rows columns vars left found kept held j lt = omega (arith, ints, total-low p rows columns vars found a left kept held j lt)

pub may_fall : (p : Program) (a : List (Option Bool)) (rows : List (List Place)) (columns : List (List Item)) (vars : List ℕ) (left : List ℤ)
    (found : List Literal) → IsKept p a rows columns vars left → AreHeld p a found → MayFall rows left found
may_fall p a rows columns vars left found kept held = record {
  vars = left-vars p a rows columns vars left found kept held;
  within = left-within p a rows columns vars left kept;
  small = rows-small p a rows columns vars left kept;
  low = left-low p a rows columns vars left found kept held;
  high = sums-room p a rows columns vars left kept;
}
