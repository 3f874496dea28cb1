-- What every trail keeps, through a new entry and through its end.
use Rattle.std.proofs.Common.{◌≡◌, ◌≢◌, ℕ, ◌+◌, ◌-◌, ◌<◌, ◌≤◌, Bool, true, false, cond, eqb, leb, List, [], ◌∷◌, ◌++◌, length, Option, Some, None, inl, inr, ◌⊎◌, replicate, set, get_or, min, count_by, slice_get, refl, sym, ap, ◌∙◌, subst, arith, get_or-set_other, get_or-set_same}
use Rattle.std.specs.List.{All, AllPairs}
use Rattle.std.specs.Option.{is_some, is_none}
use Rattle.std.proofs.lemmas.Bool.{eq-eqb, eqb-true, false≢true}
use Rattle.std.proofs.lemmas.Bool.Decides.{nat_tests}
use Rattle.std.proofs.lemmas.List.{length-append, length-set, get_or_append_left, get_or_push, append-nil}
use Rattle.std.proofs.lemmas.List.Elements.{All-push, filter-append}
use Rattle.std.proofs.lemmas.List.Quantifiers.{all_pairs_push}
use Rattle.std.proofs.lemmas.List.Sums.{fold-append, sum_by-set}
use Rattle.std.proofs.lemmas.Option.{slice_get-get_or}
use Rattle.asp_trail.specs.declared.trail.Entry.{Entry}
use Rattle.asp_trail.specs.Entries.{assign, assignment, entry_of, level, level_or_zero, cut}
use Rattle.asp_trail.specs.Trails.{IsTrail, IsVar, IsOrdered}
use Rattle.asp_trail.proofs.EntryLaws.{entry_assigned, fold_found, fold_without, none_at, unset, find_only, filter_all}

-- 1 where there is no value
abbrev ones : Option Bool → ℕ
ones o = cond (is_none o) 1 0

-- no entry's level is above the newest one's
pub level_top : (es : List Entry) → AllPairs (λ e f. e.level ≤ f.level) es → (i : ℕ) (d : Entry) → i < length es → (get_or es i d).level ≤ level es
level_top es r i d h =
    let e : slice_get es (length es - 1) ≡ Some (get_or es (length es - 1) d) = slice_get-get_or es (length es - 1) d (omega arith) in
    let l : level es ≡ (get_or es (length es - 1) d).level = ap level_or_zero e in
    cases (eqb i (length es - 1)) refl l
  where
    cases : (b : Bool) → b ≡ eqb i (length es - 1) → level es ≡ (get_or es (length es - 1) d).level → (get_or es i d).level ≤ level es
    cases true q l = let s : i ≡ length es - 1 = eqb-true i (length es - 1) (sym q) in omega (arith, l, ap (λ j. (get_or es j d).level) s)
    cases false q l = let lt : i < length es - 1 = grind (arith, nat_tests) in omega (arith, l, r i (length es - 1) d lt (omega arith))

pub level_steps : (es : List Entry) → ((i : ℕ) (d : Entry) → i < length es → (get_or es i d).level ≤ i + 1) → level es ≤ length es
level_steps [] s = omega arith
level_steps (e ∷ es) s =
    let q : slice_get (e ∷ es) (length (e ∷ es) - 1) ≡ Some (get_or (e ∷ es) (length (e ∷ es) - 1) e) = slice_get-get_or (e ∷ es) (length (e ∷ es) - 1) e (omega arith) in
    omega (arith, ap level_or_zero q, s (length (e ∷ es) - 1) e (omega arith))

pub new_entry : (vars : ℕ) (es : List Entry) (values : List (Option Bool)) (places levels : List ℕ) (seen : ℕ) (e : Entry) →
    IsTrail vars es values places levels seen → IsVar vars e.lit.var → get_or (assignment vars es) e.lit.var None ≡ None →
    level es ≤ e.level → e.level ≤ level es + 1 → (e.reason ≡ None → (e.level ≡ 0) ⊎ (level es < e.level)) →
    IsTrail vars (es ++ e ∷ []) (set values e.lit.var (Some e.lit.truth)) (set places e.lit.var (length es)) (set levels e.lit.var e.level) seen
new_entry vars es values places levels seen e t v n lo hi first = record {
  values_are = ap (λ (a : List (Option Bool)). assign a e) t.values_are ∙ sym (fold-append assign (replicate (vars + 1) None) es (e ∷ []));
  sized = length-set values e.lit.var (Some e.lit.truth) ∙ t.sized;
  placed = length-set places e.lit.var (length es) ∙ t.placed;
  leveled = length-set levels e.lit.var e.level ∙ t.leveled;
  places_are = λ i d h. at i d h (eqb i (length es)) refl;
  levels_are = λ i d h. level_at i d h (eqb i (length es)) refl;
  within = All-push (λ f. IsVar vars f.lit.var) es e t.within v;
  rising = all_pairs_push (λ f g. f.level ≤ g.level) es e t.rising (λ k d h. omega (arith, level_top es t.rising k d h));
  steps = λ i d h. step i d h (eqb i (length es)) refl;
  decided = λ i j d l h. decide i j d l h (eqb j (length es)) refl;
  counted = omega (arith, t.counted, length-append es (e ∷ []), sum_by-set ones values e.lit.var (Some e.lit.truth) None small, ap ones was);
  begun = omega (arith, t.begun, length-append es (e ∷ []));
}
  where
    small : e.lit.var < length values
    small = omega (arith, t.sized, v.1)

    was : get_or values e.lit.var None ≡ None
    was = ap (λ a. get_or a e.lit.var None) t.values_are ∙ n

    old : (i : ℕ) (d : Entry) → i < length (es ++ e ∷ []) → i ≢ length es → i < length es
    old i d h ne = omega (arith, length-append es (e ∷ []))

    apart : (i : ℕ) (d : Entry) → i < length es → (get_or es i d).lit.var ≢ e.lit.var
    apart i d h q =
        false≢true (ap is_some (sym (ap (λ w. get_or (assignment vars es) w None) q ∙ n)) ∙ entry_assigned vars es i d h (t.within i d h).1)

    at : (i : ℕ) (d : Entry) → i < length (es ++ e ∷ []) → (b : Bool) → b ≡ eqb i (length es) →
        get_or (set places e.lit.var (length es)) (get_or (es ++ e ∷ []) i d).lit.var 0 ≡ i
    at i d h true q =
        let s : i ≡ length es = eqb-true i (length es) (sym q) in
        let p : get_or (es ++ e ∷ []) i d ≡ e = get_or_push es e d i (sym s) in
        ap (λ f. get_or (set places e.lit.var (length es)) f.lit.var 0) p
        ∙ (get_or-set_same places e.lit.var (length es) 0 (omega (arith, t.placed, v.1)) ∙ sym s)
    at i d h false q =
        let ne : i ≢ length es = grind (arith, nat_tests) in
        let lt : i < length es = old i d h ne in
        ap (λ f. get_or (set places e.lit.var (length es)) f.lit.var 0) (get_or_append_left es (e ∷ []) d i lt)
        ∙ (get_or-set_other places e.lit.var (get_or es i d).lit.var (length es) 0 (apart i d lt) ∙ t.places_are i d lt)

    level_at : (i : ℕ) (d : Entry) → i < length (es ++ e ∷ []) → (b : Bool) → b ≡ eqb i (length es) →
        get_or (set levels e.lit.var e.level) (get_or (es ++ e ∷ []) i d).lit.var 0 ≡ (get_or (es ++ e ∷ []) i d).level
    level_at i d h true q =
        let p : get_or (es ++ e ∷ []) i d ≡ e = get_or_push es e d i (sym (eqb-true i (length es) (sym q))) in
        ap (λ f. get_or (set levels e.lit.var e.level) f.lit.var 0) p
        ∙ (get_or-set_same levels e.lit.var e.level 0 (omega (arith, t.leveled, v.1)) ∙ sym (ap (λ (f : Entry). f.level) p))
    level_at i d h false q =
        let ne : i ≢ length es = grind (arith, nat_tests) in
        let lt : i < length es = old i d h ne in
        let p = get_or_append_left es (e ∷ []) d i lt in
        ap (λ f. get_or (set levels e.lit.var e.level) f.lit.var 0) p
        ∙ (get_or-set_other levels e.lit.var (get_or es i d).lit.var e.level 0 (apart i d lt) ∙ (t.levels_are i d lt ∙ sym (ap (λ (f : Entry). f.level) p)))

    step : (i : ℕ) (d : Entry) → i < length (es ++ e ∷ []) → (b : Bool) → b ≡ eqb i (length es) → (get_or (es ++ e ∷ []) i d).level ≤ i + 1
    step i d h true q =
        let s : i ≡ length es = eqb-true i (length es) (sym q) in
        omega (arith, ap (λ f. f.level) (get_or_push es e d i (sym s)), level_steps es t.steps, hi)
    step i d h false q =
        let ne : i ≢ length es = grind (arith, nat_tests) in
        let lt : i < length es = old i d h ne in
        omega (arith, ap (λ f. f.level) (get_or_append_left es (e ∷ []) d i lt), t.steps i d lt)

    decide : (i j : ℕ) (d : Entry) → i < j → j < length (es ++ e ∷ []) → (b : Bool) → b ≡ eqb j (length es) → (get_or (es ++ e ∷ []) j d).reason ≡ None →
        (get_or (es ++ e ∷ []) i d).level ≡ (get_or (es ++ e ∷ []) j d).level → (get_or (es ++ e ∷ []) j d).level ≡ 0
    decide i j d l h true q none same =
        let s : j ≡ length es = eqb-true j (length es) (sym q) in
        let is : get_or (es ++ e ∷ []) j d ≡ e = get_or_push es e d j (sym s) in
        let lt : i < length es = omega (arith, l, s) in
        elim (first (sym (ap (λ (f : Entry). f.reason) is) ∙ none)) [
          | inl z ↦ ap (λ (f : Entry). f.level) is ∙ z
          | inr m ↦ absurd (omega (arith, m, level_top es t.rising i d lt, same, ap (λ (f : Entry). f.level) is, ap (λ (f : Entry). f.level) (get_or_append_left es (e ∷ []) d i lt)))
        ]
    decide i j d l h false q none same =
        let ne : j ≢ length es = grind (arith, nat_tests) in
        let lt : j < length es = old j d h ne in
        let at = get_or_append_left es (e ∷ []) d j lt in
        let was = get_or_append_left es (e ∷ []) d i (omega (arith, l, lt)) in
        ap (λ (f : Entry). f.level) at
        ∙ t.decided i j d l lt (sym (ap (λ (f : Entry). f.reason) at) ∙ none)
        (sym (ap (λ (f : Entry). f.level) was) ∙ (same ∙ ap (λ (f : Entry). f.level) at))

pub new_entry_at : (vars : ℕ) (es : List Entry) (values : List (Option Bool)) (places levels : List ℕ) (seen : ℕ) (e : Entry) (n : ℕ) → n ≡ length es →
    IsTrail vars es values places levels seen → IsVar vars e.lit.var → get_or (assignment vars es) e.lit.var None ≡ None →
    level es ≤ e.level → e.level ≤ level es + 1 → (e.reason ≡ None → (e.level ≡ 0) ⊎ (level es < e.level)) →
    IsTrail vars (es ++ e ∷ []) (set values e.lit.var (Some e.lit.truth)) (set places e.lit.var n) (set levels e.lit.var e.level) seen
new_entry_at vars es values places levels seen e n q t v m lo hi first =
    subst (λ (k : ℕ). IsTrail vars (es ++ e ∷ []) (set values e.lit.var (Some e.lit.truth)) (set places e.lit.var k) (set levels e.lit.var e.level) seen) (sym q)
    (new_entry vars es values places levels seen e t v m lo hi first)

-- the newest entry's variable stands in no other entry
pub apart_last : (vars : ℕ) (es : List Entry) (values : List (Option Bool)) (places levels : List ℕ) (seen : ℕ) (e : Entry) →
    IsTrail vars (es ++ e ∷ []) values places levels seen → All (λ f. f.lit.var ≢ e.lit.var) es
apart_last vars es values places levels seen e t i d h q =
    let one : get_or places (get_or es i d).lit.var 0 ≡ i =
    ap (λ f. get_or places f.lit.var 0) (sym (get_or_append_left es (e ∷ []) d i h)) ∙ t.places_are i d (omega (arith, length-append es (e ∷ []))) in
    let two : get_or places e.lit.var 0 ≡ length es =
    ap (λ f. get_or places f.lit.var 0) (sym (get_or_push es e d (length es) refl)) ∙ t.places_are (length es) d (omega (arith, length-append es (e ∷ []))) in
    omega (arith, one, two, ap (λ w. get_or places w 0) q)

pub less_entry : (vars : ℕ) (es : List Entry) (values : List (Option Bool)) (places levels : List ℕ) (seen : ℕ) (e : Entry) (n : ℕ) → n ≡ length es →
    IsTrail vars (es ++ e ∷ []) values places levels seen → IsTrail vars es (set values e.lit.var None) places levels (min seen n)
less_entry vars es values places levels seen e n q t = record {
  values_are = ap (λ (a : List (Option Bool)). set a e.lit.var None) was ∙ unset (assignment vars es) e.lit.var (Some e.lit.truth) none;
  sized = length-set values e.lit.var None ∙ t.sized;
  placed = t.placed;
  leveled = t.leveled;
  places_are = λ i d h. ap (λ f. get_or places f.lit.var 0) (sym (get_or_append_left es (e ∷ []) d i h)) ∙ t.places_are i d (longer i h);
  levels_are = λ i d h. let p = get_or_append_left es (e ∷ []) d i h in ap (λ f. get_or levels f.lit.var 0) (sym p) ∙ (t.levels_are i d (longer i h) ∙ ap (λ (f : Entry). f.level) p);
  within = λ i d h. subst (λ (f : Entry). IsVar vars f.lit.var) (get_or_append_left es (e ∷ []) d i h) (t.within i d (longer i h));
  rising = λ i j d l h. omega (arith, ap (λ f. f.level) (get_or_append_left es (e ∷ []) d i (omega arith)), ap (λ f. f.level) (get_or_append_left es (e ∷ []) d j h), t.rising i j d l (longer j h));
  steps = λ i d h. omega (arith, ap (λ f. f.level) (get_or_append_left es (e ∷ []) d i h), t.steps i d (longer i h));
  decided = λ i j d l h none same.
      let at = get_or_append_left es (e ∷ []) d j h in
      let was = get_or_append_left es (e ∷ []) d i (omega (arith, l, h)) in
      sym (ap (λ (f : Entry). f.level) at)
      ∙ t.decided i j d l (longer j h) (ap (λ (f : Entry). f.reason) at ∙ none) (ap (λ (f : Entry). f.level) was ∙ (same ∙ sym (ap (λ (f : Entry). f.level) at)));
  counted = omega (arith, t.counted, length-append es (e ∷ []), sum_by-set ones values e.lit.var None None small, ap ones here);
  begun = omega (arith, q);
}
  where
    longer : (i : ℕ) → i < length es → i < length (es ++ e ∷ [])
    longer i h = omega (arith, length-append es (e ∷ []))

    was : values ≡ assign (assignment vars es) e
    was = t.values_are ∙ fold-append assign (replicate (vars + 1) None) es (e ∷ [])

    none : get_or (assignment vars es) e.lit.var None ≡ None
    none = fold_without (replicate (vars + 1) None) es e.lit.var (apart_last vars es values places levels seen e t) ∙ none_at (vars + 1) e.lit.var

    at_end : IsVar vars e.lit.var
    at_end = subst (λ (f : Entry). IsVar vars f.lit.var) (get_or_push es e e (length es) refl) (t.within (length es) e (omega (arith, length-append es (e ∷ []))))

    small : e.lit.var < length values
    small = omega (arith, t.sized, at_end.1)

    here : get_or values e.lit.var None ≡ Some e.lit.truth
    here = ap (λ a. get_or a e.lit.var None) was
        ∙ get_or-set_same (assignment vars es) e.lit.var (Some e.lit.truth) None (omega (arith, small, ap length was, length-set (assignment vars es) e.lit.var (Some e.lit.truth)))

-- an assigned variable's entry stands at its place
pub found_at : (vars : ℕ) (es : List Entry) (values : List (Option Bool)) (places levels : List ℕ) (seen : ℕ) (v : ℕ) → IsTrail vars es values places levels seen →
    is_some (get_or (assignment vars es) v None) ≡ true →
    (get_or places v 0 < length es) × ((d : Entry) → entry_of es v ≡ Some (get_or es (get_or places v 0) d))
found_at vars es values places levels seen v t h =
    let f = fold_found (replicate (vars + 1) None) es v (none_at (vars + 1) v) h in
    let p : (d : Entry) → get_or places v 0 ≡ f.0 = λ d. ap (λ w. get_or places w 0) (sym (f.2 d)) ∙ t.places_are f.0 d f.1 in (
      lower f.0 f.1 p,
      λ d. subst (λ (k : ℕ). entry_of es v ≡ Some (get_or es k d)) (sym (p d))
          (find_only (λ e. eqb e.lit.var v) es f.0 d f.1 (eq-eqb (get_or es f.0 d).lit.var v (f.2 d)) (λ j l. other f.0 f.1 p j l d)),
    )
  where
    lower : (i : ℕ) → i < length es → ((d : Entry) → get_or places v 0 ≡ i) → get_or places v 0 < length es
    lower i h p = omega (arith, h, p (record { lit = record { var = 0; truth = true }; level = 0; reason = None }))

    other : (i : ℕ) → i < length es → ((d : Entry) → get_or places v 0 ≡ i) → (j : ℕ) → j < i → (d : Entry) → eqb (get_or es j d).lit.var v ≡ false
    other i h p j l d = cases (eqb (get_or es j d).lit.var v) refl
      where
        cases : (b : Bool) → b ≡ eqb (get_or es j d).lit.var v → b ≡ false
        cases false q = refl
        cases true q =
            absurd (omega (arith, p d, l, t.places_are j d (omega arith), ap (λ w. get_or places w 0) (eqb-true (get_or es j d).lit.var v (sym q))))

-- an assigned variable's level is that of its entry
pub level_found : (vars : ℕ) (es : List Entry) (values : List (Option Bool)) (places levels : List ℕ) (seen : ℕ) (v : ℕ) → IsTrail vars es values places levels seen →
    is_some (get_or (assignment vars es) v None) ≡ true → get_or levels v 0 ≡ level_or_zero (entry_of es v)
level_found vars es values places levels seen v t h =
    let d : Entry = record { lit = record { var = 0; truth = true }; level = 0; reason = None } in
    let f = fold_found (replicate (vars + 1) None) es v (none_at (vars + 1) v) h in
    let at : get_or places v 0 ≡ f.0 = ap (λ w. get_or places w 0) (sym (f.2 d)) ∙ t.places_are f.0 d f.1 in
    let is : entry_of es v ≡ Some (get_or es (get_or places v 0) d) = (found_at vars es values places levels seen v t h).1 d in
    ap (λ w. get_or levels w 0) (sym (f.2 d))
    ∙ (t.levels_are f.0 d f.1 ∙ (sym (ap (λ (k : ℕ). (get_or es k d).level) at) ∙ sym (ap level_or_zero is)))

-- where a variable is open there are fewer entries than variables
pub open_room : (vars : ℕ) (es : List Entry) (values : List (Option Bool)) (places levels : List ℕ) (seen : ℕ) (v : ℕ) → IsTrail vars es values places levels seen →
    0 < v → v ≤ vars → get_or (assignment vars es) v None ≡ None → length es < vars
open_room vars es values places levels seen v t p w n =
    omega (arith, t.counted, t.sized, one, two, ap ones here, ap ones zeroth, ap ones still)
  where
    here : get_or values v None ≡ None
    here = ap (λ a. get_or a v None) t.values_are ∙ n

    zeroth : get_or values 0 None ≡ None
    zeroth = ap (λ a. get_or a 0 None) t.values_are
        ∙ (fold_without (replicate (vars + 1) None) es 0 (λ i d h q. omega (arith, q, (t.within i d h).0)) ∙ none_at (vars + 1) 0)

    still : get_or (set values v (Some true)) 0 None ≡ None
    still = get_or-set_other values v 0 (Some true) None (omega arith) ∙ zeroth

    one : count_by is_none (set values v (Some true)) + ones (get_or values v None) ≡ count_by is_none values + ones (Some true)
    one = sum_by-set ones values v (Some true) None (omega (arith, t.sized))

    two : count_by is_none (set (set values v (Some true)) 0 (Some true)) + ones (get_or (set values v (Some true)) 0 None) ≡ count_by is_none (set values v (Some true)) + ones (Some true)
    two = sum_by-set ones (set values v (Some true)) 0 (Some true) None (omega (arith, t.sized, length-set values v (Some true)))

upper : (a b : ℕ) → leb a b ≡ true → a ≤ b
upper a b e = grind (arith, nat_tests)

-- where there are as many entries as variables, none is open
pub all_set : (vars : ℕ) (es : List Entry) (values : List (Option Bool)) (places levels : List ℕ) (seen : ℕ) → IsTrail vars es values places levels seen →
    (slice : List Entry) → slice ≡ es → leb vars (length slice) ≡ true → (v : ℕ) → IsVar vars v → is_some (get_or (assignment vars es) v None) ≡ true
all_set vars es values places levels seen t slice is full v w = cases (get_or (assignment vars es) v None) refl
  where
    cases : (o : Option Bool) → o ≡ get_or (assignment vars es) v None → is_some (get_or (assignment vars es) v None) ≡ true
    cases (Some b) q = ap is_some (sym q)
    cases None q =
        let few = open_room vars es values places levels seen v t w.0 w.1 (sym q) in
        let many = upper vars (length slice) full in
        let same = ap length is in
        absurd (omega (arith, few, many, same))

pub some_open : (vars : ℕ) (es slice : List Entry) → slice ≡ es → leb vars (length slice) ≡ false → length es < vars
some_open vars es slice is e = let same = ap length is in let few = lower vars (length slice) e in omega (arith, same, few)
  where
    lower : (a b : ℕ) → leb a b ≡ false → b < a
    lower a b e = grind (arith, nat_tests)

pub level_push : (es : List Entry) (e : Entry) → level (es ++ e ∷ []) ≡ e.level
level_push es e =
    ap level_or_zero (slice_get-get_or (es ++ e ∷ []) (length (es ++ e ∷ []) - 1) e (omega (arith, length-append es (e ∷ []))))
    ∙ ap (λ f. f.level) (get_or_push es e e (length (es ++ e ∷ []) - 1) (omega (arith, length-append es (e ∷ []))))

-- an entry above the level isn't left
pub cut_pop : (l : ℕ) (es fs : List Entry) (e : Entry) → es ≡ fs ++ e ∷ [] → l < level es → cut l fs ≡ cut l es
cut_pop l es fs e q h =
    let above : l < e.level = omega (arith, ap level q, level_push fs e) in
    let no : leb e.level l ≡ false = grind (arith, nat_tests) in
    let with_it : Bool → List Entry = λ b. cut l fs ++ cond b (e ∷ []) [] in
    sym (ap (cut l) q ∙ (filter-append (λ f. leb f.level l) fs (e ∷ []) ∙ (ap with_it no ∙ append-nil (cut l fs))))

pub cut_all : (l top : ℕ) (es : List Entry) → All (λ e. e.level ≤ top) es → top ≤ l → es ≡ cut l es
cut_all l top es a h = sym (filter_all (λ e. leb e.level l) es (λ i d k. small (get_or es i d).level (a i d k)))
  where
    small : (n : ℕ) → n ≤ top → leb n l ≡ true
    small n k = grind (arith, nat_tests)

pub ordered : (vars : ℕ) (es : List Entry) (values : List (Option Bool)) (places levels : List ℕ) (seen : ℕ) → IsTrail vars es values places levels seen → IsOrdered vars es
ordered vars es values places levels seen t = record {
  within = t.within;
  apart = λ i j d l h q. absurd (omega (arith, l, t.places_are i d (omega arith), t.places_are j d h, ap (λ w. get_or places w 0) q));
  rising = t.rising;
  decided = t.decided;
}
