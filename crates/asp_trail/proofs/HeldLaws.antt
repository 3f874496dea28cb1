-- What held before an entry came.
use Rattle.std.proofs.Common.{◌≡◌, ℕ, ◌+◌, ◌<◌, ◌≤◌, Bool, true, false, ltb, List, [], ◌∷◌, length, fold, get_or, take, replicate, Option, Some, None, refl, sym, ap, ◌∙◌, subst, arith}
use Rattle.std.specs.Option.{is_some}
use Rattle.std.proofs.lemmas.Bool.{false≢true}
use Rattle.std.proofs.lemmas.Bool.Decides.{nat_tests}
use Rattle.std.proofs.lemmas.List.{length-take, length-set, length-replicate, get_or-take}
use Rattle.std.proofs.lemmas.List.Elements.{All-take}
use Rattle.asp_vars.specs.Literals.{Literal, holds_in}
use Rattle.asp_trail.specs.declared.trail.Entry.{Entry}
use Rattle.asp_trail.specs.Entries.{assign, assignment}
use Rattle.asp_trail.specs.Trails.{IsVar, IsTrail, IsOrdered}
use Rattle.asp_trail.specs.Reasons.{IsReason}
use Rattle.asp_trail.proofs.HoldLaws.{holds_at, holds_found}
use Rattle.asp_trail.proofs.EntryLaws.{fold_found, none_at}
use Rattle.asp_trail.proofs.TrailLaws.{ordered, found_at}

-- the first entries are a trail's
pub ordered_take : (vars : ℕ) (es : List Entry) (n : ℕ) → IsOrdered vars es → IsOrdered vars (take n es)
ordered_take vars es n o = record {
  within = All-take (λ e. IsVar vars e.lit.var) n es o.within;
  apart = λ i j d l h q.
      let b = bounds j h in
      o.apart i j d l b.1 (sym (ap (λ (e : Entry). e.lit.var) (get_or-take n es i d (omega (arith, l, b.0)))) ∙ (q ∙ ap (λ (e : Entry). e.lit.var) (get_or-take n es j d b.0)));
  rising = λ i j d l h.
      let b = bounds j h in
      omega (arith, ap (λ (e : Entry). e.level) (get_or-take n es i d (omega (arith, l, b.0))), ap (λ (e : Entry). e.level) (get_or-take n es j d b.0), o.rising i j d l b.1);
  decided = λ i j d l h none same.
      let b = bounds j h in
      let at = get_or-take n es j d b.0 in
      let was = get_or-take n es i d (omega (arith, l, b.0)) in
      ap (λ (e : Entry). e.level) at
      ∙ o.decided i j d l b.1 (sym (ap (λ (e : Entry). e.reason) at) ∙ none) (sym (ap (λ (e : Entry). e.level) was) ∙ (same ∙ ap (λ (e : Entry). e.level) at));
}
  where
    bounds : (j : ℕ) → j < length (take n es) → (j < n) × (j < length es)
    bounds j h = (omega (arith, h, length-take n es), omega (arith, h, length-take n es))

-- a reason by the first entries is one where these are followed by others
pub reason_later : (es : List Entry) (i : ℕ) (l : Literal) (n : List Literal) → i ≤ length es → IsReason (take i es) (length (take i es)) l n → IsReason es i l n
reason_later es i l n le r = record {
  has = r.has;
  others = λ k h ne.
      let o = r.others k h ne in
      let b : (o.0 < i) × (o.0 < length es) = (omega (arith, o.2, length-take i es), omega (arith, o.2, length-take i es)) in (
        o.0,
        o.1,
        b.0,
        record {
          within = b.1;
          lit = λ d. ap (λ (e : Entry). e.lit) (sym (get_or-take i es o.0 d b.0)) ∙ o.3.lit d;
          level = λ d. ap (λ (e : Entry). e.level) (sym (get_or-take i es o.0 d b.0)) ∙ o.3.level d;
        },
      );
}

-- ---- the values are those of all variables
length_fold : (z : List (Option Bool)) (es : List Entry) → length (fold assign z es) ≡ length z
length_fold z [] = refl
length_fold z (e ∷ es) = length_fold (assign z e) es ∙ length-set z e.lit.var (Some e.lit.truth)

pub length_assigned : (vars : ℕ) (es : List Entry) → length (assignment vars es) ≡ vars + 1
length_assigned vars es = length_fold (replicate (vars + 1) None) es ∙ length-replicate {A = Option Bool} (vars + 1) None

-- it held before exactly where its entry stands before
pub held_is : (vars : ℕ) (es : List Entry) (values : List (Option Bool)) (places levels : List ℕ) (seen n p : ℕ) (l : Literal) → IsTrail vars es values places levels seen →
    holds_in (assignment vars es) l ≡ true → p < length es → ((d : Entry) → (get_or es p d).lit.var ≡ l.var) → ltb p n ≡ holds_in (assignment vars (take n es)) l
held_is vars es values places levels seen n p l t h within var = cases (holds_in (assignment vars (take n es)) l) refl (ltb p n) refl
  where
    o : IsOrdered vars es
    o = ordered vars es values places levels seen t

    at : (i : ℕ) → i < length es → ((d : Entry) → (get_or es i d).lit ≡ l) → (d : Entry) → p ≡ i
    at i w f d = sym (ap (λ (v : ℕ). get_or places v 0) (sym (var d)) ∙ t.places_are p d within) ∙ (ap (λ (k : Literal). get_or places k.var 0) (sym (f d)) ∙ t.places_are i d w)

    d : Entry
    d = record { lit = l; level = 0; reason = None }

    cases : (b : Bool) → b ≡ holds_in (assignment vars (take n es)) l → (c : Bool) → c ≡ ltb p n → c ≡ b
    cases true q true r = refl
    cases false q false r = refl
    cases true q false r =
        let f = holds_found vars (take n es) l (ordered_take vars es n o) (sym q) in
        let w : (f.0 < n) × (f.0 < length es) = (omega (arith, f.1, length-take n es), omega (arith, f.1, length-take n es)) in
        let s = at f.0 w.1 (λ e. ap (λ (x : Entry). x.lit) (sym (get_or-take n es f.0 e w.0)) ∙ f.2 e) d in
        let ge : n ≤ p = grind (arith, nat_tests) in
        absurd (omega (arith, ge, s, w.0))
    cases false q true r =
        let f = holds_found vars es l o h in
        let s = at f.0 f.1 f.2 d in
        let lt : p < n = grind (arith, nat_tests) in
        let w : f.0 < length (take n es) = omega (arith, lt, s, f.1, length-take n es) in
        absurd (false≢true (q ∙ holds_at vars (take n es) f.0 d l (ordered_take vars es n o) w (ap (λ (x : Entry). x.lit) (get_or-take n es f.0 d (omega (arith, lt, s))) ∙ f.2 d)))

-- what doesn't hold didn't before
pub held_not : (vars : ℕ) (es : List Entry) (values : List (Option Bool)) (places levels : List ℕ) (seen n : ℕ) (l : Literal) → IsTrail vars es values places levels seen →
    holds_in (assignment vars es) l ≡ false → false ≡ holds_in (assignment vars (take n es)) l
held_not vars es values places levels seen n l t h = cases (holds_in (assignment vars (take n es)) l) refl
  where
    o : IsOrdered vars es
    o = ordered vars es values places levels seen t

    cases : (b : Bool) → b ≡ holds_in (assignment vars (take n es)) l → false ≡ b
    cases false q = refl
    cases true q =
        let f = holds_found vars (take n es) l (ordered_take vars es n o) (sym q) in
        let w : (f.0 < n) × (f.0 < length es) = (omega (arith, f.1, length-take n es), omega (arith, f.1, length-take n es)) in
        let d : Entry = record { lit = l; level = 0; reason = None } in
        absurd (false≢true (sym h ∙ holds_at vars es f.0 d l o w.1 (ap (λ (x : Entry). x.lit) (sym (get_or-take n es f.0 d w.0)) ∙ f.2 d)))

-- where the entry of a variable stands that has a value
pub place_found : (vars : ℕ) (es : List Entry) (values : List (Option Bool)) (places levels : List ℕ) (seen v : ℕ) → IsTrail vars es values places levels seen →
    is_some (get_or (assignment vars es) v None) ≡ true → (get_or places v 0 < length es) × ((d : Entry) → (get_or es (get_or places v 0) d).lit.var ≡ v)
place_found vars es values places levels seen v t h =
    let f = fold_found (replicate (vars + 1) None) es v (none_at (vars + 1) v) h in
    let p : (d : Entry) → f.0 ≡ get_or places v 0 = λ d. sym (ap (λ w. get_or places w 0) (sym (f.2 d)) ∙ t.places_are f.0 d f.1) in (
      (found_at vars es values places levels seen v t h).0,
      λ d. subst (λ (k : ℕ). (get_or es k d).lit.var ≡ v) (p d) (f.2 d),
    )
