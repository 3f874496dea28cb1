-- The places at a priority, one after another.
use Rattle.std.proofs.Common.{◌≡◌, ◌≢◌, ℕ, ◌+◌, ◌<◌, Bool, true, false, cond, eqb, List, [], ◌∷◌, ◌++◌, length, get_or, set, take, sum_by, refl, sym, ap, ◌∙◌, subst, inl, inr, arith, get_or-set_other, get_or-set_same}
use Rattle.std.specs.List.{All, Contains}
use Rattle.std.proofs.lemmas.Bool.{cases_eq, cases_lt, eq-eqb, ne_eqb}
use Rattle.std.proofs.lemmas.List.{length-set, length_push, get_or_push, get_or_append_left, take_more, length-take-le}
use Rattle.std.proofs.lemmas.List.Sums.{sum_by_push}
use Rattle.std.proofs.lemmas.List.Elements.{All-push, Contains-push, Contains-append_left}
use Rattle.asp_bound.specs.declared.place.Place.{Place}
use Rattle.asp_bound.specs.declared.place.Addition.{Addition}
use Rattle.asp_bound.specs.Rises.{rise_by, raised, row_at}
use Rattle.asp_bound.specs.Levels.{added_by, added_at, place_of, ArePlaced}

-- ---- a row with a place more
raised-push : (row : List Place) (o : Place) (k : ℕ) (b : Bool) → raised (row ++ o ∷ []) k b ≡ raised row k b + cond (eqb o.level k) (rise_by b o) 0
raised-push row o k b = sum_by_push (λ (x : Place). cond (eqb x.level k) (rise_by b x) 0) row o

rise_by-place : (j i : ℕ) (b : Bool) (x : Addition) → rise_by b (place_of j i x) ≡ added_by b x
rise_by-place j i true x = refl
rise_by-place j i false x = refl

-- what holds of a variable's row after a place was added to the row of u
placed_row : (old new : List (List Place)) (u v : ℕ) (o : Place) → u < length old → new ≡ set old u (row_at old u ++ o ∷ []) →
    (Q : List Place → Type 0) → (u ≢ v → Q (row_at old v)) → (u ≡ v → Q (row_at old v ++ o ∷ [])) → Q (row_at new v)
placed_row old new u v o lt made Q out inside =
    let with' : List Place = row_at old u ++ o ∷ [] in
    let P : ℕ → Type 0 = λ (m : ℕ). row_at (set old u with') m ≡ row_at old m ++ o ∷ [] in
    subst Q (sym (ap (λ (rows : List (List Place)). row_at rows v) made)) (elim (cases_eq u v) [
      | inl e ↦ subst Q (sym (subst P e (get_or-set_same old u with' [] lt))) (inside e)
      | inr ne ↦ subst Q (sym (get_or-set_other old u v with' [] (λ (e : v ≡ u). ne (sym e)))) (out ne)
    ])

-- ---- no place, and one more
pub placed-none : (j : ℕ) (rows : List (List Place)) → ArePlaced j [] rows rows
placed-none j rows = record {
  count = refl;
  within = λ n v low all. all;
  kept = λ k v b ne. refl;
  sums = λ v b. omega arith;
  grown = λ v o h. h;
  linked = λ i d lt. absurd (omega arith);
}

sums-push : (j i : ℕ) (xs : List Addition) (rows old new : List (List Place)) (x : Addition) (v : ℕ) (b : Bool) → x.var < length old →
    raised (row_at old v) j b ≡ raised (row_at rows v) j b + sum_by (added_at v b) xs →
    new ≡ set old x.var (row_at old x.var ++ place_of j i x ∷ []) → raised (row_at new v) j b ≡ raised (row_at rows v) j b + sum_by (added_at v b) (xs ++ x ∷ [])
sums-push j i xs rows old new x v b lt before made =
    let o : Place = place_of j i x in
    let more : sum_by (added_at v b) (xs ++ x ∷ []) ≡ sum_by (added_at v b) xs + cond (eqb x.var v) (added_by b x) 0 = sum_by_push (added_at v b) xs x in
    placed_row old new x.var v o lt made (λ (ps : List Place). raised ps j b ≡ raised (row_at rows v) j b + sum_by (added_at v b) (xs ++ x ∷ []))
    (λ ne.
    let off : cond (eqb x.var v) (added_by b x) 0 ≡ 0 = ap (λ (c : Bool). cond c (added_by b x) 0) (ne_eqb x.var v ne) in
    omega (arith, before, more, off))
    (λ e.
    let on : cond (eqb x.var v) (added_by b x) 0 ≡ added_by b x = ap (λ (c : Bool). cond c (added_by b x) 0) (eq-eqb x.var v e) in
    let here : cond (eqb j j) (rise_by b o) 0 ≡ rise_by b o = ap (λ (c : Bool). cond c (rise_by b o) 0) (eq-eqb j j refl) in
    omega (arith, before, more, on, here, rise_by-place j i b x, raised-push (row_at old v) o j b))

linked-push : (j i : ℕ) (xs : List Addition) (old new : List (List Place)) (x : Addition) → length xs ≡ i → x.var < length old →
    ((k : ℕ) (d : Addition) → k < length xs → Contains (row_at old (get_or xs k d).var) (place_of j k (get_or xs k d))) → new ≡ set old x.var (row_at old x.var ++ place_of j i x ∷ []) →
    (k : ℕ) (d : Addition) → k < length (xs ++ x ∷ []) → Contains (row_at new (get_or (xs ++ x ∷ []) k d).var) (place_of j k (get_or (xs ++ x ∷ []) k d))
linked-push j i xs old new x long lt before made k d within =
    let o : Place = place_of j i x in
    let Q : Addition → Type 0 = λ (a : Addition). Contains (row_at new a.var) (place_of j k a) in
    elim (cases_lt k (length xs)) [
      | inl less ↦ (
          let y : Addition = get_or xs k d in
          let had : Contains (row_at old y.var) (place_of j k y) = before k d less in
          subst Q (sym (get_or_append_left xs (x ∷ []) d k less))
          (placed_row old new x.var y.var o lt made (λ (ps : List Place). Contains ps (place_of j k y)) (λ ne. had)
          (λ e. Contains-append_left (row_at old y.var) (o ∷ []) (place_of j k y) had)))
      | inr out ↦ (
          let e : length xs ≡ k = omega (arith, length_push xs x) in
          let last : Contains (row_at new x.var) o = placed_row old new x.var x.var o lt made (λ (ps : List Place). Contains ps o) (λ ne. absurd (ne refl)) (λ e. Contains-push (row_at old x.var) o) in
          let here : Q x = subst (λ (m : ℕ). Contains (row_at new x.var) (place_of j m x)) (sym long ∙ e) last in
          subst Q (sym (get_or_push xs x d k e)) here)
    ]

placed-push : (j i : ℕ) (xs : List Addition) (rows old new : List (List Place)) (x : Addition) → length xs ≡ i → x.var < length old →
    ArePlaced j xs rows old → new ≡ set old x.var (row_at old x.var ++ place_of j i x ∷ []) → ArePlaced j (xs ++ x ∷ []) rows new
placed-push j i xs rows old new x long lt before made =
    let o : Place = place_of j i x in
    record {
      count = ap length made ∙ (length-set old x.var (row_at old x.var ++ o ∷ []) ∙ before.count);
      within = λ n v low all. placed_row old new x.var v o lt made (All (λ (p : Place). p.level < n)) (λ ne. before.within n v low all)
          (λ e. All-push (λ (p : Place). p.level < n) (row_at old v) o (before.within n v low all) low);
      kept = λ k v b ne. placed_row old new x.var v o lt made (λ (ps : List Place). raised ps k b ≡ raised (row_at rows v) k b) (λ out. before.kept k v b ne) (λ e.
          let off : cond (eqb j k) (rise_by b o) 0 ≡ 0 = ap (λ (c : Bool). cond c (rise_by b o) 0) (ne_eqb j k (λ (q : j ≡ k). ne (sym q))) in
          omega (arith, raised-push (row_at old v) o k b, off, before.kept k v b ne));
      sums = λ v b. sums-push j i xs rows old new x v b lt (before.sums v b) made;
      grown = λ v p h. placed_row old new x.var v o lt made (λ (ps : List Place). Contains ps p) (λ ne. before.grown v p h) (λ e. Contains-append_left (row_at old v) (o ∷ []) p (before.grown v p h));
      linked = linked-push j i xs old new x long lt before.linked made;
    }

pub placed-more : (j i : ℕ) (xs : List Addition) (rows old new : List (List Place)) (d : Addition) → i < length xs → (get_or xs i d).var < length old → ArePlaced j (take i xs) rows old →
    new ≡ set old (get_or xs i d).var (row_at old (get_or xs i d).var ++ place_of j i (get_or xs i d) ∷ []) → ArePlaced j (take (i + 1) xs) rows new
placed-more j i xs rows old new d within lt before made =
    subst (λ (ys : List Addition). ArePlaced j ys rows new) (sym (take_more xs i d within))
    (placed-push j i (take i xs) rows old new (get_or xs i d) (length-take-le i xs (omega arith)) lt before made)
