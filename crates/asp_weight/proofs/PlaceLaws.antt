-- How the places of variables are gathered, and what a variable's places say.
use Rattle.std.proofs.Common.{◌≡◌, ◌≢◌, ℕ, suc, zero, ◌+◌, ◌<◌, ◌≤◌, Bool, true, false, cond, ◌&&◌, ◌||◌, eqb, List, [], ◌∷◌, ◌++◌, length, take, replicate, get_or, set, map, refl, sym, ap, ◌∙◌, subst, arith, get_or-set_other, get_or-set_same}
use Rattle.std.specs.List.{All}
use Rattle.std.specs.Bool.{beq}
use Rattle.std.proofs.lemmas.Bool.{eq-eqb, eqb-true}
use Rattle.std.proofs.lemmas.Bool.Decides.{nat_tests}
use Rattle.std.proofs.lemmas.List.{length-set, length-map, length_push, get_or_push, get_or_append_left, length-take-le, take_all, take_more, map-append, map-set}
use Rattle.std.proofs.Math.ListN.{get_or-map}
use Rattle.std.proofs.lemmas.List.Elements.{All-head, All-tail, All-push}
use Rattle.std.proofs.lemmas.List.Folds.{list_any-append}
use Rattle.std.proofs.lemmas.List.Sums.{fold-append, sum_by-cons, sum_by_push}
use Rattle.asp_vars.specs.Literals.{Literal}
use Rattle.asp_weight.specs.declared.item.Item.{Item}
use Rattle.asp_weight.specs.declared.item.Shape.{Shape}
use Rattle.asp_weight.specs.declared.item.Place.{Place}
use Rattle.asp_weight.specs.Rows.{row_at, shape_at}
use Rattle.asp_weight.specs.Tallied.{sum_in, weight_in}
use Rattle.asp_weight.specs.Placed.{bare_place, bare, places_at, weight_at, sum_at, touches, put, place_of, put_row, own_of, ArePlaces, HaveRoom}

pub length-put_row : (w : ℕ) (places : List (List Place)) (row : List Item) → length (put_row w places row) ≡ length places
length-put_row w places [] = refl
length-put_row w places (i ∷ row) =
    length-put_row w (put i.lit.var places (place_of w i)) row ∙ length-set places i.lit.var (places_at places i.lit.var ++ place_of w i ∷ [])

-- ---- one more place
none_there : Place
none_there = record { weight = 0; body = 0; bit = 0; truth = false }

places_at-put : (v : ℕ) (ps : List (List Place)) (o : Place) (u : ℕ) (b : Bool) → b ≡ eqb v u → v < length ps →
    places_at (put v ps o) u ≡ cond b (places_at ps u ++ o ∷ []) (places_at ps u)
places_at-put v ps o u true e h =
    let s : v ≡ u = eqb-true v u (sym e) in
    subst (λ (x : ℕ). places_at (put v ps o) x ≡ places_at ps x ++ o ∷ []) s (get_or-set_same ps v (places_at ps v ++ o ∷ []) [] h)
places_at-put v ps o u false e h =
    let ne : u ≢ v = grind (arith, nat_tests) in
    get_or-set_other ps v u (places_at ps v ++ o ∷ []) [] ne

sum_in-put : (v : ℕ) (ps : List (List Place)) (o : Place) (u w : ℕ) (truth : Bool) → v < length ps →
    sum_in w truth (places_at (put v ps o) u) ≡ sum_in w truth (places_at ps u) + cond (eqb v u) (weight_in w truth o) 0
sum_in-put v ps o u w truth h = ap (sum_in w truth) (places_at-put v ps o u (eqb v u) refl h) ∙ cases (eqb v u)
  where
    cases : (b : Bool) → sum_in w truth (cond b (places_at ps u ++ o ∷ []) (places_at ps u)) ≡ sum_in w truth (places_at ps u) + cond b (weight_in w truth o) 0
    cases true = sum_by_push (weight_in w truth) (places_at ps u) o
    cases false = omega arith

or_false : (a : Bool) → (a || false) ≡ a
or_false true = refl
or_false false = refl

touches-put : (v : ℕ) (ps : List (List Place)) (o : Place) (u w : ℕ) → v < length ps →
    touches w (places_at (put v ps o) u) ≡ (touches w (places_at ps u) || (eqb v u && eqb o.body w))
touches-put v ps o u w h = ap (touches w) (places_at-put v ps o u (eqb v u) refl h) ∙ cases (eqb v u)
  where
    cases : (b : Bool) → touches w (cond b (places_at ps u ++ o ∷ []) (places_at ps u)) ≡ (touches w (places_at ps u) || (b && eqb o.body w))
    cases true =
        list_any-append (λ x. eqb x.body w) (places_at ps u) (o ∷ []) ∙ ap (λ b. touches w (places_at ps u) || b) (or_false (eqb o.body w))
    cases false = sym (or_false (touches w (places_at ps u)))

within-put : (n v : ℕ) (ps : List (List Place)) (o : Place) (u : ℕ) → v < length ps → o.body < n → All (λ x. x.body < n) (places_at ps u) → All (λ x. x.body < n) (places_at (put v ps o) u)
within-put n v ps o u h l a = subst (λ (xs : List Place). All (λ x. x.body < n) xs) (sym (places_at-put v ps o u (eqb v u) refl h)) (cases (eqb v u))
  where
    cases : (b : Bool) → All (λ x. x.body < n) (cond b (places_at ps u ++ o ∷ []) (places_at ps u))
    cases true = All-push (λ x. x.body < n) (places_at ps u) o a l
    cases false = a

-- ---- a row of them
fits_put : (v : ℕ) (ps : List (List Place)) (o : Place) (row : List Item) → All (λ i. i.lit.var < length ps) row → All (λ i. i.lit.var < length (put v ps o)) row
fits_put v ps o row a k d h = omega (arith, a k d h, length-set ps v (places_at ps v ++ o ∷ []))

one_item : (x y z : Bool) (n s m : ℕ) → m + cond x (cond y (cond z n 0) 0) 0 + cond y s 0 ≡ m + cond y (cond (x && z) n 0 + s) 0
one_item true true true n s m = omega arith
one_item true true false n s m = omega arith
one_item true false z n s m = omega arith
one_item false true z n s m = omega arith
one_item false false z n s m = omega arith

sum_in-put_row : (b : ℕ) (ps : List (List Place)) (row : List Item) (u w : ℕ) (truth : Bool) → All (λ i. i.lit.var < length ps) row →
    sum_in w truth (places_at (put_row b ps row) u) ≡ sum_in w truth (places_at ps u) + cond (eqb b w) (sum_at (record { var = u; truth = truth }) row) 0
sum_in-put_row b ps [] u w truth a = nothing (eqb b w)
  where
    nothing : (c : Bool) → sum_in w truth (places_at ps u) ≡ sum_in w truth (places_at ps u) + cond c 0 0
    nothing true = omega arith
    nothing false = omega arith
sum_in-put_row b ps (i ∷ row) u w truth a =
    sum_in-put_row b (put i.lit.var ps (place_of b i)) row u w truth (fits_put i.lit.var ps (place_of b i) row (All-tail (λ (x : Item). x.lit.var < length ps) i row a))
    ∙ (ap (λ m. m + cond (eqb b w) (sum_at (record { var = u; truth = truth }) row) 0) (sum_in-put i.lit.var ps (place_of b i) u w truth (All-head (λ (x : Item). x.lit.var < length ps) i row a))
    ∙ (one_item (eqb i.lit.var u) (eqb b w) (beq i.lit.truth truth) i.weight (sum_at (record { var = u; truth = truth }) row) (sum_in w truth (places_at ps u))
    ∙ ap (λ m. sum_in w truth (places_at ps u) + cond (eqb b w) m 0) (sym (sum_by-cons (weight_at (record { var = u; truth = truth })) i row))))

touches-put_row : (b : ℕ) (ps : List (List Place)) (row : List Item) (u w : ℕ) → All (λ i. i.lit.var < length ps) row →
    touches w (places_at ps u) ≡ true → touches w (places_at (put_row b ps row) u) ≡ true
touches-put_row b ps [] u w a t = t
touches-put_row b ps (i ∷ row) u w a t =
    touches-put_row b (put i.lit.var ps (place_of b i)) row u w (fits_put i.lit.var ps (place_of b i) row (All-tail (λ (x : Item). x.lit.var < length ps) i row a))
    (touches-put i.lit.var ps (place_of b i) u w (All-head (λ (x : Item). x.lit.var < length ps) i row a) ∙ ap (λ c. c || (eqb i.lit.var u && eqb b w)) t)

within-put_row : (n b : ℕ) (ps : List (List Place)) (row : List Item) → All (λ i. i.lit.var < length ps) row → b < n →
    ((u : ℕ) → All (λ o. o.body < n) (places_at ps u)) → (u : ℕ) → All (λ o. o.body < n) (places_at (put_row b ps row) u)
within-put_row n b ps [] a l h = h
within-put_row n b ps (i ∷ row) a l h =
    within-put_row n b (put i.lit.var ps (place_of b i)) row (fits_put i.lit.var ps (place_of b i) row (All-tail (λ (x : Item). x.lit.var < length ps) i row a)) l
    (λ u. within-put n i.lit.var ps (place_of b i) u (All-head (λ (x : Item). x.lit.var < length ps) i row a) l (h u))

-- ---- a body of them
sum_at-push : (l : Literal) (rows : List (List Item)) (row : List Item) (w : ℕ) → sum_at l (row_at (rows ++ row ∷ []) w) ≡ sum_at l (row_at rows w) + cond (eqb (length rows) w) (sum_at l row) 0
sum_at-push l [] row zero = omega arith
sum_at-push l [] row (suc w) = past w
  where
    past : (w : ℕ) → 0 ≡ 0 + cond (eqb 0 (suc w)) (sum_at l row) 0
    past w = grind (arith, nat_tests)
sum_at-push l (r ∷ rows) row zero = first (length rows)
  where
    first : (n : ℕ) → sum_at l r ≡ sum_at l r + cond (eqb (suc n) 0) (sum_at l row) 0
    first n = grind (arith, nat_tests)
sum_at-push l (r ∷ rows) row (suc w) =
    sum_at-push l rows row w ∙ ap (λ b. sum_at l (row_at rows w) + cond b (sum_at l row) 0) (both (length rows) w)
  where
    both : (m n : ℕ) → eqb m n ≡ eqb (suc m) (suc n)
    both m n = grind (arith, nat_tests)

or_right : (a b : Bool) → b ≡ true → (a || b) ≡ true
or_right true b h = refl
or_right false b h = h

pub placed_more : (shapes : List Shape) (rows : List (List Item)) (ps : List (List Place)) (s : Shape) (row : List Item) (n : ℕ) →
    ArePlaces shapes rows ps → n ≡ length rows → length shapes ≡ length rows →
    All (λ i. i.lit.var < length ps) row → s.var < length ps → ArePlaces (shapes ++ s ∷ []) (rows ++ row ∷ []) (put s.var (put_row n ps row) (own_of n))
placed_more shapes rows ps s row n a e f h v = record {
  sums = λ w u truth.
      sum_in-put s.var (put_row n ps row) (own_of n) u w truth still
      ∙ (weightless (eqb s.var u) (eqb n w) (beq true truth) (sum_in w truth (places_at (put_row n ps row) u))
      ∙ (sum_in-put_row n ps row u w truth h
      ∙ (ap (λ m. m + cond (eqb n w) (sum_at (record { var = u; truth = truth }) row) 0) (a.sums w u truth)
      ∙ (ap (λ m. sum_at (record { var = u; truth = truth }) (row_at rows w) + cond (eqb m w) (sum_at (record { var = u; truth = truth }) row) 0) e
      ∙ sym (sum_at-push (record { var = u; truth = truth }) rows row w)))));
  own = λ w l. owned w l (eqb w n) refl;
  within = λ u.
      within-put (length (rows ++ row ∷ [])) s.var (put_row n ps row) (own_of n) u still n_below
      (within-put_row (length (rows ++ row ∷ [])) n ps row h n_below (λ x k d l. omega (arith, a.within x k d l, length_push rows row)) u);
}
  where
    none : Shape
    none = record { var = 0; reach = 0; miss = 0 }

    still : s.var < length (put_row n ps row)
    still = omega (arith, v, length-put_row n ps row)

    n_below : n < length (rows ++ row ∷ [])
    n_below = omega (arith, e, length_push rows row)

    weightless : (x y z : Bool) (m : ℕ) → m + cond x (cond y (cond z 0 0) 0) 0 ≡ m
    weightless true true true m = omega arith
    weightless true true false m = omega arith
    weightless true false z m = omega arith
    weightless false y z m = omega arith

    owned : (w : ℕ) → w < length (rows ++ row ∷ []) → (b : Bool) → b ≡ eqb w n →
        touches w (places_at (put s.var (put_row n ps row) (own_of n)) (shape_at (shapes ++ s ∷ []) w).var) ≡ true
    owned w l true q =
        let last : w ≡ n = eqb-true w n (sym q) in
        ap (λ (x : Shape). touches w (places_at (put s.var (put_row n ps row) (own_of n)) x.var)) (get_or_push shapes s none w (f ∙ sym (last ∙ e)))
        ∙ (touches-put s.var (put_row n ps row) (own_of n) s.var w still
        ∙ or_right (touches w (places_at (put_row n ps row) s.var)) (eqb s.var s.var && eqb n w)
        (ap (λ b. b && eqb n w) (eq-eqb s.var s.var refl) ∙ eq-eqb n w (sym last)))
    owned w l false q =
        let other : w ≢ n = grind (arith, nat_tests) in
        let lt : w < length rows = omega (arith, l, length_push rows row, other, e) in
        ap (λ (x : Shape). touches w (places_at (put s.var (put_row n ps row) (own_of n)) x.var)) (get_or_append_left shapes (s ∷ []) none w (omega (arith, lt, f)))
        ∙ (touches-put s.var (put_row n ps row) (own_of n) (shape_at shapes w).var w still
        ∙ ap (λ b. b || (eqb s.var (shape_at shapes w).var && eqb n w)) (touches-put_row n ps row (shape_at shapes w).var w h (a.own w lt)))

-- ---- without the bits
pub length-bare : (ps : List (List Place)) → length (bare ps) ≡ length ps
length-bare ps = length-map ps (map bare_place)

places_at-bare : (ps : List (List Place)) (v : ℕ) → places_at (bare ps) v ≡ map bare_place (places_at ps v)
places_at-bare ps v = get_or-map (map bare_place) ps v []

pub bare-put : (ps : List (List Place)) (v : ℕ) (o : Place) → bare (put v ps o) ≡ put v (bare ps) (bare_place o)
bare-put ps v o =
    map-set (map bare_place) ps v (places_at ps v ++ o ∷ [])
    ∙ ap (λ xs. set (bare ps) v xs) (map-append bare_place (places_at ps v) (o ∷ []) ∙ ap (λ xs. xs ++ bare_place o ∷ []) (sym (places_at-bare ps v)))

sum_in-bare : (w : ℕ) (truth : Bool) (os : List Place) → sum_in w truth (map bare_place os) ≡ sum_in w truth os
sum_in-bare w truth [] = refl
sum_in-bare w truth (o ∷ os) =
    sum_by-cons (weight_in w truth) (bare_place o) (map bare_place os)
    ∙ (ap (λ n. weight_in w truth o + n) (sum_in-bare w truth os) ∙ sym (sum_by-cons (weight_in w truth) o os))

touches-bare : (w : ℕ) (os : List Place) → touches w (map bare_place os) ≡ touches w os
touches-bare w [] = refl
touches-bare w (o ∷ os) = ap (λ b. eqb o.body w || b) (touches-bare w os)

within-bare : (n : ℕ) (os : List Place) → All (λ o. o.body < n) (map bare_place os) → All (λ o. o.body < n) os
within-bare n os a k d h =
    omega (arith, a k (bare_place d) (omega (arith, h, length-map os bare_place)), ap (λ (o : Place). o.body) (get_or-map bare_place os k d))

-- The bits say nothing of sums and bodies.
pub placed_bare : (shapes : List Shape) (rows : List (List Item)) (ps : List (List Place)) → ArePlaces shapes rows (bare ps) → ArePlaces shapes rows ps
placed_bare shapes rows ps a = record {
  sums = λ w v truth. sym (sum_in-bare w truth (places_at ps v)) ∙ (ap (sum_in w truth) (sym (places_at-bare ps v)) ∙ a.sums w v truth);
  own = λ w l.
      sym (touches-bare w (places_at ps (shape_at shapes w).var))
      ∙ (ap (touches w) (sym (places_at-bare ps (shape_at shapes w).var)) ∙ a.own w l);
  within = λ v. within-bare (length rows) (places_at ps v) (subst (λ (os : List Place). All (λ o. o.body < length rows) os) (places_at-bare ps v) (a.within v));
}

-- one more item of a row
pub put_row_more : (w : ℕ) (ps qs rs : List (List Place)) (row : List Item) (k v n b : ℕ) (t : Bool) (i d : Item) → k < length row → i ≡ get_or row k d →
    bare qs ≡ put_row w (bare ps) (take k row) → v ≡ i.lit.var → n ≡ i.weight → t ≡ i.lit.truth →
    rs ≡ put v qs (record { weight = n; body = w; bit = b; truth = t }) → bare rs ≡ put_row w (bare ps) (take (k + 1) row)
put_row_more w ps qs rs row k v n b t i d h is e at weighs says f =
    ap bare f
    ∙ (bare-put qs v (record { weight = n; body = w; bit = b; truth = t })
    ∙ (ap (λ u. put u (bare qs) (record { weight = n; body = w; bit = 0; truth = t })) at
    ∙ (ap (λ m. put i.lit.var (bare qs) (record { weight = m; body = w; bit = 0; truth = t })) weighs
    ∙ (ap (λ c. put i.lit.var (bare qs) (record { weight = i.weight; body = w; bit = 0; truth = c })) says
    ∙ (ap (λ xs. put i.lit.var xs (place_of w i)) e
    ∙ (sym (fold-append (λ xs (x : Item). put x.lit.var xs (place_of w x)) (bare ps) (take k row) (i ∷ []))
    ∙ ap (put_row w (bare ps)) (ap (λ (x : Item). take k row ++ x ∷ []) is ∙ sym (take_more row k d h))))))))

-- the place of a body's own variable
pub own_more : (w v : ℕ) (ps qs rs : List (List Place)) (b : ℕ) → qs ≡ put v ps (record { weight = 0; body = w; bit = b; truth = true }) → bare ps ≡ rs → bare qs ≡ put v rs (own_of w)
own_more w v ps qs rs b e f = ap bare e ∙ (bare-put ps v (record { weight = 0; body = w; bit = b; truth = true }) ∙ ap (λ xs. put v xs (own_of w)) f)

pub bare-none : (n : ℕ) → (let nothing : List Place = [] in bare (replicate n nothing)) ≡ replicate n []
bare-none zero = refl
bare-none (suc n) = ap (λ xs. [] ∷ xs) (bare-none n)

nowhere : (n v : ℕ) → (let nothing : List Place = [] in get_or (replicate n nothing) v nothing) ≡ []
nowhere zero v = refl
nowhere (suc n) zero = refl
nowhere (suc n) (suc v) = nowhere n v

-- ---- the loop over the bodies
pub placed_none : (shapes : List Shape) (rows : List (List Item)) (ps : List (List Place)) (n : ℕ) → ps ≡ replicate n [] → length rows ≡ 0 → ArePlaces shapes rows ps
placed_none shapes [] ps n e z = record {
  sums = λ w v truth. ap (sum_in w truth) (ap (λ x. places_at x v) e ∙ nowhere n v);
  own = λ w l. absurd (omega (arith, l));
  within = λ v. subst (λ (xs : List Place). All (λ o. o.body < 0) xs) (sym (ap (λ x. places_at x v) e ∙ nowhere n v)) (λ k d l. absurd (omega (arith, l)));
}
placed_none shapes (r ∷ rows) ps n e z = absurd (omega (arith, z))

pub placed_next : (shapes : List Shape) (rows : List (List Item)) (ps qs : List (List Place)) (vars n : ℕ) (s : Shape) (row : List Item) → HaveRoom vars shapes rows → n < length rows →
    length ps ≡ vars + 1 → ArePlaces (take n shapes) (take n rows) ps → s ≡ shape_at shapes n → row ≡ row_at rows n → qs ≡ put s.var (put_row n ps row) (own_of n) →
    (length qs ≡ vars + 1) × ArePlaces (take (n + 1) shapes) (take (n + 1) rows) qs
placed_next shapes rows ps qs vars n s row room l size a e f q = (
  ap length q ∙ (length-set (put_row n ps row) s.var _ ∙ (length-put_row n ps row ∙ size)),
  subst (λ (xs : List (List Place)). ArePlaces (take (n + 1) shapes) (take (n + 1) rows) xs) (sym q)
      (subst (λ (ss : List Shape). ArePlaces ss (take (n + 1) rows) (put s.var (put_row n ps row) (own_of n))) (sym next_shapes)
      (subst (λ (rs : List (List Item)). ArePlaces (take n shapes ++ s ∷ []) rs (put s.var (put_row n ps row) (own_of n))) (sym next_rows)
      (placed_more (take n shapes) (take n rows) ps s row n a (sym (length-take-le n rows (omega (arith, l))))
      (length-take-le n shapes (omega (arith, l, room.shaped)) ∙ sym (length-take-le n rows (omega (arith, l))))
      (subst (λ (xs : List Item). All (λ i. i.lit.var < length ps) xs) (sym f) (λ k d h. omega (arith, room.within n l k d h, size)))
      (omega (arith, room.own n l, size, ap (λ (x : Shape). x.var) e))))),
)
  where
    next_shapes : take (n + 1) shapes ≡ take n shapes ++ s ∷ []
    next_shapes = take_more shapes n (record { var = 0; reach = 0; miss = 0 }) (omega (arith, l, room.shaped)) ∙ ap (λ x. take n shapes ++ x ∷ []) (sym e)

    next_rows : take (n + 1) rows ≡ take n rows ++ row ∷ []
    next_rows = take_more rows n [] l ∙ ap (λ x. take n rows ++ x ∷ []) (sym f)

pub placed_whole : (shapes : List Shape) (rows : List (List Item)) (ps qs : List (List Place)) (n : ℕ) → length shapes ≡ length rows → length shapes ≤ n →
    ArePlaces (take n shapes) (take n rows) (bare ps) → qs ≡ ps → ArePlaces shapes rows qs
placed_whole shapes rows ps qs n e h a f =
    subst (λ (xs : List (List Place)). ArePlaces shapes rows xs) (sym f)
    (placed_bare shapes rows ps
    (subst (λ (rs : List (List Item)). ArePlaces shapes rs (bare ps)) (take_all n rows (omega (arith, e, h)))
    (subst (λ (ss : List Shape). ArePlaces ss (take n rows) (bare ps)) (take_all n shapes h) a)))
