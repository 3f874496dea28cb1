-- Steps of the loops over sums and places.
use Rattle.std.proofs.Common.{◌≡◌, ℕ, zero, suc, ◌+◌, ◌<◌, ◌≤◌, Bool, cond, eqb, List, [], ◌∷◌, length, get_or, set, take, drop, Option, Some, None, ℤ, pos, ◌+ℤ◌, ◌-ℤ◌, ◌≤ℤ◌, ◌<ℤ◌, refl, sym, ap, ◌∙◌, subst, inl, inr, arith, add-one, drop-cons, get_or-set_other, get_or-set_same, length-set}
use Rattle.std.specs.Option.{option_map}
use Rattle.std.specs.Ordering.{int_cmp}
use Rattle.std.specs.declared.cmp.Ordering.{Ordering}
use Rattle.std.specs.declared.cmp.Ordering.TheVariants.{Less, Equal, Greater}
use Rattle.std.proofs.lemmas.Int.{ints}
use Rattle.std.proofs.lemmas.Bool.{cases_eq, eq-eqb, ne_eqb}
use Rattle.std.proofs.lemmas.List.{take_more}
use Rattle.std.proofs.lemmas.List.Sums.{sum_by_push, sum_by-take-le}
use Rattle.asp_bound.specs.declared.place.Place.{Place}
use Rattle.asp_bound.specs.Rises.{rise_by, raised}
use Rattle.asp_bound.specs.Reach.{reach_by, reach, depth, lifted}

-- ---- a place more

pub raised-more : (row : List Place) (i j : ℕ) (b : Bool) (d : Place) → i < length row →
    raised (take (i + 1) row) j b ≡ raised (take i row) j b + cond (eqb (get_or row i d).level j) (rise_by b (get_or row i d)) 0
raised-more row i j b d lt =
    ap (λ (xs : List Place). raised xs j b) (take_more row i d lt) ∙ sum_by_push (λ (o : Place). cond (eqb o.level j) (rise_by b o) 0) (take i row) (get_or row i d)

pub raised-take : (row : List Place) (i j : ℕ) (b : Bool) → raised (take i row) j b ≤ raised row j b
raised-take row i j b = sum_by-take-le (λ (o : Place). cond (eqb o.level j) (rise_by b o) 0) row i

-- at the place's own priority, and at another
pub raised-here : (row : List Place) (i : ℕ) (b : Bool) (d : Place) → i < length row →
    raised (take (i + 1) row) (get_or row i d).level b ≡ raised (take i row) (get_or row i d).level b + rise_by b (get_or row i d)
raised-here row i b d lt =
    raised-more row i (get_or row i d).level b d lt ∙ ap
    (λ (t : Bool). raised (take i row) (get_or row i d).level b + cond t (rise_by b (get_or row i d)) 0)
    (eq-eqb (get_or row i d).level (get_or row i d).level refl)

-- what the place adds, within what the row does
pub raised-within : (row : List Place) (i : ℕ) (b : Bool) (d : Place) → i < length row → raised (take i row) (get_or row i d).level b + rise_by b (get_or row i d) ≤ raised row (get_or row i d).level b
raised-within row i b d lt = omega (arith, raised-here row i b d lt, raised-take row (i + 1) (get_or row i d).level b)

-- ---- sums with a place more, and with one less
abbrev pub IsRaised : List ℤ → List ℤ → List Place → ℕ → Bool → Type 0
IsRaised old new row i b = (j : ℕ) → j < length new → get_or new j (pos 0) ≡ get_or old j (pos 0) +ℤ pos (raised (take i row) j b)

pub raise-more : (old new last : List ℤ) (row : List Place) (i : ℕ) (b : Bool) (d : Place) (rise : ℕ) → i < length row →
    (get_or row i d).level < length new → IsRaised old new row i b → rise ≡ rise_by b (get_or row i d) →
    last ≡ set new (get_or row i d).level (get_or new (get_or row i d).level (pos 0) +ℤ pos rise) → IsRaised old last row (i + 1) b
raise-more old new last row i b d rise lt low before is made = λ j within.
    let k = (get_or row i d).level in
    let w = get_or new k (pos 0) +ℤ pos rise in
    let inside : j < length new = omega (arith, length-set new k w, ap length made, within) in
    let at : get_or last j (pos 0) ≡ get_or (set new k w) j (pos 0) = ap (λ (xs : List ℤ). get_or xs j (pos 0)) made in
    let more = raised-more row i j b d lt in
    elim (cases_eq k j) [
      | inl e ↦ (
          let same : get_or (set new k w) k (pos 0) ≡ w = get_or-set_same new k w (pos 0) low in
          let here : get_or (set new k w) j (pos 0) ≡ get_or new j (pos 0) +ℤ pos rise = subst (λ (m : ℕ). get_or (set new k w) m (pos 0) ≡ get_or new m (pos 0) +ℤ pos rise) e same in
          let adds : cond (eqb k j) (rise_by b (get_or row i d)) 0 ≡ rise_by b (get_or row i d) = ap (λ (t : Bool). cond t (rise_by b (get_or row i d)) 0) (eq-eqb k j e) in
          omega (arith, ints, at, here, before j inside, more, adds, is))
      | inr ne ↦ (
          let there : get_or (set new k w) j (pos 0) ≡ get_or new j (pos 0) = get_or-set_other new k j w (pos 0) (λ (e : j ≡ k). ne (sym e)) in
          let adds : cond (eqb k j) (rise_by b (get_or row i d)) 0 ≡ 0 = ap (λ (t : Bool). cond t (rise_by b (get_or row i d)) 0) (ne_eqb k j ne) in
          omega (arith, ints, at, there, before j inside, more, adds))
    ]

-- the sum with the place fits where the sum with the row does
pub raise-fits : (old new : List ℤ) (row : List Place) (i : ℕ) (b : Bool) (d : Place) (rise : ℕ) (m : ℤ) → i < length row →
    (get_or row i d).level < length new → IsRaised old new row i b → rise ≡ rise_by b (get_or row i d) →
    (get_or old (get_or row i d).level (pos 0) +ℤ pos (raised row (get_or row i d).level b)) <ℤ m → (get_or new (get_or row i d).level (pos 0) +ℤ pos rise) <ℤ m
raise-fits old new row i b d rise m lt low before is room = omega (arith, ints, before (get_or row i d).level low, raised-within row i b d lt, is, room)

abbrev pub IsLowered : List ℤ → List ℤ → List Place → ℕ → Bool → Type 0
IsLowered old new row i b = (j : ℕ) → j < length new → get_or new j (pos 0) +ℤ pos (raised (take i row) j b) ≡ get_or old j (pos 0)

pub lower-more : (old new last : List ℤ) (row : List Place) (i : ℕ) (b : Bool) (d : Place) (rise : ℕ) → i < length row →
    (get_or row i d).level < length new → IsLowered old new row i b → rise ≡ rise_by b (get_or row i d) →
    last ≡ set new (get_or row i d).level (get_or new (get_or row i d).level (pos 0) -ℤ pos rise) → IsLowered old last row (i + 1) b
lower-more old new last row i b d rise lt low before is made = λ j within.
    let k = (get_or row i d).level in
    let w = get_or new k (pos 0) -ℤ pos rise in
    let inside : j < length new = omega (arith, length-set new k w, ap length made, within) in
    let at : get_or last j (pos 0) ≡ get_or (set new k w) j (pos 0) = ap (λ (xs : List ℤ). get_or xs j (pos 0)) made in
    let more = raised-more row i j b d lt in
    elim (cases_eq k j) [
      | inl e ↦ (
          let same : get_or (set new k w) k (pos 0) ≡ w = get_or-set_same new k w (pos 0) low in
          let here : get_or (set new k w) j (pos 0) ≡ get_or new j (pos 0) -ℤ pos rise = subst (λ (m : ℕ). get_or (set new k w) m (pos 0) ≡ get_or new m (pos 0) -ℤ pos rise) e same in
          let adds : cond (eqb k j) (rise_by b (get_or row i d)) 0 ≡ rise_by b (get_or row i d) = ap (λ (t : Bool). cond t (rise_by b (get_or row i d)) 0) (eq-eqb k j e) in
          omega (arith, ints, at, here, before j inside, more, adds, is))
      | inr ne ↦ (
          let there : get_or (set new k w) j (pos 0) ≡ get_or new j (pos 0) = get_or-set_other new k j w (pos 0) (λ (e : j ≡ k). ne (sym e)) in
          let adds : cond (eqb k j) (rise_by b (get_or row i d)) 0 ≡ 0 = ap (λ (t : Bool). cond t (rise_by b (get_or row i d)) 0) (ne_eqb k j ne) in
          omega (arith, ints, at, there, before j inside, more, adds))
    ]

pub lower-fits : (old new : List ℤ) (row : List Place) (i : ℕ) (b : Bool) (d : Place) (rise : ℕ) (m : ℤ) → i < length row →
    (get_or row i d).level < length new → IsLowered old new row i b → rise ≡ rise_by b (get_or row i d) →
    (m +ℤ pos (raised row (get_or row i d).level b)) ≤ℤ get_or old (get_or row i d).level (pos 0) → (m +ℤ pos rise) ≤ℤ get_or new (get_or row i d).level (pos 0)
lower-fits old new row i b d rise m lt low before is room = omega (arith, ints, before (get_or row i d).level low, raised-within row i b d lt, is, room)

-- ---- raised sums by their places
pub length-lifted : (f : ℕ → ℕ) (x : List ℤ) → length (lifted f x) ≡ length x
length-lifted f [] = refl
length-lifted f (s ∷ x) = omega (arith, length-lifted (λ j. f (suc j)) x)

pub get_or-lifted : (f : ℕ → ℕ) (x : List ℤ) (j : ℕ) → j < length x → get_or (lifted f x) j (pos 0) ≡ get_or x j (pos 0) +ℤ pos (f j)
get_or-lifted f [] j lt = absurd (omega arith)
get_or-lifted f (s ∷ x) zero lt = refl
get_or-lifted f (s ∷ x) (suc j) lt = get_or-lifted (λ j. f (suc j)) x j (omega arith)

drop-all : (x : List ℤ) (j : ℕ) → length x ≤ j → drop j x ≡ []
drop-all [] zero le = refl
drop-all [] (suc j) le = refl
drop-all (s ∷ x) zero le = absurd (omega arith)
drop-all (s ∷ x) (suc j) le = drop-all x j (omega arith)

-- ---- a comparison more
pub reach-step : (x c : List ℤ) (j : ℕ) → j < length x → j < length c →
    reach (drop j x) (drop j c) ≡ reach_by (int_cmp (get_or x j (pos 0)) (get_or c j (pos 0))) (reach (drop (j + 1) x) (drop (j + 1) c))
reach-step x c j lx lc =
    let P : ℕ → Type 0 = λ (n : ℕ). reach (drop j x) (drop j c) ≡ reach_by (int_cmp (get_or x j (pos 0)) (get_or c j (pos 0))) (reach (drop n x) (drop n c)) in
    subst P (sym (add-one j)) (ap (λ (xs : List ℤ). reach xs (drop j c)) (drop-cons x j (pos 0) lx) ∙ ap (λ (cs : List ℤ). reach (get_or x j (pos 0) ∷ drop (suc j) x) cs) (drop-cons c j (pos 0) lc))

pub reach-past : (x c : List ℤ) (j : ℕ) → length x ≤ j → j < length c → reach (drop j x) (drop j c) ≡ None
reach-past x c j lx lc = ap (λ (xs : List ℤ). reach xs (drop j c)) (drop-all x j lx) ∙ ap (reach []) (drop-cons c j (pos 0) lc)

pub counted-on : (j : ℕ) (r : Option ℕ) → option_map (λ (n : ℕ). j + n) (option_map (λ (n : ℕ). suc n) r) ≡ option_map (λ (n : ℕ). j + 1 + n) r
counted-on j None = refl
counted-on j (Some n) =
    let e : j + suc n ≡ j + 1 + n = omega arith in
    ap (λ (m : ℕ). let o : Option ℕ = Some m in o) e

pub depth-past : (x c : List ℤ) (j : ℕ) → length x ≤ j → depth (drop j x) (drop j c) ≡ 0
depth-past x c j lx = ap (λ (xs : List ℤ). depth xs (drop j c)) (drop-all x j lx) ∙ depth-nil (drop j c)
  where
    depth-nil : (y : List ℤ) → depth [] y ≡ 0
    depth-nil [] = refl
    depth-nil (k ∷ y) = refl

-- ---- the turns of the loop that compares, by its invariant
abbrev pub Reaching : List ℤ → List ℤ → ℕ → Type 0
Reaching x c j = reach x c ≡ option_map (λ (n : ℕ). j + n) (reach (drop j x) (drop j c))

-- the result of the rest, by its first comparison
reaching-by : (x c : List ℤ) (j : ℕ) (o : Ordering) → j < length x → j < length c → Reaching x c j → int_cmp (get_or x j (pos 0)) (get_or c j (pos 0)) ≡ o →
    reach x c ≡ option_map (λ (n : ℕ). j + n) (reach_by o (reach (drop (j + 1) x) (drop (j + 1) c)))
reaching-by x c j o lx lc h e =
    h ∙ ap (λ (r : Option ℕ). option_map (λ (n : ℕ). j + n) r) (reach-step x c j lx lc ∙ ap (λ (p : Ordering). reach_by p (reach (drop (j + 1) x) (drop (j + 1) c))) e)

pub reaching-past : (x c : List ℤ) (j : ℕ) → length x ≤ j → j < length c → Reaching x c j → None ≡ reach x c
reaching-past x c j lx lc h = sym (h ∙ ap (λ (r : Option ℕ). option_map (λ (n : ℕ). j + n) r) (reach-past x c j lx lc))

pub reaching-less : (x c : List ℤ) (j : ℕ) → j < length x → j < length c → Reaching x c j → int_cmp (get_or x j (pos 0)) (get_or c j (pos 0)) ≡ Less → None ≡ reach x c
reaching-less x c j lx lc h e = sym (reaching-by x c j Less lx lc h e)

pub reaching-greater : (x c : List ℤ) (j : ℕ) → j < length x → j < length c → Reaching x c j → int_cmp (get_or x j (pos 0)) (get_or c j (pos 0)) ≡ Greater → Some (j + 1) ≡ reach x c
reaching-greater x c j lx lc h e = sym (reaching-by x c j Greater lx lc h e)

pub reaching-equal : (x c : List ℤ) (j : ℕ) → j < length x → j < length c → Reaching x c j → int_cmp (get_or x j (pos 0)) (get_or c j (pos 0)) ≡ Equal → Reaching x c (j + 1)
reaching-equal x c j lx lc h e = reaching-by x c j Equal lx lc h e ∙ counted-on j (reach (drop (j + 1) x) (drop (j + 1) c))

-- a comparison of what stands at a place
pub compared-at : (s : ℤ) (x c : List ℤ) (j : ℕ) (o : Ordering) → o ≡ int_cmp s (get_or c j (pos 0)) → s ≡ get_or x j (pos 0) → int_cmp (get_or x j (pos 0)) (get_or c j (pos 0)) ≡ o
compared-at s x c j o h e = ap (λ (z : ℤ). int_cmp z (get_or c j (pos 0))) (sym e) ∙ sym h

-- ---- the same for the depth
abbrev pub Deepening : List ℤ → List ℤ → ℕ → Type 0
Deepening x c j = depth x c ≡ j + depth (drop j x) (drop j c)

pub deepening-past : (x c : List ℤ) (j : ℕ) → length x ≤ j → j < length c → Deepening x c j → j ≡ depth x c
deepening-past x c j lx lc h = omega (arith, h, depth-past x c j lx)
