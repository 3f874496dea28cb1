-- Where sums reach the bound.
use Rattle.std.proofs.Common.{◌≡◌, ℕ, suc, ◌<◌, false, cond, List, [], ◌∷◌, map, length, get_or, Option, Some, None, ℤ, pos, ◌+ℤ◌, ◌≤ℤ◌, ◌<ℤ◌, refl, sym, ap, ◌∙◌, inl, inr, arith}
use Rattle.std.specs.Option.{option_map, is_none}
use Rattle.std.specs.Ordering.{int_cmp, is_lt, is_eq, ordering_then}
use Rattle.std.specs.declared.cmp.Ordering.{Ordering}
use Rattle.std.specs.declared.cmp.Ordering.TheVariants.{Less, Equal, Greater}
use Rattle.std.specs.Cmp.Lexicographic.{slice_cmp}
use Rattle.std.proofs.lemmas.Int.{ints}
use Rattle.std.proofs.lemmas.Bool.{false≢true, cases_lt}
use Rattle.asp_model.specs.Costs.{betters}
use Rattle.asp_bound.specs.Reach.{reach_by, reach, depth, lifted}

-- ---- one comparison
cmp-less : (s c : ℤ) → int_cmp s c ≡ Less → s <ℤ c
cmp-less s c e = grind (arith, ints)

cmp-equal : (s c : ℤ) → int_cmp s c ≡ Equal → s ≡ c
cmp-equal s c e = grind (arith, ints)

cmp-greater : (s c : ℤ) → int_cmp s c ≡ Greater → c <ℤ s
cmp-greater s c e = grind (arith, ints)

-- ---- the sums aren't smaller exactly where they reach the bound
betters_by : (o p : Ordering) (r : Option ℕ) → is_lt p ≡ is_none r → is_lt (ordering_then o p) ≡ is_none (reach_by o r)
betters_by Less p r e = refl
betters_by Equal p None e = e
betters_by Equal p (Some d) e = e
betters_by Greater p r e = refl

pub betters-reach : (x c : List ℤ) → betters x c ≡ is_none (reach x c)
betters-reach [] [] = refl
betters-reach (s ∷ x) [] = refl
betters-reach [] (k ∷ c) = refl
betters-reach (s ∷ x) (k ∷ c) = betters_by (int_cmp s k) (slice_cmp int_cmp x c) (reach x c) (betters-reach x c)

-- ---- greater sums aren't smaller either
no_none : {A : Type 0} (d : A) → None ≡ Some d → ⊥
no_none d e = false≢true (sym (ap is_none e))

later : (r : Option ℕ) (d : ℕ) → option_map (λ n. suc n) r ≡ Some d → (e : ℕ) × (r ≡ Some e) × (d ≡ suc e)
later None d h = absurd (no_none d h)
later (Some e) d h = (e, refl, sym (some_same h))
  where
    some_same : Some (suc e) ≡ Some d → suc e ≡ d
    some_same q = cc

-- what holds of the sums that follow
abbrev Above : List ℤ → List ℤ → List ℤ → ℕ → Type 0
Above x y c d = reach x c ≡ Some d → length x ≡ length y → ((j : ℕ) → j < d → get_or x j (pos 0) ≤ℤ get_or y j (pos 0)) → betters y c ≡ false

above_by : (s t k : ℤ) (x y c : List ℤ) (d : ℕ) → ((e : ℕ) → Above x y c e) → length x ≡ length y → reach (s ∷ x) (k ∷ c) ≡ Some d →
    ((j : ℕ) → j < d → get_or (s ∷ x) j (pos 0) ≤ℤ get_or (t ∷ y) j (pos 0)) →
    (o : Ordering) → int_cmp s k ≡ o → (p : Ordering) → int_cmp t k ≡ p → betters (t ∷ y) (k ∷ c) ≡ false
above_by s t k x y c d rest l r h Less e p f = absurd (no_none d (sym (ap (λ o. reach_by o (reach x c)) e) ∙ r))
above_by s t k x y c d rest l r h Greater e Greater f = ap (λ p. is_lt (ordering_then p (slice_cmp int_cmp y c))) f
above_by s t k x y c d rest l r h Equal e Greater f = ap (λ p. is_lt (ordering_then p (slice_cmp int_cmp y c))) f
above_by s t k x y c d rest l r h Greater e Less f =
    let one : Some 1 ≡ Some d = sym (ap (λ o. reach_by o (reach x c)) e) ∙ r in
    let is : 1 ≡ d = cc in
    let up : s ≤ℤ t = h 0 (omega arith) in
    absurd (omega (arith, ints, up, cmp-greater s k e, cmp-less t k f))
above_by s t k x y c d rest l r h Greater e Equal f =
    let one : Some 1 ≡ Some d = sym (ap (λ o. reach_by o (reach x c)) e) ∙ r in
    let is : 1 ≡ d = cc in
    let up : s ≤ℤ t = h 0 (omega arith) in
    absurd (omega (arith, ints, up, cmp-greater s k e, cmp-equal t k f))
above_by s t k x y c d rest l r h Equal e Less f =
    let deep = later (reach x c) d (sym (ap (λ o. reach_by o (reach x c)) e) ∙ r) in
    let up : s ≤ℤ t = h 0 (omega (arith, deep.2)) in
    absurd (omega (arith, ints, up, cmp-equal s k e, cmp-less t k f))
above_by s t k x y c d rest l r h Equal e Equal f =
    let deep = later (reach x c) d (sym (ap (λ o. reach_by o (reach x c)) e) ∙ r) in
    ap (λ p. is_lt (ordering_then p (slice_cmp int_cmp y c))) f ∙ rest deep.0 deep.1 l (λ j lt. h (suc j) (omega (arith, deep.2)))

pub reach-above : (x y c : List ℤ) (d : ℕ) → Above x y c d
reach-above x [] [] d = λ r l h. refl
reach-above x (t ∷ y) [] d = λ r l h. refl
reach-above [] y (k ∷ c) d = λ r l h. absurd (no_none d r)
reach-above (s ∷ x) [] (k ∷ c) d = λ r l h. absurd (omega arith)
reach-above (s ∷ x) (t ∷ y) (k ∷ c) d = λ r l h. above_by s t k x y c d (reach-above x y c) (omega arith) r h (int_cmp s k) refl (int_cmp t k) refl

-- ---- what raises sums to the bound
pub record IsNearAt (f : ℕ → ℕ) (x c : List ℤ) (j : ℕ) : Type 0 where
  pub within : j < depth x c
  pub up : 0 < f j
  pub near : get_or c j (pos 0) ≤ℤ (get_or x j (pos 0) +ℤ pos (f j))

none_later : (r : Option ℕ) → option_map (λ n. suc n) r ≡ None → r ≡ None
none_later None e = refl
none_later (Some d) e = absurd (no_none (suc d) (sym e))

near_less : (f : ℕ → ℕ) (s k : ℤ) (x c : List ℤ) (d : ℕ) → int_cmp s k ≡ Less → reach (lifted f (s ∷ x)) (k ∷ c) ≡ Some d →
    (p : Ordering) → int_cmp (s +ℤ pos (f 0)) k ≡ p → IsNearAt f (s ∷ x) (k ∷ c) 0
near_less f s k x c d e r Less g = absurd (no_none d (sym (ap (λ o. reach_by o (reach (lifted (λ j. f (suc j)) x) c)) g) ∙ r))
near_less f s k x c d e r Equal g =
    let deep : depth (s ∷ x) (k ∷ c) ≡ 1 = ap (λ o. cond (is_eq o) (suc (depth x c)) 1) e in
    record {
      within = omega (arith, deep);
      up = omega (arith, ints, cmp-less s k e, cmp-equal (s +ℤ pos (f 0)) k g);
      near = omega (arith, ints, cmp-equal (s +ℤ pos (f 0)) k g);
    }
near_less f s k x c d e r Greater g =
    let deep : depth (s ∷ x) (k ∷ c) ≡ 1 = ap (λ o. cond (is_eq o) (suc (depth x c)) 1) e in
    record {
      within = omega (arith, deep);
      up = omega (arith, ints, cmp-less s k e, cmp-greater (s +ℤ pos (f 0)) k g);
      near = omega (arith, ints, cmp-greater (s +ℤ pos (f 0)) k g);
    }

-- what holds of the sums that follow
abbrev Near : (ℕ → ℕ) → List ℤ → List ℤ → Type 0
Near f x c = (d : ℕ) → reach x c ≡ None → reach (lifted f x) c ≡ Some d → (j : ℕ) × IsNearAt f x c j

near_equal : (f : ℕ → ℕ) (s k : ℤ) (x c : List ℤ) (d : ℕ) → Near (λ j. f (suc j)) x c → int_cmp s k ≡ Equal → reach (s ∷ x) (k ∷ c) ≡ None → reach (lifted f (s ∷ x)) (k ∷ c) ≡ Some d →
    (j : ℕ) × IsNearAt f (s ∷ x) (k ∷ c) j
near_equal f s k x c d rest e none r =
    let deep : depth (s ∷ x) (k ∷ c) ≡ suc (depth x c) = ap (λ o. cond (is_eq o) (suc (depth x c)) 1) e in
    let is : s ≡ k = cmp-equal s k e in
    elim (cases_lt 0 (f 0)) [
      | inl up ↦ (0, record { within = omega (arith, deep); up = up; near = omega (arith, ints, is) })
      | inr flat ↦ (
          let no : f 0 ≡ 0 = omega arith in
          let same : int_cmp (s +ℤ pos (f 0)) k ≡ Equal = ap (λ v. int_cmp v k) (omega (arith, ints)) ∙ e in
          let more = later (reach (lifted (λ j. f (suc j)) x) c) d (sym (ap (λ o. reach_by o (reach (lifted (λ j. f (suc j)) x) c)) same) ∙ r) in
          let found = rest more.0 (none_later (reach x c) (sym (ap (λ o. reach_by o (reach x c)) e) ∙ none)) more.1 in
          (suc found.0, record { within = omega (arith, deep, found.1.within); up = found.1.up; near = found.1.near }))
    ]

near_by : (f : ℕ → ℕ) (s k : ℤ) (x c : List ℤ) (d : ℕ) → Near (λ j. f (suc j)) x c → reach (s ∷ x) (k ∷ c) ≡ None → reach (lifted f (s ∷ x)) (k ∷ c) ≡ Some d →
    (o : Ordering) → int_cmp s k ≡ o → (j : ℕ) × IsNearAt f (s ∷ x) (k ∷ c) j
near_by f s k x c d rest none r Less e = (0, near_less f s k x c d e r (int_cmp (s +ℤ pos (f 0)) k) refl)
near_by f s k x c d rest none r Equal e = near_equal f s k x c d rest e none r
near_by f s k x c d rest none r Greater e = absurd (no_none 1 (sym none ∙ ap (λ o. reach_by o (reach x c)) e))

-- Where raised sums reach the bound and the sums don't, one of them is raised to its limit or above.
pub reach-near : (f : ℕ → ℕ) (x c : List ℤ) → Near f x c
reach-near f x [] = λ d none r. absurd (no_none 0 (sym none))
reach-near f [] (k ∷ c) = λ d none r. absurd (no_none d r)
reach-near f (s ∷ x) (k ∷ c) = λ d none r. near_by f s k x c d (reach-near (λ j. f (suc j)) x c) none r (int_cmp s k) refl

-- ---- raised sums
pub lifted-map : (f : ℕ → ℕ) (g z : ℤ → ℤ) (qs : List ℤ) → ((j : ℕ) → j < length qs → z (get_or qs j (pos 0)) ≡ g (get_or qs j (pos 0)) +ℤ pos (f j)) → lifted f (map g qs) ≡ map z qs
lifted-map f g z [] h = refl
lifted-map f g z (q ∷ qs) h =
    let first : z q ≡ g q +ℤ pos (f 0) = h 0 (omega arith) in
    let rest : lifted (λ j. f (suc j)) (map g qs) ≡ map z qs = lifted-map (λ j. f (suc j)) g z qs (λ j lt. h (suc j) (omega arith)) in
    cc

pub lifted-zero : (x : List ℤ) → lifted (λ j. 0) x ≡ x
lifted-zero [] = refl
lifted-zero (s ∷ x) =
    let first : s +ℤ pos 0 ≡ s = omega (arith, ints) in
    let rest : lifted (λ j. 0) x ≡ x = lifted-zero x in
    cc

-- what the sums reach, by what the calls say
pub reached_now : (sums bound s limits : List ℤ) (r : Option ℕ) → s ≡ sums → limits ≡ bound → r ≡ reach (lifted (λ j. 0) s) limits → reach sums bound ≡ r
reached_now sums bound s limits r es el e = sym (e ∙ (ap (λ (x : List ℤ). reach x limits) (lifted-zero s ∙ es) ∙ ap (reach sums) el))
