-- What variables add, taken out of the weights one after the other.
use Rattle.std.proofs.Common.{◌≡◌, ◌≢◌, ℕ, zero, suc, ◌+◌, ◌*◌, ◌/◌, ◌^◌, ◌<◌, ◌≤◌, Bool, true, false, eqb, cond, ◌||◌, ◌&&◌, List, [], ◌∷◌, ◌++◌, length, get_or, set, drop, ℤ, pos, negsuc, neg_ℤ, ◌+ℤ◌, ◌≤ℤ◌, refl, sym, ap, ◌∙◌, subst, inl, inr, arith, append_assoc, get_or-set_other, get_or-set_same}
use Rattle.std.specs.List.{list_any}
use Rattle.std.specs.Bool.{beq}
use Rattle.std.specs.List.Sorted.{IsPermutation}
use Rattle.std.specs.Int.{int_min}
use Rattle.std.specs.Int.RustNames.{unsigned_abs}
use Rattle.std.proofs.lemmas.Int.{ints}
use Rattle.std.proofs.lemmas.Bool.{cases_eq, cases_lt, ne_eqb}
use Rattle.std.proofs.lemmas.List.{append-nil, length-set, get_or_past, drop_more}
use Rattle.std.proofs.lemmas.List.Sorted.{IsPermutation-refl, IsPermutation-trans, IsPermutation-append_left, IsPermutation-append_right, IsPermutation-append_comm}
use Rattle.asp_model.specs.declared.program.Program.{Program}
use Rattle.asp_model.specs.Sets.{Atoms}
use Rattle.asp_model.specs.Models.{atoms_of}
use Rattle.asp_vars.specs.Literals.{Literal, literal_eq}
use Rattle.asp_vars.specs.Codes.{literal_of as literal_by}
use Rattle.asp_model.specs.Holding.{is_positive}
use Rattle.asp_vars.specs.Numbering.{literal_in, literal_of, var_count}
use Rattle.asp_bound.specs.declared.place.Addition.{Addition}
use Rattle.asp_bound.specs.Optimism.{weight_in}
use Rattle.asp_bound.specs.Weights.{size_of, AreWeights}
use Rattle.asp_bound.specs.Levels.{additions_of, additions_to, weight_true, weight_false, without, least_by, least_to}
use Rattle.asp_bound.proofs.CostLaws.{weight_in-small}
use Rattle.asp_bound.proofs.SumLaws.{sum_to-at, sum_to-zero}

-- ---- the weights without a variable's
pub length-without : (ws : List ℤ) (v : ℕ) → length (without ws v) ≡ length ws
length-without ws v = length-set (set ws (2 * v) (pos 0)) (2 * v + 1) (pos 0) ∙ length-set ws (2 * v) (pos 0)

without-other : (ws : List ℤ) (v c : ℕ) → c / 2 ≢ v → get_or (without ws v) c (pos 0) ≡ get_or ws c (pos 0)
without-other ws v c ne =
    get_or-set_other (set ws (2 * v) (pos 0)) (2 * v + 1) c (pos 0) (pos 0) (λ (e : c ≡ 2 * v + 1). ne (omega arith))
    ∙ get_or-set_other ws (2 * v) c (pos 0) (pos 0) (λ (e : c ≡ 2 * v). ne (omega arith))

without-true : (ws : List ℤ) (v : ℕ) → 2 * v + 1 < length ws → weight_true (without ws v) v ≡ pos 0
without-true ws v lt =
    get_or-set_other (set ws (2 * v) (pos 0)) (2 * v + 1) (2 * v) (pos 0) (pos 0) (λ (e : 2 * v ≡ 2 * v + 1). omega arith) ∙ get_or-set_same ws (2 * v) (pos 0) (pos 0) (omega arith)

without-false : (ws : List ℤ) (v : ℕ) → 2 * v + 1 < length ws → weight_false (without ws v) v ≡ pos 0
without-false ws v lt = get_or-set_same (set ws (2 * v) (pos 0)) (2 * v + 1) (pos 0) (pos 0) (omega (arith, length-set ws (2 * v) (pos 0)))

without-code : (ws : List ℤ) (v c : ℕ) → 2 * v + 1 < length ws → c / 2 ≡ v → get_or (without ws v) c (pos 0) ≡ pos 0
without-code ws v c lt e = elim (cases_eq c (2 * v)) [
  | inl is ↦ subst (λ (n : ℕ). get_or (without ws v) n (pos 0) ≡ pos 0) (sym is) (without-true ws v lt)
  | inr ne ↦ (
      let is : c ≡ 2 * v + 1 = omega arith in
      subst (λ (n : ℕ). get_or (without ws v) n (pos 0) ≡ pos 0) (sym is) (without-false ws v lt))
]

other-true : (ws : List ℤ) (v u : ℕ) → u ≢ v → weight_true (without ws v) u ≡ weight_true ws u
other-true ws v u ne = without-other ws v (2 * u) (λ (e : 2 * u / 2 ≡ v). ne (omega arith))

other-false : (ws : List ℤ) (v u : ℕ) → u ≢ v → weight_false (without ws v) u ≡ weight_false ws u
other-false ws v u ne = without-other ws v (2 * u + 1) (λ (e : (2 * u + 1) / 2 ≡ v). ne (omega arith))

-- ---- what the variables add and cost at least, with and without one
abbrev here : List ℤ → ℕ → List Addition
here ws v = additions_of v (weight_true ws v) (weight_false ws v)

here_other : (ws : List ℤ) (v u : ℕ) → u ≢ v → here (without ws v) u ≡ here ws u
here_other ws v u ne = ap (λ (t : ℤ). additions_of u t (weight_false (without ws v) u)) (other-true ws v u ne) ∙ ap (λ (f : ℤ). additions_of u (weight_true ws u) f) (other-false ws v u ne)

here_none : (ws : List ℤ) (v : ℕ) → weight_true ws v ≡ pos 0 → weight_false ws v ≡ pos 0 → here ws v ≡ []
here_none ws v t f = ap (λ (x : ℤ). additions_of v x (weight_false ws v)) t ∙ ap (λ (x : ℤ). additions_of v (pos 0) x) f

least_other : (ws : List ℤ) (v u : ℕ) → u ≢ v → least_by (without ws v) u ≡ least_by ws u
least_other ws v u ne = ap (λ (t : ℤ). int_min t (weight_false (without ws v) u)) (other-true ws v u ne) ∙ ap (λ (f : ℤ). int_min (weight_true ws u) f) (other-false ws v u ne)

least_none : (ws : List ℤ) (v : ℕ) → weight_true ws v ≡ pos 0 → weight_false ws v ≡ pos 0 → least_by ws v ≡ pos 0
least_none ws v t f = ap (λ (x : ℤ). int_min x (weight_false ws v)) t ∙ ap (λ (x : ℤ). int_min (pos 0) x) f

additions-before : (ws : List ℤ) (v n : ℕ) → n < v → additions_to (without ws v) n ≡ additions_to ws n
additions-before ws v zero lt = refl
additions-before ws v (suc n) lt =
    ap (λ (xs : List Addition). xs ++ here (without ws v) (suc n)) (additions-before ws v n (omega arith))
    ∙ ap (λ (xs : List Addition). additions_to ws n ++ xs) (here_other ws v (suc n) (λ (e : suc n ≡ v). omega arith))

additions-without : (ws : List ℤ) (v n : ℕ) → 0 < v → v ≤ n → 2 * v + 1 < length ws → IsPermutation (additions_to ws n) (here ws v ++ additions_to (without ws v) n)
additions-without ws v zero up le lt = absurd (omega arith)
additions-without ws v (suc n) up le lt = elim (cases_eq v (suc n)) [
  | inl e ↦ (
      let none : here (without ws v) (suc n) ≡ [] = subst (λ (u : ℕ). here (without ws v) u ≡ []) e (here_none (without ws v) v (without-true ws v lt) (without-false ws v lt)) in
      let rest : additions_to (without ws v) (suc n) ≡ additions_to ws n =
      ap (λ (xs : List Addition). additions_to (without ws v) n ++ xs) none
      ∙ (append-nil (additions_to (without ws v) n) ∙ additions-before ws v n (omega arith)) in
      let first : here ws (suc n) ≡ here ws v = ap (here ws) (sym e) in
      subst (λ (xs : List Addition). IsPermutation (additions_to ws (suc n)) (here ws v ++ xs)) (sym rest)
      (subst (λ (xs : List Addition). IsPermutation (additions_to ws (suc n)) (xs ++ additions_to ws n)) first (IsPermutation-append_comm (additions_to ws n) (here ws (suc n)))))
  | inr ne ↦ (
      let same : here (without ws v) (suc n) ≡ here ws (suc n) = here_other ws v (suc n) (λ (e : suc n ≡ v). ne (sym e)) in
      let more = IsPermutation-append_left (here ws (suc n)) (additions_to ws n) (here ws v ++ additions_to (without ws v) n) (additions-without ws v n up (omega arith) lt) in
      let is : (here ws v ++ additions_to (without ws v) n) ++ here ws (suc n) ≡ here ws v ++ additions_to (without ws v) (suc n) =
      append_assoc (here ws v) (additions_to (without ws v) n) (here ws (suc n)) ∙ ap (λ (xs : List Addition). here ws v ++ (additions_to (without ws v) n ++ xs)) (sym same) in
      subst (IsPermutation (additions_to ws (suc n))) is more)
]

least-without : (ws : List ℤ) (v n : ℕ) → 0 < v → v ≤ n → 2 * v + 1 < length ws → least_to ws n ≡ least_by ws v +ℤ least_to (without ws v) n
least-without ws v n up le lt =
    let at = sum_to-at (least_by ws) (least_by (without ws v)) n v up le (λ u ne. sym (least_other ws v u ne)) in
    omega (arith, ints, at, least_none (without ws v) v (without-true ws v lt) (without-false ws v lt))

-- ---- no weights
abbrev AreNone : List ℤ → Type 0
AreNone ws = (c : ℕ) → get_or ws c (pos 0) ≡ pos 0

additions-none : (ws : List ℤ) (n : ℕ) → AreNone ws → additions_to ws n ≡ []
additions-none ws zero none = refl
additions-none ws (suc n) none = ap (λ (xs : List Addition). xs ++ here ws (suc n)) (additions-none ws n none) ∙ here_none ws (suc n) (none (2 * suc n)) (none (2 * suc n + 1))

least-none : (ws : List ℤ) (n : ℕ) → AreNone ws → least_to ws n ≡ pos 0
least-none ws n none = sum_to-zero (least_by ws) n (λ v. least_none ws v (none (2 * v)) (none (2 * v + 1)))

-- ---- item after item
-- whether an item has the variable
abbrev touches : Program → ℕ → ℤ × ℤ → Bool
touches p v i = eqb (literal_of p i.0).var v

or-false : (a b : Bool) → a ≡ false → b ≡ false → (a || b) ≡ false
or-false a b ea eb = ap (λ (x : Bool). x || b) ea ∙ eb

weight_in-untouched : (atoms : Atoms) (items : List (ℤ × ℤ)) (l : Literal) → list_any (λ (i : ℤ × ℤ). eqb (literal_in atoms i.0).var l.var) items ≡ false → weight_in atoms items l ≡ pos 0
weight_in-untouched atoms [] l none = refl
weight_in-untouched atoms (i ∷ items) l none =
    untouched_by (eqb (literal_in atoms i.0).var l.var) refl (λ e. weight_in-untouched atoms items l
    (ap (λ (b : Bool). b || list_any (λ (j : ℤ × ℤ). eqb (literal_in atoms j.0).var l.var) items) (sym e) ∙ none))
  where
    untouched_by : (b : Bool) → eqb (literal_in atoms i.0).var l.var ≡ b → (eqb (literal_in atoms i.0).var l.var ≡ false → weight_in atoms items l ≡ pos 0) → weight_in atoms (i ∷ items) l ≡ pos 0
    untouched_by true e rest = cc
    untouched_by false e rest =
        let none : literal_eq (literal_in atoms i.0) l ≡ false = ap (λ (b : Bool). b && beq (is_positive i.0) l.truth) e in
        let adds : cond (literal_eq (literal_in atoms i.0) l) i.1 (pos 0) ≡ pos 0 = ap (λ (b : Bool). cond b i.1 (pos 0)) none in
        omega (arith, ints, adds, rest e)

-- The items are left, the others' additions were taken.
pub record IsTaken (p : Program) (items : List (ℤ × ℤ)) (old : List ℤ) (additions : List Addition) (ws : List ℤ) (least : ℤ) : Type 0 where
  pub count : length ws ≡ 2 * var_count p + 2
  pub left : (c : ℕ) → list_any (touches p (c / 2)) items ≡ false → get_or ws c (pos 0) ≡ pos 0
  pub small : (c : ℕ) → unsigned_abs (get_or ws c (pos 0)) < 2 ^ 56
  pub moved : IsPermutation (additions_to old (var_count p)) (additions ++ additions_to ws (var_count p))
  pub sum : least_to old (var_count p) ≡ least +ℤ least_to ws (var_count p)

pub taken-none : (p : Program) (items : List (ℤ × ℤ)) (ws : List ℤ) → AreWeights p items ws → size_of items ≤ 2 ^ 55 → IsTaken p items ws [] ws (pos 0)
taken-none p items ws are small = record {
  count = are.count;
  left = λ c none. elim (cases_lt c (length ws)) [
    | inl lt ↦ are.each c (omega (arith, are.count)) ∙ weight_in-untouched (atoms_of p) items (literal_by c) none
    | inr out ↦ get_or_past ws c (pos 0) (omega arith)
  ];
  small = λ c. elim (cases_lt c (length ws)) [
    | inl lt ↦ (
        let is = are.each c (omega (arith, are.count)) in
        let le : unsigned_abs (get_or ws c (pos 0)) ≤ size_of items = subst (λ (w : ℤ). unsigned_abs w ≤ size_of items) (sym is) (weight_in-small (atoms_of p) items (literal_by c)) in
        omega (arith, le, small))
    | inr out ↦ subst (λ (w : ℤ). unsigned_abs w < 2 ^ 56) (sym (get_or_past ws c (pos 0) (omega arith))) (omega arith)
  ];
  moved = IsPermutation-refl (additions_to ws (var_count p));
  sum = omega (arith, ints);
}

taken-next : (p : Program) (i : ℤ × ℤ) (items : List (ℤ × ℤ)) (old : List ℤ) (additions : List Addition) (ws : List ℤ) (least : ℤ) (v : ℕ) →
    IsTaken p (i ∷ items) old additions ws least → v ≡ (literal_of p i.0).var → 0 < v → v ≤ var_count p →
    IsTaken p items old (additions ++ here ws v) (without ws v) (least +ℤ least_by ws v)
taken-next p i items old additions ws least v taken is up le =
    let n = var_count p in
    let within : 2 * v + 1 < length ws = omega (arith, taken.count) in
    let rest = additions_to (without ws v) n in
    record {
      count = length-without ws v ∙ taken.count;
      left = λ c none. elim (cases_eq (c / 2) v) [
        | inl e ↦ without-code ws v c within e
        | inr ne ↦ without-other ws v c ne
            ∙ taken.left c (or-false (touches p (c / 2) i) (list_any (touches p (c / 2)) items)
            (ne_eqb (literal_of p i.0).var (c / 2) (λ (e : (literal_of p i.0).var ≡ c / 2). ne (sym (is ∙ e)))) none)
      ];
      small = λ c. elim (cases_eq (c / 2) v) [
        | inl e ↦ subst (λ (w : ℤ). unsigned_abs w < 2 ^ 56) (sym (without-code ws v c within e)) (omega arith)
        | inr ne ↦ subst (λ (w : ℤ). unsigned_abs w < 2 ^ 56) (sym (without-other ws v c ne)) (taken.small c)
      ];
      moved =
          let more = IsPermutation-append_right additions (additions_to ws n) (here ws v ++ rest) (additions-without ws v n up le within) in
          let all = IsPermutation-trans (additions_to old n) (additions ++ additions_to ws n) (additions ++ (here ws v ++ rest)) taken.moved more in
          subst (IsPermutation (additions_to old n)) (sym (append_assoc additions (here ws v) rest)) all;
      sum = omega (arith, ints, taken.sum, least-without ws v n up le within);
    }

-- a turn of the loop over the items, by what its calls say
pub taken-more : (p : Program) (items : List (ℤ × ℤ)) (i : ℕ) (x : ℤ × ℤ) (old : List ℤ) (additions new : List Addition) (ws next : List ℤ)
    (least more n : ℤ) (v : ℕ) → i < length items → IsTaken p (drop i items) old additions ws least →
    v ≡ (literal_of p (get_or items i x).0).var → 0 < v → v ≤ var_count p → new ≡ additions ++ here ws v → next ≡ without ws v →
    more ≡ least_by ws v → n ≡ least +ℤ more → IsTaken p (drop (i + 1) items) old new next n
taken-more p items i x old additions new ws next least more n v lt taken is up le en ew em es =
    let step = taken-next p (get_or items i x) (drop (i + 1) items) old additions ws least v
    (subst (λ (z : List (ℤ × ℤ)). IsTaken p z old additions ws least) (drop_more items i x lt) taken) is up le in
    let a = subst (λ (z : List Addition). IsTaken p (drop (i + 1) items) old z (without ws v) (least +ℤ least_by ws v)) (sym en) step in
    let b = subst (λ (z : List ℤ). IsTaken p (drop (i + 1) items) old new z (least +ℤ least_by ws v)) (sym ew) a in
    subst (IsTaken p (drop (i + 1) items) old new next) (sym (es ∙ ap (λ (m : ℤ). least +ℤ m) em)) b

-- nothing is left
all_none : (p : Program) (old : List ℤ) (additions : List Addition) (ws : List ℤ) (least : ℤ) → IsTaken p [] old additions ws least → AreNone ws
all_none p old additions ws least taken = λ c. taken.left c refl

pub taken-permuted : (p : Program) (old : List ℤ) (additions : List Addition) (ws : List ℤ) (least : ℤ) → IsTaken p [] old additions ws least → IsPermutation (additions_to old (var_count p)) additions
taken-permuted p old additions ws least taken =
    let none : additions ++ additions_to ws (var_count p) ≡ additions =
    ap (λ (xs : List Addition). additions ++ xs) (additions-none ws (var_count p) (all_none p old additions ws least taken))
    ∙ append-nil additions in
    subst (IsPermutation (additions_to old (var_count p))) none taken.moved

pub taken-least : (p : Program) (old : List ℤ) (additions : List Addition) (ws : List ℤ) (least : ℤ) → IsTaken p [] old additions ws least → least ≡ least_to old (var_count p)
taken-least p old additions ws least taken = omega (arith, ints, taken.sum, least-none ws (var_count p) (all_none p old additions ws least taken))

-- a number between those that its size is below
pub abs-low : (x : ℤ) (n : ℕ) → unsigned_abs x < n → neg_ℤ (pos n) ≤ℤ x
abs-low (pos a) n h = omega (arith, ints, h)
abs-low (negsuc a) n h = omega (arith, ints, h)

pub abs-high : (x : ℤ) (n : ℕ) → unsigned_abs x < n → x ≤ℤ pos n
abs-high (pos a) n h = omega (arith, ints, h)
abs-high (negsuc a) n h = omega (arith, ints, h)

-- the same in another order, sorted twice
pub permuted-twice : (xs ys first left second right : List Addition) → IsPermutation xs ys → first ≡ ys → IsPermutation first left → second ≡ left → IsPermutation second right → IsPermutation xs right
permuted-twice xs ys first left second right h e f g k =
    let start = subst (λ (zs : List Addition). IsPermutation zs left) e f in
    let end = subst (λ (zs : List Addition). IsPermutation zs right) g k in
    IsPermutation-trans xs left right (IsPermutation-trans xs ys left h start) end
