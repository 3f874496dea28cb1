-- The weights of the literals, item by item.
use Rattle.std.proofs.Common.{◌≡◌, ℕ, ◌+◌, ◌*◌, ◌/◌, ◌%◌, ◌^◌, ◌<◌, ◌≤◌, Bool, true, false, cond, eqb, ◌&&◌, List, [], ◌∷◌, ◌++◌, length, get_or, set, take, ℤ, pos, ◌+ℤ◌, sym, ap, ◌∙◌, subst, inl, inr, arith, sum_by, SFits, w32, negsuc, append_assoc, get_or-set_other, get_or-set_same}
use Rattle.std.specs.List.{All}
use Rattle.std.specs.Bool.{beq}
use Rattle.std.specs.Int.RustNames.{unsigned_abs}
use Rattle.std.specs.Ordering.{int_eq}
use Rattle.std.proofs.lemmas.Int.{ints}
use Rattle.std.proofs.lemmas.Bool.{cases_eq, eq-eqb, ne_eqb, leb-true}
use Rattle.std.proofs.lemmas.Bool.Decides.{nat_tests}
use Rattle.std.proofs.lemmas.List.{append-nil, take_more, length-append, length-set}
use Rattle.std.proofs.lemmas.List.Elements.{All-from_recursion}
use Rattle.std.proofs.lemmas.List.Sums.{sum_by_push, sum_by-cons}
use Rattle.asp_model.specs.declared.program.Minimize.{Minimize}
use Rattle.asp_model.specs.declared.program.Program.{Program}
use Rattle.asp_model.specs.Sets.{Atoms, has}
use Rattle.asp_model.specs.Holding.{atom_of}
use Rattle.asp_model.specs.Models.{atoms_of}
use Rattle.asp_model.specs.Sound.{IsSound, weighted_total}
use Rattle.asp_vars.specs.Literals.{Literal, literal_eq}
use Rattle.asp_vars.specs.Codes.{code_of, literal_of as literal_by}
use Rattle.asp_vars.specs.Numbering.{literal_in, literal_of, var_count}
use Rattle.asp_bound.specs.Optimism.{items_at, weight_in}
use Rattle.asp_bound.specs.Weights.{size_of, AreWeights}
use Rattle.asp_bound.proofs.CostLaws.{weight_in-small, items-stand}

pub items_at-push : (ms : List Minimize) (m : Minimize) (q : ℤ) → items_at (ms ++ m ∷ []) q ≡ items_at ms q ++ cond (int_eq m.priority q) m.items []
items_at-push [] m q = append-nil (cond (int_eq m.priority q) m.items [])
items_at-push (n ∷ ms) m q =
    ap (λ (xs : List (ℤ × ℤ)). cond (int_eq n.priority q) n.items [] ++ xs) (items_at-push ms m q)
    ∙ sym (append_assoc (cond (int_eq n.priority q) n.items []) (items_at ms q) (cond (int_eq m.priority q) m.items []))

pub items_at-more : (ms : List Minimize) (i : ℕ) (d : Minimize) (q : ℤ) → i < length ms →
    items_at (take (i + 1) ms) q ≡ items_at (take i ms) q ++ cond (int_eq (get_or ms i d).priority q) (get_or ms i d).items []
items_at-more ms i d q lt = ap (λ (xs : List Minimize). items_at xs q) (take_more ms i d lt) ∙ items_at-push (take i ms) (get_or ms i d) q

pub items_at-step : (ms : List Minimize) (i : ℕ) (m : Minimize) (q : ℤ) (old new : List (ℤ × ℤ)) → i < length ms → m ≡ get_or ms i m →
    old ≡ items_at (take i ms) q → new ≡ old ++ cond (int_eq m.priority q) m.items [] → new ≡ items_at (take (i + 1) ms) q
items_at-step ms i m q old new lt is before made =
    let more : items_at (take (i + 1) ms) q ≡ items_at (take i ms) q ++ cond (int_eq m.priority q) m.items [] =
    subst (λ (x : Minimize). items_at (take (i + 1) ms) q ≡ items_at (take i ms) q ++ cond (int_eq x.priority q) x.items []) (sym is) (items_at-more ms i m q lt) in
    made ∙ (ap (λ (xs : List (ℤ × ℤ)). xs ++ cond (int_eq m.priority q) m.items []) before ∙ sym more)

-- no more items than all statements have
pub length-items_at : (ms : List Minimize) (q : ℤ) → length (items_at ms q) ≤ sum_by (λ m. length m.items) ms
length-items_at [] q = omega arith
length-items_at (m ∷ ms) q =
    omega (
      arith,
      length-append (cond (int_eq m.priority q) m.items []) (items_at ms q),
      length-cond (int_eq m.priority q) m.items,
      length-items_at ms q,
      sum_by-cons (λ (m : Minimize). length m.items) m ms,
    )
  where
    length-cond : (b : Bool) (xs : List (ℤ × ℤ)) → length (cond b xs []) ≤ length xs
    length-cond true xs = omega arith
    length-cond false xs = omega arith

weight_in-push : (atoms : Atoms) (items : List (ℤ × ℤ)) (i : ℤ × ℤ) (l : Literal) →
    weight_in atoms (items ++ i ∷ []) l ≡ weight_in atoms items l +ℤ cond (literal_eq (literal_in atoms i.0) l) i.1 (pos 0)
weight_in-push atoms [] i l = omega (arith, ints)
weight_in-push atoms (j ∷ items) i l = omega (arith, ints, weight_in-push atoms items i l)

code_test : (v : ℕ) (t : Bool) (n : ℕ) → eqb (2 * v + cond t 0 1) n ≡ (eqb v (n / 2) && beq t (eqb (n % 2) 0))
code_test v true n = grind (arith, nat_tests)
code_test v false n = grind (arith, nat_tests)

code_below : (v : ℕ) (t : Bool) (n : ℕ) → v ≤ n → 2 * v + cond t 0 1 < 2 * n + 2
code_below v true n le = omega arith
code_below v false n le = omega arith

pub code_within : (k : Literal) (n : ℕ) → k.var ≤ n → code_of k < 2 * n + 2
code_within k n le = code_below k.var k.truth n le

-- An item more adds its weight to its literal's.
pub AreWeights-push : (p : Program) (items : List (ℤ × ℤ)) (weights : List ℤ) (i : ℤ × ℤ) → AreWeights p items weights → (literal_of p i.0).var ≤ var_count p →
    AreWeights p (items ++ i ∷ []) (set weights (code_of (literal_of p i.0)) (get_or weights (code_of (literal_of p i.0)) (pos 0) +ℤ i.1))
AreWeights-push p items weights i are le =
    let k = literal_of p i.0 in
    let w = get_or weights (code_of k) (pos 0) +ℤ i.1 in
    let within : code_of k < length weights = omega (arith, code_within k (var_count p) le, are.count) in
    record {
      count = omega (arith, length-set weights (code_of k) w, are.count);
      each = λ c lt.
          let pushed = weight_in-push (atoms_of p) items i (literal_by c) in
          let test : literal_eq k (literal_by c) ≡ eqb (code_of k) c = sym (code_test k.var k.truth c) in
          elim (cases_eq (code_of k) c) [
            | inl is ↦ (
                let here : get_or (set weights (code_of k) w) c (pos 0) ≡ w =
                subst (λ (n : ℕ). get_or (set weights (code_of k) w) n (pos 0) ≡ w) is (get_or-set_same weights (code_of k) w (pos 0) within) in
                let before : get_or weights (code_of k) (pos 0) ≡ weight_in (atoms_of p) items (literal_by c) =
                subst (λ (n : ℕ). get_or weights n (pos 0) ≡ weight_in (atoms_of p) items (literal_by c)) (sym is) (are.each c lt) in
                let adds : cond (literal_eq k (literal_by c)) i.1 (pos 0) ≡ i.1 = ap (λ (b : Bool). cond b i.1 (pos 0)) (test ∙ eq-eqb (code_of k) c is) in
                omega (arith, ints, pushed, here, before, adds))
            | inr ne ↦ (
                let here : get_or (set weights (code_of k) w) c (pos 0) ≡ get_or weights c (pos 0) = get_or-set_other weights (code_of k) c w (pos 0) (λ (e : c ≡ code_of k). ne (sym e)) in
                let adds : cond (literal_eq k (literal_by c)) i.1 (pos 0) ≡ pos 0 = ap (λ (b : Bool). cond b i.1 (pos 0)) (test ∙ ne_eqb (code_of k) c ne) in
                omega (arith, ints, pushed, here, are.each c lt, adds))
          ];
    }

pub size_of-push : (items : List (ℤ × ℤ)) (i : ℤ × ℤ) → size_of (items ++ i ∷ []) ≡ size_of items + unsigned_abs i.1
size_of-push items i = sum_by_push (λ (x : ℤ × ℤ). unsigned_abs x.1) items i

-- ---- the turns of the loop over the items
-- by what the calls of a turn say
pub AreWeights-more : (p : Program) (items : List (ℤ × ℤ)) (weights base new : List ℤ) (i c : ℕ) (x : ℤ × ℤ) (w : ℤ) (l : Literal) →
    i < length items → get_or items i x ≡ x → AreWeights p (take i items) weights →
    l ≡ literal_of p x.0 → l.var ≤ var_count p → base ≡ weights → c ≡ code_of l → new ≡ set base c (get_or base c (pos 0) +ℤ w) → w ≡ x.1 → AreWeights p (take (i + 1) items) new
AreWeights-more p items weights base new i c x w l lt is are at within eb ec made ew =
    let list : take (i + 1) items ≡ take i items ++ x ∷ [] = take_more items i x lt ∙ ap (λ (y : ℤ × ℤ). take i items ++ y ∷ []) is in
    let pushed = AreWeights-push p (take i items) weights x are (subst (λ (k : Literal). k.var ≤ var_count p) at within) in
    let place : c ≡ code_of (literal_of p x.0) = ec ∙ ap code_of at in
    let new_is : new ≡ set weights (code_of (literal_of p x.0)) (get_or weights (code_of (literal_of p x.0)) (pos 0) +ℤ x.1) =
    made ∙ (ap (λ (z : List ℤ). set z c (get_or z c (pos 0) +ℤ w)) eb
    ∙ (ap (λ (n : ℕ). set weights n (get_or weights n (pos 0) +ℤ w)) place
    ∙ ap (λ (v : ℤ). set weights (code_of (literal_of p x.0)) (get_or weights (code_of (literal_of p x.0)) (pos 0) +ℤ v)) ew)) in
    subst (λ (z : List (ℤ × ℤ)). AreWeights p z new) (sym list) (subst (AreWeights p (take i items ++ x ∷ [])) (sym new_is) pushed)

pub size_of-more : (items : List (ℤ × ℤ)) (i : ℕ) (x : ℤ × ℤ) → i < length items → get_or items i x ≡ x → unsigned_abs x.1 ≤ 2 ^ 31 →
    size_of (take i items) ≤ 2 ^ 31 * i → size_of (take (i + 1) items) ≤ 2 ^ 31 * (i + 1)
size_of-more items i x lt is small le =
    let list : take (i + 1) items ≡ take i items ++ x ∷ [] = take_more items i x lt ∙ ap (λ (y : ℤ × ℤ). take i items ++ y ∷ []) is in
    let size : size_of (take (i + 1) items) ≡ size_of (take i items) + unsigned_abs x.1 = ap size_of list ∙ size_of-push (take i items) x in
    omega (arith, size, small, le)

pub abs-small : (z : ℤ) → SFits w32 z → unsigned_abs z ≤ 2 ^ 31
abs-small (pos n) f = omega (arith, f.sfits)
abs-small (negsuc n) f = omega (arith, f.sfits)

pub weights-room : (p : Program) (items : List (ℤ × ℤ)) (weights : List ℤ) (i c : ℕ) → AreWeights p (take i items) weights →
    size_of (take i items) ≤ 2 ^ 31 * i → i < length items → length items ≤ 2 ^ 24 → c < length weights →
    unsigned_abs (get_or weights c (pos 0)) < 2 ^ 60
weights-room p items weights i c are size lt few within =
    let is = are.each c (omega (arith, are.count, within)) in
    let le : unsigned_abs (get_or weights c (pos 0)) ≤ size_of (take i items) =
    subst (λ (w : ℤ). unsigned_abs w ≤ size_of (take i items)) (sym is) (weight_in-small (atoms_of p) (take i items) (literal_by c)) in
    omega (arith, le, size, lt, few)

-- ---- a sound program has few items
pub few-items : (p : Program) (q : ℤ) → IsSound p → length (items_at p.minimize q) ≤ 2 ^ 24
few-items p q sound = omega (arith, length-items_at p.minimize q, leb-true (weighted_total p) 16777216 sound.weighted)

-- ---- the same, by what the calls say
pub items-all : (p : Program) (q : ℤ) (xs : List (ℤ × ℤ)) → xs ≡ items_at p.minimize q → All (λ (i : ℤ × ℤ). has (atoms_of p) (atom_of i.0) ≡ true) xs
items-all p q xs e =
    subst (All (λ (i : ℤ × ℤ). has (atoms_of p) (atom_of i.0) ≡ true)) (sym e) (All-from_recursion (λ (i : ℤ × ℤ). has (atoms_of p) (atom_of i.0) ≡ true) (items_at p.minimize q) (items-stand p q))

pub items-few : (p : Program) (q : ℤ) (xs : List (ℤ × ℤ)) → xs ≡ items_at p.minimize q → IsSound p → length xs ≤ 2 ^ 24
items-few p q xs e sound = omega (arith, ap length e, few-items p q sound)

pub size-small : (p : Program) (q : ℤ) (xs : List (ℤ × ℤ)) → xs ≡ items_at p.minimize q → IsSound p → size_of xs ≤ 2 ^ 31 * length xs → size_of (items_at p.minimize q) ≤ 2 ^ 55
size-small p q xs e sound le =
    let size : size_of xs ≡ size_of (items_at p.minimize q) = ap size_of e in
    omega (arith, size, items-few p q xs e sound, le)

pub weights_as : (p : Program) (q r : ℤ) (now weights : List ℤ) → r ≡ q → now ≡ weights → AreWeights p (items_at p.minimize r) weights → AreWeights p (items_at p.minimize q) now
weights_as p q r now weights e en h = subst (AreWeights p (items_at p.minimize q)) (sym en) (subst (λ (z : ℤ). AreWeights p (items_at p.minimize z) weights) e h)

pub small_as : (p : Program) (q r : ℤ) → r ≡ q → size_of (items_at p.minimize r) ≤ 2 ^ 55 → size_of (items_at p.minimize q) ≤ 2 ^ 55
small_as p q r e h = subst (λ (z : ℤ). size_of (items_at p.minimize z) ≤ 2 ^ 55) e h
