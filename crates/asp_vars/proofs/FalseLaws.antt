-- Values that are stored by literals.
use Rattle.std.proofs.Common.{◌≡◌, ◌≢◌, ℕ, suc, zero, ◌+◌, ◌*◌, ◌/◌, ◌<◌, ◌≤◌, Bool, true, false, not, cond, eqb, List, length, get_or, set, replicate, Option, Some, None, refl, sym, ap, ◌∙◌, arith, get_or-set_same, get_or-set_other}
use Rattle.std.proofs.lemmas.Bool.{eqb-true}
use Rattle.std.proofs.lemmas.Bool.Decides.{nat_tests}
use Rattle.std.proofs.lemmas.List.{length-set, length-replicate, ext_get_or, get_or_read}
use Rattle.std.proofs.lemmas.List.FromFn.{length-map-range_with_len, get_or-map-range_with_len}
use Rattle.asp_vars.specs.Literals.{Literal, T, F, complement, agrees, holds_in, value_of}
use Rattle.asp_vars.specs.Codes.{code_of}
use Rattle.asp_vars.specs.Falses.{value_by, value_at, values_of, AreFalses}

none : Option Bool
none = None

pub values_length : (f : List Bool) → length (values_of f) ≡ length f / 2
values_length f = length-map-range_with_len (value_at f) 0 (length f / 2)

values_at : (f : List Bool) (v : ℕ) → v < length f / 2 → get_or (values_of f) v None ≡ value_at f v
values_at f v h = get_or-map-range_with_len (value_at f) 0 (length f / 2) v v None h (omega arith)

-- the value of a variable, by what is stored
pub value_is : (f : List Bool) (v : ℕ) (a b : Bool) → v < length f / 2 → get_or f (2 * v) false ≡ a → get_or f (2 * v + 1) false ≡ b → get_or (values_of f) v None ≡ value_by a b
unfolding value_at
value_is f v a b h p q = values_at f v h ∙ (λ k. value_by (p k) (q k))

-- whether a literal holds stands at its complement's place
holds_at : (f : List Bool) (v : ℕ) (t : Bool) → AreFalses f → v < length f / 2 → get_or f (2 * v + cond (not t) 0 1) false ≡ agrees (get_or (values_of f) v None) (record { var = v; truth = t })
holds_at f v true a h = both (get_or f (2 * v) false) refl (get_or f (2 * v + 1) false) refl
  where
    both : (x : Bool) → x ≡ get_or f (2 * v) false → (y : Bool) → y ≡ get_or f (2 * v + 1) false → get_or f (2 * v + 1) false ≡ agrees (get_or (values_of f) v None) (T v)
    both true p y q = a.apart v (sym p) ∙ sym (ap (λ o. agrees o (T v)) (value_is f v true y h (sym p) (sym q)))
    both false p true q = sym q ∙ sym (ap (λ o. agrees o (T v)) (value_is f v false true h (sym p) (sym q)))
    both false p false q = sym q ∙ sym (ap (λ o. agrees o (T v)) (value_is f v false false h (sym p) (sym q)))
holds_at f v false a h =
    ap (λ (i : ℕ). get_or f i false) at ∙ both (get_or f (2 * v) false) refl (get_or f (2 * v + 1) false) refl
  where
    at : 2 * v + cond (not false) 0 1 ≡ 2 * v
    at = omega arith

    both : (x : Bool) → x ≡ get_or f (2 * v) false → (y : Bool) → y ≡ get_or f (2 * v + 1) false → get_or f (2 * v) false ≡ agrees (get_or (values_of f) v None) (F v)
    both true p y q = sym p ∙ sym (ap (λ o. agrees o (F v)) (value_is f v true y h (sym p) (sym q)))
    both false p true q = sym p ∙ sym (ap (λ o. agrees o (F v)) (value_is f v false true h (sym p) (sym q)))
    both false p false q = sym p ∙ sym (ap (λ o. agrees o (F v)) (value_is f v false false h (sym p) (sym q)))

pub holds_by : (f : List Bool) (l : Literal) → AreFalses f → l.var < length f / 2 → get_or f (code_of (complement l)) false ≡ holds_in (values_of f) l
holds_by f l a h = holds_at f l.var l.truth a h

denied_at : (f : List Bool) (v : ℕ) (t : Bool) → AreFalses f → v < length f / 2 → get_or f (2 * v + cond t 0 1) false ≡ agrees (get_or (values_of f) v None) (record { var = v; truth = not t })
denied_at f v true a h = holds_at f v false a h
denied_at f v false a h = holds_at f v true a h

pub denied_by : (f : List Bool) (l : Literal) → AreFalses f → l.var < length f / 2 → get_or f (code_of l) false ≡ holds_in (values_of f) (complement l)
denied_by f l a h = denied_at f l.var l.truth a h

-- ---- the same, by what the calls say
pub half : (f : List Bool) (v : ℕ) (a : List (Option Bool)) → values_of f ≡ a → v < length a → v < length f / 2
half f v a is h = omega (arith, h, values_length f, ap length is)

pub code_within : (f : List Bool) (l : Literal) (a : List (Option Bool)) → AreFalses f → values_of f ≡ a → l.var < length a → code_of l < length f
code_within f l a are is h = let small = half f l.var a is h in omega (arith, small, are.even, below l.var l.truth)
  where
    below : (v : ℕ) (t : Bool) → 2 * v + cond t 0 1 ≤ 2 * v + 1
    below v true = omega arith
    below v false = omega arith

read_at : (f : List Bool) (i j : ℕ) (b : Bool) → i ≡ j → j < length f → b ≡ get_or f i b → b ≡ get_or f j false
read_at f i j b same h e = get_or_read f j b h (e ∙ ap (λ (k : ℕ). get_or f k b) same) false

pub says_of : (f : List Bool) (l : Literal) (code : ℕ) (b : Bool) (a : List (Option Bool)) → AreFalses f → values_of f ≡ a → l.var < length a →
    code ≡ code_of (complement l) → b ≡ get_or f code b → b ≡ holds_in a l
says_of f l code b a are is h same e =
    read_at f code (code_of (complement l)) b same (code_within f (complement l) a are is h) e ∙ (holds_by f l are (half f l.var a is h) ∙ ap (λ (x : List (Option Bool)). holds_in x l) is)

pub denies_of : (f : List Bool) (l : Literal) (code : ℕ) (b : Bool) (a : List (Option Bool)) → AreFalses f → values_of f ≡ a → l.var < length a →
    code ≡ code_of l → b ≡ get_or f code b → b ≡ holds_in a (complement l)
denies_of f l code b a are is h same e =
    read_at f code (code_of l) b same (code_within f l a are is h) e ∙ (denied_by f l are (half f l.var a is h) ∙ ap (λ (x : List (Option Bool)). holds_in x (complement l)) is)

pub value_of_two : (f : List Bool) (v i j : ℕ) (x y : Bool) (a : List (Option Bool)) → AreFalses f → values_of f ≡ a → v < length a → i ≡ 2 * v →
    j ≡ 2 * v + 1 → x ≡ get_or f i x → y ≡ get_or f j y → value_by x y ≡ value_of a v
value_of_two f v i j x y a are is h at next p q =
    let small = half f v a is h in
    let first = read_at f i (2 * v) x at (omega (arith, small, are.even)) p in
    let second = read_at f j (2 * v + 1) y next (omega (arith, small, are.even)) q in
    sym (value_is f v x y small (sym first) (sym second)) ∙ ap (λ (z : List (Option Bool)). value_of z v) is

pub value_of_first : (f : List Bool) (v i : ℕ) (x : Bool) (a : List (Option Bool)) → AreFalses f → values_of f ≡ a → v < length a → i ≡ 2 * v → x ≡ get_or f i x → x ≡ true → Some false ≡ value_of a v
value_of_first f v i x a are is h at p set_ =
    let small = half f v a is h in
    let first = read_at f i (2 * v) x at (omega (arith, small, are.even)) p in
    sym (value_is f v true (get_or f (2 * v + 1) false) small (sym first ∙ set_) refl) ∙ ap (λ (z : List (Option Bool)). value_of z v) is

-- ---- a variable's two places are written
value_set : (f : List Bool) (v : ℕ) (a b : Bool) → 2 * v + 1 < length f → value_at (set (set f (2 * v) a) (2 * v + 1) b) v ≡ value_by a b
unfolding value_at
value_set f v a b h =
    let p : get_or (set (set f (2 * v) a) (2 * v + 1) b) (2 * v) false ≡ a =
    get_or-set_other (set f (2 * v) a) (2 * v + 1) (2 * v) b false (λ e. omega (arith, e)) ∙ get_or-set_same f (2 * v) a false (omega (arith, h)) in
    let q : get_or (set (set f (2 * v) a) (2 * v + 1) b) (2 * v + 1) false ≡ b =
    get_or-set_same (set f (2 * v) a) (2 * v + 1) b false (omega (arith, h, length-set f (2 * v) a)) in
    λ k. value_by (p k) (q k)

even_elsewhere : (f : List Bool) (v w : ℕ) (a b : Bool) → w ≢ v → get_or (set (set f (2 * v) a) (2 * v + 1) b) (2 * w) false ≡ get_or f (2 * w) false
even_elsewhere f v w a b ne =
    get_or-set_other (set f (2 * v) a) (2 * v + 1) (2 * w) b false (λ e. omega (arith, e)) ∙ get_or-set_other f (2 * v) (2 * w) a false (λ e. ne (omega (arith, e)))

odd_elsewhere : (f : List Bool) (v w : ℕ) (a b : Bool) → w ≢ v → get_or (set (set f (2 * v) a) (2 * v + 1) b) (2 * w + 1) false ≡ get_or f (2 * w + 1) false
odd_elsewhere f v w a b ne =
    get_or-set_other (set f (2 * v) a) (2 * v + 1) (2 * w + 1) b false (λ e. ne (omega (arith, e))) ∙ get_or-set_other f (2 * v) (2 * w + 1) a false (λ e. omega (arith, e))

value_elsewhere : (f : List Bool) (v w : ℕ) (a b : Bool) → w ≢ v → value_at (set (set f (2 * v) a) (2 * v + 1) b) w ≡ value_at f w
unfolding value_at
value_elsewhere f v w a b ne =
    let p = even_elsewhere f v w a b ne in
    let q = odd_elsewhere f v w a b ne in
    λ k. value_by (p k) (q k)

length_two : (f : List Bool) (i j : ℕ) (a b : Bool) → length (set (set f i a) j b) ≡ length f
length_two f i j a b = length-set (set f i a) j b ∙ length-set f i a

pub values_set : (f : List Bool) (v : ℕ) (a b : Bool) → AreFalses f → v < length f / 2 → values_of (set (set f (2 * v) a) (2 * v + 1) b) ≡ set (values_of f) v (value_by a b)
unfolding none
values_set f v a b are h = ext_get_or none (values_of g) (set (values_of f) v (value_by a b)) same (λ i lt. at i lt (eqb i v) refl)
  where
    g : List Bool
    g = set (set f (2 * v) a) (2 * v + 1) b

    halves : length g / 2 ≡ length f / 2
    halves = ap (λ (n : ℕ). n / 2) (length_two f (2 * v) (2 * v + 1) a b)

    same : length (values_of g) ≡ length (set (values_of f) v (value_by a b))
    same = values_length g ∙ (halves ∙ sym (length-set (values_of f) v (value_by a b) ∙ values_length f))

    at : (i : ℕ) → i < length (values_of g) → (t : Bool) → t ≡ eqb i v → get_or (values_of g) i None ≡ get_or (set (values_of f) v (value_by a b)) i None
    at i lt true q =
        let s : i ≡ v = eqb-true i v (sym q) in
        let inside : v < length (values_of f) = omega (arith, h, values_length f) in
        let room : 2 * v + 1 < length f = omega (arith, h, are.even) in
        values_at g i (omega (arith, lt, values_length g))
        ∙ (ap (value_at g) s ∙ (value_set f v a b room
        ∙ sym (ap (λ (k : ℕ). get_or (set (values_of f) v (value_by a b)) k None) s ∙ get_or-set_same (values_of f) v (value_by a b) None inside)))
    at i lt false q =
        let ne : i ≢ v = grind (arith, nat_tests) in
        values_at g i (omega (arith, lt, values_length g))
        ∙ (value_elsewhere f v i a b ne
        ∙ sym (get_or-set_other (values_of f) v i (value_by a b) None ne ∙ values_at f i (omega (arith, lt, values_length g, halves))))

pub value_by_truth : (t : Bool) → value_by (not t) t ≡ Some t
value_by_truth true = refl
value_by_truth false = refl

-- ---- the start
false_at : (n v : ℕ) → get_or (replicate n false) v false ≡ false
false_at zero v = refl
false_at (suc n) zero = refl
false_at (suc n) (suc v) = false_at n v

none_at : (n v : ℕ) → get_or (replicate n none) v none ≡ none
none_at zero v = refl
none_at (suc n) zero = refl
none_at (suc n) (suc v) = none_at n v

begun_length : (f : List Bool) (n : ℕ) → f ≡ replicate (2 * n) false → length f ≡ 2 * n
begun_length f n is = ap length is ∙ length-replicate (2 * n) false

pub values_begun : (f : List Bool) (n : ℕ) → f ≡ replicate (2 * n) false → values_of f ≡ replicate n None
unfolding none
values_begun f n is = ext_get_or none (values_of f) (replicate n none) same (λ i lt. at i (omega (arith, lt, values_length f)))
  where
    same : length (values_of f) ≡ length (replicate n none)
    same = omega (arith, values_length f, begun_length f n is, length-replicate n none)

    blank : (k : ℕ) → get_or f k false ≡ false
    blank k = ap (λ (xs : List Bool). get_or xs k false) is ∙ false_at (2 * n) k

    at : (i : ℕ) → i < length f / 2 → get_or (values_of f) i None ≡ get_or (replicate n none) i None
    at i lt = value_is f i false false lt (blank (2 * i)) (blank (2 * i + 1)) ∙ sym (none_at n i)
