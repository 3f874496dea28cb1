-- The variables have the values of their atoms and bodies.
use Rattle.std.proofs.Common.{◌≡◌, ℕ, suc, ◌+◌, Bool, true, false, cond, ◌&&◌, ◌||◌, eqb, List, [], ◌∷◌, ◌++◌, map, filter, length, get_or, refl, sym, ap, ◌∙◌, arith}
use Rattle.std.specs.Prelude.{ℤ, ◌==◌}
use Rattle.std.specs.List.{list_any}
use Rattle.std.specs.Ordering.{int_eq}
use Rattle.std.specs.Cmp.Lexicographic.{pointwise}
use Rattle.std.proofs.lemmas.Bool.{false≢true, and_parts, and_from, eqb-true, eq-eqb}
use Rattle.std.proofs.lemmas.Int.{ints}
use Rattle.asp_model.specs.declared.program.Body.{Body}
use Rattle.asp_model.specs.declared.program.Body.TheVariants as body
use Rattle.asp_model.specs.declared.program.Program.{Program}
use Rattle.asp_model.specs.Sets.{Atoms, has}
use Rattle.asp_model.specs.Holding.{body_holds}
use Rattle.asp_model.specs.Models.{atoms_of}
use Rattle.asp_vars.specs.Numbering.{body_eq, bodies_of, is_wide, is_nameless, is_apart, defines, names, named_or, apart_bodies, place_of, var_of_atom, var_of_form, values}

-- ---- equal bodies
pub int_eq_same : (k l : ℤ) → int_eq k l ≡ true → k ≡ l
int_eq_same k l e = grind (arith, ints)

pub int_eq_itself : (k : ℤ) → int_eq k k ≡ true
int_eq_itself k = grind (arith, ints)

pub same_lists : {X : Type 0} (eq : X → X → Bool) → ((x y : X) → eq x y ≡ true → x ≡ y) → (xs ys : List X) → pointwise eq xs ys ≡ true → xs ≡ ys
same_lists eq same [] [] e = refl
same_lists eq same [] (y ∷ ys) e = absurd (false≢true e)
same_lists eq same (x ∷ xs) [] e = absurd (false≢true e)
same_lists eq same (x ∷ xs) (y ∷ ys) e =
    let parts = and_parts (eq x y) (pointwise eq xs ys) e in
    let first : x ≡ y = same x y parts.0 in
    let rest : xs ≡ ys = same_lists eq same xs ys parts.1 in
    λ i. first i ∷ rest i

pub lists_themselves : {X : Type 0} (eq : X → X → Bool) → ((x : X) → eq x x ≡ true) → (xs : List X) → pointwise eq xs xs ≡ true
lists_themselves eq itself [] = refl
lists_themselves eq itself (x ∷ xs) = and_from (eq x x) (pointwise eq xs xs) (itself x) (lists_themselves eq itself xs)

item_eq_same : (i j : ℤ × ℤ) → (int_eq i.0 j.0 && int_eq i.1 j.1) ≡ true → i ≡ j
item_eq_same i j e =
    let parts = and_parts (int_eq i.0 j.0) (int_eq i.1 j.1) e in
    let first : i.0 ≡ j.0 = int_eq_same i.0 j.0 parts.0 in
    let second : i.1 ≡ j.1 = int_eq_same i.1 j.1 parts.1 in
    λ n. (first n, second n)

pub same_body : (b c : Body) → body_eq b c ≡ true → b ≡ c
same_body (body.All k) (body.All l) e = ap body.All (same_lists int_eq int_eq_same k l e)
same_body (body.All k) (body.AtLeast d l) e = absurd (false≢true e)
same_body (body.AtLeast b k) (body.All l) e = absurd (false≢true e)
same_body (body.AtLeast b k) (body.AtLeast d l) e =
    let parts = and_parts (int_eq b d) (pointwise (λ i j. int_eq i.0 j.0 && int_eq i.1 j.1) k l) e in
    let bounds : b ≡ d = int_eq_same b d parts.0 in
    let items : k ≡ l = same_lists (λ i j. int_eq i.0 j.0 && int_eq i.1 j.1) item_eq_same k l parts.1 in
    λ n. body.AtLeast (bounds n) (items n)

pub body_eq-itself : (b : Body) → body_eq b b ≡ true
body_eq-itself (body.All k) = lists_themselves int_eq int_eq_itself k
body_eq-itself (body.AtLeast b k) =
    and_from (int_eq b b) (pointwise (λ i j. int_eq i.0 j.0 && int_eq i.1 j.1) k k) (int_eq_itself b)
    (lists_themselves (λ i j. int_eq i.0 j.0 && int_eq i.1 j.1) (λ i. and_from (int_eq i.0 i.0) (int_eq i.1 i.1) (int_eq_itself i.0) (int_eq_itself i.1)) k)

-- a body that passes a test is among those that pass it
pub filtered_among : (test : Body → Bool) (b : Body) (bs : List Body) → test b ≡ true → list_any (body_eq b) bs ≡ true → list_any (body_eq b) (filter test bs) ≡ true
filtered_among test b [] w e = absurd (false≢true e)
filtered_among test b (c ∷ bs) w e = cases (body_eq b c) (test c) refl refl (filtered_among test b bs w)
  where
    rest : Bool
    rest = list_any (body_eq b) (filter test bs)

    skip : (a t : Bool) → t ≡ true → (a || t) ≡ true
    skip true t h = refl
    skip false t h = h

    cases : (t u : Bool) → t ≡ body_eq b c → u ≡ test c → (list_any (body_eq b) bs ≡ true → list_any (body_eq b) (filter test bs) ≡ true) →
        list_any (body_eq b) (cond u (c ∷ filter test bs) (filter test bs)) ≡ true
    cases true true q v later = ap (λ t. t || rest) (sym q)
    cases true false q v later = absurd (false≢true (v ∙ ap test (sym (same_body b c (sym q))) ∙ w))
    cases false true q v later = skip (body_eq b c) rest (later (ap (λ t. t || list_any (body_eq b) bs) q ∙ e))
    cases false false q v later = later (ap (λ t. t || list_any (body_eq b) bs) q ∙ e)

-- ---- names
-- the first of the atoms that pass is one of them
pub first_passing : (q : ℕ → Bool) (xs : List ℕ) (a : ℕ) (more : List ℕ) → a ∷ more ≡ filter q xs → (has xs a ≡ true) × (q a ≡ true)
first_passing q [] a more e = absurd (cc e)
first_passing q (x ∷ xs) a more e = cases (q x) refl e (first_passing q xs a more)
  where
    either : (s t : Bool) → t ≡ true → (s || t) ≡ true
    either true t h = refl
    either false t h = h

    cases : (t : Bool) → t ≡ q x → a ∷ more ≡ cond t (x ∷ filter q xs) (filter q xs) → (a ∷ more ≡ filter q xs → (has xs a ≡ true) × (q a ≡ true)) → ((eqb x a || has xs a) ≡ true) × (q a ≡ true)
    cases true h here later =
        let same : a ≡ x = cc here in
        (ap (λ t. t || has xs a) (eq-eqb x a (sym same)), ap q same ∙ sym h)
    cases false h there later = let found = later there in (either (eqb x a) (has xs a) found.0, found.1)

-- a body's name is an atom that it defines
pub named : (p : Program) (b : Body) (a : ℕ) (more : List ℕ) → a ∷ more ≡ names p b → (has (atoms_of p) a ≡ true) × (defines p b a ≡ true)
named p (body.All ls) a more e = first_passing (defines p (body.All ls)) (atoms_of p) a more e
named p (body.AtLeast bound items) a more e = absurd (cc e)

-- ---- the first place at which a test passes
pub get_or-place_of : {X : Type 0} (test f : X → Bool) (xs : List X) (ys : List Bool) (v : Bool) → ((x : X) → test x ≡ true → f x ≡ v) →
    list_any test xs ≡ true → get_or (map f xs ++ ys) (place_of test xs) false ≡ v
get_or-place_of test f [] ys v at e = absurd (false≢true e)
get_or-place_of test f (x ∷ xs) ys v at e = cases (test x) refl (get_or-place_of test f xs ys v at)
  where
    cases : (b : Bool) → b ≡ test x → (list_any test xs ≡ true → get_or (map f xs ++ ys) (place_of test xs) false ≡ v) → get_or (f x ∷ (map f xs ++ ys)) (cond b 0 (suc (place_of test xs))) false ≡ v
    cases true q rest = at x (sym q)
    cases false q rest = rest (ap (λ b. b || list_any test xs) q ∙ e)

get_or-past_map : {X : Type 0} (f : X → Bool) (xs : List X) (ys : List Bool) (n : ℕ) → get_or (map f xs ++ ys) (length xs + n) false ≡ get_or ys n false
get_or-past_map f [] ys n = ap (λ k. get_or ys k false) (omega arith)
get_or-past_map f (x ∷ xs) ys n = ap (λ k. get_or (f x ∷ (map f xs ++ ys)) k false) (let e : length (x ∷ xs) + n ≡ suc (length xs + n) = omega arith in e) ∙ get_or-past_map f xs ys n

-- ---- values
pub value-atom : (p : Program) (S : Atoms) (a : ℕ) → has (atoms_of p) a ≡ true → get_or (values p S) (var_of_atom p a) false ≡ has S a
value-atom p S a h =
    get_or-place_of (λ b. b == a) (has S) (atoms_of p) (map (body_holds S) (apart_bodies p)) (has S a) (λ x e. ap (has S) (eqb-true x a e)) h

-- a body without a name has its own variable
pub own_var : (p : Program) (b : Body) → is_apart p b ≡ true → var_of_form p b ≡ suc (length (atoms_of p) + place_of (body_eq b) (apart_bodies p))
own_var p b h = nameless (names p b) (and_parts (is_wide b) (is_nameless (names p b)) h).1
  where
    nameless : (more : List ℕ) → is_nameless more ≡ true →
        named_or (atoms_of p) (suc (length (atoms_of p) + place_of (body_eq b) (apart_bodies p))) more ≡ suc
        (length (atoms_of p) + place_of (body_eq b) (apart_bodies p))
    nameless [] e = refl
    nameless (a ∷ more) e = absurd (false≢true e)

pub value-form : (p : Program) (S : Atoms) (b : Body) → is_apart p b ≡ true → list_any (body_eq b) (bodies_of p) ≡ true → get_or (values p S) (var_of_form p b) false ≡ body_holds S b
value-form p S b apart h =
    ap (λ v. get_or (values p S) v false) (own_var p b apart)
    ∙ get_or-past_map (has S) (atoms_of p) (map (body_holds S) (apart_bodies p)) (place_of (body_eq b) (apart_bodies p))
    ∙ ap (λ xs. get_or xs (place_of (body_eq b) (apart_bodies p)) false) (no_more (map (body_holds S) (apart_bodies p)))
    ∙ get_or-place_of (body_eq b) (body_holds S) (apart_bodies p) [] (body_holds S b) (λ x e. ap (body_holds S) (sym (same_body b x e))) (filtered_among (is_apart p) b (bodies_of p) apart h)
  where
    no_more : (xs : List Bool) → xs ≡ xs ++ []
    no_more [] = refl
    no_more (x ∷ xs) = ap (λ ys. x ∷ ys) (no_more xs)
