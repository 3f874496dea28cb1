-- The heads of rules, rule by rule.
use Rattle.std.proofs.Common.{◌≡◌, ℕ, zero, suc, ◌+◌, ◌<◌, cond, eqb, List, [], ◌∷◌, ◌++◌, map, length, get_or, take, refl, sym, ap, ◌∙◌, subst, arith, ⊎_elim, get_or-set_same, get_or-set_other, add-one}
use Rattle.std.proofs.Math.ListN.{set}
use Rattle.std.proofs.lemmas.Bool.{cases_eq, eq-eqb, ne_eqb}
use Rattle.std.proofs.lemmas.List.{map_push, take_more}
use Rattle.asp_model.specs.declared.program.Rule.{Rule}
use Rattle.asp_model.specs.Models.{head_atoms}
use Rattle.asp_model.specs.Sets.{Atoms}
use Rattle.asp_vars.specs.Numbering.{var_in}
use Rattle.asp_compile.specs.Headed.{heads_at}

nothing_more : {X : Type 0} (xs : List X) → xs ++ [] ≡ xs
nothing_more [] = refl
nothing_more (x ∷ xs) = ap (λ ys. x ∷ ys) (nothing_more xs)

pub set-itself : {X : Type 0} (xs : List X) (i : ℕ) (d : X) → i < length xs → set xs i (get_or xs i d) ≡ xs
set-itself [] i d lt = absurd (omega arith)
set-itself (x ∷ xs) zero d lt = refl
set-itself (x ∷ xs) (suc i) d lt = ap (λ ys. x ∷ ys) (set-itself xs i d (omega arith))

pub set-set : {X : Type 0} (xs : List X) (i : ℕ) (a b : X) → set (set xs i a) i b ≡ set xs i b
set-set [] i a b = refl
set-set (x ∷ xs) zero a b = refl
set-set (x ∷ xs) (suc i) a b = ap (λ ys. x ∷ ys) (set-set xs i a b)

append_again : {X : Type 0} (xs ys zs : List X) → (xs ++ ys) ++ zs ≡ xs ++ (ys ++ zs)
append_again [] ys zs = refl
append_again (x ∷ xs) ys zs = ap (λ ws. x ∷ ws) (append_again xs ys zs)

-- no items added
pub set_none : {X : Type 0} (rows : List (List X)) (i : ℕ) → i < length rows → set rows i (get_or rows i [] ++ []) ≡ rows
set_none rows i lt = ap (set rows i) (nothing_more (get_or rows i [])) ∙ set-itself rows i [] lt

-- one more item
pub set_more : {X : Type 0} (rows : List (List X)) (i : ℕ) (xs : List X) (x : X) → i < length rows →
    set (set rows i (get_or rows i [] ++ xs)) i (get_or (set rows i (get_or rows i [] ++ xs)) i [] ++ x ∷ []) ≡ set rows i
    (get_or rows i [] ++ (xs ++ x ∷ []))
set_more rows i xs x lt =
    ap (λ row. set (set rows i (get_or rows i [] ++ xs)) i (row ++ x ∷ [])) (get_or-set_same rows i (get_or rows i [] ++ xs) [] lt)
    ∙ set-set rows i (get_or rows i [] ++ xs) ((get_or rows i [] ++ xs) ++ x ∷ [])
    ∙ ap (set rows i) (append_again (get_or rows i []) xs (x ∷ []))

map-append : (f : ℕ → ℕ) (xs ys : List ℕ) → map f (xs ++ ys) ≡ map f xs ++ map f ys
map-append f [] ys = refl
map-append f (x ∷ xs) ys = ap (λ zs. f x ∷ zs) (map-append f xs ys)

-- one more rule
heads_at-more : (j : ℕ) (ns : List ℕ) (rs : List Rule) (i : ℕ) (d : Rule) → i < length ns → i < length rs →
    heads_at j (take (suc i) ns) (take (suc i) rs) ≡ heads_at j (take i ns) (take i rs)
    ++ cond (eqb (get_or ns i 0) j) (head_atoms (get_or rs i d).head) []
heads_at-more j [] rs i d lt lt' = absurd (omega arith)
heads_at-more j (n ∷ ns) [] i d lt lt' = absurd (omega arith)
heads_at-more j (n ∷ ns) (r ∷ rs) zero d lt lt' = none ns rs
  where
    none : (ms : List ℕ) (ss : List Rule) → cond (eqb n j) (head_atoms r.head) [] ++ heads_at j (take 0 ms) (take 0 ss) ≡ cond (eqb n j) (head_atoms r.head) []
    none [] ss = nothing_more (cond (eqb n j) (head_atoms r.head) [])
    none (m ∷ ms) ss = nothing_more (cond (eqb n j) (head_atoms r.head) [])
heads_at-more j (n ∷ ns) (r ∷ rs) (suc i) d lt lt' =
    ap (λ xs. cond (eqb n j) (head_atoms r.head) [] ++ xs) (heads_at-more j ns rs i d (omega arith) (omega arith))
    ∙ sym (append_again (cond (eqb n j) (head_atoms r.head) []) (heads_at j (take i ns) (take i rs)) (cond (eqb (get_or ns i 0) j) (head_atoms (get_or rs i d).head) []))

-- the rows after one more rule
pub head_step : (rows : List (List ℕ)) (atoms : Atoms) (j : ℕ) (ns : List ℕ) (rs : List Rule) (i : ℕ) (d : Rule) → i < length ns → i < length rs →
    get_or ns i 0 < length rows → get_or rows j [] ≡ map (var_in atoms) (heads_at j (take i ns) (take i rs)) →
    get_or (set rows (get_or ns i 0) (get_or rows (get_or ns i 0) [] ++ map (var_in atoms) (head_atoms (get_or rs i d).head))) j [] ≡ map
    (var_in atoms) (heads_at j (take (i + 1) ns) (take (i + 1) rs))
head_step rows atoms j ns rs i d lt lt' within so_far =
    ⊎_elim here elsewhere (cases_eq (get_or ns i 0) j)
    ∙ ap (λ row. row ++ map (var_in atoms) (cond (eqb (get_or ns i 0) j) (head_atoms (get_or rs i d).head) [])) so_far
    ∙ sym (map-append (var_in atoms) (heads_at j (take i ns) (take i rs)) (cond (eqb (get_or ns i 0) j) (head_atoms (get_or rs i d).head) []))
    ∙ ap (map (var_in atoms)) (sym (heads_at-more j ns rs i d lt lt'))
    ∙ ap (λ k. map (var_in atoms) (heads_at j (take k ns) (take k rs))) (sym (add-one i))
  where
    new : List ℕ
    new = map (var_in atoms) (head_atoms (get_or rs i d).head)

    here : get_or ns i 0 ≡ j → get_or
        (set rows (get_or ns i 0) (get_or rows (get_or ns i 0) [] ++ map (var_in atoms) (head_atoms (get_or rs i d).head))) j [] ≡ get_or rows j []
        ++ map (var_in atoms) (cond (eqb (get_or ns i 0) j) (head_atoms (get_or rs i d).head) [])
    here e =
        ap (λ n. get_or (set rows n (get_or rows n [] ++ map (var_in atoms) (head_atoms (get_or rs i d).head))) j []) e
        ∙ get_or-set_same rows j (get_or rows j [] ++ map (var_in atoms) (head_atoms (get_or rs i d).head)) [] (subst (λ n. n < length rows) e within)
        ∙ ap (λ t. get_or rows j [] ++ map (var_in atoms) (cond t (head_atoms (get_or rs i d).head) [])) (sym (eq-eqb (get_or ns i 0) j e))

    elsewhere : (get_or ns i 0 ≡ j → ⊥) →
        get_or (set rows (get_or ns i 0) (get_or rows (get_or ns i 0) [] ++ map (var_in atoms) (head_atoms (get_or rs i d).head))) j [] ≡ get_or rows
        j [] ++ map (var_in atoms) (cond (eqb (get_or ns i 0) j) (head_atoms (get_or rs i d).head) [])
    elsewhere ne =
        get_or-set_other rows (get_or ns i 0) j (get_or rows (get_or ns i 0) [] ++ map (var_in atoms) (head_atoms (get_or rs i d).head)) [] (λ e. ne (sym e))
        ∙ sym (nothing_more (get_or rows j []))
        ∙ ap (λ t. get_or rows j [] ++ map (var_in atoms) (cond t (head_atoms (get_or rs i d).head) [])) (sym (ne_eqb (get_or ns i 0) j ne))

pub map_more : {X Y : Type 0} (f : X → Y) (xs : List X) (i : ℕ) (d : X) → i < length xs → map f (take i xs) ++ f (get_or xs i d) ∷ [] ≡ map f (take (i + 1) xs)
map_more f xs i d lt = sym (map_push f (take i xs) (get_or xs i d)) ∙ sym (ap (map f) (take_more xs i d lt))
