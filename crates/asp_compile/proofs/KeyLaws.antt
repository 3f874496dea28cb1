-- Keys of bodies, and the places to which they lead.
use Rattle.std.proofs.Common.{◌≡◌, ℕ, zero, suc, ◌+◌, Bool, true, false, cond, ◌&&◌, ◌||◌, List, [], ◌∷◌, ◌++◌, length, Some, None, refl, sym, ap, ◌∙◌, subst, arith}
use Rattle.std.specs.Prelude.{ℤ}
use Rattle.std.specs.List.{list_any}
use Rattle.std.specs.Ordering.{int_eq}
use Rattle.std.specs.Cmp.Lexicographic.{pointwise}
use Rattle.std.proofs.lemmas.Bool.{false≢true}
use Rattle.std.proofs.lemmas.List.Folds.{list_any-append}
use Rattle.asp_model.specs.declared.program.Body.{Body}
use Rattle.asp_model.specs.declared.program.Body.TheVariants as body
use Rattle.asp_vars.specs.Numbering.{body_eq, place_of}
use Rattle.asp_compile.specs.Forms.{item_words, key_of}
use Rattle.asp_compile.specs.Placed.{has_key, place_by}
use Rattle.asp_vars.proofs.NumberingLaws.{int_eq_itself, int_eq_same, same_lists, lists_themselves}

-- two bodies are equal where their keys are
same_items : (is js : List (ℤ × ℤ)) → pointwise int_eq (item_words is) (item_words js) ≡ pointwise (λ i j. int_eq i.0 j.0 && int_eq i.1 j.1) is js
same_items [] [] = refl
same_items [] (j ∷ js) = refl
same_items (i ∷ is) [] = refl
same_items (i ∷ is) (j ∷ js) = ap (λ t. int_eq i.0 j.0 && (int_eq i.1 j.1 && t)) (same_items is js)
    ∙ regroup (int_eq i.0 j.0) (int_eq i.1 j.1) (pointwise (λ i j. int_eq i.0 j.0 && int_eq i.1 j.1) is js)
  where
    regroup : (a b c : Bool) → (a && (b && c)) ≡ ((a && b) && c)
    regroup true b c = refl
    regroup false b c = refl

pub key_eq : (b c : Body) → has_key (key_of b) c ≡ body_eq b c
key_eq (body.All k) (body.All l) = refl
key_eq (body.All k) (body.AtLeast c l) = refl
key_eq (body.AtLeast b k) (body.All l) = refl
key_eq (body.AtLeast b k) (body.AtLeast c l) = ap (λ t. int_eq b c && t) (same_items k l)

-- ---- tests that agree
any_same : {X : Type 0} (p q : X → Bool) → ((x : X) → p x ≡ q x) → (xs : List X) → list_any p xs ≡ list_any q xs
any_same p q h [] = refl
any_same p q h (x ∷ xs) = ap (λ t. t || list_any p xs) (h x) ∙ ap (λ t. q x || t) (any_same p q h xs)

place_same : {X : Type 0} (p q : X → Bool) → ((x : X) → p x ≡ q x) → (xs : List X) → place_of p xs ≡ place_of q xs
place_same p q h [] = refl
place_same p q h (x ∷ xs) = ap (λ t. cond t 0 (suc (place_of p xs))) (h x) ∙ ap (λ n. cond (q x) 0 (suc n)) (place_same p q h xs)

-- ---- the place of a body that is there, and of one that isn't
pub found : (b : Body) (bs : List Body) (n : ℕ) → place_by (key_of b) bs ≡ Some n → (list_any (body_eq b) bs ≡ true) × (n ≡ place_of (body_eq b) bs)
found b bs n e =
    cases (list_any (has_key (key_of b)) bs) (place_of (has_key (key_of b)) bs) (any_same (has_key (key_of b)) (body_eq b) (key_eq b) bs) (place_same (has_key (key_of b)) (body_eq b) (key_eq b) bs) e
  where
    cases : (t : Bool) (m : ℕ) → t ≡ list_any (body_eq b) bs → m ≡ place_of (body_eq b) bs → cond t (Some m) None ≡ Some n → (list_any (body_eq b) bs ≡ true) × (n ≡ place_of (body_eq b) bs)
    cases true m p q r = (sym p, cc (q, r))
    cases false m p q r = cc r

pub missing : (b : Body) (bs : List Body) → place_by (key_of b) bs ≡ None → list_any (body_eq b) bs ≡ false
missing b bs e = cases (list_any (has_key (key_of b)) bs) (place_of (has_key (key_of b)) bs) (any_same (has_key (key_of b)) (body_eq b) (key_eq b) bs) e
  where
    cases : (t : Bool) (m : ℕ) → t ≡ list_any (body_eq b) bs → cond t (Some m) None ≡ None → list_any (body_eq b) bs ≡ false
    cases true m p r = cc r
    cases false m p r = sym p

-- ---- one more body
pub place_of-append : {X : Type 0} (p : X → Bool) (xs ys : List X) → list_any p xs ≡ true → place_of p (xs ++ ys) ≡ place_of p xs
place_of-append p [] ys e = absurd (false≢true e)
place_of-append p (x ∷ xs) ys e = cases (p x) refl (place_of-append p xs ys)
  where
    cases : (t : Bool) → t ≡ p x → (list_any p xs ≡ true → place_of p (xs ++ ys) ≡ place_of p xs) → cond t 0 (suc (place_of p (xs ++ ys))) ≡ cond t 0 (suc (place_of p xs))
    cases true q f = refl
    cases false q f = ap suc (f (ap (λ t. t || list_any p xs) q ∙ e))

pub place_of-past : {X : Type 0} (p : X → Bool) (xs ys : List X) → list_any p xs ≡ false → place_of p (xs ++ ys) ≡ length xs + place_of p ys
place_of-past p [] ys e = omega arith
place_of-past p (x ∷ xs) ys e = cases (p x) refl (place_of-past p xs ys)
  where
    cases : (t : Bool) → t ≡ p x → (list_any p xs ≡ false → place_of p (xs ++ ys) ≡ length xs + place_of p ys) → cond t 0 (suc (place_of p (xs ++ ys))) ≡ suc (length xs) + place_of p ys
    cases true q f = absurd (false≢true (sym e ∙ sym (ap (λ t. t || list_any p xs) q)))
    cases false q f = let h = f (ap (λ t. t || list_any p xs) q ∙ e) in omega (arith, h)

turned_keys : (xs ys : List ℤ) → pointwise int_eq xs ys ≡ pointwise int_eq ys xs
turned_keys xs ys = cases (pointwise int_eq xs ys) (pointwise int_eq ys xs) refl refl
  where
    one_way : (us vs : List ℤ) → pointwise int_eq us vs ≡ true → pointwise int_eq vs us ≡ true
    one_way us vs e = subst (λ (w : List ℤ). pointwise int_eq w us ≡ true) (same_lists int_eq int_eq_same us vs e) (lists_themselves int_eq int_eq_itself us)

    cases : (a b : Bool) → a ≡ pointwise int_eq xs ys → b ≡ pointwise int_eq ys xs → a ≡ b
    cases true true p q = refl
    cases false false p q = refl
    cases true false p q = absurd (false≢true (q ∙ one_way xs ys (sym p)))
    cases false true p q = absurd (false≢true (p ∙ one_way ys xs (sym q)))

pub place_by-push : (key : List ℤ) (bs : List Body) (b : Body) → list_any (body_eq b) bs ≡ false →
    place_by key (bs ++ b ∷ []) ≡ cond (pointwise int_eq (key_of b) key) (Some (length bs)) (place_by key bs)
place_by-push key bs b absent =
    ap (λ t. cond t (Some (place_of (has_key key) (bs ++ b ∷ []))) None) (list_any-append (has_key key) bs (b ∷ []))
    ∙ cases (list_any (has_key key) bs) (has_key key b) refl refl
    ∙ ap (λ t. cond t (Some (length bs)) (place_by key bs)) (turned_keys key (key_of b))
  where
    other : list_any (has_key key) bs ≡ true → has_key key b ≡ true → ⊥
    other e f =
        let same : key ≡ key_of b = same_lists int_eq int_eq_same key (key_of b) f in
        false≢true (sym absent ∙ sym (any_same (has_key (key_of b)) (body_eq b) (key_eq b) bs) ∙ subst (λ (k : List ℤ). list_any (has_key k) bs ≡ true) same e)

    cases : (t u : Bool) → t ≡ list_any (has_key key) bs → u ≡ has_key key b →
        cond (t || (u || false)) (Some (place_of (has_key key) (bs ++ b ∷ []))) None ≡ cond u (Some (length bs))
        (cond t (Some (place_of (has_key key) bs)) None)
    cases true true p q = absurd (other (sym p) (sym q))
    cases true false p q = ap Some (place_of-append (has_key key) bs (b ∷ []) (sym p))
    cases false true p q =
        let here = ap (λ t. cond t 0 (suc zero)) (sym q) in
        let past = place_of-past (has_key key) bs (b ∷ []) (sym p) in
        ap Some (omega (arith, here, past))
    cases false false p q = refl
