-- Sets and maps of literals, and normal forms.
use Rattle.std.proofs.Common.{◌≡◌, ℕ, ◌+◌, ◌<◌, Bool, true, false, cond, List, [], ◌∷◌, take, fold, length, get_or, Option, Some, None, refl, sym, ap, ◌∙◌, arith}
use Rattle.std.specs.Prelude.{ℤ, pos, ◌+ℤ◌, int_lt, unwrap_or}
use Rattle.std.specs.Ordering.{int_cmp, match_ordering, is_eq}
use Rattle.std.specs.declared.cmp.Ordering.TheVariants.{Less, Equal, Greater}
use Rattle.std.specs.Map.{lookup, keys_of}
use Rattle.std.specs.BTreeMap.{insert_entry, is_at}
use Rattle.std.specs.BTreeSet.{insert_key}
use Rattle.std.specs.List.Sorted.{IsStrictlySortedBy}
use Rattle.std.specs.Cmp.{int_cmp_total}
use Rattle.std.proofs.lemmas.Int.{ints}
use Rattle.std.proofs.lemmas.Map.{lookup-none}
use Rattle.std.proofs.lemmas.Map.Entries.{none_below_head}
use Rattle.std.proofs.lemmas.Map.Keys.{sorted_tail}
use Rattle.std.proofs.lemmas.List.{take_more}
use Rattle.std.proofs.lemmas.List.Sums.{fold_push}
use Rattle.asp_vars.specs.Numbering.{with_literal, with_weight}

pub insert_key-int : (ks : List ℤ) (l : ℤ) → insert_key int_cmp ks l ≡ with_literal l ks
insert_key-int [] l = refl
insert_key-int (k ∷ ks) l = cases (int_lt l k) (int_lt k l) (insert_key-int ks l)
  where
    cases : (b c : Bool) → insert_key int_cmp ks l ≡ with_literal l ks →
        match_ordering (cond b Less (cond c Greater Equal)) (l ∷ k ∷ ks) (k ∷ ks) (k ∷ insert_key int_cmp ks l) ≡ cond b (l ∷ k ∷ ks)
        (k ∷ cond c (with_literal l ks) ks)
    cases true c rest = refl
    cases false true rest = ap (λ xs. k ∷ xs) rest
    cases false false rest = refl

zero_plus : (w : ℤ) → pos 0 +ℤ w ≡ w
zero_plus w = omega (arith, ints)

-- the literal's weight, with one more added
abbrev pub sum_at : List (ℤ × ℤ) → ℤ × ℤ → ℤ
sum_at es i = unwrap_or (lookup (is_at (int_cmp i.0)) es) (pos 0) +ℤ i.1

pub insert_entry-sum : (es : List (ℤ × ℤ)) (i : ℤ × ℤ) → IsStrictlySortedBy int_cmp (keys_of es) → insert_entry int_cmp es i.0 (sum_at es i) ≡ with_weight i es
insert_entry-sum [] i up = ap (λ (w : ℤ). let e : ℤ × ℤ = (i.0, w) in e ∷ []) (zero_plus i.1)
insert_entry-sum (e ∷ es) i up = cases (int_lt i.0 e.0) (int_lt e.0 i.0) refl refl (insert_entry-sum es i (sorted_tail int_cmp e.0 (keys_of es) up))
  where
    below : int_lt i.0 e.0 ≡ true → lookup (is_at (int_cmp i.0)) es ≡ None
    below lt = lookup-none (is_at (int_cmp i.0)) es (none_below_head int_cmp_total i.0 e es up (ap (λ b. cond b Less (cond (int_lt e.0 i.0) Greater Equal)) lt)).1

    Goal : Bool → Bool → ℤ → Type 0
    Goal b c w =
        match_ordering (cond b Less (cond c Greater Equal)) ((i.0, w) ∷ e ∷ es) ((e.0, w) ∷ es) (e ∷ insert_entry int_cmp es i.0 w)
        ≡ cond b (i ∷ e ∷ es) (cond c (e ∷ with_weight i es) ((e.0, e.1 +ℤ i.1) ∷ es))

    found : Bool → Bool → Option ℤ
    found b c = cond (is_eq (cond b Less (cond c Greater Equal))) (Some e.1) (lookup (is_at (int_cmp i.0)) es)

    cases : (b c : Bool) → b ≡ int_lt i.0 e.0 → c ≡ int_lt e.0 i.0 → insert_entry int_cmp es i.0 (sum_at es i) ≡ with_weight i es → Goal b c (unwrap_or (found b c) (pos 0) +ℤ i.1)
    cases true c p q rest =
        ap (λ (w : ℤ). let first : ℤ × ℤ = (i.0, w) in first ∷ e ∷ es) (ap (λ (o : Option ℤ). unwrap_or o (pos 0) +ℤ i.1) (below (sym p)) ∙ zero_plus i.1)
    cases false true p q rest = ap (λ xs. e ∷ xs) rest
    cases false false p q rest = refl

-- one more turn of a loop over the list
pub fold_more : {A B : Type 0} (f : B → A → B) (b : B) (xs : List A) (i : ℕ) (d : A) → i < length xs → fold f b (take (i + 1) xs) ≡ f (fold f b (take i xs)) (get_or xs i d)
fold_more f b xs i d lt = ap (fold f b) (take_more xs i d lt) ∙ fold_push f b (take i xs) (get_or xs i d)
