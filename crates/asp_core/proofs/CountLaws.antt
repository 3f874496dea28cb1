-- A sorted set of different sets has as many as the list that keeps each set once.
use Rattle.std.proofs.Common.{◌≡◌, ℕ, ◌<◌, suc, Bool, true, false, cond, ◌&&◌, ◌||◌, eqb, length, List, [], ◌∷◌, ◌++◌, fold, map, refl, sym, ap, ◌∙◌, arith}
use Rattle.std.specs.List.{list_any}
use Rattle.std.specs.BTreeSet.{insert_key}
use Rattle.std.specs.Ordering.{match_ordering, nat_cmp}
use Rattle.std.specs.declared.cmp.Ordering.{Ordering}
use Rattle.std.specs.declared.cmp.Ordering.TheVariants.{Less, Equal, Greater}
use Rattle.std.specs.Cmp.Lexicographic.{same_text, slice_cmp}
use Rattle.std.proofs.lemmas.Bool.{or_from}
use Rattle.std.proofs.lemmas.Bool.Decides.{nat_tests}
use Rattle.std.proofs.lemmas.List.{length-append}
use Rattle.std.proofs.lemmas.List.Folds.{list_any-append}
use Rattle.std.proofs.lemmas.List.Sums.{fold_push}
use Rattle.asp_model.specs.Sets.{Atoms, IsAscending, same_set, set_cmp}
use Rattle.asp_rows.specs.declared.row.Row.{Row}
use Rattle.asp_rows.specs.Listed.{AreRows, IsRowOf}
use Rattle.asp_rows.proofs.OrderLaws.{row_cmp_is}
use Rattle.asp_core.specs.Boards.{distinct}
use Rattle.asp_core.specs.Sorting.{with_set, sorted_once}
use Rattle.asp_core.specs.Stored.{AreDifferent, Counts}
use Rattle.asp_core.proofs.SortingLaws.{Rise, apart, absent, before-all, tied, turned, same_itself, with_set-has, with_set-rise}

-- ---- one row more in a sorted set
abbrev pub row_cmp : Row → Row → Ordering
row_cmp x y = slice_cmp nat_cmp x.words.items y.words.items

-- where it is put by the order, so are the sets
ordering-map : (o : Ordering) (A B C : List Row) →
    map (λ (x : Row). x.set) (match_ordering o A B C) ≡ match_ordering o (map (λ (x : Row). x.set) A) (map (λ (x : Row). x.set) B)
    (map (λ (x : Row). x.set) C)
ordering-map Less A B C = refl
ordering-map Equal A B C = refl
ordering-map Greater A B C = refl

ordering-rows : (atoms : Atoms) (o : Ordering) (A B C : List Row) → AreRows atoms A → AreRows atoms B → AreRows atoms C → AreRows atoms (match_ordering o A B C)
ordering-rows atoms Less A B C a b c = a
ordering-rows atoms Equal A B C a b c = b
ordering-rows atoms Greater A B C a b c = c

pub insert-rows : (atoms : Atoms) (L : List Row) (r : Row) → AreRows atoms L → IsRowOf atoms r → AreRows atoms (insert_key row_cmp L r)
insert-rows atoms [] r rows row = (row, tt)
insert-rows atoms (x ∷ L) r rows row =
    ordering-rows atoms (row_cmp r x) (r ∷ x ∷ L) (x ∷ L) (x ∷ insert_key row_cmp L r) (row, rows) rows (rows.0, insert-rows atoms L r rows.1 row)

pub insert-sets : (atoms : Atoms) → IsAscending atoms → (L : List Row) (r : Row) → AreRows atoms L → IsRowOf atoms r →
    map (λ (x : Row). x.set) (insert_key row_cmp L r) ≡ with_set r.set (map (λ (x : Row). x.set) L)
insert-sets atoms up [] r rows row = refl
insert-sets atoms up (x ∷ L) r rows row =
    let sets : List Row → List Atoms = map (λ (y : Row). y.set) in
    ordering-map (row_cmp r x) (r ∷ x ∷ L) (x ∷ L) (x ∷ insert_key row_cmp L r)
    ∙ ap (λ (o : Ordering). match_ordering o (r.set ∷ x.set ∷ sets L) (x.set ∷ sets L) (x.set ∷ sets (insert_key row_cmp L r))) (row_cmp_is atoms up r x row rows.0)
    ∙ ap (λ (X : List Atoms). match_ordering (set_cmp r.set x.set) (r.set ∷ x.set ∷ sets L) (x.set ∷ sets L) (x.set ∷ X)) (insert-sets atoms up L r rows.1 row)

pub sorted_once-push : (A : List Atoms) (S : Atoms) → sorted_once (A ++ S ∷ []) ≡ with_set S (sorted_once A)
sorted_once-push A S = fold_push (λ (Ts : List Atoms) (T : Atoms). with_set T Ts) [] A S

-- one set more is delivered, and put into the sorted set where there is a limit
pub different-delivered : (limit : ℕ) (atoms : Atoms) (D D' : List Row) (A A' : List Atoms) (S : Atoms) → (0 < limit → AreDifferent atoms D A) → (0 < limit → Counts atoms D D' S) → A' ≡ A ++ S ∷ [] →
    0 < limit → AreDifferent atoms D' A'
different-delivered limit atoms D D' A A' S sorted counts more some = record {
  rows = (counts some).rows;
  sorted = (counts some).more ∙ ap (with_set S) (sorted some).sorted ∙ sym (sorted_once-push A S) ∙ sym (ap sorted_once more);
}

-- ---- how many
eqb_comm : (a b : ℕ) → eqb a b ≡ eqb b a
eqb_comm a b = grind (arith, nat_tests)

abbrev one_more : Bool → ℕ → ℕ
one_more there n = cond there n (suc n)

lifted : (there : Bool) (n : ℕ) → suc (one_more there n) ≡ one_more there (suc n)
lifted true n = refl
lifted false n = refl

same_set_swap : (S T : Atoms) → same_set S T ≡ same_set T S
same_set_swap [] [] = refl
same_set_swap [] (b ∷ T) = refl
same_set_swap (a ∷ S) [] = refl
same_set_swap (a ∷ S) (b ∷ T) = ap (λ x. x && same_set S T) (eqb_comm a b) ∙ ap (λ x. eqb b a && x) (same_set_swap S T)

other : (S T : Atoms) → set_cmp S T ≡ Greater → same_set S T ≡ false
other S T e = same_set_swap S T ∙ apart T S (turned S T e)

length-with_set : (S : Atoms) (L : List Atoms) → Rise L → length (with_set S L) ≡ one_more (list_any (same_set S) L) (length L)
length-with_set S [] up = refl
length-with_set S (T ∷ L) up = here (set_cmp S T) refl (length-with_set S L up.1)
  where
    here : (o : Ordering) → o ≡ set_cmp S T → length (with_set S L) ≡ one_more (list_any (same_set S) L) (length L) →
        length (match_ordering o (S ∷ T ∷ L) (T ∷ L) (T ∷ with_set S L)) ≡ one_more (list_any (same_set S) (T ∷ L)) (length (T ∷ L))
    here Less q rest = ap (λ x. one_more x (length (T ∷ L))) (sym (or_from (same_set S T) (list_any (same_set S) L) (apart S T (sym q)) (absent S L (before-all S T L (sym q) up.0))))
    here Equal q rest = ap (λ x. one_more (x || list_any (same_set S) L) (length (T ∷ L))) (sym (ap (λ (X : Atoms). same_set S X) (sym (tied S T (sym q))) ∙ same_itself S))
    here Greater q rest =
        ap suc rest ∙ lifted (list_any (same_set S) L) (length L) ∙ ap (λ x. one_more (x || list_any (same_set S) L) (length (T ∷ L))) (sym (other S T (sym q)))

or_absorb : (a b : Bool) → (b ≡ true → a ≡ true) → a ≡ (a || b)
or_absorb true b h = refl
or_absorb false true h = h refl
or_absorb false false h = refl

or_nil : (a : Bool) → (a || false) ≡ a
or_nil true = refl
or_nil false = refl

or_turned : (a b : Bool) → (a || b) ≡ (b || a)
or_turned true true = refl
or_turned true false = refl
or_turned false true = refl
or_turned false false = refl

any-grown : (S T : Atoms) (Y : List Atoms) → list_any (same_set S) (cond (list_any (same_set T) Y) Y (Y ++ T ∷ [])) ≡ (list_any (same_set S) Y || same_set S T)
any-grown S T Y = here (list_any (same_set T) Y) refl
  where
    here : (x : Bool) → x ≡ list_any (same_set T) Y → list_any (same_set S) (cond x Y (Y ++ T ∷ [])) ≡ (list_any (same_set S) Y || same_set S T)
    here true q = or_absorb (list_any (same_set S) Y) (same_set S T) (λ e. ap (λ (R : Atoms). list_any (same_set R) Y) (same_text S T (sym e)) ∙ sym q)
    here false q = list_any-append (same_set S) Y (T ∷ []) ∙ ap (λ x. list_any (same_set S) Y || x) (or_nil (same_set S T))

length-grown : (x : Bool) (Y : List Atoms) (T : Atoms) → length (cond x Y (Y ++ T ∷ [])) ≡ one_more x (length Y)
length-grown true Y T = refl
length-grown false Y T = omega (arith, length-append Y (T ∷ []))

pub length-sorted_once : (A : List Atoms) → length (sorted_once A) ≡ length (distinct A)
length-sorted_once A = from [] [] A tt (λ R. refl) refl
  where
    from : (Z Y A : List Atoms) → Rise Z → ((R : Atoms) → list_any (same_set R) Z ≡ list_any (same_set R) Y) → length Z ≡ length Y →
        length (fold (λ Ts S. with_set S Ts) Z A) ≡ length (fold (λ Ts S. cond (list_any (same_set S) Ts) Ts (Ts ++ S ∷ [])) Y A)
    from Z Y [] up same long = long
    from Z Y (S ∷ A) up same long =
        from (with_set S Z) (cond (list_any (same_set S) Y) Y (Y ++ S ∷ [])) A (with_set-rise S Z up)
        (λ R. with_set-has S Z R ∙ ap (λ x. same_set R S || x) (same R) ∙ or_turned (same_set R S) (list_any (same_set R) Y) ∙ sym (any-grown R S Y))
        (length-with_set S Z up ∙ ap (λ x. one_more x (length Z)) (same S) ∙ ap (one_more (list_any (same_set S) Y)) long ∙ sym (length-grown (list_any (same_set S) Y) Y S))
