-- What was promised is sought in the list.
use Rattle.std.proofs.Common.{◌≡◌, ℕ, zero, suc, ◌+◌, ◌<◌, ◌≤◌, List, [], ◌∷◌, map, length, take, drop, get_or, Ordering, refl, sym, ap, ◌∙◌, subst, arith, Err, inl, inr}
use Rattle.std.specs.Prelude.{Contains}
use Rattle.std.specs.List.{AllByRecursion}
use Rattle.std.specs.declared.cmp.Ordering.TheVariants.{Less, Equal, Greater}
use Rattle.std.specs.Ordering.{is_eq, nat_cmp, ordering_index, ordering_reverse}
use Rattle.std.specs.List.Sorted.{IsBinarySearchResult, IsNonDecreasingBy}
use Rattle.std.specs.Cmp.Lexicographic.{same_text, slice_cmp}
use Rattle.std.proofs.lemmas.Bool.{cases_lt}
use Rattle.std.proofs.lemmas.List.{length-map, take-map, drop-map}
use Rattle.std.proofs.lemmas.List.Elements.{All-from_recursion}
use Rattle.asp_model.specs.declared.program.Program.{Program}
use Rattle.asp_model.specs.Sets.{Atoms, IsAscending, set_cmp}
use Rattle.asp_model.specs.Models.{answers}
use Rattle.asp_model.specs.Orders.{sets_total, sets_tie}
use Rattle.asp_model.proofs.OrderLaws.{cmp_from_before}
use Rattle.asp_model.proofs.ModelLaws.{answers-are, stable-subset}
use Rattle.asp_proof.specs.declared.proof.Sought.{Sought}
use Rattle.asp_proof.specs.declared.proof.Sought.TheVariants.{Best}
use Rattle.asp_proof.specs.Changes.{last_from}
use Rattle.asp_rows.specs.declared.row.Row.{Row}
use Rattle.asp_rows.specs.Listed.{AreRows, IsRowOf}
use Rattle.asp_checker.specs.Right.{promised}
use Rattle.asp_checker.specs.Judging.{AreRightAnswers, AreSorted}
use Rattle.asp_checker.proofs.SetListLaws.{row_at}

-- ---- the order of the list
pub sorted_answers : (p : Program) (o : Sought) (listed : List Atoms) → AreRightAnswers p o listed → AreSorted listed
sorted_answers p o listed h i j d lt within =
    cmp_from_before (get_or listed i d) (get_or listed j d) (ascending i d (omega arith)) (ascending j d within) (h.order i j d lt within)
  where
    ascending : (k : ℕ) (d : Atoms) → k < length listed → IsAscending (get_or listed k d)
    ascending k d lt =
        let member = All-from_recursion (Contains (answers p)) listed h.members k d lt in
        (stable-subset p (get_or listed k d) ((answers-are p (get_or listed k d)).0 member).0).0

equal_sets : (S T : Atoms) → set_cmp S T ≡ Equal → S ≡ T
equal_sets S T e = same_text S T (sym (sets_tie S T ∙ ap is_eq e))

at_most : (m n x y : ℕ) → m ≡ x → n ≡ y → x ≤ y → m ≤ n
at_most m n x y e f le = omega arith

not_above : (o : Ordering) → ordering_index o ≤ ordering_index Greater
not_above Less = omega arith
not_above Equal = omega arith
not_above Greater = omega arith

index_rises : (A B S : Atoms) → set_cmp A B ≡ Less → ordering_index (set_cmp A S) ≤ ordering_index (set_cmp B S)
index_rises A B S less = cases (set_cmp B S) refl
  where
    cases : (o : Ordering) → o ≡ set_cmp B S → ordering_index (set_cmp A S) ≤ ordering_index (set_cmp B S)
    cases Less q =
        let e : set_cmp A S ≡ Less = sets_total.trans A B S less (sym q) in
        at_most _ _ (ordering_index Less) (ordering_index Less) (ap ordering_index e) (ap ordering_index (sym q)) (omega arith)
    cases Equal q =
        let e : set_cmp A S ≡ Less = ap (set_cmp A) (sym (equal_sets B S (sym q))) ∙ less in
        at_most _ _ (ordering_index Less) (ordering_index Equal) (ap ordering_index e) (ap ordering_index (sym q)) (omega arith)
    cases Greater q = at_most _ _ (ordering_index (set_cmp A S)) (ordering_index Greater) refl (ap ordering_index (sym q)) (not_above (set_cmp A S))

rises : (listed : List Atoms) (S : Atoms) → AreSorted listed → IsNonDecreasingBy (λ y. ordering_index (set_cmp y S)) listed
rises listed S sorted i j d le lt = elim (cases_lt i j) [
  | inl less ↦ index_rises (get_or listed i d) (get_or listed j d) S (sorted i j d less lt)
  | inr past ↦ (
      let same : i ≡ j = omega arith in
      subst (λ k. ordering_index (set_cmp (get_or listed i d) S) ≤ ordering_index (set_cmp (get_or listed k d) S)) same (omega arith))
]

-- ---- what a search among rows says
pub listed_at : (atoms : Atoms) (rows : List Row) (x : Row) (i : ℕ) → IsAscending atoms → AreRows atoms rows → IsRowOf atoms x → i < length rows →
    ((d : Row) → slice_cmp nat_cmp (get_or rows i d).words.items x.words.items ≡ Equal) → Contains (map (λ (r : Row). r.set) rows) x.set
listed_at atoms rows x i up all of lt h =
    let sets = map (λ (r : Row). r.set) rows in
    let size = length-map rows (λ (r : Row). r.set) in
    (i, omega (arith, size, lt), equal_sets (get_or sets i x.set) x.set (sym (row_at atoms rows x i x up all of lt) ∙ h x))

rows_rise : (atoms : Atoms) (rows : List Row) (x : Row) → IsAscending atoms → AreRows atoms rows → IsRowOf atoms x → AreSorted (map (λ (r : Row). r.set) rows) →
    IsNonDecreasingBy (λ (y : Row). ordering_index (slice_cmp nat_cmp y.words.items x.words.items)) rows
rows_rise atoms rows x up all of sorted i j d le lt =
    let sets = map (λ (r : Row). r.set) rows in
    let size = length-map rows (λ (r : Row). r.set) in
    at_most _ _ (ordering_index (set_cmp (get_or sets i d.set) x.set)) (ordering_index (set_cmp (get_or sets j d.set) x.set))
    (ap ordering_index (row_at atoms rows x i d up all of (omega arith))) (ap ordering_index (row_at atoms rows x j d up all of lt))
    (rises sets x.set sorted i j d.set le (omega (arith, size, lt)))

before_itself : (S : Atoms) → set_cmp S S ≡ Less → Less ≡ Greater
before_itself S e = sym e ∙ sets_total.antisymm S S ∙ ap ordering_reverse e

behind_itself : (S : Atoms) → set_cmp S S ≡ Greater → Greater ≡ Less
behind_itself S e = sym e ∙ sets_total.antisymm S S ∙ ap ordering_reverse e

pub not_listed : (atoms : Atoms) (rows : List Row) (x : Row) (i : ℕ) → IsAscending atoms → AreRows atoms rows → IsRowOf atoms x →
    AreSorted (map (λ (r : Row). r.set) rows) →
    IsBinarySearchResult (λ (y : Row). slice_cmp nat_cmp y.words.items x.words.items) rows (Err i) → Contains (map (λ (r : Row). r.set) rows) x.set → ⊥
not_listed atoms rows x i up all of sorted h c =
    let size = length-map rows (λ (r : Row). r.set) in
    let within : c.0 < length rows = omega (arith, size, c.1) in
    let parted = h (rows_rise atoms rows x up all of sorted) in
    let same : set_cmp x.set x.set ≡ slice_cmp nat_cmp (get_or rows c.0 x).words.items x.words.items =
    ap (λ (T : Atoms). set_cmp T x.set) (sym c.2) ∙ sym (row_at atoms rows x c.0 x up all of within) in
    elim (cases_lt c.0 i) [
      | inl lt ↦ (
          let e = before_itself x.set (same ∙ parted.0 c.0 x (omega arith) lt) in
          absurd cc)
      | inr le ↦ (
          let e = behind_itself x.set (same ∙ parted.1 c.0 x le within) in
          absurd cc)
    ]

-- ---- the last set alone
last_alone : (S : Atoms) (found : List Atoms) (n : ℕ) → length (S ∷ found) ≡ n + 1 → take 1 (drop n (S ∷ found)) ≡ last_from S found ∷ []
last_alone S [] zero e = refl
last_alone S [] (suc n) e = absurd (omega (arith, e))
last_alone S (T ∷ found) zero e = absurd (omega (arith, e))
last_alone S (T ∷ found) (suc n) e = last_alone T found n (omega (arith, e))

pub last_promised : (found : List Atoms) (n m : ℕ) → length found ≡ n + 1 → m ≡ 1 → take m (drop n found) ≡ promised Best found
last_promised [] n m e f = absurd (omega (arith, e))
last_promised (S ∷ found) n m e f = ap (λ k. take k (drop n (S ∷ found))) f ∙ last_alone S found n e

-- ---- the rows that are promised
pub rows_whole : (rows : List Row) (n m : ℕ) → length rows ≡ n + 1 → m ≡ 1 → map (λ (r : Row). r.set) (take m (drop n rows)) ≡ promised Best (map (λ (r : Row). r.set) rows)
rows_whole rows n m e f =
    let size = length-map rows (λ (r : Row). r.set) in
    sym (take-map (λ (r : Row). r.set) m (drop n rows)) ∙ ap (take m) (sym (drop-map (λ (r : Row). r.set) n rows)) ∙ last_promised (map (λ (r : Row). r.set) rows) n m (omega (arith, size, e)) f

pub each_dropped : {X : Type 0} (P : X → Type 0) (n : ℕ) (xs : List X) → AllByRecursion P xs → AllByRecursion P (drop n xs)
each_dropped P zero xs h = h
each_dropped P (suc n) [] h = tt
each_dropped P (suc n) (x ∷ xs) h = each_dropped P n xs h.1

pub each_taken : {X : Type 0} (P : X → Type 0) (n : ℕ) (xs : List X) → AllByRecursion P xs → AllByRecursion P (take n xs)
each_taken P zero xs h = tt
each_taken P (suc n) [] h = tt
each_taken P (suc n) (x ∷ xs) h = (h.0, each_taken P n xs h.1)
