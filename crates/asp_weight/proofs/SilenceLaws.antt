-- The silence of a program's weight bodies is that of their rows.
use Rattle.std.proofs.Common.{◌≡◌, ℕ, suc, ◌+◌, ◌-◌, ◌<◌, ◌≤◌, Bool, true, false, not, cond, ◌&&◌, ◌||◌, ltb, List, [], ◌∷◌, length, map, filter, get_or, Option, Some, None, ℤ, pos, negsuc, ◌+ℤ◌, ◌-ℤ◌, int_lt, int_le, refl, sym, ap, ◌∙◌, arith}
use Rattle.std.specs.List.{AllByRecursion, list_all, list_any}
use Rattle.std.specs.List.Sorted.{IsPermutation}
use Rattle.std.specs.Option.{is_none}
use Rattle.std.specs.Int.RustNames.{unsigned_abs}
use Rattle.std.proofs.lemmas.Bool.{false≢true}
use Rattle.std.proofs.lemmas.Bool.Decides.{nat_tests}
use Rattle.std.proofs.lemmas.Int.{ints}
use Rattle.std.proofs.lemmas.List.Elements.{All-from_recursion}
use Rattle.std.proofs.lemmas.List.Folds.{list_all_at}
use Rattle.std.proofs.lemmas.List.Sorted.{sum_by-IsPermutation, list_any-IsPermutation}
use Rattle.std.proofs.lemmas.List.Sums.{sum_by-cons, get_or-le-sum_by}
use Rattle.asp_model.specs.declared.program.Body.{Body}
use Rattle.asp_model.specs.declared.program.Body.TheVariants as body
use Rattle.asp_model.specs.declared.program.Program.{Program}
use Rattle.asp_model.specs.Sound.{IsSound}
use Rattle.asp_model.proofs.MemberLaws.{each-filter}
use Rattle.asp_vars.specs.Literals.{Literal, complement, value_of, holds_in, agrees}
use Rattle.asp_vars.specs.Numbering.{bodies_of, var_of_form, literal_of}
use Rattle.asp_trail.specs.Fixpoint.{is_open}
use Rattle.asp_trail.proofs.EntryLaws.{same_default}
use Rattle.asp_weight.specs.declared.item.Item.{Item}
use Rattle.asp_weight.specs.declared.item.Shape.{Shape}
use Rattle.asp_weight.specs.Silence.{weight_that, low_of, high_of, opens_pass, is_silent_as, is_silent_body, is_silent}
use Rattle.asp_weight.specs.Rows.{weight_if, sum_where, total_of, item_of, is_weighed, weighed_bodies, nth_weighed, clamped, IsRow, AreRows, shape_at, row_at, need_of, is_under, is_silent_row_as, is_silent_row}
use Rattle.asp_weight.proofs.PositiveLaws.{HasPositive, AreWeights, bodies_positive}
use Rattle.asp_weight.proofs.SumLaws.{list_all_same, total_split}

-- ---- from integers to naturals
sum_pos : (b : Bool) (z : ℤ) (n : ℕ) → z ≡ pos (unsigned_abs z) → cond b z (pos 0) +ℤ pos n ≡ pos (cond b (unsigned_abs z) 0 + n)
sum_pos true z n e = ap (λ x. x +ℤ pos n) e
sum_pos false z n e = refl

pub weight_that-sum : (t : Literal → Bool) (p : Program) (items : List (ℤ × ℤ)) → AreWeights items → weight_that t p items ≡ pos (sum_where t true (map (item_of p) items))
weight_that-sum t p [] w = refl
weight_that-sum t p (i ∷ items) w =
    ap (λ z. cond (t (literal_of p i.0)) i.1 (pos 0) +ℤ z) (weight_that-sum t p items w.1)
    ∙ (sum_pos (t (literal_of p i.0)) i.1 (sum_where t true (map (item_of p) items)) w.0.1
    ∙ ap pos (sym (sum_by-cons (weight_if t true) (item_of p i) (map (item_of p) items))))

opens_row : (t : ℤ → Bool) (p : Program) (a : List (Option Bool)) (items : List (ℤ × ℤ)) → AreWeights items →
    opens_pass t p a items ≡ list_all (λ i. not (is_open a i.lit) || t (pos i.weight)) (map (item_of p) items)
opens_row t p a [] w = refl
opens_row t p a (i ∷ items) w =
    ap (λ z. (not (is_open a (literal_of p i.0)) || t z) && opens_pass t p a items) w.0.1
    ∙ ap (λ b. (not (is_open a (literal_of p i.0)) || t (pos (unsigned_abs i.1))) && b) (opens_row t p a items w.1)

-- ---- in another order
list_all-any : {X : Type 0} → (t : X → Bool) (xs : List X) → list_all t xs ≡ not (list_any (λ x. not (t x)) xs)
list_all-any t [] = refl
list_all-any t (x ∷ xs) = ap (λ b. t x && b) (list_all-any t xs) ∙ turn (t x) (list_any (λ y. not (t y)) xs)
  where
    turn : (a b : Bool) → (a && not b) ≡ not (not a || b)
    turn true b = refl
    turn false b = refl

list_all-permutation : {X : Type 0} → (t : X → Bool) (xs ys : List X) → IsPermutation xs ys → list_all t xs ≡ list_all t ys
list_all-permutation t xs ys h = list_all-any t xs ∙ (ap not (list_any-IsPermutation (λ x. not (t x)) xs ys h) ∙ sym (list_all-any t ys))

-- ---- the tests
low_test : (bound : ℤ) (l : ℕ) → int_lt (pos l) bound ≡ ltb l (clamped bound)
low_test (pos n) l = grind (arith, ints, nat_tests)
low_test (negsuc n) l = grind (arith, ints, nat_tests)

high_test : (bound : ℤ) (h m total : ℕ) → total ≡ h + m → int_le bound (pos h) ≡ ltb m (total + 1 - clamped bound)
high_test (pos n) h m total e = grind (arith, ints, nat_tests)
high_test (negsuc n) h m total e = grind (arith, ints, nat_tests)

low_open : (bound : ℤ) (l w : ℕ) → int_lt (pos w) (bound -ℤ pos l) ≡ ltb w (clamped bound - l)
low_open (pos n) l w = grind (arith, ints, nat_tests)
low_open (negsuc n) l w = grind (arith, ints, nat_tests)

high_open : (bound : ℤ) (h m w total : ℕ) → total ≡ h + m → w ≤ h → int_le (pos w) (pos h -ℤ bound) ≡ ltb w (total + 1 - clamped bound - m)
high_open (pos n) h m w total e l = grind (arith, ints, nat_tests)
high_open (negsuc n) h m w total e l = grind (arith, ints, nat_tests)

-- an open literal counts among those that aren't false
open_counts : (a : List (Option Bool)) (row : List Item) (k : ℕ) (d : Item) → k < length row → is_open a (get_or row k d).lit ≡ true →
    (get_or row k d).weight ≤ sum_where (λ l. not (holds_in a (complement l))) true row
open_counts a row k d h o =
    omega (arith, get_or-le-sum_by (weight_if (λ l. not (holds_in a (complement l))) true) row k d h, counts (value_of a (get_or row k d).lit.var) o)
  where
    counts : (v : Option Bool) → is_none v ≡ true → cond (not (agrees v (complement (get_or row k d).lit))) (get_or row k d).weight 0 ≡ (get_or row k d).weight
    counts None e = refl
    counts (Some b) e = absurd (false≢true e)

when_open : (b x y : Bool) → (b ≡ true → x ≡ y) → (not b || x) ≡ (not b || y)
when_open true x y f = f refl
when_open false x y f = refl

-- ---- a body
module _ (p : Program) (a : List (Option Bool)) (bound : ℤ) (items : List (ℤ × ℤ)) (s : Shape) (row : List Item) (w : AreWeights items) (same : IsPermutation (map (item_of p) items) row)
    (reach : s.reach ≡ clamped bound) (miss : s.miss ≡ total_of row + 1 - s.reach) where
  abbrev high : ℕ
  high = sum_where (λ l. not (holds_in a (complement l))) true row

  abbrev low : ℕ
  low = sum_where (holds_in a) true row

  abbrev lost : ℕ
  lost = sum_where (holds_in a) false row

  pub weight_that-row : (t : Literal → Bool) → weight_that t p items ≡ pos (sum_where t true row)
  weight_that-row t = weight_that-sum t p items w ∙ ap pos (sym (sum_by-IsPermutation (weight_if t true) (map (item_of p) items) row same))

  under_low : int_lt (low_of p a items) bound ≡ is_under true a s row
  under_low = ap (λ z. int_lt z bound) (weight_that-row (holds_in a)) ∙ (low_test bound low ∙ ap (ltb low) (sym reach))

  misses : total_of row + 1 - clamped bound ≡ s.miss
  misses = omega (arith, reach, miss)

  over_high : int_le bound (high_of p a items) ≡ is_under false a s row
  over_high =
      ap (λ z. int_le bound z) (weight_that-row (λ l. not (holds_in a (complement l)))) ∙ (high_test bound high lost (total_of row) (total_split (holds_in a) row) ∙ ap (ltb lost) misses)

  low_opens : opens_pass (λ z. int_lt z (bound -ℤ low_of p a items)) p a items ≡ list_all (λ i. not (is_open a i.lit) || ltb i.weight (need_of true s - low)) row
  low_opens =
      opens_row (λ z. int_lt z (bound -ℤ low_of p a items)) p a items w
      ∙ (list_all-permutation (λ i. not (is_open a i.lit) || int_lt (pos i.weight) (bound -ℤ low_of p a items)) (map (item_of p) items) row same
      ∙ list_all_same (λ i. not (is_open a i.lit) || int_lt (pos i.weight) (bound -ℤ low_of p a items)) (λ i. not (is_open a i.lit) || ltb i.weight (need_of true s - low)) row
      (λ k d h. ap (λ b. not (is_open a (get_or row k d).lit) || b)
      (ap (λ z. int_lt (pos (get_or row k d).weight) (bound -ℤ z)) (weight_that-row (holds_in a))
      ∙ (low_open bound low (get_or row k d).weight ∙ ap (λ n. ltb (get_or row k d).weight (n - low)) (sym reach)))))

  high_opens : opens_pass (λ z. int_le z (high_of p a items -ℤ bound)) p a items ≡ list_all (λ i. not (is_open a i.lit) || ltb i.weight (need_of false s - lost)) row
  high_opens =
      opens_row (λ z. int_le z (high_of p a items -ℤ bound)) p a items w
      ∙ (list_all-permutation (λ i. not (is_open a i.lit) || int_le (pos i.weight) (high_of p a items -ℤ bound)) (map (item_of p) items) row same
      ∙ list_all_same (λ i. not (is_open a i.lit) || int_le (pos i.weight) (high_of p a items -ℤ bound)) (λ i. not (is_open a i.lit) || ltb i.weight (need_of false s - lost)) row
      (λ k d h. when_open (is_open a (get_or row k d).lit) _ _ (λ o.
      ap (λ z. int_le (pos (get_or row k d).weight) (z -ℤ bound)) (weight_that-row (λ l. not (holds_in a (complement l))))
      ∙ (high_open bound high lost (get_or row k d).weight (total_of row) (total_split (holds_in a) row) (open_counts a row k d h o) ∙ ap (λ n. ltb (get_or row k d).weight (n - lost)) misses))))

  silent_as : (o : Option Bool) → is_silent_as o p a bound items ≡ is_silent_row_as o a s row
  silent_as None = ap (λ b. b && int_le bound (high_of p a items)) under_low ∙ ap (λ b. is_under true a s row && b) over_high
  silent_as (Some true) =
      ap (λ b. b && opens_pass (λ z. int_le z (high_of p a items -ℤ bound)) p a items) over_high ∙ ap (λ b. is_under false a s row && b) high_opens
  silent_as (Some false) =
      ap (λ b. b && opens_pass (λ z. int_lt z (bound -ℤ low_of p a items)) p a items) under_low ∙ ap (λ b. is_under true a s row && b) low_opens

pub silent_body : (p : Program) (a : List (Option Bool)) (b : Body) (s : Shape) (row : List Item) → is_weighed b ≡ true → HasPositive b → IsRow p b s row → is_silent_body p a b ≡ is_silent_row a s row
silent_body p a (body.All literals) s row e w r = absurd (false≢true e)
silent_body p a (body.AtLeast bound items) s row e w r =
    silent_as p a bound items s row w r.ordered.items r.reach r.miss (value_of a (var_of_form p (body.AtLeast bound items))) ∙ ap (λ v. is_silent_row_as (value_of a v) a s row) (sym r.var)

-- ---- a program
only_weighed : (p : Program) (a : List (Option Bool)) (bs : List Body) → list_all (is_silent_body p a) bs ≡ list_all (is_silent_body p a) (filter is_weighed bs)
only_weighed p a [] = refl
only_weighed p a (body.All literals ∷ bs) = only_weighed p a bs
only_weighed p a (body.AtLeast bound items ∷ bs) = ap (λ b. is_silent_body p a (body.AtLeast bound items) && b) (only_weighed p a bs)

are_weighed : (bs : List Body) → AllByRecursion (λ b. is_weighed b ≡ true) (filter is_weighed bs)
are_weighed [] = tt
are_weighed (body.All literals ∷ bs) = are_weighed bs
are_weighed (body.AtLeast bound items ∷ bs) = (refl, are_weighed bs)

list_all_of : {X : Type 0} → (t : X → Bool) (xs : List X) → ((k : ℕ) (d : X) → k < length xs → t (get_or xs k d) ≡ true) → list_all t xs ≡ true
list_all_of t [] f = refl
list_all_of t (x ∷ xs) f = ap (λ b. b && list_all t xs) (f 0 x (omega arith)) ∙ list_all_of t xs (λ k d h. f (suc k) d (omega arith))

pub weighed_at : (p : Program) (w : ℕ) → w < length (weighed_bodies p) → is_weighed (nth_weighed p w) ≡ true
weighed_at p w h = All-from_recursion (λ b. is_weighed b ≡ true) (weighed_bodies p) (are_weighed (bodies_of p)) w (body.All []) h

pub positive_at : (p : Program) (w : ℕ) → IsSound p → w < length (weighed_bodies p) → HasPositive (nth_weighed p w)
positive_at p w sound h =
    All-from_recursion HasPositive (weighed_bodies p) (each-filter HasPositive is_weighed (bodies_of p) (bodies_positive p sound)) w (body.All []) h

silent_at : (p : Program) (a : List (Option Bool)) (shapes : List Shape) (rows : List (List Item)) (w : ℕ) → IsSound p → AreRows p (weighed_bodies p) shapes rows → w < length rows →
    is_silent_body p a (nth_weighed p w) ≡ is_silent_row a (shape_at shapes w) (row_at rows w)
silent_at p a shapes rows w sound r h =
    let l : w < length (weighed_bodies p) = omega (arith, h, r.whole) in
    silent_body p a (nth_weighed p w) (shape_at shapes w) (row_at rows w) (weighed_at p w l) (positive_at p w sound l) (r.row w l)

pub all_silent : (p : Program) (a : List (Option Bool)) (shapes : List Shape) (rows : List (List Item)) → IsSound p → AreRows p (weighed_bodies p) shapes rows →
    ((w : ℕ) → w < length rows → is_silent_row a (shape_at shapes w) (row_at rows w) ≡ true) → is_silent p a ≡ true
all_silent p a shapes rows sound r f =
    only_weighed p a (bodies_of p)
    ∙ list_all_of (is_silent_body p a) (weighed_bodies p) (λ w d h.
    ap (is_silent_body p a) (same_default (weighed_bodies p) w d (body.All []) h)
    ∙ (silent_at p a shapes rows w sound r (omega (arith, h, r.whole)) ∙ f w (omega (arith, h, r.whole))))

pub one_speaks : (p : Program) (a : List (Option Bool)) (shapes : List Shape) (rows : List (List Item)) (w : ℕ) → IsSound p → AreRows p (weighed_bodies p) shapes rows → w < length rows →
    is_silent_row a (shape_at shapes w) (row_at rows w) ≡ false → is_silent p a ≡ false
one_speaks p a shapes rows w sound r h q =
    only_weighed p a (bodies_of p)
    ∙ list_all_at (is_silent_body p a) (weighed_bodies p) w (body.All []) (omega (arith, h, r.whole)) (silent_at p a shapes rows w sound r h ∙ q)
