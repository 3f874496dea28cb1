-- How rows and shapes are gathered.
use Rattle.std.proofs.Common.{◌≡◌, ◌≢◌, ℕ, ◌+◌, ◌-◌, ◌<◌, ◌≤◌, ◌^◌, Bool, true, false, cond, eqb, List, [], ◌∷◌, ◌++◌, length, take, drop, map, zip, get_or, Option, Some, None, ℤ, refl, sym, ap, ◌∙◌, subst, arith}
use Rattle.std.specs.List.{AllPairs, AllByRecursion}
use Rattle.std.specs.List.Sorted.{IsPermutation}
use Rattle.std.specs.Int.RustNames.{unsigned_abs}
use Rattle.std.proofs.lemmas.Bool.{eqb-true}
use Rattle.std.proofs.lemmas.Bool.Decides.{nat_tests}
use Rattle.std.proofs.lemmas.List.{length_push, get_or_push, get_or_append_left, append-nil, take_at}
use Rattle.std.proofs.lemmas.List.Elements.{filter_more, All-from_recursion}
use Rattle.std.proofs.lemmas.List.Sorted.{All-permutation}
use Rattle.asp_model.specs.declared.program.Body.{Body}
use Rattle.asp_model.specs.declared.program.Body.TheVariants as body
use Rattle.asp_model.specs.declared.program.Program.{Program}
use Rattle.asp_model.specs.Models.{atoms_of}
use Rattle.asp_model.specs.Sound.{IsSound}
use Rattle.asp_vars.specs.Literals.{Literal}
use Rattle.asp_vars.specs.Numbering.{bodies_of, nth_body, var_count, var_of_form, literal_in}
use Rattle.asp_vars.specs.Tabled.{bound_of, form_literals, form_weights, IsAtomVar}
use Rattle.asp_weight.specs.declared.item.Item.{Item}
use Rattle.asp_weight.specs.declared.item.Shape.{Shape}
use Rattle.asp_weight.specs.Rows.{item_of, row_of, is_weighed, first_weighed, total_of, clamped, reach_of, IsOrdered, IsRow, AreRows, shape_at, row_at}
use Rattle.asp_weight.proofs.PositiveLaws.{HasPositive, AreWeights, bodies_positive}

abbrev joined : Literal × ℤ → Item
joined x = record { weight = unsigned_abs x.1; lit = x.0 }

zipped : (atoms : List ℕ) (items : List (ℤ × ℤ)) →
    map joined (zip (map (λ i. literal_in atoms i.0) items) (map (λ i. i.1) items)) ≡ map (λ i. joined (literal_in atoms i.0, i.1)) items
zipped atoms [] = refl
zipped atoms (i ∷ items) = ap (λ xs. joined (literal_in atoms i.0, i.1) ∷ xs) (zipped atoms items)

zip_nothing : (ls : List Literal) → (let none : List ℤ = [] in map joined (zip ls none)) ≡ []
zip_nothing [] = refl
zip_nothing (l ∷ ls) = refl

pub row_items : (p : Program) (b : Body) → map joined (zip (form_literals p b) (form_weights b)) ≡ row_of p b
row_items p (body.All literals) = zip_nothing (map (literal_in (atoms_of p)) literals)
row_items p (body.AtLeast bound items) = zipped (atoms_of p) items

row_positive : (p : Program) (b : Body) → HasPositive b → AllByRecursion (λ i. 0 < i.weight) (row_of p b)
row_positive p (body.All literals) h = tt
row_positive p (body.AtLeast bound items) h = each items h
  where
    each : (items : List (ℤ × ℤ)) → AreWeights items → AllByRecursion (λ i. 0 < i.weight) (map (item_of p) items)
    each [] h = tt
    each (i ∷ items) h = (h.0.0, each items h.1)

-- the literals' variables
row_vars : (p : Program) (b : Body) → AllByRecursion (λ (l : Literal). IsAtomVar p l.var) (form_literals p b) → AllByRecursion (λ i. (0 < i.lit.var) × (i.lit.var ≤ var_count p)) (row_of p b)
row_vars p (body.All literals) h = tt
row_vars p (body.AtLeast bound items) h = each items h
  where
    each : (items : List (ℤ × ℤ)) → AllByRecursion (λ (l : Literal). IsAtomVar p l.var) (map (λ i. literal_in (atoms_of p) i.0) items) →
        AllByRecursion (λ i. (0 < i.lit.var) × (i.lit.var ≤ var_count p)) (map (item_of p) items)
    each [] h = tt
    each (i ∷ items) h = ((h.0.0, omega (arith, h.0.1)), each items h.1)

pub ordered : (p : Program) (w : ℕ) (row : List Item) → IsSound p → w < length (bodies_of p) → AllByRecursion (λ (l : Literal). IsAtomVar p l.var) (form_literals p (nth_body p w)) →
    IsPermutation (row_of p (nth_body p w)) row → AllPairs (λ i j. j.weight ≤ i.weight) row → IsOrdered p (nth_body p w) row
ordered p w row sound h vars same falls = record {
  items = same;
  falling = falls;
  positive = All-permutation (λ i. 0 < i.weight) (row_of p (nth_body p w)) row same
      (All-from_recursion (λ i. 0 < i.weight) (row_of p (nth_body p w))
      (row_positive p (nth_body p w) (All-from_recursion HasPositive (bodies_of p) (bodies_positive p sound) w (body.All []) h)));
  within = All-permutation (λ i. (0 < i.lit.var) × (i.lit.var ≤ var_count p)) (row_of p (nth_body p w)) row same
      (All-from_recursion (λ i. (0 < i.lit.var) × (i.lit.var ≤ var_count p)) (row_of p (nth_body p w)) (row_vars p (nth_body p w) vars));
}

-- a slice that was sorted in place
pub sorted_whole : (xs ys : List Item) (n : ℕ) → n ≡ length ys → length xs ≡ length ys → take n (xs ++ drop (length xs) ys) ≡ xs
sorted_whole xs ys n e f = take_at xs (drop (length xs) ys) n (f ∙ sym e)

-- ---- one more body
pub rows_push : (p : Program) (bodies : List Body) (shapes : List Shape) (rows : List (List Item)) (b : Body) (s : Shape) (row : List Item) →
    AreRows p bodies shapes rows → IsRow p b s row → AreRows p (bodies ++ b ∷ []) (shapes ++ s ∷ []) (rows ++ row ∷ [])
rows_push p bodies shapes rows b s row a r = record {
  shaped = length_push shapes s ∙ (ap (λ n. n + 1) a.shaped ∙ sym (length_push bodies b));
  whole = length_push rows row ∙ (ap (λ n. n + 1) a.whole ∙ sym (length_push bodies b));
  row = λ w h. at w h (eqb w (length bodies)) refl;
}
  where
    none : Shape
    none = record { var = 0; reach = 0; miss = 0 }

    at : (w : ℕ) → w < length (bodies ++ b ∷ []) → (t : Bool) → t ≡ eqb w (length bodies) →
        IsRow p (get_or (bodies ++ b ∷ []) w (body.All [])) (shape_at (shapes ++ s ∷ []) w) (row_at (rows ++ row ∷ []) w)
    at w h true e =
        let last : w ≡ length bodies = eqb-true w (length bodies) (sym e) in
        subst (λ (c : Body). IsRow p c (shape_at (shapes ++ s ∷ []) w) (row_at (rows ++ row ∷ []) w)) (sym (get_or_push bodies b (body.All []) w (sym last)))
        (subst (λ (x : Shape). IsRow p b x (row_at (rows ++ row ∷ []) w)) (sym (get_or_push shapes s none w (a.shaped ∙ sym last)))
        (subst (λ (x : List Item). IsRow p b s x) (sym (get_or_push rows row [] w (a.whole ∙ sym last))) r))
    at w h false e =
        let other : w ≢ length bodies = grind (arith, nat_tests) in
        let lt : w < length bodies = omega (arith, h, length_push bodies b, other) in
        subst (λ (c : Body). IsRow p c (shape_at (shapes ++ s ∷ []) w) (row_at (rows ++ row ∷ []) w)) (sym (get_or_append_left bodies (b ∷ []) (body.All []) w lt))
        (subst (λ (x : Shape). IsRow p (get_or bodies w (body.All [])) x (row_at (rows ++ row ∷ []) w)) (sym (get_or_append_left shapes (s ∷ []) none w (omega (arith, lt, a.shaped))))
        (subst (λ (x : List Item). IsRow p (get_or bodies w (body.All [])) (shape_at shapes w) x) (sym (get_or_append_left rows (row ∷ []) [] w (omega (arith, lt, a.whole)))) (a.row w lt)))

weighed : (b : Body) (bound : ℤ) → bound_of b ≡ Some bound → (is_weighed b ≡ true) × (reach_of b ≡ clamped bound)
weighed (body.All literals) bound e = cc
weighed (body.AtLeast c items) bound e = (refl, ap clamped_of e)
  where
    clamped_of : Option ℤ → ℕ
    clamped_of None = 0
    clamped_of (Some z) = clamped z

unweighed : (b : Body) → bound_of b ≡ None → is_weighed b ≡ false
unweighed (body.All literals) e = refl
unweighed (body.AtLeast c items) e = cc

pub next_weighed : (p : Program) (w : ℕ) (bound : ℤ) → w < length (bodies_of p) → bound_of (nth_body p w) ≡ Some bound → first_weighed p w ++ nth_body p w ∷ [] ≡ first_weighed p (w + 1)
next_weighed p w bound h e =
    sym (filter_more is_weighed (bodies_of p) w (body.All []) h ∙ ap (λ b. first_weighed p w ++ cond b (nth_body p w ∷ []) []) (weighed (nth_body p w) bound e).0)

pub next_unweighed : (p : Program) (w : ℕ) → w < length (bodies_of p) → bound_of (nth_body p w) ≡ None → first_weighed p w ≡ first_weighed p (w + 1)
next_unweighed p w h e =
    sym (filter_more is_weighed (bodies_of p) w (body.All []) h ∙ (ap (λ b. first_weighed p w ++ cond b (nth_body p w ∷ []) []) (unweighed (nth_body p w) e) ∙ append-nil (first_weighed p w)))

pub is_row : (p : Program) (b : Body) (bound : ℤ) (s : Shape) (row : List Item) (total var : ℕ) → bound_of b ≡ Some bound → IsOrdered p b row → (total ≡ total_of row) × (total < 2 ^ 63) →
    var ≡ var_of_form p b → (0 < var) × (var ≤ var_count p) → s ≡ record { var = var; reach = clamped bound; miss = total + 1 - clamped bound } → IsRow p b s row
is_row p b bound s row total var e o t v within is = record {
  ordered = o;
  var = ap (λ (x : Shape). x.var) is ∙ v;
  small = (omega (arith, ap (λ (x : Shape). x.var) is, within.0), omega (arith, ap (λ (x : Shape). x.var) is, within.1));
  fits = omega (arith, t.0, t.1);
  reach = ap (λ (x : Shape). x.reach) is ∙ sym (weighed b bound e).1;
  miss = omega (arith, ap (λ (x : Shape). x.miss) is, ap (λ (x : Shape). x.reach) is, t.0);
}

pub row_items_of : (p : Program) (b : Body) (xs : List Item) (ls : List Literal) (ws : List ℤ) → xs ≡ map joined (zip ls ws) → ls ≡ form_literals p b → ws ≡ form_weights b → xs ≡ row_of p b
row_items_of p b xs ls ws e l w =
    e ∙ (ap (λ ms. map joined (zip ms ws)) l ∙ (ap (λ vs. map joined (zip (form_literals p b) vs)) w ∙ row_items p b))

pub same_items : (p : Program) (b : Body) (xs ys zs : List Item) → xs ≡ row_of p b → ys ≡ xs → IsPermutation ys zs → IsPermutation (row_of p b) zs
same_items p b xs ys zs e f h = subst (λ (us : List Item). IsPermutation us zs) (f ∙ e) h

pub rows_pushed : (p : Program) (bodies bodies' : List Body) (shapes shapes' : List Shape) (rows rows' : List (List Item)) (b : Body) (s : Shape) (row : List Item) →
    AreRows p bodies shapes rows → IsRow p b s row → bodies ++ b ∷ [] ≡ bodies' → shapes' ≡ shapes ++ s ∷ [] → rows' ≡ rows ++ row ∷ [] → AreRows p bodies' shapes' rows'
rows_pushed p bodies bodies' shapes shapes' rows rows' b s row a r e f g =
    subst (λ (bs : List Body). AreRows p bs shapes' rows') e
    (subst (λ (ss : List Shape). AreRows p (bodies ++ b ∷ []) ss rows') (sym f)
    (subst (λ (rs : List (List Item)). AreRows p (bodies ++ b ∷ []) (shapes ++ s ∷ []) rs) (sym g) (rows_push p bodies shapes rows b s row a r)))
