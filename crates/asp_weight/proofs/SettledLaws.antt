-- A body whose value is settled by its literals is silent: those that are open weigh too little for the other side.
use Rattle.std.proofs.Common.{◌≡◌, ℕ, ◌+◌, ◌-◌, ◌<◌, ◌≤◌, Bool, true, false, not, cond, ◌&&◌, ◌||◌, ltb, List, [], ◌∷◌, Option, Some, None, refl, sym, ap, ◌∙◌, arith}
use Rattle.std.specs.List.{list_all}
use Rattle.std.specs.Bool.{beq}
use Rattle.std.specs.Option.{is_none}
use Rattle.std.proofs.lemmas.Bool.{lt-ltb, false≢true}
use Rattle.std.proofs.lemmas.List.Sums.{sum_by-cons}
use Rattle.asp_vars.specs.Literals.{Literal, complement, value_of, holds_in, agrees}
use Rattle.asp_trail.specs.Fixpoint.{is_open}
use Rattle.asp_weight.specs.declared.item.Item.{Item}
use Rattle.asp_weight.specs.declared.item.Shape.{Shape}
use Rattle.asp_weight.specs.Rows.{weight_if, sum_where, total_of, need_of, is_short, is_silent_row_as, is_silent_row}

-- ---- an item counts for one side at most, and for neither while it is open
one_side : (o : Option Bool) (l : Literal) (w : ℕ) → cond (agrees o l) w 0 + cond (agrees o (complement l)) w 0 ≤ w
one_side None l w = omega arith
one_side (Some b) l w = sides b l.truth
  where
    sides : (b t : Bool) → cond (beq b t) w 0 + cond (beq b (not t)) w 0 ≤ w
    sides true true = omega arith
    sides true false = omega arith
    sides false true = omega arith
    sides false false = omega arith

no_side : (o : Option Bool) (l : Literal) (w : ℕ) → is_none o ≡ true → cond (agrees o l) w 0 + cond (agrees o (complement l)) w 0 ≡ 0
no_side None l w e = omega arith
no_side (Some b) l w e = absurd (false≢true e)

abbrev both : List (Option Bool) → List Item → ℕ
both a row = sum_where (holds_in a) true row + sum_where (holds_in a) false row

both-cons : (a : List (Option Bool)) (i : Item) (row : List Item) →
    both a (i ∷ row) ≡ (cond (agrees (value_of a i.lit.var) i.lit) i.weight 0 + cond (agrees (value_of a i.lit.var) (complement i.lit)) i.weight 0) + both a row
both-cons a i row = omega (arith, sum_by-cons (weight_if (holds_in a) true) i row, sum_by-cons (weight_if (holds_in a) false) i row)

both-fits : (a : List (Option Bool)) (row : List Item) → both a row ≤ total_of row
both-fits a [] = omega arith
both-fits a (i ∷ row) = omega (arith, both-cons a i row, sum_by-cons (λ (i : Item). i.weight) i row, both-fits a row, one_side (value_of a i.lit.var) i.lit i.weight)

-- ---- what is left of the whole weight bounds each open item's
light_item : (o : Option Bool) (w n : ℕ) → (is_none o ≡ true → w < n) → (not (is_none o) || ltb w n) ≡ true
light_item None w n f = lt-ltb w n (f refl)
light_item (Some b) w n f = refl

all_light : (a : List (Option Bool)) (n : ℕ) (row : List Item) → total_of row < n + both a row → list_all (λ i. not (is_open a i.lit) || ltb i.weight n) row ≡ true
all_light a n [] h = refl
all_light a n (i ∷ row) h =
    let whole = sum_by-cons (λ (i : Item). i.weight) i row in
    let parts = both-cons a i row in
    ap (λ b. b && list_all (λ i. not (is_open a i.lit) || ltb i.weight n) row)
    (light_item (value_of a i.lit.var) i.weight n (λ e. omega (arith, h, whole, parts, no_side (value_of a i.lit.var) i.lit i.weight e, both-fits a row)))
    ∙ all_light a n row (omega (arith, h, whole, parts, one_side (value_of a i.lit.var) i.lit i.weight))

-- ---- a side that is settled
and_true : (a b : Bool) → a ≡ true → b ≡ true → (a && b) ≡ true
and_true true b e f = f
and_true false b e f = absurd (false≢true e)

pub settled_short : (side : Bool) (a : List (Option Bool)) (s : Shape) (row : List Item) → total_of row < s.reach + s.miss →
    need_of (not side) s ≤ sum_where (holds_in a) (not side) row → is_short side a s row ≡ true
settled_short true a s row t h =
    and_true _ _ (lt-ltb _ _ (omega (arith, t, h, both-fits a row)))
    (all_light a (s.reach - sum_where (holds_in a) true row) row (omega (arith, t, h, both-fits a row)))
settled_short false a s row t h =
    and_true _ _ (lt-ltb _ _ (omega (arith, t, h, both-fits a row)))
    (all_light a (s.miss - sum_where (holds_in a) false row) row (omega (arith, t, h, both-fits a row)))

-- a body whose variable has a value is silent where the other side is short
pub silent_valued : (v : Bool) (a : List (Option Bool)) (s : Shape) (row : List Item) → value_of a s.var ≡ Some v → is_short (not v) a s row ≡ is_silent_row a s row
silent_valued true a s row e = ap (λ o. is_silent_row_as o a s row) (sym e)
silent_valued false a s row e = ap (λ o. is_silent_row_as o a s row) (sym e)
