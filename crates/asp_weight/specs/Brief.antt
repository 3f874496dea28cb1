-- A nogood of a body that is gathered from some of its literals that hold.
use Rattle.std.specs.Prelude.{◌≡◌, ℕ, ◌+◌, ◌≤◌, Bool, true, false, if◌then◌else◌, List, ◌∷◌, ◌++◌, sum_by, take, Option}
use Rattle.std.specs.List.{list_all}
use Rattle.asp_vars.specs.Literals.{Literal, complement, holds_in, is_true, hits}
use Rattle.asp_weight.specs.declared.item.Item.{Item}
use Rattle.asp_weight.specs.declared.item.Shape.{Shape}
use Rattle.asp_weight.specs.Rows.{on, weight_if, sum_where, need_of}
use Rattle.asp_weight.specs.Spoken.{head_of}

-- the weight of an item whose literal for the side holds and is true
abbrev pub counted : Bool → List (Option Bool) → List Bool → Item → ℕ
counted side a v i = if holds_in a (on side i.lit) then weight_if (is_true v) side i else 0

-- After the first literals stand some that hold. Where those are true, they weigh so much, of the row's first n items.
pub record IsGathered (side : Bool) (a : List (Option Bool)) (start sum n : ℕ) (row : List Item) (first all : List Literal) : Type 0 where
  pub rest : List Literal
  pub whole : all ≡ first ++ rest
  pub hold : list_all (holds_in a) rest ≡ true
  pub weighs : (v : List Bool) → hits v rest ≡ true → sum ≤ start + sum_by (counted side a v) (take n row)

-- The same, and it is as much as is needed.
pub record IsEnough (side : Bool) (a : List (Option Bool)) (need start : ℕ) (row : List Item) (first all : List Literal) : Type 0 where
  pub rest : List Literal
  pub whole : all ≡ first ++ rest
  pub hold : list_all (holds_in a) rest ≡ true
  pub enough : (v : List Bool) → hits v rest ≡ true → need ≤ start + sum_by (counted side a v) row

-- The item's literal for the side is the literal's complement, which doesn't hold, and the body's variable says otherwise.
pub record IsBy (side : Bool) (a : List (Option Bool)) (s : Shape) (l : Literal) (i : Item) : Type 0 where
  pub ruled_out : on side i.lit ≡ complement l
  pub none : holds_in a (complement l) ≡ false
  pub valued : holds_in a (head_of side s) ≡ true

-- The literal's complement and literals that hold. Where all are true, the side is settled, and the body's variable says otherwise.
pub record IsBrief (a : List (Option Bool)) (s : Shape) (row : List Item) (l : Literal) (all : List Literal) : Type 0 where
  pub rest : List Literal
  pub whole : all ≡ complement l ∷ rest
  pub hold : list_all (holds_in a) rest ≡ true
  pub side : Bool
  pub settles : (v : List Bool) → hits v all ≡ true → (is_true v (head_of side s) ≡ true) × (need_of side s ≤ sum_where (is_true v) side row)
