-- The outputs of a program as one row of bytes.
use Rattle.std.specs.Prelude.{◌≡◌, ℕ, ◌+◌, ◌-◌, ◌≤◌, Bool, true, false, not, if◌then◌else◌, List, [], ◌∷◌, ◌++◌, length, take, drop, slice_index, ℤ}
use Rattle.asp_model.specs.declared.program.Output.{Output}
use Rattle.asp_model.specs.Sets.{Atoms, IsAscending, has}
use Rattle.asp_rows.specs.Bits.{IsAmong, IsBitOf}
use Rattle.asp_rows.specs.Listed.{IsRowOf}
use Rattle.asp_rows.specs.declared.row.Row.{Row}
use Rattle.asp_model.specs.Holding.{all_hold}
use Rattle.asp_print.specs.declared.outputs.OutputTable.{OutputTable}
use Rattle.asp_print.specs.declared.outputs.Condition.{Condition}
use Rattle.asp_print.specs.declared.outputs.Condition.TheVariants.{Always, Never, Several, With, Without}

-- the texts, each after a separator
abbrev pub row : ℕ → List Output → List ℕ
row between [] = []
row between (o ∷ os) = between ∷ (o.text ++ row between os)

-- those of the outputs from one to before another
abbrev pub row_between : ℕ → List Output → ℕ → ℕ → List ℕ
row_between between os from to = row between (take (to - from) (drop from os))

-- the bytes, or where no text stands before them all except the separator that they begin with
abbrev pub less_between : Bool → List ℕ → List ℕ
less_between any bytes = if any then bytes else drop 1 bytes

-- A row of bits for these atoms, which ascend.
abbrev pub IsRowAmong : Atoms → Row → Type 0
IsRowAmong atoms row = IsAscending atoms × IsRowOf atoms row

-- The condition says when the literals hold, in every set of these atoms.
abbrev pub IsConditionOf : Atoms → List ℤ → Condition → Type 0
IsConditionOf atoms ls Always = (S : Atoms) → IsAmong atoms S → all_hold S ls ≡ true
IsConditionOf atoms ls Never = (S : Atoms) → IsAmong atoms S → all_hold S ls ≡ false
IsConditionOf atoms ls (With bit) = (a : ℕ) × IsBitOf atoms a bit × ((S : Atoms) → all_hold S ls ≡ has S a)
IsConditionOf atoms ls (Without bit) = (a : ℕ) × IsBitOf atoms a bit × ((S : Atoms) → all_hold S ls ≡ not (has S a))
IsConditionOf atoms ls Several = Unit {0}

abbrev pub AreConditionsOf : Atoms → List Output → List Condition → Type 0
AreConditionsOf atoms [] [] = Unit {0}
AreConditionsOf atoms [] (c ∷ cs) = ⊥
AreConditionsOf atoms (o ∷ os) [] = ⊥
AreConditionsOf atoms (o ∷ os) (c ∷ cs) = IsConditionOf atoms o.condition c × AreConditionsOf atoms os cs

-- whether the first of the outputs is shown
abbrev pub shown_first : Atoms → List Output → Bool
shown_first S [] = false
shown_first S (o ∷ os) = all_hold S o.condition

abbrev pub shown_at : Atoms → List Output → ℕ → Bool
shown_at S os i = shown_first S (drop i os)

-- all texts, each after the separator of the table, and where they start
pub record HasTextsOf (os : List Output) (table : OutputTable) : Type 0 where
  pub texts : table.texts.items ≡ row table.between os
  pub count : length table.starts.items ≡ length os + 1
  pub starts : (k : ℕ) → k ≤ length os → slice_index table.starts.items k ≡ length (row table.between (take k os))

-- each output's condition, and the texts
pub record IsTableOf (atoms : Atoms) (os : List Output) (table : OutputTable) : Type 0 where
  pub conditions : AreConditionsOf atoms os table.conditions.items
  pub texts : HasTextsOf os table

-- the same with this separator
abbrev pub IsTableBy : ℕ → Atoms → List Output → OutputTable → Type 0
IsTableBy between atoms os table = IsTableOf atoms os table × (table.between ≡ between)
