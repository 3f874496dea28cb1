-- What contracts say of a row and its seats.
use Rattle.std.specs.Prelude.{◌≡◌}
use Rattle.asp_slots.specs.declared.view.View.{View}
use Rattle.asp_slots.specs.declared.row.Row.{Row}
use Rattle.asp_slots.specs.declared.row.RowSeat.{RowSeat}

-- what a seat knows
abbrev pub view : RowSeat → View
view s = s.token.me.0

-- the seat is of this row
abbrev pub IsOf : Row → RowSeat → Type 0
IsOf r s = s.token.table_id ≡ r.table.shared.table_id

-- both seats are of one row
abbrev pub IsBeside : RowSeat → RowSeat → Type 0
IsBeside s t = t.token.table_id ≡ s.token.table_id
