-- What a client's call on the value tells, which takes it, changes it and gives it back.
use Rattle.std.specs.Prelude.{◌≡◌, ℕ, List, ◌++◌, length, drop, false, Option}
use mathlib.Core.List.{IsPrefix}
use Rattle.asp_vault.specs.declared.view.View.{View}
use Rattle.asp_vault.specs.Makers.{placed, NoneBy}

-- The seat doesn't hold the value, has forgotten nothing, and no seat was split from it or joined to it.
pub record Stays {D E : Type 0} (v w : View D E) : Type 0 where
  pub rests : w.holds ≡ false
  pub about : w.about ≡ v.about
  pub number : w.number ≡ v.number
  pub splits : w.splits ≡ v.splits
  pub joins : w.joins ≡ v.joins
  pub guests : w.guests ≡ v.guests
  pub seen : IsPrefix v.seen w.seen

-- The call was made where the entries were `before`. They begin with all that the seat had seen; those since name other seats.
-- The call added these, which are the seat's own, and what was kept of all entries is kept.
pub record Moment {D E : Type 0} (maker : E → Option ℕ) (kept : List E → Type 0) (v w : View D E) (before added : List E) : Type 0 where
  pub more : IsPrefix v.seen before
  pub others : NoneBy maker v.number (drop (length v.seen) before)
  pub keeps : kept (before ++ added)
  pub seen : w.seen ≡ before ++ added
  pub own : w.own ≡ v.own ++ placed (length before) added
