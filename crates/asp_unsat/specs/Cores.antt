-- Cores: literals that no stable model has together.
use Rattle.std.specs.Prelude.{◌≡◌, Bool, true, false, List, [], None, filter, ℤ}
use Rattle.std.specs.Ordering.{int_eq}
use Rattle.std.specs.List.{list_any}
use Rattle.asp_model.specs.declared.program.Program.{Program}
use Rattle.asp_model.specs.Sets.{Atoms}
use Rattle.asp_model.specs.Holding.{all_hold}
use Rattle.asp_model.specs.Models.{is_stable}
use Rattle.asp_vars.specs.Literals.{Literal, has_literal}
use Rattle.asp_vars.specs.Numbering.{literal_of}
use Rattle.asp_core.specs.declared.goal.Goal.{Goal}
use Rattle.asp_core.specs.declared.goal.Goal.TheVariants as goal
use Rattle.asp_core.specs.declared.reason.Reason.{Reason}
use Rattle.asp_core.specs.Boards.{Board, wanted}

-- whether the literal stands in the list
abbrev pub is_listed : List ℤ → ℤ → Bool
is_listed literals l = list_any (λ k. int_eq k l) literals

-- These are some of the literals, and no stable model has them all.
pub record IsCore (p : Program) (literals core : List ℤ) : Type 0 where
  pub among : (l : ℤ) → is_listed core l ≡ true → is_listed literals l ≡ true
  pub suffices : (S : Atoms) → is_stable p S ≡ true → all_hold S core ≡ false

-- whether one of the nogoods has the literal
abbrev pub is_blamed : List Reason → Literal → Bool
is_blamed reasons l = list_any (λ r. has_literal r.nogood l) reasons

-- those of the literals that stand in some nogood
abbrev pub blamed_by : Program → List Reason → List ℤ → List ℤ
blamed_by p reasons literals = filter (λ l. is_blamed reasons (literal_of p l)) literals

-- the literals that each answer has to meet, as far as they stand in a nogood for which a leaf was closed
abbrev pub blamed : Board → List ℤ
blamed b = blamed_by b.task.program b.reasons (wanted b.task)

-- All answers are listed, or a best one is sought.
abbrev pub IsPlain : Goal → Type 0
IsPlain goal.Enum = Unit {0}
IsPlain goal.Opt = Unit {0}
IsPlain (goal.Ties c) = ⊥
IsPlain (goal.Consequences r n) = ⊥

-- Nothing was recorded by which a leaf could be closed.
pub record HasNothing (b : Board) : Type 0 where
  pub plain : IsPlain b.task.goal
  pub answers : b.answers ≡ []
  pub best : b.best ≡ None
