-- Literals of which one is false by decisions that are among them.
use Rattle.std.specs.Prelude.{◌≡◌, ◌++◌, ℕ, Bool, List, IsTrue, take}
use Rattle.std.specs.List.{list_all}
use Rattle.asp_vars.specs.Conflicts.{has_all}
use Rattle.asp_vars.specs.Entailment.{Settled}
use Rattle.asp_vars.specs.Literals.{Literal, complement, has_literal, holds_in}
use Rattle.asp_trail.specs.declared.trail.Entry.{Entry}
use Rattle.asp_trail.specs.Entries.{assignment, level_in}
use Rattle.asp_search_laws.specs.Searching.{Searching, used}

-- One of the literals is false, at this level.
pub record IsFalseAmong (vars : ℕ) (entries : List Entry) (lits : List Literal) (lit : Literal) (level : ℕ) : Type 0 where
  pub has : IsTrue (has_literal lits lit)
  pub false_ : IsTrue (holds_in (assignment vars entries) (complement lit))
  pub level_is : level ≡ level_in entries lit.var

-- whether the first decisions, so many of them, are all among the literals
abbrev pub are_first : List Literal → ℕ → List Literal → Bool
are_first decisions count lits = list_all (has_literal lits) (take count decisions)

-- These are some of the literals, and no answer that is still to come under the cube has them together.
pub record IsRefutation (s : Searching) (cube lits n : List Literal) : Type 0 where
  pub among : IsTrue (has_all lits n)
  pub settled : Settled s.program (used s) s.bound (cube ++ n)
