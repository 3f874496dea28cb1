-- What a search is, as its contracts see it.
use Rattle.std.specs.Prelude.{ℕ, Bool, List, Option, ℤ}
use Rattle.asp_model.specs.declared.program.Program.{Program}
use Rattle.asp_model.specs.declared.results.Mode.{Mode}
use Rattle.asp_model.specs.Sets.{Atoms}
use Rattle.asp_model.specs.Asked.{reasoning_of}
use Rattle.asp_model.specs.Consequences.{used_up}
use Rattle.asp_vars.specs.Literals.{Literal}
use Rattle.asp_vars.specs.Numbering.{var_count}
use Rattle.asp_trail.specs.declared.trail.Entry.{Entry}
use Rattle.asp_trail.specs.Entries.{assignment}
use Rattle.asp_store.specs.declared.stored_nogood.StoredNogood.{StoredNogood}
use Rattle.asp_order.specs.Heaps.{Ranking}

-- A search of the program's stable models that hit the cube, of which there is none before a path is entered, aren't used up by the
-- answers known, and cost less than the bound, if one stands. In an optimisation no answer is known, and the bound says all that was
-- found; where consequences are sought, one set stands for all answers known.
pub record Searching : Type 0 where
  pub program : Program
  pub mode : Mode
  pub cube : Option (List Literal)
  pub clashing : Bool  -- the cube has a literal and its complement
  pub known : List Atoms
  pub bound : Option (List ℤ)
  pub entries : List Entry
  pub decisions : List Literal
  pub slots : List (Option StoredNogood)
  pub ranking : Ranking
  pub restarts : ℕ
  pub learnt : ℕ  -- how many nogoods since the last restart, or since the path was entered
  pub last : Option ℕ  -- the number of the nogood that the last step learnt, or by which it blocks an answer

-- the values of the variables
abbrev pub values_now : Searching → List (Option Bool)
values_now s = assignment (var_count s.program) s.entries

-- the stable models that need not be found again: those known, or where consequences are sought all that show nothing else
abbrev pub used : Searching → List Atoms
used s = used_up (reasoning_of s.mode) s.program s.known
