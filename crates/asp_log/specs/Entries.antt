-- What a log is for, and what each of its entries says.
use Rattle.std.specs.Prelude.{ℕ, ◌≤◌, All, List, Option, None, length}
use Rattle.std.specs.List.{AllByRecursion}
use Rattle.std.specs.Option.{IfSome}
use Rattle.asp_model.specs.declared.program.Program.{Program}
use Rattle.asp_vars.specs.declared.nogood.Base.TheVariants as base
use Rattle.asp_vars.specs.declared.nogood.Nogood.{Nogood}
use Rattle.asp_vars.specs.Numbering.{IsVar, var_count}
use Rattle.asp_vars.specs.Entailment.{IsSharedBy}
use Rattle.asp_log.specs.declared.scope.Scope.{Scope}

-- what each search of the program can use
pub record IsEntry (p : Program) (n : Nogood) : Type 0 where
  -- The literals' variables are the program's.
  pub variables : All (λ l. IsVar (var_count p) l.var) n.lits
  pub shared : IsSharedBy p n.base n.lits

-- what a log keeps of its entries
pub record IsLogFor (scope : Scope) (entries : List Nogood) : Type 0 where
  pub good : AllByRecursion (IsEntry scope.program) entries
  pub few : length entries ≤ scope.limit

-- the same of a seat's data
abbrev pub IsLogOf : Option Scope → List Nogood → Type 0
IsLogOf about entries = IfSome about (λ scope. IsLogFor scope entries)

-- no entry names its maker
abbrev pub unsigned : Nogood → Option ℕ
unsigned n = None

-- a log as contracts see it
pub record Contents : Type 0 where
  pub scope : Scope
  pub entries : List Nogood
