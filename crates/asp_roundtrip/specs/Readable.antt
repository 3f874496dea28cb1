-- What a program that was read is made of: the ranges of its numbers, and the limits of the whole.
use Rattle.std.specs.Prelude.{◌≡◌, ℕ, ◌≤◌, length, ℤ, pos, negsuc, ◌≤ℤ◌, false}
use Rattle.std.specs.List.{AllByRecursion}
use Rattle.asp_model.specs.declared.program.Head.{Head}
use Rattle.asp_model.specs.declared.program.Head.TheVariants.{One, Choice, Never}
use Rattle.asp_model.specs.declared.program.Body.{Body}
use Rattle.asp_model.specs.declared.program.Body.TheVariants.{All, AtLeast}
use Rattle.asp_model.specs.declared.program.Rule.{Rule}
use Rattle.asp_model.specs.declared.program.Minimize.{Minimize}
use Rattle.asp_model.specs.declared.program.Output.{Output}
use Rattle.asp_model.specs.declared.program.External.{External}
use Rattle.asp_model.specs.declared.program.Program.{Program}
use Rattle.asp_model.specs.Holding.{atom_of}
use Rattle.asp_model.specs.Models.{atoms_of}
use Rattle.asp_text.specs.Lines.{is_lf}
use Rattle.asp_read.specs.Sizes.{program_size}
use Rattle.asp_read.specs.Fields.{most, most_atoms, most_counted}
use Rattle.asp_read.specs.Statements.{priorities}
use Rattle.asp_read.specs.Outcome.{most_bytes}

-- an atom's number
abbrev pub IsAtom : ℕ → Type 0
IsAtom a = (1 ≤ a) × (a ≤ most)

-- an atom, or its absence, which is the negative number
abbrev pub IsLiteral : ℤ → Type 0
IsLiteral l = IsAtom (atom_of l)

-- a number from low to high
abbrev pub IsBetween : ℤ → ℤ → ℤ → Type 0
IsBetween low high z = (low ≤ℤ z) × (z ≤ℤ high)

-- a number of 32 bits with a sign
abbrev pub IsSigned : ℤ → Type 0
IsSigned z = IsBetween (negsuc most) (pos most) z

-- a literal, and its weight from this one on
abbrev pub IsWeighted : ℤ → ℤ × ℤ → Type 0
IsWeighted low item = IsLiteral item.0 × IsBetween low (pos most) item.1

-- ---- statements

-- one atom, a choice among atoms, or none
abbrev pub IsHead : Head → Type 0
IsHead (One a) = IsAtom a
IsHead (Choice atoms) = AllByRecursion IsAtom atoms
IsHead Never = Unit {0}

-- literals, or a bound on literals with weights from 0 on
abbrev pub IsBody : Body → Type 0
IsBody (All literals) = AllByRecursion IsLiteral literals
IsBody (AtLeast bound items) = IsSigned bound × AllByRecursion (IsWeighted (pos 0)) items

-- a head and a body
abbrev pub IsRule : Rule → Type 0
IsRule r = IsHead r.head × IsBody r.body

-- a priority, and literals with weights of either sign
abbrev pub IsMinimize : Minimize → Type 0
IsMinimize m = IsSigned m.priority × AllByRecursion (IsWeighted (negsuc most)) m.items

-- a text without line feeds, no longer than a whole text may be, and its condition
abbrev pub IsOutput : Output → Type 0
IsOutput o = (length o.text ≤ most_bytes) × AllByRecursion (λ b. is_lf b ≡ false) o.text × AllByRecursion IsLiteral o.condition

-- ---- programs

-- each statement within its ranges, and the whole within the limits
pub record IsReadable (p : Program) : Type 0 where
  pub rules : AllByRecursion IsRule p.rules
  pub minimize : AllByRecursion IsMinimize p.minimize
  pub outputs : AllByRecursion IsOutput p.outputs
  pub externals : AllByRecursion (λ (e : External). IsAtom e.atom) p.externals
  pub assumptions : AllByRecursion IsLiteral p.assumptions
  pub few_counted : program_size p ≤ most_counted
  pub few_priorities : length (priorities p) ≤ 1000
  pub few_atoms : length (atoms_of p) ≤ most_atoms
