-- What an outlet hears and writes.
use Rattle.std.specs.Prelude.{◌≡◌, ℕ, ◌+◌, ◌≤◌, Bool, true, false, List, ◌++◌, length, Option, None, Result, OnOk, OnErr, ℤ}
use Rattle.std.specs.Io.KnownBytes.{Appends}
use Rattle.asp_io.specs.Causes.{Rose, AppendsFront}
use Rattle.asp_model.specs.declared.program.Program.{Program}
use Rattle.asp_model.specs.declared.results.End.{End}
use Rattle.asp_model.specs.declared.results.Mode.TheVariants.{Enum, Opt}
use Rattle.asp_model.specs.Costs.{optima}
use Rattle.asp_model.specs.Found.{Found}
use Rattle.asp_model.specs.Models.{answers, atoms_of}
use Rattle.asp_model.specs.Sets.{Atoms}
use Rattle.asp_model.specs.Texts.{answers_from, cost_line}
use Rattle.asp_print.specs.declared.in_parts.PartPrinter.{PartPrinter}
use Rattle.asp_print.specs.Named.{printed_text}
use Rattle.asp_print.specs.Parts.{IsPrinterOf, closing, closing_of}

-- a program, those of its answers that are to be heard, and those that were
pub record Heard : Type 0 where
  pub program : Program
  pub all : List Atoms
  pub sets : List Atoms

-- all answers of a program, or all optima
abbrev pub list_of : Bool → Program → List Atoms
list_of false p = answers p
list_of true p = optima p

-- The printer is for the program's answers, and has counted no more than there are in the list.
pub record IsListing (p : Program) (all : List Atoms) (printer : PartPrinter) : Type 0 where
  pub of : IsPrinterOf p (atoms_of p) printer
  pub count : printer.written ≤ length all

-- the lines of answers that come after those heard
abbrev pub next_text : Program → List Atoms → List Atoms → List ℕ
next_text p heard sets = answers_from p (length heard + 1) sets

-- what stands after the lines of those heard: the lines of the rest, and those after the last answer
abbrev pub last_text : Program → List Atoms → End → List Atoms → List ℕ
last_text p heard end rest = next_text p heard rest ++ closing end (length heard + length rest)

-- what an enumeration found that listed these answers
abbrev pub found : End → List Atoms → Found
found end sets = record { mode = Enum; end = end; answers = sets; best = None; known = None }

-- the text of its results, as it is written when it has ended
abbrev pub whole_text : Program → End → List Atoms → List ℕ
whole_text p end sets = printed_text p (found end sets) false false

-- ---- optima, all of one cost
-- the lines after the last of so many optima
abbrev pub optima_closing : End → List ℤ → ℕ → List ℕ
optima_closing end cost count = cost_line cost ++ closing_of Opt end count

-- the text of these optima
abbrev pub optima_text : Program → End → List ℤ → List Atoms → List ℕ
optima_text p end cost sets = answers_from p 1 sets ++ optima_closing end cost (length sets)

-- ---- what is heard
-- an outlet at a moment: the answers that it heard, what its sink holds where that is told, the sink's count of faults, and whether a
-- write failed
pub record Moment : Type 0 where
  pub heard : List Atoms
  pub held : Option (List ℕ)
  pub faults : ℕ
  pub failed : Bool

abbrev pub moment : List Atoms → Option (List ℕ) → ℕ → Bool → Moment
moment heard held faults failed = record { heard = heard; held = held; faults = faults; failed = failed }

-- From one moment to another these answers were heard. Where no write failed the sink got their lines. Where one failed between, it
-- got a front of them, and a fault was counted. After one had failed it got nothing.
pub record Hears (p : Program) (a b : Moment) (sets : List Atoms) : Type 0 where
  pub heard : b.heard ≡ a.heard ++ sets
  pub written : b.failed ≡ false → (a.failed ≡ false) × Appends a.held b.held (next_text p a.heard sets) × (b.faults ≡ a.faults)
  pub cut : a.failed ≡ false → b.failed ≡ true → AppendsFront a.held b.held (next_text p a.heard sets) × Rose a.faults b.faults
  pub silent : a.failed ≡ true → (b.failed ≡ true) × (b.held ≡ a.held) × (b.faults ≡ a.faults)
  pub later : a.faults ≤ b.faults

-- some answers were heard between
abbrev pub IsAfter : Program → Moment → Moment → Type 0
IsAfter p a b = (sets : List Atoms) × Hears p a b sets

-- Since a moment the sink got this text, or after an error a front of it, and exactly then a fault was counted.
pub record Ends {T E : Type 0} (a : Moment) (held : Option (List ℕ)) (faults : ℕ) (result : Result T E) (text : List ℕ) : Type 0 where
  pub all : OnOk result (Appends a.held held text × (faults ≡ a.faults))
  pub front : OnErr result (AppendsFront a.held held text × Rose a.faults faults)
  pub later : a.faults ≤ faults
