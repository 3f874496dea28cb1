-- A source that is read line by line.
use Rattle.std.specs.Prelude.{◌≡◌, ◌≢◌, ℕ, ◌<◌, List, [], ◌∷◌, ◌++◌, length, Option, Bool, true, false, IfSome}
use Rattle.std.specs.declared.result.Result.{Result}
use Rattle.std.specs.declared.result.Result.TheVariants.{Ok, Err}
use Rattle.std.specs.Io.KnownBytes.{Consumes, IsAtEnd}
use Rattle.asp_proof.specs.declared.error.ProofError.{ProofError}
use Rattle.asp_proof.specs.declared.error.ProofError.TheVariants as errors
use Rattle.asp_proof.specs.Grammar.{IsUnbroken, most_bytes}

-- the line that a reader is at, and the bytes after it that were read
pub record Window : Type 0 where
  pub line : List ℕ
  pub behind : List ℕ

abbrev pub window : List ℕ → List ℕ → Window
window line behind = record { line = line; behind = behind }

-- what was read, the line and what is behind it
abbrev pub held : Window → List ℕ
held w = w.line ++ 10 ∷ w.behind

-- somewhere in a text a line begins that has more bytes than a line may have
pub record HasLongLine (text : List ℕ) : Type 0 where
  pub front : List ℕ
  pub line : List ℕ
  pub rest : List ℕ
  pub parted : front ++ (line ++ rest) ≡ text
  pub unbroken : IsUnbroken line
  pub long : most_bytes < length line

-- A text is what was read, and then what the source has left, where it tells that.
pub record Comes (source : Option (List ℕ)) (read : List ℕ) (P : List ℕ → Type 0) : Type 0 where
  pub rest : List ℕ
  pub told : IfSome source (λ left. left ≡ rest)
  pub is : P (read ++ rest)

-- ---- steps of a reader
-- what was read of the line is in it, up to its line feed or as far as it was read
abbrev pub TakesPiece : Window → Window → Result Bool ProofError → Type 0
TakesPiece old new (Ok true) = IsUnbroken new.line × (new.line ++ 10 ∷ new.behind ≡ old.line ++ old.behind)
TakesPiece old new (Ok false) = IsUnbroken new.line × (new.line ≡ old.line ++ old.behind) × (new.behind ≡ [])
TakesPiece old new (Err errors.Memory) = Unit {0}
TakesPiece old new (Err errors.TooLong) = HasLongLine (old.line ++ old.behind)
TakesPiece old new (Err errors.ReadFault) = ⊥
TakesPiece old new (Err (errors.Refused n)) = ⊥

-- more bytes were read, or the source is at its end
abbrev pub Fills : Option (List ℕ) → Option (List ℕ) → Window → Window → Result Bool ProofError → Type 0
Fills source now old new (Ok true) = (new.line ≡ old.line) × Consumes source now new.behind × (new.behind ≢ [])
Fills source now old new (Ok false) = (new ≡ old) × Consumes source now [] × IsAtEnd now
Fills source now old new (Err e) = e ≡ errors.ReadFault

-- bytes were read off the source, and with those before they are this
pub record Moves (source now : Option (List ℕ)) (before after : List ℕ) : Type 0 where
  pub bytes : List ℕ
  pub read : Consumes source now bytes
  pub same : after ≡ before ++ bytes

-- The next line with its line feed and what is behind it are what was read; or all that was left has no line feed.
abbrev pub IsNextLine : Option (List ℕ) → Option (List ℕ) → Window → Window → Result Bool ProofError → Type 0
IsNextLine source now old new (Ok true) = IsUnbroken new.line × Moves source now old.behind (held new)
IsNextLine source now old new (Ok false) = IsUnbroken new.line × Moves source now old.behind new.line × IsAtEnd now
IsNextLine source now old new (Err errors.Memory) = Unit {0}
IsNextLine source now old new (Err errors.ReadFault) = Unit {0}
IsNextLine source now old new (Err errors.TooLong) = (after : List ℕ) × HasLongLine after × Moves source now old.behind after
IsNextLine source now old new (Err (errors.Refused n)) = ⊥

-- whether anything is behind the line
abbrev pub HasMore : Option (List ℕ) → Option (List ℕ) → Window → Window → Result Bool ProofError → Type 0
HasMore source now old new (Ok true) = (after : List ℕ) × (after ≢ []) × Moves source now old.behind after
HasMore source now old new (Ok false) = (old.behind ≡ []) × Moves source now [] [] × IsAtEnd now
HasMore source now old new (Err e) = e ≡ errors.ReadFault
