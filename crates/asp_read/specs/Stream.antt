-- What a function returned is what reading gives, unless memory ran out.
use Rattle.std.specs.Prelude.{◌≡◌, ◌⊎◌, ℕ, ◌+◌, ◌≤◌, List, [], ◌++◌, length, IsOk, IfSome, IfErr}
use Rattle.std.specs.declared.option.Option.{Option}
use Rattle.std.specs.declared.option.Option.TheVariants.{None, Some}
use Rattle.std.specs.declared.result.Result.{Result}
use Rattle.std.specs.declared.result.Result.TheVariants.{Ok, Err}
use Rattle.asp_text.specs.Unread.{Unread}
use Rattle.asp_text.specs.Lines.{lines_of, whole}
use Rattle.asp_model.specs.declared.program.Program.{Program}
use Rattle.asp_read.specs.declared.fault.ReadError.{ReadError}
use Rattle.asp_read.specs.declared.fault.ReadError.TheVariants as errors
use Rattle.asp_read.specs.Judging.{Format, judge_all, outcome_from}
use Rattle.asp_read.specs.Outcome.{aspif}

abbrev pub FailsAs : {A : Type 0} → ReadError → Result A ReadError → Type 0
FailsAs errors.Memory read = Unit {0}
FailsAs errors.ReadFault read = read ≡ Err errors.ReadFault
FailsAs errors.TooLong read = read ≡ Err errors.TooLong
FailsAs (errors.Refused f n) read = read ≡ Err (errors.Refused f n)

abbrev pub ReadGives : {A : Type 0} → Result A ReadError → Result A ReadError → Type 0
ReadGives (Ok x) read = read ≡ Ok x
ReadGives (Err e) read = FailsAs e read

-- the same, of what a reader became
abbrev pub Becomes : {U S : Type 0} → Result U ReadError → S → Result S ReadError → Type 0
Becomes (Ok done) seen read = read ≡ Ok seen
Becomes (Err e) seen read = FailsAs e read

-- what lines alone can be answered by: want of memory, or a fault of them
abbrev pub IsOfLines : ReadError → Type 0
IsOfLines errors.Memory = Unit {0}
IsOfLines errors.ReadFault = ⊥
IsOfLines errors.TooLong = ⊥
IsOfLines (errors.Refused f n) = Unit {0}

-- the outcome, where these bytes are held and the rest is still to come, of which so many bytes may come
abbrev pub outcome_on : {S A : Type 0} → Format S A → Unread → S → ℕ → List ℕ → Result A ReadError
outcome_on format lines seen room rest = outcome_from format (room + length lines.bytes) lines.given seen (lines.bytes ++ rest)

-- the same, but for a failed read
abbrev pub ReadsText : {A : Type 0} → Result A ReadError → Result A ReadError → Type 0
ReadsText (Ok p) outcome = outcome ≡ Ok p
ReadsText (Err errors.Memory) outcome = Unit {0}
ReadsText (Err errors.ReadFault) outcome = Unit {0}
ReadsText (Err errors.TooLong) outcome = outcome ≡ Err errors.TooLong
ReadsText (Err (errors.Refused f n)) outcome = outcome ≡ Err (errors.Refused f n)

-- these bytes were taken off a source, where it tells its bytes
abbrev pub Took : Option (List ℕ) → Option (List ℕ) → List ℕ → Type 0
Took None now read = Unit {0}
Took (Some text) None read = ⊥
Took (Some text) (Some rest) read = text ≡ read ++ rest

-- what was read so far: the lines that were taken and the bytes that are held say as much, whatever follows
pub record Continues {S A : Type 0} (format : Format S A) (initial now : Option (List ℕ)) (limit : ℕ) (lines : Unread) (seen : S) (room : ℕ) : Type 0 where
  pub read : List ℕ
  pub took : Took initial now read
  pub counted : room + length read ≡ limit
  pub same : (k : ℕ) (more : List ℕ) → outcome_on format lines seen k more ≡ outcome_from format (k + length read) 0 format.start (read ++ more)

-- there is a text, the source's where it tells its bytes, whose outcome was answered
pub record Answers {S A : Type 0} (format : Format S A) (source : Option (List ℕ)) (limit : ℕ) (result : Result A ReadError) : Type 0 where
  pub text : List ℕ
  pub told : IfSome source (λ t. t ≡ text)
  pub answered : ReadsText result (outcome_from format limit 0 format.start text)

-- whatever follows what was read, the outcome is this
abbrev pub Settles : {S A : Type 0} → Format S A → ℕ → List ℕ → ReadError → Type 0
Settles format limit read error = (more : List ℕ) → outcome_from format limit 0 format.start (read ++ more) ≡ Err error

-- the last read gave nothing, and nothing is left
pub record IsLastRead (last rest : List ℕ) : Type 0 where
  pub nothing : last ≡ []
  pub none_left : rest ≡ []

-- why no further read was made
abbrev pub Decides : {S A : Type 0} → Format S A → ℕ → List ℕ → List ℕ → List ℕ → Result A ReadError → Type 0
Decides format limit before last rest (Ok p) = IsLastRead last rest
Decides format limit before last rest (Err errors.Memory) = Unit {0}
Decides format limit before last rest (Err errors.ReadFault) = last ≡ []
Decides format limit before last rest (Err errors.TooLong) = Settles format limit (before ++ last) errors.TooLong
Decides format limit before last rest (Err (errors.Refused f n)) = Settles format limit (before ++ last) (errors.Refused f n) ⊎ IsLastRead last rest

-- where reading stopped: the source stands right behind what was read. Before the last read no line that had come with its line feed had a fault, nor were there too many bytes; the last read decided, or was the end, or failed
pub record Stops {S A : Type 0} (format : Format S A) (limit : ℕ) (text rest : List ℕ) (result : Result A ReadError) : Type 0 where
  pub before : List ℕ
  pub last : List ℕ
  pub stands : text ≡ before ++ (last ++ rest)
  pub no_fault : IsOk (judge_all format 1 format.start (lines_of (whole before)))
  pub fits : length before ≤ limit
  pub decides : Decides format limit before last rest result

-- the same, where the source tells its bytes
abbrev pub StopsBy : {S A : Type 0} → Format S A → ℕ → Option (List ℕ) → Option (List ℕ) → Result A ReadError → Type 0
StopsBy format limit None now result = Unit {0}
StopsBy format limit (Some text) None result = ⊥
StopsBy format limit (Some text) (Some rest) result = Stops format limit text rest result

-- the same of aspif
abbrev pub StopsAt : ℕ → Option (List ℕ) → Option (List ℕ) → Result Program ReadError → Type 0
StopsAt limit initial now result = StopsBy aspif limit initial now result

-- what is answered at the end of a source, by whoever ends what was read of it
abbrev pub EndsWith : {S A : Type 0} → Format S A → Option (List ℕ) → ℕ → Unread → S → Type 0
EndsWith {S} {A} format initial limit lines seen = (r : Result A ReadError) → ((room : ℕ) → ReadGives r (outcome_on format lines seen room [])) → Answers format initial limit r

abbrev pub EndsAt : {S A : Type 0} → Format S A → Option (List ℕ) → Option (List ℕ) → ℕ → Type 0
EndsAt {S} {A} format initial next limit = (r : Result A ReadError) → IfErr r IsOfLines → StopsBy format limit initial next r
