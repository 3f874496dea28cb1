-- A run with queries: what each status says of the bytes read and written.
use Rattle.std.specs.Prelude.{◌≡◌, ◌⊎◌, ℕ, ◌≤◌, Bool, true, false, List, Option, None, Some, Result, Ok, Err, IfSome}
use Rattle.std.specs.Io.KnownBytes.{IsAtEnd, Keeps}
use Rattle.asp_io.specs.Causes.{Rose}
use Rattle.asp_read.specs.declared.fault.Fault.{Fault}
use Rattle.asp_read.specs.declared.fault.ReadError.{ReadError}
use Rattle.asp_read.specs.declared.fault.ReadError.TheVariants as errors
use Rattle.asp_read.specs.declared.series.Series.{Series}
use Rattle.asp_read.specs.Judging.{most_bytes}
use Rattle.asp_read.specs.Queries.{IsSoundSeries, asking, series_outcome}
use Rattle.asp_read.specs.Stream.{StopsBy}
use Rattle.asp_cli.specs.declared.Options.{Options}
use Rattle.asp_cli.specs.Given.{Given, help, misuse, options, version}
use Rattle.asp_cli.specs.Texts.{help_page, version_line}
use Rattle.asp_series.specs.declared.end.SeriesEnd.{SeriesEnd}
use Rattle.asp_series.specs.declared.end.SeriesEnd.TheVariants as ends
use Rattle.asp_series.specs.Series.{IsCut, IsFront, IsSettled, IsSpent}
use Rattle.asp_top.specs.declared.status.Outcome.{Outcome}
use Rattle.asp_top.specs.declared.status.Status.{Status}
use Rattle.asp_top.specs.declared.status.Status.TheVariants.{All, NoModel, Partial, Unknown, Memory, Refused, ReadFault, TooLong, WriteFault}
use Rattle.asp_top.specs.Notes.{is_answered}
use Rattle.asp_top.specs.Runs.{Around, Helps, Misuses, Runs}

-- the status of a run whose series ended so
abbrev pub status_at : SeriesEnd → Status
status_at ends.All = All
status_at ends.NoModel = NoModel
status_at ends.Partial = Partial
status_at ends.Unknown = Unknown
status_at ends.Memory = Memory
status_at (ends.WriteFault closed) = WriteFault closed

-- what each status says of a series that was read
abbrev pub AsksMeans : Options → Series → Option (List ℕ) → Option (List ℕ) → ℕ → ℕ → Status → Type 0
AsksMeans given s held held' writes writes' All = IsSettled given s held held' true
AsksMeans given s held held' writes writes' NoModel = IsSettled given s held held' false
AsksMeans given s held held' writes writes' Partial = IsSpent given s held held' true
AsksMeans given s held held' writes writes' Unknown = IsSpent given s held held' false
AsksMeans given s held held' writes writes' Memory = IsFront given s held held'
AsksMeans given s held held' writes writes' (WriteFault closed) = IsCut given s held held' writes writes'
AsksMeans given s held held' writes writes' status = ⊥

-- the whole content of the source says this, where it is told
abbrev pub SaysSeries : Around → Result Series ReadError → Type 0
SaysSeries a said = IfSome a.left (λ text. series_outcome text ≡ said)

-- some text says this
abbrev pub IsSaidSeries : Result Series ReadError → Type 0
IsSaidSeries said = (text : List ℕ) × (series_outcome text ≡ said)

-- the text says the program and its queries, and was read to its end; where the source doesn't tell its bytes, some text says them
pub record IsReadSeries (a : Around) (s : Series) : Type 0 where
  pub says : SaysSeries a (Ok s)
  pub said : IsSaidSeries (Ok s)
  pub end : IsAtEnd a.left'
  pub sound : IsSoundSeries s

-- a series was read, and asked with this end
pub record IsAskedTo (given : Options) (a : Around) (status : Status) : Type 0 where
  pub series : Series
  pub source : IsReadSeries a series
  pub means : AsksMeans given series a.held a.held' a.writes a.writes' status

-- the text was refused, and nothing was read behind the read that decided so
pub record IsRefusedSeries (a : Around) (error : ReadError) : Type 0 where
  pub kept : Keeps a.held a.held'
  pub says : SaysSeries a (Err error)
  pub said : IsSaidSeries (Err error)
  pub stops : StopsBy asking most_bytes a.left a.left' (Err error)

-- a read failed before any line with a fault was whole
pub record IsUnreadSeries (a : Around) : Type 0 where
  pub kept : Keeps a.held a.held'
  pub cause : Rose a.reads a.reads'
  pub stops : StopsBy asking most_bytes a.left a.left' (Err errors.ReadFault)

-- each status of a run with queries, and what it says
abbrev pub SeriesMeans : Options → Around → Status → Type 0
SeriesMeans given a Memory = Keeps a.held a.held' ⊎ IsAskedTo given a Memory
SeriesMeans given a (Refused fault line) = IsRefusedSeries a (errors.Refused fault line)
SeriesMeans given a TooLong = IsRefusedSeries a errors.TooLong
SeriesMeans given a ReadFault = IsUnreadSeries a
SeriesMeans given a status = IsAskedTo given a status

-- which status comes, except where memory runs out
pub record IsExactSeries (a : Around) (status : Status) : Type 0 where
  -- an accepted text, where neither count rose, is answered
  pub accepted : (text : List ℕ) (s : Series) → a.left ≡ Some text → series_outcome text ≡ Ok s → ¬ Rose a.reads a.reads' → ¬ Rose a.writes a.writes' → (is_answered status ≡ true) ⊎ (status ≡ Memory)
  -- a faulty text, where the source's count didn't rise, is refused
  pub refused : (text : List ℕ) (fault : Fault) (line : ℕ) → a.left ≡ Some text → series_outcome text ≡ Err (errors.Refused fault line) →
      ¬ Rose a.reads a.reads' → (status ≡ Refused fault line) ⊎ (status ≡ Memory)
  pub too_long : (text : List ℕ) → a.left ≡ Some text → series_outcome text ≡ Err errors.TooLong → ¬ Rose a.reads a.reads' → (status ≡ TooLong) ⊎ (status ≡ Memory)
  -- a fault of the source was counted only where the status says so
  pub quiet : ¬ (status ≡ ReadFault) → a.reads' ≡ a.reads

-- a run with queries
pub record RunsSeries (given : Options) (a : Around) (o : Outcome) : Type 0 where
  pub none : o.report ≡ None
  pub means : SeriesMeans given a o.status
  pub exact : IsExactSeries a o.status
  pub later : (a.reads ≤ a.reads') × (a.writes ≤ a.writes')

-- a run after the words, with queries or without
abbrev pub RunsBy : Bool → Options → Around → Outcome → Type 0
RunsBy true given a o = RunsSeries given a o
RunsBy false given a o = Runs given a o

-- a run whose words give this
abbrev pub RunsOn : Given → Around → Outcome → Type 0
RunsOn help a o = Helps help_page a o
RunsOn version a o = Helps version_line a o
RunsOn (misuse m) a o = Misuses a o
RunsOn (options given) a o = RunsBy given.queries given a o
