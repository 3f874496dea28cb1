-- What the functions say that ask the queries of a series.
use Rattle.std.specs.Prelude.{◌≡◌, ◌⊎◌, ℕ, ◌+◌, ◌-◌, ◌*◌, ◌≤◌, Bool, true, false, ◌||◌, List, [], ◌++◌, length, ℤ, Option, None, Some, Result, Ok, Err, IfSome, option_map}
use Rattle.std.specs.Io.KnownBytes.{Appends, Keeps}
use Rattle.asp_io.specs.Causes.{AppendsFront, Rose}
use Rattle.asp_model.specs.declared.program.Program.{Program}
use Rattle.asp_model.specs.declared.results.Ask.{Ask}
use Rattle.asp_model.specs.declared.results.End.{End}
use Rattle.asp_model.specs.declared.results.End.TheVariants.{Finished, Limited, Unfinished}
use Rattle.asp_model.specs.declared.results.Mode.{Mode}
use Rattle.asp_model.specs.declared.results.Mode.TheVariants.{Enum}
use Rattle.asp_model.specs.Holding.{all_hold}
use Rattle.asp_model.specs.Models.{is_stable}
use Rattle.asp_model.specs.Sets.{Atoms}
use Rattle.asp_model.specs.Sound.{IsSound}
use Rattle.asp_model.specs.Texts.{found_count}
use Rattle.asp_read.specs.declared.series.Series.{Series}
use Rattle.asp_read.specs.Queries.{with_query}
use Rattle.asp_unsat.specs.Cores.{IsCore, is_listed}
use Rattle.asp_cli.specs.declared.Options.{Options}
use Rattle.asp_cli.specs.Found.{seeks_consequences}
use Rattle.asp_json.specs.declared.entries.Sums.{Sums}
use Rattle.asp_cli.specs.declared.Form.{Form}
use Rattle.asp_crew_laws.specs.Reports.{IsReport}
use Rattle.asp_series.specs.declared.ask.Sought.{Sought}
use Rattle.asp_series.specs.declared.cores.Core.{Core}
use Rattle.asp_series.specs.declared.cores.Shrinking.{Shrinking}
use Rattle.asp_series.specs.declared.cores.Tried.{Tried}
use Rattle.asp_series.specs.declared.cores.Verdict.{Verdict}
use Rattle.asp_series.specs.declared.cores.Verdict.TheVariants.{Needless, Needed, Open}
use Rattle.asp_prepare.specs.declared.prepared.Prepared.{Prepared}
use Rattle.asp_series.specs.declared.series.Course.{Course}
use Rattle.asp_series.specs.declared.series.Reply.{Reply}
use Rattle.asp_series.specs.declared.end.SeriesEnd.{SeriesEnd}
use Rattle.asp_series.specs.declared.end.SeriesEnd.TheVariants.{All, NoModel, Partial, Unknown, Memory, WriteFault}
use Rattle.asp_equal.specs.declared.reduce.Aside.{Aside}
use Rattle.asp_equal.specs.Reduced.{none_aside}
use Rattle.asp_prepare.specs.Meaning.{has_model, mode_of}
use Rattle.asp_prepare.specs.Naming.{prepared_of}
use Rattle.asp_series.specs.Series.{Answered, AreAnswered, AreSome, HasCore, IsAnsweredBy, IsAsked, IsMinimal, about, all_done, answered_text, any_model, asks_all, closing_in, end_by, is_done, models_of, query_in, series_text, sums_of, TellsClosed, without}

-- ---- a search
-- what was prepared was searched
pub record Searches (x : Prepared) (ask : Ask) (units : ℕ) (s : Sought) : Type 0 where
  pub prepared : s.prepared ≡ Some x
  pub report : IsReport x.compiled ask units s.report

-- what is left of the program was searched
abbrev pub IsSought : Options → Program → Ask → ℕ → Sought → Type 0
IsSought given p ask units s = Searches (prepared_of given p) ask units s

-- the program that was searched: what was prepared, or where nothing was this one itself
abbrev pub searched_in : Program → Option Prepared → Program
searched_in p None = p
searched_in p (Some x) = x.compiled

-- what was set aside before
abbrev pub aside_in : Option Prepared → Aside
aside_in None = none_aside
aside_in (Some x) = x.aside

-- The search that is kept, if there is one, is of this program, of which all answers are asked for.
abbrev pub IsKeptOf : Options → Program → Option Program → Type 0
IsKeptOf given p None = Unit {0}
IsKeptOf given p (Some q) = (q ≡ p) × (asks_all given p ≡ true)

-- what was found of a query: from scratch, or by the search that is kept
abbrev pub IsFoundBy : Options → Program → List ℤ → ℕ → Sought → Type 0
IsFoundBy given p query units s =
    IsSought given (with_query p query) (about given (with_query p query)) units s ⊎ ((s.prepared ≡ None) × IsAsked given p query units s.report)

-- The program may be asked with these literals: no consequences are sought, and it is within the limits.
pub record IsAskable (given : Options) (p : Program) (literals : List ℤ) : Type 0 where
  pub plain : seeks_consequences (Some given.mode) ≡ false
  pub itself : IsSound p
  pub sound : IsSound (with_query p literals)

-- ---- cores
-- the second has the literals of the first, in any order, and isn't longer
pub record AreSame (all literals : List ℤ) : Type 0 where
  pub same : (l : ℤ) → is_listed literals l ≡ is_listed all l
  pub few : length literals ≤ length all

-- no stable model has all of the literals
abbrev pub Refutes : Program → List ℤ → Type 0
Refutes p literals = (S : Atoms) → is_stable p S ≡ true → all_hold S literals ≡ false

-- some stable model has them all
abbrev pub Meets : Program → List ℤ → Type 0
Meets p literals = (S : Atoms) × (is_stable p S ≡ true) × (all_hold S literals ≡ true)

-- the core that the search that is kept told; what was prepared was searched from scratch
abbrev pub kept_core : Option Prepared → Option (List ℤ) → Option (List ℤ)
kept_core None core = core
kept_core (Some x) core = None

-- each literal of the one stands in the other
abbrev pub AreAmong : List ℤ → List ℤ → Type 0
AreAmong some all = (l : ℤ) → is_listed some l ≡ true → is_listed all l ≡ true

-- Some of the literals, which no stable model has together.
pub record IsEnough (p : Program) (all literals : List ℤ) : Type 0 where
  pub among : AreAmong literals all
  pub few : length literals ≤ length all
  pub none : Refutes p literals

-- The program is within the limits, also with no more literals than these, taken from them.
pub record IsSoundWith (p : Program) (literals : List ℤ) : Type 0 where
  pub itself : IsSound p
  pub bare : p.assumptions ≡ []
  pub with : (some : List ℤ) → AreAmong some literals → length some ≤ length literals → IsSound (with_query p some)

-- what one model is sought for
abbrev pub one_model : Ask
one_model = record { mode = Enum; models = 1; all_optima = false; by_name = false }

abbrev pub Judges : Program → List ℤ → ℕ → ℕ → Verdict → Type 0
Judges p others units spent Needless = Refutes p others
Judges p others units spent Needed = Meets p others
Judges p others units spent Open = spent ≡ units

-- what a search for one model says: it found one, or was finished without one, or neither
abbrev pub verdict_by : Bool → End → Verdict
verdict_by true end = Needed
verdict_by false Finished = Needless
verdict_by false Limited = Open
verdict_by false Unfinished = Open

-- a model was sought that has all of the others
pub record Tries (p : Program) (others : List ℤ) (units : ℕ) (t : Tried) : Type 0 where
  pub judges : Judges p others units t.spent t.verdict
  pub paid : t.spent ≤ units

-- It was tried to leave out a literal.
pub record Shrinks (p : Program) (l : ℤ) (s t : Shrinking) : Type 0 where
  pub among : AreAmong t.core s.core
  pub few : length t.core ≤ length s.core
  pub core : Refutes p s.core → Refutes p t.core
  pub stays : s.is_open ≡ true → t.is_open ≡ true
  pub tried : t.is_open ≡ false → is_listed t.core l ≡ true → Meets p (without l t.core)
  pub paid : t.left ≤ s.left
  pub open_at : (s.is_open ≡ true → s.left ≡ 0) → t.is_open ≡ true → t.left ≡ 0

-- It was tried with these literals of all.
pub record IsShrunk (p : Program) (all : List ℤ) (units : ℕ) (tried : List ℤ) (s : Shrinking) : Type 0 where
  pub among : AreAmong s.core all
  pub few : length s.core ≤ length all
  pub core : Refutes p s.core
  pub each : s.is_open ≡ false → (l : ℤ) → is_listed tried l ≡ true → is_listed s.core l ≡ true → Meets p (without l s.core)
  pub paid : s.left ≤ units
  pub open_at : s.is_open ≡ true → s.left ≡ 0

-- a core of the program from these literals, as small as may be with the units
pub record IsLeast (p : Program) (literals : List ℤ) (units : ℕ) (c : Core) : Type 0 where
  pub core : IsCore p literals c.literals
  pub minimal : c.minimal ≡ true → IsMinimal p c.literals
  pub paid : c.spent ≤ units
  pub open_at : c.minimal ≡ false → c.spent ≡ units

abbrev pub literals_in : Option Core → Option (List ℤ)
literals_in c = option_map (λ c. c.literals) c

abbrev pub minimal_in : Option Core → Bool
minimal_in None = false
minimal_in (Some c) = c.minimal

abbrev pub spent_in : Option Core → ℕ
spent_in None = 0
spent_in (Some c) = c.spent

-- the core of a query, and what it took of the units
pub record IsReason (least : Bool) (p : Program) (literals : List ℤ) (refuted : Bool) (units : ℕ) (c : Option Core) : Type 0 where
  pub core : HasCore p literals refuted (literals_in c) (minimal_in c)
  pub paid : spent_in c ≤ units
  pub plain : least ≡ false → spent_in c ≡ 0
  pub spends : least ≡ true → IfSome (literals_in c) (λ core. minimal_in c ≡ false → spent_in c ≡ units)

-- ---- queries
-- what a reply says
abbrev pub answered_of : Reply → Answered
answered_of y = record { done = y.sought.report; aside = aside_in y.sought.prepared; core = literals_in y.core; minimal = minimal_in y.core; spent = y.spent }

-- the text of a reply to the query with this number
abbrev pub reply_text : Options → Program → ℕ → Reply → List ℕ
reply_text given p number y = query_in given.form given (searched_in p y.sought.prepared) p.outputs number y.sought.report.results (literals_in y.core) (minimal_in y.core)

-- the reply to a query
pub record IsReply (given : Options) (p : Program) (query : List ℤ) (units : ℕ) (y : Reply) : Type 0 where
  pub sought : IsFoundBy given p query units y.sought
  pub answered : IsAnsweredBy given p query units (answered_of y)

-- how far a series is after the query with this number was answered
abbrev pub gone_on : Course → ℕ → Answered → Course
gone_on c number x = record {
  left = c.left - x.spent;
  any = c.any || has_model x.done.results;
  done = is_done x.done.results.end;
  models = c.models + found_count x.done.results.mode x.done.results;
  calls = number;
}

-- a query was answered, written and sent on
pub record Steps (given : Options) (p : Program) (query : List ℤ) (number : ℕ) (c : Course) (held held' : Option (List ℕ)) (d : Course) : Type 0 where
  pub x : Answered
  pub is : IsAnsweredBy given p query c.left x
  pub text : Appends held held' (answered_text given p query number x)
  pub goes : d ≡ gone_on c number x

-- a query was answered, and a front of its text written
pub record Breaks (given : Options) (p : Program) (query : List ℤ) (number : ℕ) (c : Course) (held held' : Option (List ℕ)) (writes writes' : ℕ) : Type 0 where
  pub x : Answered
  pub is : IsAnsweredBy given p query c.left x
  pub text : AppendsFront held held' (answered_text given p query number x)
  pub cause : Rose writes writes'
  pub later : writes ≤ writes'

-- what a query led to
abbrev pub StepMeans : Options → Program → List ℤ → ℕ → Course → Option (List ℕ) → Option (List ℕ) → ℕ → ℕ → Result Course SeriesEnd → Type 0
StepMeans given p query number c held held' writes writes' (Ok d) = Steps given p query number c held held' d × (writes' ≡ writes)
StepMeans given p query number c held held' writes writes' (Err Memory) = Keeps held held' × (writes' ≡ writes)
StepMeans given p query number c held held' writes writes' (Err (WriteFault closed)) = Breaks given p query number c held held' writes writes'
StepMeans given p query number c held held' writes writes' (Err end) = ⊥

-- the end of a series that is so far
abbrev pub end_of : Bool → Bool → SeriesEnd
end_of true true = All
end_of true false = NoModel
end_of false true = Partial
end_of false false = Unknown

-- what is said of the queries together
abbrev pub sums_at : Mode → Course → Sums
sums_at mode c = record { end = end_by c.done; mode = mode; models = c.models; calls = c.calls }

-- what stands after the last query was written, and the sink flushed
abbrev pub CloseMeans : Form → Mode → Course → Option (List ℕ) → Option (List ℕ) → ℕ → ℕ → SeriesEnd → Type 0
CloseMeans form mode c held held' writes writes' Memory = ⊥
CloseMeans form mode c held held' writes writes' (WriteFault closed) = AppendsFront held held' (closing_in form (sums_at mode c)) × Rose writes writes'
CloseMeans form mode c held held' writes writes' end = (end ≡ end_of c.done c.any) × Appends held held' (closing_in form (sums_at mode c)) × (writes' ≡ writes)

-- at most so many answers are recorded of a query
abbrev pub most_recorded : ℕ
most_recorded = 18446744073709551615

-- the first of the queries were answered, and their texts are out
pub record IsAt (given : Options) (p : Program) (queries : List (List ℤ)) (held held' : Option (List ℕ)) (writes writes' : ℕ) (c : Course) : Type 0 where
  pub xs : List Answered
  pub answered : AreAnswered given p queries given.budget xs c.left
  pub calls : length xs ≡ c.calls
  pub done : all_done xs ≡ c.done
  pub any : any_model xs ≡ c.any
  pub models : models_of xs ≡ c.models
  pub few : c.models ≤ c.calls * most_recorded
  pub text : Appends held held' (series_text given p queries 1 xs)
  pub quiet : writes' ≡ writes

-- so many were, and all of them are finished
pub record IsAtQuery (given : Options) (p : Program) (queries : List (List ℤ)) (held held' : Option (List ℕ)) (writes writes' : ℕ) (count : ℕ) (c : Course) : Type 0 where
  pub at : IsAt given p queries held held' writes writes' c
  pub finished : c.done ≡ true
  pub count_is : c.calls ≡ count

-- all of them were, unless one isn't finished
pub record IsThrough (given : Options) (p : Program) (queries : List (List ℤ)) (held held' : Option (List ℕ)) (writes writes' : ℕ) (c : Course) : Type 0 where
  pub at : IsAt given p queries held held' writes writes' c
  pub every : c.done ≡ true → c.calls ≡ length queries

-- ---- after the opening
-- what follows the opening: the texts of the queries, and what stands after them
abbrev pub rest_text : Options → Series → List Answered → List ℕ
rest_text given s xs = series_text given s.program s.queries 1 xs ++ closing_in given.form (sums_of (mode_of given.mode s.program) xs)

-- memory ran out after some queries
pub record Stops (given : Options) (s : Series) (held held' : Option (List ℕ)) : Type 0 where
  pub xs : List Answered
  pub some : AreSome given s xs
  pub text : Appends held held' (series_text given s.program s.queries 1 xs)

-- the sink failed at the text of some queries
pub record Fails (given : Options) (s : Series) (held held' : Option (List ℕ)) (writes writes' : ℕ) : Type 0 where
  pub xs : List Answered
  pub some : AreSome given s xs
  pub text : AppendsFront held held' (rest_text given s xs)
  pub cause : Rose writes writes'
  pub later : writes ≤ writes'

-- all that was to be asked was, and its text written whole
pub record Ends (given : Options) (s : Series) (held held' : Option (List ℕ)) (end : SeriesEnd) : Type 0 where
  pub xs : List Answered
  pub some : AreSome given s xs
  pub text : Appends held held' (rest_text given s xs)
  pub every : all_done xs ≡ true → length xs ≡ length s.queries
  pub end_is : end ≡ end_of (all_done xs) (any_model xs)

-- what each end says, after the opening was written
abbrev pub AsksOn : Options → Series → Option (List ℕ) → Option (List ℕ) → ℕ → ℕ → SeriesEnd → Type 0
AsksOn given s held held' writes writes' Memory = Stops given s held held' × (writes' ≡ writes)
AsksOn given s held held' writes writes' (WriteFault closed) = Fails given s held held' writes writes'
AsksOn given s held held' writes writes' end = Ends given s held held' end × (writes' ≡ writes)

-- why the queries were not gone through: memory ran out, or the sink failed
abbrev pub StopMeans : Options → Series → Option (List ℕ) → Option (List ℕ) → ℕ → ℕ → SeriesEnd → Type 0
StopMeans given s held held' writes writes' Memory = Stops given s held held' × (writes' ≡ writes)
StopMeans given s held held' writes writes' (WriteFault closed) = Fails given s held held' writes writes'
StopMeans given s held held' writes writes' end = ⊥

-- what asking them in turn came to: all of them were, unless one isn't finished, or it is said why not
abbrev pub AsksInTurn : Options → Series → Option (List ℕ) → Option (List ℕ) → ℕ → ℕ → Bool → Result Course SeriesEnd → Type 0
AsksInTurn given s held held' writes writes' closed (Ok c) = IsThrough given s.program s.queries held held' writes writes' c
AsksInTurn given s held held' writes writes' closed (Err end) = StopMeans given s held held' writes writes' end × TellsClosed end closed
