-- A series of queries: what each of its answers says, and what is written of them.
use Rattle.std.specs.Prelude.{◌≡◌, ◌⊎◌, ℕ, ◌+◌, ◌-◌, ◌≤◌, Bool, true, false, not, ◌&&◌, ◌||◌, List, [], ◌∷◌, ◌++◌, filter, length, ℤ, Option, None, Some, IfSome}
use Rattle.std.specs.Ordering.{int_eq}
use Rattle.std.specs.Io.KnownBytes.{Appends}
use Rattle.asp_io.specs.Causes.{AppendsFront, Rose}
use Rattle.asp_model.specs.declared.program.Output.{Output}
use Rattle.asp_model.specs.declared.program.Program.{Program}
use Rattle.asp_model.specs.declared.results.Ask.{Ask}
use Rattle.asp_model.specs.declared.results.End.{End}
use Rattle.asp_model.specs.declared.results.End.TheVariants.{Finished, Limited, Unfinished}
use Rattle.asp_model.specs.declared.results.Mode.{Mode}
use Rattle.asp_model.specs.declared.results.Mode.TheVariants.{Enum, Opt, Consequences}
use Rattle.asp_model.specs.Found.{Found}
use Rattle.asp_model.specs.Holding.{all_hold}
use Rattle.asp_model.specs.Models.{is_stable}
use Rattle.asp_model.specs.Sets.{Atoms}
use Rattle.asp_model.specs.Texts.{found_count}
use Rattle.asp_read.specs.declared.series.Series.{Series}
use Rattle.asp_read.specs.Queries.{with_query}
use Rattle.asp_unsat.specs.Cores.{IsCore, is_listed}
use Rattle.asp_print.specs.Queries.{query_text}
use Rattle.asp_json.specs.declared.entries.Sums.{Sums}
use Rattle.asp_json.specs.Entries.{entry_text, opening_text, sums_text}
use Rattle.asp_cli.specs.declared.Form.{Form}
use Rattle.asp_cli.specs.declared.Form.TheVariants.{Text, Json}
use Rattle.asp_cli.specs.declared.Options.{Options}
use Rattle.asp_crew_laws.specs.declared.report.Report.{Report}
use Rattle.asp_crew_laws.specs.Reports.{IsReport, Says as SaysReport}
use Rattle.asp_core.specs.Boards.{IsQuery}
use Rattle.asp_equal.specs.declared.reduce.Aside.{Aside}
use Rattle.asp_equal.specs.Reduced.{none_aside}
use Rattle.asp_query.specs.Kept.{IsQueryReport, query_of}
use Rattle.asp_prepare.specs.Meaning.{has_model, mode_of}
use Rattle.asp_prepare.specs.Naming.{searched, set_aside}
use Rattle.asp_prepare.specs.Told.{found_with, report_with}
use Rattle.asp_series.specs.declared.end.SeriesEnd.{SeriesEnd}
use Rattle.asp_series.specs.declared.end.SeriesEnd.TheVariants.{All, NoModel, Partial, Unknown, Memory, WriteFault}

-- ---- one query
abbrev pub is_enum : Mode → Bool
is_enum Enum = true
is_enum Opt = false
is_enum (Consequences r) = false

-- what is asked of a program: all its answers, or an optimum
abbrev pub about : Options → Program → Ask
about given p = record { mode = mode_of given.mode p; models = 0; all_optima = false; by_name = false }

-- whether all answers are
abbrev pub asks_all : Options → Program → Bool
asks_all given p = is_enum (mode_of given.mode p)

abbrev pub is_done : End → Bool
is_done Finished = true
is_done Limited = false
is_done Unfinished = false

-- whether a search was finished and found no model
abbrev pub is_refuted : Found → Bool
is_refuted r = is_done r.end && not (has_model r)

-- the others of these literals
abbrev pub without : ℤ → List ℤ → List ℤ
without l literals = filter (λ k. not (int_eq k l)) literals

-- No literal can be left out: some stable model has all others.
abbrev pub IsMinimal : Program → List ℤ → Type 0
IsMinimal p core = (l : ℤ) → is_listed core l ≡ true → (S : Atoms) × (is_stable p S ≡ true) × (all_hold S (without l core) ≡ true)

-- A query has a core exactly where it was finished without a model. Its literals are some of these, and no stable model has them all; if it
-- is told to be minimal, none can be left out.
abbrev pub HasCore : Program → List ℤ → Bool → Option (List ℤ) → Bool → Type 0
HasCore p literals false None minimal = minimal ≡ false
HasCore p literals true (Some core) minimal = IsCore p literals core × (minimal ≡ true → IsMinimal p core)
HasCore p literals false (Some core) minimal = ⊥
HasCore p literals true None minimal = ⊥

-- a query that was answered: the report of its search, what was set aside before, its core, whether that is told to be minimal, and the
-- units that it took
pub record Answered : Type 0 where
  pub done : Report
  pub aside : Aside
  pub core : Option (List ℤ)
  pub minimal : Bool
  pub spent : ℕ

-- The report is that of a search from scratch on what is left of the program, with so many units.
pub record IsSearched (given : Options) (p : Program) (units : ℕ) (A : Aside) (r : Report) : Type 0 where
  pub aside : A ≡ set_aside given p
  pub report : IsReport (searched given p) (about given p) units r

-- All answers are asked for, and the query's atoms stand in the program. The report is that of a search of the whole program for the
-- answers that have the query's literals, too, with so many units: what the search learnt before it may know.
pub record IsAsked (given : Options) (p : Program) (query : List ℤ) (units : ℕ) (r : Report) : Type 0 where
  pub all : asks_all given p ≡ true
  pub stands : IsQuery p query
  pub report : IsQueryReport (query_of p query units) r

-- how a query was searched: from scratch, with its literals assumed, or by a search that is kept
abbrev pub IsDoneBy : Options → Program → List ℤ → ℕ → Aside → Report → Type 0
IsDoneBy given p query units A r = IsSearched given (with_query p query) units A r ⊎ ((A ≡ none_aside) × IsAsked given p query units r)

-- With what was set aside the report says of the program with the query's literals assumed what was asked. A core is of the program, and of
-- its assumptions and the query. What it took was paid from the same units, and without `--core-min` that is nothing. With it a core that
-- isn't told to be minimal shows that the units are spent.
pub record IsAnsweredBy (given : Options) (p : Program) (query : List ℤ) (units : ℕ) (x : Answered) : Type 0 where
  pub is : IsDoneBy given p query units x.aside x.done
  pub says : SaysReport (with_query p query) (about given (with_query p query)) (report_with x.aside x.done) x.done.results.end
  pub core : HasCore p (p.assumptions ++ query) (is_refuted x.done.results) x.core x.minimal
  pub spent : (x.done.spent ≤ x.spent) × (x.spent ≤ units)
  pub plain : given.core_min ≡ false → x.spent ≡ x.done.spent
  pub least : given.core_min ≡ true → IfSome x.core (λ core. x.minimal ≡ false → x.spent ≡ units)

-- the text of what was found of the query with this number, and of its core, in the form that was asked for
abbrev pub query_in : Form → Options → Program → List Output → ℕ → Found → Option (List ℤ) → Bool → List ℕ
query_in Text given p os number r core minimal = query_text p os number r core minimal given.quiet given.names
query_in Json given p os number r core minimal = entry_text p os number r core minimal given.quiet given.names

-- the same of the program
abbrev pub answered_text : Options → Program → List ℤ → ℕ → Answered → List ℕ
answered_text given p query number x =
    query_in given.form given (with_query p query) p.outputs number (found_with x.aside x.done.results) x.core x.minimal

-- ---- one after another
abbrev pub is_open : Answered → Bool
is_open x = not (is_done x.done.results.end)

-- The first of the queries were answered, in their order, each with the units that those before it left; so many are left then. After
-- one that wasn't finished none was begun.
abbrev pub AreAnswered : Options → Program → List (List ℤ) → ℕ → List Answered → ℕ → Type 0
AreAnswered given p queries units [] left = left ≡ units
AreAnswered given p [] units (x ∷ xs) left = ⊥
AreAnswered given p (query ∷ queries) units (x ∷ xs) left = IsAnsweredBy given p query units x × (is_open x ≡ true → xs ≡ []) × AreAnswered given p queries (units - x.spent) xs left

-- whether all of them are finished
abbrev pub all_done : List Answered → Bool
all_done [] = true
all_done (x ∷ xs) = is_done x.done.results.end && all_done xs

-- whether one of them has a model
abbrev pub any_model : List Answered → Bool
any_model [] = false
any_model (x ∷ xs) = has_model x.done.results || any_model xs

-- how many answers were recorded of all of them
abbrev pub models_of : List Answered → ℕ
models_of [] = 0
models_of (x ∷ xs) = found_count x.done.results.mode x.done.results + models_of xs

-- the texts of the queries that were answered, of which the first has this number
abbrev pub series_text : Options → Program → List (List ℤ) → ℕ → List Answered → List ℕ
series_text given p queries number [] = []
series_text given p [] number (x ∷ xs) = []
series_text given p (query ∷ queries) number (x ∷ xs) = answered_text given p query number x ++ series_text given p queries (number + 1) xs

-- some of the queries were answered
pub record AreSome (given : Options) (s : Series) (xs : List Answered) : Type 0 where
  pub left : ℕ
  pub answered : AreAnswered given s.program s.queries given.budget xs left

-- what stands before the text of the first query
abbrev pub opening_in : Form → List ℕ
opening_in Text = []
opening_in Json = opening_text

-- what is said of queries together: they are finished where each of them is
abbrev pub end_by : Bool → End
end_by true = Finished
end_by false = Unfinished

abbrev pub sums_of : Mode → List Answered → Sums
sums_of mode xs = record { end = end_by (all_done xs); mode = mode; models = models_of xs; calls = length xs }

-- what stands after the text of the last query
abbrev pub closing_in : Form → Sums → List ℕ
closing_in Text sums = []
closing_in Json sums = sums_text sums

-- the text of the queries that were answered, as far as the last of them
abbrev pub text_of : Options → Series → List Answered → List ℕ
text_of given s xs = opening_in given.form ++ series_text given s.program s.queries 1 xs

-- the whole text
abbrev pub whole_text : Options → Series → List Answered → List ℕ
whole_text given s xs = text_of given s xs ++ closing_in given.form (sums_of (mode_of given.mode s.program) xs)

-- exactly the text of the queries that were answered was written
pub record IsWrittenOf (given : Options) (s : Series) (held held' : Option (List ℕ)) (xs : List Answered) : Type 0 where
  pub some : AreSome given s xs
  pub text : Appends held held' (whole_text given s xs)

-- Every query was answered and finished, and one has a model or none.
pub record IsSettled (given : Options) (s : Series) (held held' : Option (List ℕ)) (model : Bool) : Type 0 where
  pub xs : List Answered
  pub written : IsWrittenOf given s held held' xs
  pub every : length xs ≡ length s.queries
  pub done : all_done xs ≡ true
  pub model_is : any_model xs ≡ model

-- The last one that was begun isn't finished, and one has a model or none.
pub record IsSpent (given : Options) (s : Series) (held held' : Option (List ℕ)) (model : Bool) : Type 0 where
  pub xs : List Answered
  pub written : IsWrittenOf given s held held' xs
  pub unfinished : all_done xs ≡ false
  pub model_is : any_model xs ≡ model

-- Memory ran out after some queries, whose texts were written whole, and nothing after them.
pub record IsFront (given : Options) (s : Series) (held held' : Option (List ℕ)) : Type 0 where
  pub xs : List Answered
  pub some : AreSome given s xs
  pub text : Appends held held' (text_of given s xs)

-- A front of the text of some queries was written, and a fault counted.
pub record IsCut (given : Options) (s : Series) (held held' : Option (List ℕ)) (writes writes' : ℕ) : Type 0 where
  pub xs : List Answered
  pub some : AreSome given s xs
  pub text : AppendsFront held held' (whole_text given s xs)
  pub cause : Rose writes writes'

-- what each end of a series says of it
abbrev pub EndsAs : Options → Series → Option (List ℕ) → Option (List ℕ) → ℕ → ℕ → SeriesEnd → Type 0
EndsAs given s held held' writes writes' All = IsSettled given s held held' true
EndsAs given s held held' writes writes' NoModel = IsSettled given s held held' false
EndsAs given s held held' writes writes' Partial = IsSpent given s held held' true
EndsAs given s held held' writes writes' Unknown = IsSpent given s held held' false
EndsAs given s held held' writes writes' Memory = IsFront given s held held'
EndsAs given s held held' writes writes' (WriteFault closed) = IsCut given s held held' writes writes'

-- the queries of a series were asked, one after another
pub record Asks (given : Options) (s : Series) (held held' : Option (List ℕ)) (writes writes' : ℕ) (end : SeriesEnd) : Type 0 where
  pub means : EndsAs given s held held' writes writes' end
  pub later : writes ≤ writes'

-- the sink failed, whether or not somebody reads what is written
abbrev pub IsLost : SeriesEnd → Type 0
IsLost end = (closed : Bool) × (end ≡ WriteFault closed)

-- a fault of the sink was counted only where the end says so
abbrev pub TellsFaults : ℕ → ℕ → SeriesEnd → Type 0
TellsFaults writes writes' end = ¬ IsLost end → writes' ≡ writes

-- whether the texts of all queries that were begun were written
abbrev pub is_written : SeriesEnd → Bool
is_written All = true
is_written NoModel = true
is_written Partial = true
is_written Unknown = true
is_written Memory = false
is_written (WriteFault closed) = false

-- then all of them were sent on
abbrev pub IsSentOn : SeriesEnd → Bool → Type 0
IsSentOn end is_sent = is_written end ≡ true → is_sent ≡ true

-- where the sink failed, the end says what the sink says: whether nobody reads any more
abbrev pub TellsClosed : SeriesEnd → Bool → Type 0
TellsClosed (WriteFault closed) is_closed = closed ≡ is_closed
TellsClosed end is_closed = Unit {0}
