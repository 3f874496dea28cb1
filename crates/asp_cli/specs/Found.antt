-- The options that were found so far.
use Rattle.std.specs.Prelude.{◌≡◌, ℕ, nat_lt, Bool, true, false, List, [], ◌∷◌, Option, Some, None, is_some, option_map, unwrap_or, if◌then◌else◌}
use Rattle.asp_model.specs.declared.results.Mode as results
use Rattle.asp_model.specs.Asked.{reasoning_of}
use Rattle.asp_cli.specs.declared.found.Found.{Found}
use Rattle.asp_cli.specs.declared.names.Name.{Name}
use Rattle.asp_cli.specs.declared.names.Name.TheVariants.{Mode, Format, Models, OptAll, Workers, Log, Budget, Output, Quiet, Names, Proof, Split, Make, Queries, CoreMin, Stats, Progress, Stream}
use Rattle.asp_cli.specs.declared.walk.Awaits.TheVariants as awaits
use Rattle.asp_cli.specs.declared.walk.State.{State}
use Rattle.asp_cli.specs.declared.Options.{Options}
use Rattle.asp_cli.specs.declared.Form.TheVariants.{Text}
use Rattle.asp_cli.specs.declared.Format.{Format as FormatOf}
use Rattle.asp_cli.specs.declared.Format.TheVariants.{Aspif, Smodels}
use Rattle.asp_cli.specs.declared.LogKind.TheVariants.{Blocks}
use Rattle.asp_cli.specs.Values.{form_named, format_named, log_named, mode_named, number_within}

-- whether an option was given
abbrev pub has : Found → Name → Bool
has f Workers = is_some f.workers
has f Log = is_some f.log
has f Mode = is_some f.mode
has f Format = is_some f.format
has f Budget = is_some f.budget
has f Models = is_some f.models
has f OptAll = f.all_optima
has f Output = is_some f.form
has f Quiet = f.quiet
has f Names = f.names
has f Make = is_some f.make
has f Queries = f.queries
has f CoreMin = f.core_min
has f Stats = f.stats
has f Progress = f.progress
has f Stream = f.stream
has f Proof = f.proof
has f Split = is_some f.split

-- whether consequences are asked for
abbrev pub seeks_consequences : Option (Option results.Mode) → Bool
seeks_consequences None = false
seeks_consequences (Some None) = false
seeks_consequences (Some (Some m)) = is_some (reasoning_of m)

-- whether answers are to be limited
abbrev pub is_limited : Option ℕ → Bool
is_limited None = false
is_limited (Some n) = nat_lt 0 n

-- whether a smodels text is to be read
abbrev pub is_smodels : Option FormatOf → Bool
is_smodels None = false
is_smodels (Some Aspif) = false
is_smodels (Some Smodels) = true

-- ---- which options exclude each other
-- The options that can't stand beside this one, whatever their values. A proof isn't written of parts, nor of several
-- queries, and it has the answers that `--quiet` leaves out. Proofs, parts and rings are written as text, and
-- answers of queries as they come in any case. Where the program is divided nothing is solved: only `--make` and `--format` have a meaning there.
abbrev pub rivals_of : Name → List Name
rivals_of Proof = Split ∷ Quiet ∷ Output ∷ Queries ∷ []
rivals_of OptAll = Split ∷ Queries ∷ []
rivals_of Quiet = Proof ∷ Split ∷ []
rivals_of Output = Make ∷ Proof ∷ Split ∷ []
rivals_of Make = Output ∷ []
rivals_of Queries = Proof ∷ OptAll ∷ Stream ∷ []
rivals_of Stream = Split ∷ Queries ∷ []
rivals_of Split = Mode ∷ Models ∷ OptAll ∷ Workers ∷ Log ∷ Budget ∷ Output ∷ Quiet ∷ Names ∷ Proof ∷ Queries ∷ CoreMin ∷ Stats ∷ Progress ∷ Stream ∷ []
rivals_of Format = []
rivals_of _ = Split ∷ []

-- the first of these options that was given
abbrev pub first_given : Found → List Name → Option Name
first_given f [] = None
first_given f (n ∷ names) = if has f n then Some n else first_given f names

abbrev pub only_if : Bool → Name → Option Name
only_if b n = if b then Some n else None

-- Which given option with its value can't stand beside a query: a series has no ring, no parts, no limit, no smodels text and no
-- consequences.
abbrev pub unasked : Found → Option Name
unasked f = if is_some f.make then Some Make
    else (if is_some f.split then Some Split
    else (if is_limited f.models then Some Models
    else (if is_smodels f.format then Some Format
    else only_if (seeks_consequences f.mode) Mode)))

-- which given option excludes this one by its value
abbrev pub barred_by : Found → Name → Option Name
barred_by f Proof = only_if (seeks_consequences f.mode) Mode
barred_by f Queries = unasked f
barred_by f _ = None

abbrev pub or_else : {A : Type 0} → Option A → Option A → Option A
or_else None other = other
or_else (Some x) other = Some x

-- which given option can't stand beside this one
abbrev pub rival_of : Found → Name → Option Name
rival_of f n = or_else (first_given f (rivals_of n)) (barred_by f n)

-- an option that was given, and one that excludes it by its value
abbrev pub clash_with : Found → Name → Option (Name × Name)
clash_with f n = if has f n then option_map (λ m. (n, m)) (barred_by f n) else None

-- two given options, of which the second excludes the first by its value
abbrev pub clash_of : Found → Option (Name × Name)
clash_of f = or_else (clash_with f Proof) (clash_with f Queries)

-- With a proof no consequences are asked for.
abbrev pub AreApart : Found → Type 0
AreApart f = f.proof ≡ true → seeks_consequences f.mode ≡ false

abbrev pub IsApart : Options → Type 0
IsApart o = o.proof ≡ true → seeks_consequences (Some o.mode) ≡ false

-- With queries neither a proof, all optima nor a stream is asked for; nor a ring, parts, a limit, a smodels text or consequences.
abbrev pub IsAlone : Found → Type 0
IsAlone f = f.queries ≡ true → (f.proof ≡ false) × (f.all_optima ≡ false) × (f.stream ≡ false)

abbrev pub AreAsking : Found → Type 0
AreAsking f = IsAlone f × (f.queries ≡ true → unasked f ≡ None)

abbrev pub IsAsking : Options → Type 0
IsAsking o = o.queries ≡ true → (o.proof ≡ false) × (o.all_optima ≡ false) × (o.stream ≡ false) × (o.make ≡ None) × (o.split ≡ None) × (o.models ≡ 0) ×
    (o.format ≡ Aspif) × (seeks_consequences (Some o.mode) ≡ false)

-- what was found with an option's value; none where the option doesn't take it
abbrev pub found_with : Found → Name → List ℕ → Option Found
found_with f Workers t = option_map (λ n. record f { workers = Some n }) (number_within 1 64 t)
found_with f Log t = option_map (λ m. record f { log = Some m }) (log_named t)
found_with f Mode t = option_map (λ m. record f { mode = Some m }) (mode_named t)
found_with f Format t = option_map (λ m. record f { format = Some m }) (format_named t)
found_with f Output t = option_map (λ m. record f { form = Some m }) (form_named t)
found_with f Budget t = option_map (λ n. record f { budget = Some n }) (number_within 0 9223372036854775807 t)
found_with f Models t = option_map (λ n. record f { models = Some n }) (number_within 0 9223372036854775807 t)
found_with f Make t = option_map (λ n. record f { make = Some n }) (number_within 3 2000 t)
found_with f OptAll t = None
found_with f Quiet t = None
found_with f Names t = None
found_with f Queries t = None
found_with f CoreMin t = None
found_with f Stats t = None
found_with f Progress t = None
found_with f Stream t = None
found_with f Proof t = None
found_with f Split t = option_map (λ n. record f { split = Some n }) (number_within 1 100000 t)

-- the options, with what stands where one isn't given
abbrev pub options_of : Found → Options
options_of f = record {
  workers = unwrap_or f.workers 1;
  log = unwrap_or f.log Blocks;
  mode = unwrap_or f.mode None;
  format = unwrap_or f.format Aspif;
  budget = unwrap_or f.budget 9223372036854775807;
  models = unwrap_or f.models 0;
  all_optima = f.all_optima;
  form = unwrap_or f.form Text;
  quiet = f.quiet;
  names = f.names;
  make = f.make;
  queries = f.queries;
  core_min = f.core_min;
  stats = f.stats;
  progress = f.progress;
  stream = f.stream;
  proof = f.proof;
  split = f.split;
}

-- nothing was found yet
abbrev pub start : State
start = record {
  found = record {
    workers = None;
    log = None;
    mode = None;
    format = None;
    budget = None;
    models = None;
    all_optima = false;
    form =
        None;
    quiet = false;
    names = false;
    make = None;
    queries = false;
    core_min = false;
    stats = false;
    progress = false;
    stream = false;
    proof = false;
    split = None;
  };
  awaits = awaits.Option;
}
