-- What some command lines give, computed by the definition.
use Rattle.std.proofs.Common.{◌≡◌, [], ◌∷◌, true, false, Some, None, codes, refl}
use Rattle.asp_model.specs.declared.results.Mode.TheVariants.{Enum, Opt, Consequences}
use Rattle.asp_model.specs.declared.results.Reasoning.TheVariants.{Brave}
use Rattle.asp_cli.specs.declared.Form.TheVariants.{Text, Json}
use Rattle.asp_cli.specs.declared.Form.TheVariants.{Text}
use Rattle.asp_cli.specs.declared.Format.TheVariants.{Aspif, Smodels}
use Rattle.asp_cli.specs.declared.LogKind.TheVariants.{Blocks, Row}
use Rattle.asp_cli.specs.declared.Options.{Options}
use Rattle.asp_cli.specs.declared.names.Name.TheVariants.{Workers, Log, Mode, Format, Budget, Models, OptAll, Output, Quiet, Names, Proof, Make, Queries, Stats, Progress, Stream, Split}
use Rattle.asp_cli.specs.Given.{bad_value, help, misuse, missing, no_words, options, rivals, twice, unexpected, unknown, version, words_give}
use Rattle.asp_cli.specs.Hints.{counterpart, nearest}

-- what is asked for where no option is given
abbrev standard : Options
standard = record {
  workers = 1;
  log = Blocks;
  mode = None;
  format = Aspif;
  budget = 9223372036854775807;
  models = 0;
  all_optima = false;
  form = Text;
  quiet = false;
  names = false;
  make = None;
  queries = false;
  core_min = false;
  stats = false;
  progress = false;
  stream = false;
  proof = false;
  split = None;
}

empty_line : words_give [] ≡ misuse no_words
empty_line = refl

alone : words_give (codes "aspenum" ∷ []) ≡ options standard
alone = refl

help_long : words_give (codes "aspenum" ∷ codes "--help" ∷ []) ≡ help
help_long = refl

help_short : words_give (codes "aspenum" ∷ codes "-h" ∷ []) ≡ help
help_short = refl

version_alone : words_give (codes "aspenum" ∷ codes "--version" ∷ []) ≡ version
version_alone = refl

help_twice : words_give (codes "aspenum" ∷ codes "--help" ∷ codes "-h" ∷ []) ≡ help
help_twice = refl

help_after_option : words_give (codes "aspenum" ∷ codes "--mode=opt" ∷ codes "--help" ∷ []) ≡ help
help_after_option = refl

help_before_a_fault : words_give (codes "aspenum" ∷ codes "-h" ∷ codes "--fast" ∷ []) ≡ help
help_before_a_fault = refl

help_after_a_fault : words_give (codes "aspenum" ∷ codes "--fast" ∷ codes "--help" ∷ []) ≡ misuse (unknown (codes "--fast"))
help_after_a_fault = refl

help_of_a_level : words_give (codes "aspenum" ∷ codes "--help=2" ∷ []) ≡ help
help_of_a_level = refl

version_after_option : words_give (codes "aspenum" ∷ codes "--stats" ∷ codes "--version" ∷ []) ≡ version
version_after_option = refl

-- ---- short forms, and words of clasp's

models_short : words_give (codes "aspenum" ∷ codes "-n" ∷ codes "5" ∷ []) ≡ options (record standard { models = 5 })
models_short = refl

models_short_none : words_give (codes "aspenum" ∷ codes "-n" ∷ codes "0" ∷ []) ≡ options standard
models_short_none = refl

models_in_both_forms : words_give (codes "aspenum" ∷ codes "-n" ∷ codes "5" ∷ codes "--models=5" ∷ []) ≡ misuse (twice Models)
models_in_both_forms = refl

models_short_missing : words_give (codes "aspenum" ∷ codes "-n" ∷ []) ≡ misuse (missing Models)
models_short_missing = refl

workers_short : words_give (codes "aspenum" ∷ codes "-t" ∷ codes "4" ∷ []) ≡ options (record standard { workers = 4 })
workers_short = refl

quiet_short : words_give (codes "aspenum" ∷ codes "-q" ∷ []) ≡ options (record standard { quiet = true })
quiet_short = refl

quiet_in_both_forms : words_give (codes "aspenum" ∷ codes "--quiet" ∷ codes "-q" ∷ []) ≡ misuse (twice Quiet)
quiet_in_both_forms = refl

names : words_give (codes "aspenum" ∷ codes "-e" ∷ codes "brave" ∷ codes "--names" ∷ []) ≡ options (record standard { mode = Some (Consequences Brave); names = true })
names = refl

names_twice : words_give (codes "aspenum" ∷ codes "--names" ∷ codes "--names" ∷ []) ≡ misuse (twice Names)
names_twice = refl

names_of_parts : words_give (codes "aspenum" ∷ codes "--names" ∷ codes "--split=2" ∷ []) ≡ misuse (rivals Names Split)
names_of_parts = refl

names_with_a_value : words_give (codes "aspenum" ∷ codes "--names=1" ∷ []) ≡ misuse (bad_value Names (codes "1"))
names_with_a_value = refl

mode_short : words_give (codes "aspenum" ∷ codes "-e" ∷ codes "enum" ∷ []) ≡ options (record standard { mode = Some Enum })
mode_short = refl

opt_mode_ignore : words_give (codes "aspenum" ∷ codes "--opt-mode=ignore" ∷ []) ≡ options (record standard { mode = Some Enum })
opt_mode_ignore = refl

opt_mode_opt : words_give (codes "aspenum" ∷ codes "--opt-mode=opt" ∷ []) ≡ options (record standard { mode = Some Opt })
opt_mode_opt = refl

opt_mode_all : words_give (codes "aspenum" ∷ codes "--opt-mode=optN" ∷ []) ≡ options (record standard { all_optima = true })
opt_mode_all = refl

opt_mode_all_twice : words_give (codes "aspenum" ∷ codes "--opt-mode=optN" ∷ codes "--opt-all" ∷ []) ≡ misuse (twice OptAll)
opt_mode_all_twice = refl

opt_mode_else : words_give (codes "aspenum" ∷ codes "--opt-mode=enum" ∷ []) ≡ misuse (unknown (codes "--opt-mode"))
opt_mode_else = refl

output_json : words_give (codes "aspenum" ∷ codes "--output" ∷ codes "json" ∷ []) ≡ options (record standard { form = Json })
output_json = refl

output_text : words_give (codes "aspenum" ∷ codes "--output=text" ∷ []) ≡ options standard
output_text = refl

output_else : words_give (codes "aspenum" ∷ codes "--output=xml" ∷ []) ≡ misuse (bad_value Output (codes "xml"))
output_else = refl

outf_two : words_give (codes "aspenum" ∷ codes "--outf=2" ∷ []) ≡ options (record standard { form = Json })
outf_two = refl

outf_none : words_give (codes "aspenum" ∷ codes "--outf=0" ∷ []) ≡ options standard
outf_none = refl

outf_else : words_give (codes "aspenum" ∷ codes "--outf=1" ∷ []) ≡ misuse (unknown (codes "--outf"))
outf_else = refl

output_twice : words_give (codes "aspenum" ∷ codes "--output=json" ∷ codes "--outf=2" ∷ []) ≡ misuse (twice Output)
output_twice = refl

output_beside_a_proof : words_give (codes "aspenum" ∷ codes "--proof" ∷ codes "--output=json" ∷ []) ≡ misuse (rivals Proof Output)
output_beside_a_proof = refl

a_proof_beside_output : words_give (codes "aspenum" ∷ codes "--output=json" ∷ codes "--proof" ∷ []) ≡ misuse (rivals Output Proof)
a_proof_beside_output = refl

output_beside_parts : words_give (codes "aspenum" ∷ codes "--split=2" ∷ codes "--output=json" ∷ []) ≡ misuse (rivals Split Output)
output_beside_parts = refl

parts_beside_output : words_give (codes "aspenum" ∷ codes "--output=json" ∷ codes "--split=2" ∷ []) ≡ misuse (rivals Output Split)
parts_beside_output = refl

output_beside_a_ring : words_give (codes "aspenum" ∷ codes "--make=6" ∷ codes "--output=json" ∷ []) ≡ misuse (rivals Make Output)
output_beside_a_ring = refl

a_ring_beside_output : words_give (codes "aspenum" ∷ codes "--output=json" ∷ codes "--make=6" ∷ []) ≡ misuse (rivals Output Make)
a_ring_beside_output = refl

a_short_form_as_value : words_give (codes "aspenum" ∷ codes "--mode" ∷ codes "-q" ∷ []) ≡ misuse (bad_value Mode (codes "-q"))
a_short_form_as_value = refl

mode_auto : words_give (codes "aspenum" ∷ codes "--mode" ∷ codes "auto" ∷ []) ≡ options standard
mode_auto = refl

mode_enum : words_give (codes "aspenum" ∷ codes "--mode" ∷ codes "enum" ∷ []) ≡ options (record standard { mode = Some Enum })
mode_enum = refl

mode_opt_equals : words_give (codes "aspenum" ∷ codes "--mode=opt" ∷ []) ≡ options (record standard { mode = Some Opt })
mode_opt_equals = refl

mode_missing : words_give (codes "aspenum" ∷ codes "--mode" ∷ []) ≡ misuse (missing Mode)
mode_missing = refl

mode_upper : words_give (codes "aspenum" ∷ codes "--mode" ∷ codes "Enum" ∷ []) ≡ misuse (bad_value Mode (codes "Enum"))
mode_upper = refl

mode_equals_nothing : words_give (codes "aspenum" ∷ codes "--mode=" ∷ []) ≡ misuse (bad_value Mode [])
mode_equals_nothing = refl

mode_twice : words_give (codes "aspenum" ∷ codes "--mode=opt" ∷ codes "--mode" ∷ []) ≡ misuse (twice Mode)
mode_twice = refl

prefix_of_option : words_give (codes "aspenum" ∷ codes "--mod" ∷ codes "opt" ∷ []) ≡ misuse (unknown (codes "--mod"))
prefix_of_option = refl

short_option : words_give (codes "aspenum" ∷ codes "-m" ∷ codes "opt" ∷ []) ≡ misuse (unknown (codes "-m"))
short_option = refl

dashes_last : words_give (codes "aspenum" ∷ codes "--" ∷ []) ≡ options standard
dashes_last = refl

dashes_before : words_give (codes "aspenum" ∷ codes "--" ∷ codes "--mode=opt" ∷ []) ≡ misuse (unexpected (codes "--mode=opt"))
dashes_before = refl

empty_word : words_give (codes "aspenum" ∷ [] ∷ []) ≡ misuse (unexpected [])
empty_word = refl

one_dash : words_give (codes "aspenum" ∷ codes "-" ∷ []) ≡ misuse (unexpected (codes "-"))
one_dash = refl

stats : words_give (codes "aspenum" ∷ codes "--stats" ∷ []) ≡ options (record standard { stats = true })
stats = refl

proof : words_give (codes "aspenum" ∷ codes "--proof" ∷ []) ≡ options (record standard { proof = true })
proof = refl

stats_of_one : words_give (codes "aspenum" ∷ codes "--stats=1" ∷ []) ≡ misuse (bad_value Stats (codes "1"))
stats_of_one = refl

progress : words_give (codes "aspenum" ∷ codes "--progress" ∷ []) ≡ options (record standard { progress = true })
progress = refl

progress_of_one : words_give (codes "aspenum" ∷ codes "--progress=1" ∷ []) ≡ misuse (bad_value Progress (codes "1"))
progress_of_one = refl

stream : words_give (codes "aspenum" ∷ codes "--stream" ∷ []) ≡ options (record standard { stream = true })
stream = refl

stream_of_one : words_give (codes "aspenum" ∷ codes "--stream=1" ∷ []) ≡ misuse (bad_value Stream (codes "1"))
stream_of_one = refl

stream_twice : words_give (codes "aspenum" ∷ codes "--stream" ∷ codes "--stream" ∷ []) ≡ misuse (twice Stream)
stream_twice = refl

stream_of_parts : words_give (codes "aspenum" ∷ codes "--split=2" ∷ codes "--stream" ∷ []) ≡ misuse (rivals Split Stream)
stream_of_parts = refl

parts_of_a_stream : words_give (codes "aspenum" ∷ codes "--stream" ∷ codes "--split=2" ∷ []) ≡ misuse (rivals Stream Split)
parts_of_a_stream = refl

stream_of_a_proof : words_give (codes "aspenum" ∷ codes "--proof" ∷ codes "--stream" ∷ []) ≡ options (record standard { stream = true; proof = true })
stream_of_a_proof = refl

option_as_value : words_give (codes "aspenum" ∷ codes "--mode" ∷ codes "--stats" ∷ []) ≡ misuse (bad_value Mode (codes "--stats"))
option_as_value = refl

two_equals : words_give (codes "aspenum" ∷ codes "--mode=a=b" ∷ []) ≡ misuse (bad_value Mode (codes "a=b"))
two_equals = refl

budget_none : words_give (codes "aspenum" ∷ codes "--budget=0" ∷ []) ≡ options (record standard { budget = 0 })
budget_none = refl

budget_greatest : words_give (codes "aspenum" ∷ codes "--budget" ∷ codes "9223372036854775807" ∷ []) ≡ options standard
budget_greatest = refl

budget_too_great : words_give (codes "aspenum" ∷ codes "--budget" ∷ codes "9223372036854775808" ∷ []) ≡ misuse (bad_value Budget (codes "9223372036854775808"))
budget_too_great = refl

budget_plus : words_give (codes "aspenum" ∷ codes "--budget" ∷ codes "+007" ∷ []) ≡ options (record standard { budget = 7 })
budget_plus = refl

ring_small : words_give (codes "aspenum" ∷ codes "--make=2" ∷ []) ≡ misuse (bad_value Make (codes "2"))
ring_small = refl

ring_large : words_give (codes "aspenum" ∷ codes "--make=2001" ∷ []) ≡ misuse (bad_value Make (codes "2001"))
ring_large = refl

workers_most : words_give (codes "aspenum" ∷ codes "--workers" ∷ codes "64" ∷ []) ≡ options (record standard { workers = 64 })
workers_most = refl

workers_none : words_give (codes "aspenum" ∷ codes "--workers=0" ∷ []) ≡ misuse (bad_value Workers (codes "0"))
workers_none = refl

workers_many : words_give (codes "aspenum" ∷ codes "--workers" ∷ codes "65" ∷ []) ≡ misuse (bad_value Workers (codes "65"))
workers_many = refl

models_most : words_give (codes "aspenum" ∷ codes "--models" ∷ codes "9223372036854775807" ∷ []) ≡ options (record standard { models = 9223372036854775807 })
models_most = refl

models_none : words_give (codes "aspenum" ∷ codes "--models=0" ∷ []) ≡ options standard
models_none = refl

models_too_many : words_give (codes "aspenum" ∷ codes "--models=9223372036854775808" ∷ []) ≡ misuse (bad_value Models (codes "9223372036854775808"))
models_too_many = refl

models_twice : words_give (codes "aspenum" ∷ codes "--models" ∷ codes "2" ∷ codes "--models=2" ∷ []) ≡ misuse (twice Models)
models_twice = refl

parts_most : words_give (codes "aspenum" ∷ codes "--split" ∷ codes "100000" ∷ []) ≡ options (record standard { split = Some 100000 })
parts_most = refl

parts_none : words_give (codes "aspenum" ∷ codes "--split=0" ∷ []) ≡ misuse (bad_value Split (codes "0"))
parts_none = refl

parts_many : words_give (codes "aspenum" ∷ codes "--split=100001" ∷ []) ≡ misuse (bad_value Split (codes "100001"))
parts_many = refl

parts_of_a_proof : words_give (codes "aspenum" ∷ codes "--split=2" ∷ codes "--proof" ∷ []) ≡ misuse (rivals Split Proof)
parts_of_a_proof = refl

proof_of_parts : words_give (codes "aspenum" ∷ codes "--proof" ∷ codes "--split" ∷ codes "2" ∷ []) ≡ misuse (rivals Proof Split)
proof_of_parts = refl

all_optima : words_give (codes "aspenum" ∷ codes "--opt-all" ∷ codes "--models=7" ∷ []) ≡ options (record standard { models = 7; all_optima = true })
all_optima = refl

quiet_of_a_proof : words_give (codes "aspenum" ∷ codes "--quiet" ∷ codes "--proof" ∷ []) ≡ misuse (rivals Quiet Proof)
quiet_of_a_proof = refl

proof_of_consequences : words_give (codes "aspenum" ∷ codes "--proof" ∷ codes "-e" ∷ codes "brave" ∷ []) ≡ misuse (rivals Proof Mode)
proof_of_consequences = refl

parts_of_some_answers : words_give (codes "aspenum" ∷ codes "--split=2" ∷ codes "--models=3" ∷ []) ≡ misuse (rivals Split Models)
parts_of_some_answers = refl

workers_of_parts : words_give (codes "aspenum" ∷ codes "--workers=2" ∷ codes "--split=2" ∷ []) ≡ misuse (rivals Workers Split)
workers_of_parts = refl

parts_of_a_ring : words_give (codes "aspenum" ∷ codes "--split=2" ∷ codes "--make=5" ∷ []) ≡ options (record standard { make = Some 5; split = Some 2 })
parts_of_a_ring = refl

all_optima_of_one : words_give (codes "aspenum" ∷ codes "--opt-all=1" ∷ []) ≡ misuse (bad_value OptAll (codes "1"))
all_optima_of_one = refl

all_optima_of_a_proof : words_give (codes "aspenum" ∷ codes "--opt-all" ∷ codes "--proof" ∷ []) ≡ options (record standard { all_optima = true; proof = true })
all_optima_of_a_proof = refl

proof_of_all_optima : words_give (codes "aspenum" ∷ codes "--proof" ∷ codes "--opt-all" ∷ []) ≡ options (record standard { all_optima = true; proof = true })
proof_of_all_optima = refl

parts_twice : words_give (codes "aspenum" ∷ codes "--split=2" ∷ codes "--split=3" ∷ []) ≡ misuse (twice Split)
parts_twice = refl

first_from_the_left : words_give (codes "aspenum" ∷ codes "--stats" ∷ codes "--budget=x" ∷ codes "--verson" ∷ []) ≡ misuse (bad_value Budget (codes "x"))
first_from_the_left = refl

all_options : words_give (codes "aspenum" ∷ codes "--make=2000" ∷ codes "--stats" ∷ codes "--mode=enum" ∷ codes "--budget=7" ∷ codes "--models=3" ∷
    codes "--workers=4" ∷ codes "--format=smodels" ∷ []) ≡ options
    (record {
      workers = 4;
      log = Blocks;
      mode = Some Enum;
      format = Smodels;
      budget = 7;
      models = 3;
      all_optima = false;
      form = Text;
      quiet = false;
      names = false;
      make = Some 2000;
      queries = false;
      core_min = false;
      stats = true;
      progress = false;
      stream = false;
      proof = false;
      split = None;
    })
all_options = refl

-- ---- the log
log_row : words_give (codes "aspenum" ∷ codes "--log" ∷ codes "row" ∷ codes "-t" ∷ codes "4" ∷ []) ≡ options (record standard { workers = 4; log = Row })
log_row = refl

log_blocks : words_give (codes "aspenum" ∷ codes "--log=blocks" ∷ []) ≡ options standard
log_blocks = refl

log_else : words_give (codes "aspenum" ∷ codes "--log=rows" ∷ []) ≡ misuse (bad_value Log (codes "rows"))
log_else = refl

log_twice : words_give (codes "aspenum" ∷ codes "--log=row" ∷ codes "--log=blocks" ∷ []) ≡ misuse (twice Log)
log_twice = refl

log_of_parts : words_give (codes "aspenum" ∷ codes "--log=row" ∷ codes "--split=2" ∷ []) ≡ misuse (rivals Log Split)
log_of_parts = refl

-- ---- the format

format_after : words_give (codes "aspenum" ∷ codes "--format" ∷ codes "smodels" ∷ []) ≡ options (record standard { format = Smodels })
format_after = refl

format_of_gringo : words_give (codes "aspenum" ∷ codes "--format=aspif" ∷ []) ≡ options standard
format_of_gringo = refl

format_unknown : words_give (codes "aspenum" ∷ codes "--format=lparse" ∷ []) ≡ misuse (bad_value Format (codes "lparse"))
format_unknown = refl

format_cut_short : words_give (codes "aspenum" ∷ codes "--format=smodel" ∷ []) ≡ misuse (bad_value Format (codes "smodel"))
format_cut_short = refl

format_missing : words_give (codes "aspenum" ∷ codes "--format" ∷ []) ≡ misuse (missing Format)
format_missing = refl

format_twice : words_give (codes "aspenum" ∷ codes "--format=aspif" ∷ codes "--format" ∷ codes "smodels" ∷ []) ≡ misuse (twice Format)
format_twice = refl

format_of_parts : words_give (codes "aspenum" ∷ codes "--split=2" ∷ codes "--format=smodels" ∷ []) ≡ options (record standard { format = Smodels; split = Some 2 })
format_of_parts = refl

parts_of_a_format : words_give (codes "aspenum" ∷ codes "--format=smodels" ∷ codes "--split=2" ∷ []) ≡ options (record standard { format = Smodels; split = Some 2 })
parts_of_a_format = refl

format_of_a_proof : words_give (codes "aspenum" ∷ codes "--proof" ∷ codes "--format=smodels" ∷ []) ≡ options (record standard { format = Smodels; proof = true })
format_of_a_proof = refl

-- ---- hints

near_version : nearest (codes "--versio") ≡ Some (codes "--version")
near_version = refl

near_models : nearest (codes "--mdels") ≡ Some (codes "--models")
near_models = refl

nearer_than_mode : nearest (codes "--modls") ≡ Some (codes "--models")
nearer_than_mode = refl

swapped : nearest (codes "--mdoe") ≡ Some (codes "--mode")
swapped = refl

near_format : nearest (codes "--fromat") ≡ Some (codes "--format")
near_format = refl

near_stream : nearest (codes "--steam") ≡ Some (codes "--stream")
near_stream = refl

near_none : nearest (codes "--fast") ≡ None
near_none = refl

of_clasp : counterpart (codes "--time-limit") ≡ Some (codes "--budget counts conflicts")
of_clasp = refl

-- ---- queries

queries : words_give (codes "aspenum" ∷ codes "--queries" ∷ []) ≡ options (record standard { queries = true })
queries = refl

queries_twice : words_give (codes "aspenum" ∷ codes "--queries" ∷ codes "--queries" ∷ []) ≡ misuse (twice Queries)
queries_twice = refl

queries_with_a_value : words_give (codes "aspenum" ∷ codes "--queries=1" ∷ []) ≡ misuse (bad_value Queries (codes "1"))
queries_with_a_value = refl

queries_of_a_proof : words_give (codes "aspenum" ∷ codes "--proof" ∷ codes "--queries" ∷ []) ≡ misuse (rivals Proof Queries)
queries_of_a_proof = refl

a_proof_of_queries : words_give (codes "aspenum" ∷ codes "--queries" ∷ codes "--proof" ∷ []) ≡ misuse (rivals Queries Proof)
a_proof_of_queries = refl

all_optima_of_queries : words_give (codes "aspenum" ∷ codes "--queries" ∷ codes "--opt-all" ∷ []) ≡ misuse (rivals Queries OptAll)
all_optima_of_queries = refl

queries_with_a_limit : words_give (codes "aspenum" ∷ codes "--queries" ∷ codes "--models=3" ∷ []) ≡ misuse (rivals Queries Models)
queries_with_a_limit = refl

a_limit_of_queries : words_give (codes "aspenum" ∷ codes "-n" ∷ codes "3" ∷ codes "--queries" ∷ []) ≡ misuse (rivals Models Queries)
a_limit_of_queries = refl

queries_without_a_limit : words_give (codes "aspenum" ∷ codes "--models=0" ∷ codes "--queries" ∷ []) ≡ options (record standard { queries = true })
queries_without_a_limit = refl

queries_of_consequences : words_give (codes "aspenum" ∷ codes "--queries" ∷ codes "-e" ∷ codes "brave" ∷ []) ≡ misuse (rivals Queries Mode)
queries_of_consequences = refl

queries_of_smodels : words_give (codes "aspenum" ∷ codes "--format=smodels" ∷ codes "--queries" ∷ []) ≡ misuse (rivals Format Queries)
queries_of_smodels = refl

queries_of_aspif : words_give (codes "aspenum" ∷ codes "--queries" ∷ codes "--format=aspif" ∷ []) ≡ options (record standard { queries = true })
queries_of_aspif = refl

queries_of_a_ring : words_give (codes "aspenum" ∷ codes "--queries" ∷ codes "--make=5" ∷ []) ≡ misuse (rivals Queries Make)
queries_of_a_ring = refl

queries_of_parts : words_give (codes "aspenum" ∷ codes "--queries" ∷ codes "--split=2" ∷ []) ≡ misuse (rivals Queries Split)
queries_of_parts = refl

queries_as_json : words_give (codes "aspenum" ∷ codes "--queries" ∷ codes "--output=json" ∷ []) ≡ options (record standard { queries = true; form = Json })
queries_as_json = refl

json_of_queries : words_give (codes "aspenum" ∷ codes "--output=json" ∷ codes "--queries" ∷ []) ≡ options (record standard { queries = true; form = Json })
json_of_queries = refl

counts_of_queries : words_give (codes "aspenum" ∷ codes "--queries" ∷ codes "--stats" ∷ []) ≡ options (record standard { queries = true; stats = true })
counts_of_queries = refl

queries_with_counts : words_give (codes "aspenum" ∷ codes "--stats" ∷ codes "--queries" ∷ []) ≡ options (record standard { queries = true; stats = true })
queries_with_counts = refl

stream_of_queries : words_give (codes "aspenum" ∷ codes "--queries" ∷ codes "--stream" ∷ []) ≡ misuse (rivals Queries Stream)
stream_of_queries = refl

queries_of_a_stream : words_give (codes "aspenum" ∷ codes "--stream" ∷ codes "--queries" ∷ []) ≡ misuse (rivals Stream Queries)
queries_of_a_stream = refl

minimal_cores : words_give (codes "aspenum" ∷ codes "--core-min" ∷ []) ≡ options (record standard { core_min = true })
minimal_cores = refl
