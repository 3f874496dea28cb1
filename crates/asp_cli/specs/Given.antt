-- What the words of a command line give: help, the version, options, or the first fault.
use Rattle.std.specs.Prelude.{ℕ, Bool, true, false, ◌||◌, ◌==◌, nat_lt, List, [], ◌∷◌, length, Option, Some, None, Result, Ok, Err, codes, if◌then◌else◌}
use Rattle.std.specs.List.{after_first, before_first, position_or_len}
use Rattle.std.specs.Str.{bytes_eq}
use Rattle.asp_cli.specs.declared.found.Found.{Found}
use Rattle.asp_cli.specs.declared.names.Name.{Name}
use Rattle.asp_cli.specs.declared.names.Name.TheVariants.{OptAll, Quiet, Names, Queries, CoreMin, Stats, Progress, Stream, Proof}
use Rattle.asp_cli.specs.declared.walk.Awaits.TheVariants as awaits
use Rattle.asp_cli.specs.declared.walk.Awaits.{Awaits}
use Rattle.asp_cli.specs.declared.walk.State.{State}
use Rattle.asp_cli.specs.declared.Options.{Options}
use Rattle.asp_cli.specs.declared.CliError.{CliError}
use Rattle.asp_cli.specs.declared.CliError.TheVariants.{Usage, Help, Version}
use Rattle.asp_cli.specs.declared.WordFault.{WordFault}
use Rattle.asp_cli.specs.declared.WordFault.TheVariants.{NoWords, Unknown, Unexpected, Twice, Missing, Value, Rivals}
use Rattle.asp_cli.specs.Found.{clash_of, found_with, has, options_of, rival_of, start}
use Rattle.asp_cli.specs.Names.{meant, named}

abbrev pub Text : Type 0
Text = List ℕ

-- a faulty command line: which fault, and at which word
pub data Misuse : Type 0 where
  no_words : Misuse
  unknown : Text → Misuse
  unexpected : Text → Misuse
  twice : Name → Misuse
  missing : Name → Misuse
  bad_value : Name → Text → Misuse
  -- the first is there, and the second can't stand beside it
  rivals : Name → Name → Misuse

-- what a fault says, by the words themselves
abbrev pub fault_seen : WordFault → Misuse
fault_seen NoWords = no_words
fault_seen (Unknown w) = unknown w.now
fault_seen (Unexpected w) = unexpected w.now
fault_seen (Twice n) = twice n
fault_seen (Missing n) = missing n
fault_seen (Value n v) = bad_value n v.now
fault_seen (Rivals m n) = rivals m n

pub data Given : Type 0 where
  help : Given
  version : Given
  misuse : Misuse → Given
  options : Options → Given

-- what ends a line before it gives options
abbrev pub refused : CliError → Given
refused (Usage f) = misuse (fault_seen f)
refused Help = help
refused Version = version

abbrev pub seen : {T : Type 0} → Result T CliError → Result T Given
seen (Ok v) = Ok v
seen (Err e) = Err (refused e)

abbrev pub if_ok : {T U : Type 0} → Result T Given → (T → Result U Given) → Result U Given
if_ok (Ok v) f = f v
if_ok (Err g) f = Err g

-- ---- one word

abbrev pub asks_help : Text → Bool
asks_help word = bytes_eq word (codes "--help") || bytes_eq word (codes "-h")

abbrev pub asks_version : Text → Bool
asks_version word = bytes_eq word (codes "--version")

-- a hyphen and more
abbrev pub looks_like_option : Text → Bool
looks_like_option (c ∷ d ∷ ds) = c == 45
looks_like_option _ = false

-- what a word gives whose name, what stands before its value, names no option
abbrev pub stray : Text → Text → Given
stray name w = if asks_help name then help else (if asks_version name then version
    else (if looks_like_option w then misuse (unknown name) else misuse (unexpected w)))

-- what stands before the first `=`, and what comes after it
abbrev pub cut : Text → Option (Text × Text)
cut w = if nat_lt (position_or_len (λ b. b == 61) w) (length w)
    then Some (before_first (λ b. b == 61) w, after_first (λ b. b == 61) w) else None

abbrev pub beside : Name → Option Name → Result Name Given
beside n None = Ok n
beside n (Some rival) = Err (misuse (rivals rival n))

abbrev pub fresh_by : Found → Text → Text → Option Name → Result Name Given
fresh_by f name w None = Err (stray name w)
fresh_by f name w (Some n) = if has f n then Err (misuse (twice n)) else beside n (rival_of f n)

-- the option of this name, which the word gives for the first time, and which may stand beside the others
abbrev pub fresh : Found → Text → Text → Result Name Given
fresh f name w = fresh_by f name w (named name)

-- what was found, unless two options exclude each other by the value of one
abbrev pub told_after : Found → Option (Name × Name) → Result State Given
told_after f None = Ok (record { found = f; awaits = awaits.Option })
told_after f (Some pair) = Err (misuse (rivals pair.0 pair.1))

abbrev pub told_by : Name → Text → Option Found → Result State Given
told_by n v None = Err (misuse (bad_value n v))
told_by n v (Some f) = told_after f (clash_of f)

-- an option's value
abbrev pub told_value : Found → Name → Text → Result State Given
told_value f n v = told_by n v (found_with f n v)

-- an option with its value after `=`
abbrev pub told_with_value : Found → Text → Text → Text → Result State Given
told_with_value f name v w = if_ok (fresh f name w) (λ n. told_value f n v)

abbrev pub told_name : Found → Name → State
told_name f OptAll = record { found = record f { all_optima = true }; awaits = awaits.Option }
told_name f Quiet = record { found = record f { quiet = true }; awaits = awaits.Option }
told_name f Names = record { found = record f { names = true }; awaits = awaits.Option }
told_name f Queries = record { found = record f { queries = true }; awaits = awaits.Option }
told_name f CoreMin = record { found = record f { core_min = true }; awaits = awaits.Option }
told_name f Stats = record { found = record f { stats = true }; awaits = awaits.Option }
told_name f Progress = record { found = record f { progress = true }; awaits = awaits.Option }
told_name f Stream = record { found = record f { stream = true }; awaits = awaits.Option }
told_name f Proof = record { found = record f { proof = true }; awaits = awaits.Option }
told_name f n = record { found = f; awaits = awaits.Value n }

-- an option in a word of its own, after which its value has to come if it takes one
abbrev pub told_alone : Found → Text → Result State Given
told_alone f w = if_ok (fresh f w w) (λ n. Ok (told_name f n))

abbrev pub told_cut : Found → Text → Option (Text × Text) → Result State Given
told_cut f w None = told_alone f w
told_cut f w (Some p) = told_with_value f p.0 p.1 w

abbrev pub told_option : Found → Text → Result State Given
told_option f w = if bytes_eq w (codes "--") then Ok (record { found = f; awaits = awaits.Nothing }) else told_cut f (meant w) (cut (meant w))

abbrev pub after_by : Found → Awaits → Text → Result State Given
after_by f awaits.Option w = told_option f w
after_by f (awaits.Value n) w = told_value f n w
after_by f awaits.Nothing w = Err (misuse (unexpected w))

-- what is said after one more word
abbrev pub after : State → Text → Result State Given
after s w = after_by s.found s.awaits w

-- ---- the words

abbrev pub ended_by : Found → Awaits → Result Options Given
ended_by f (awaits.Value n) = Err (misuse (missing n))
ended_by f _ = Ok (options_of f)

-- what the end of the words says
abbrev pub ended : State → Result Options Given
ended s = ended_by s.found s.awaits

-- the words one by one, from the left, to the first that asks for help or the version, or is faulty
abbrev pub walked : State → List Text → Result Options Given
walked s [] = ended s
walked s (w ∷ ws) = if_ok (after s w) (λ t. walked t ws)

abbrev pub given_by : Result Options Given → Given
given_by (Ok o) = options o
given_by (Err g) = g

-- what the words give, the program's name first
abbrev pub words_give : List Text → Given
words_give [] = misuse no_words
words_give (name ∷ rest) = given_by (walked start rest)

-- the same of an answer
abbrev pub given_of : Result Options CliError → Given
given_of r = given_by (seen r)
