-- What the arguments give: the format of a program, help, the version, or the first fault.
use Rattle.std.specs.Prelude.{ℕ, Bool, true, false, ◌||◌, ◌==◌, nat_lt, List, [], ◌∷◌, length, Option, Some, None, is_some, unwrap_or, Result, Ok, Err, codes, if◌then◌else◌}
use Rattle.std.specs.List.{after_first, before_first, position_or_len}
use Rattle.std.specs.Str.{bytes_eq}
use Rattle.asp_checker.specs.declared.run.Format.{Format}
use Rattle.asp_checker.specs.declared.run.Format.TheVariants.{Aspif, Smodels}
use Rattle.asp_checkrun.specs.declared.words.State.{State}
use Rattle.asp_checkrun.specs.declared.words.AskError.{AskError}
use Rattle.asp_checkrun.specs.declared.words.AskError.TheVariants.{Usage, Help, Version}
use Rattle.asp_checkrun.specs.declared.words.WordFault.{WordFault}
use Rattle.asp_checkrun.specs.declared.words.WordFault.TheVariants.{Unknown, Twice, Missing, Value}

abbrev pub Text : Type 0
Text = List ℕ

-- which fault the arguments have, and at which of them
pub data Misuse : Type 0 where
  unknown : Text → Misuse
  twice : Misuse
  missing : Misuse
  bad_value : Text → Misuse

abbrev pub fault_seen : WordFault → Misuse
fault_seen (Unknown w) = unknown w.now
fault_seen Twice = twice
fault_seen Missing = missing
fault_seen (Value v) = bad_value v.now

pub data Given : Type 0 where
  help : Given
  version : Given
  misuse : Misuse → Given
  check : Format → Given

-- what ends the arguments before they give a format
abbrev pub refused : AskError → Given
refused (Usage f) = misuse (fault_seen f)
refused Help = help
refused Version = version

abbrev pub seen : {T : Type 0} → Result T AskError → Result T Given
seen (Ok v) = Ok v
seen (Err e) = Err (refused e)

abbrev pub if_ok : {T U : Type 0} → Result T Given → (T → Result U Given) → Result U Given
if_ok (Ok v) f = f v
if_ok (Err g) f = Err g

-- ---- one argument
abbrev pub asks_help : Text → Bool
asks_help word = bytes_eq word (codes "--help") || bytes_eq word (codes "-h")

abbrev pub asks_version : Text → Bool
asks_version word = bytes_eq word (codes "--version")

abbrev pub format_named : Text → Option Format
format_named t = if bytes_eq t (codes "aspif") then Some Aspif else (if bytes_eq t (codes "smodels") then Some Smodels else None)

abbrev pub told_by : Text → Option Format → Result State Given
told_by v None = Err (misuse (bad_value v))
told_by v (Some f) = Ok (record { format = Some f; awaits_value = false })

-- the value of `--format`
abbrev pub told_format : Text → Result State Given
told_format v = told_by v (format_named v)

-- what stands before the first `=`, and what comes after it
abbrev pub cut : Text → Option (Text × Text)
cut w = if nat_lt (position_or_len (λ b. b == 61) w) (length w)
    then Some (before_first (λ b. b == 61) w, after_first (λ b. b == 61) w) else None

-- `--format` with its value after `=`
abbrev pub told_with_value : State → Text → Text → Text → Result State Given
told_with_value s name v w = if bytes_eq name (codes "--format") then (if is_some s.format then Err (misuse twice) else told_format v)
    else Err (misuse (unknown w))

-- `--format`, after which its value has to come
abbrev pub told_alone : State → Text → Result State Given
told_alone s w = if bytes_eq w (codes "--format") then (if is_some s.format then Err (misuse twice) else Ok (record { format = None; awaits_value = true }))
    else Err (misuse (unknown w))

abbrev pub named_by : State → Text → Option (Text × Text) → Result State Given
named_by s w None = told_alone s w
named_by s w (Some p) = told_with_value s p.0 p.1 w

abbrev pub named : State → Text → Result State Given
named s w = named_by s w (cut w)

abbrev pub told_word : State → Text → Result State Given
told_word s w = if asks_help w then Err help else (if asks_version w then Err version else named s w)

-- what is said after one more argument
abbrev pub after : State → Text → Result State Given
after s w = if s.awaits_value then told_format w else told_word s w

-- ---- the arguments
-- aspif, where no format is given
abbrev pub ended : State → Result Format Given
ended s = if s.awaits_value then Err (misuse missing) else Ok (unwrap_or s.format Aspif)

-- the arguments one by one, from the left, to the first that asks for help or the version, or is faulty
abbrev pub walked : State → List Text → Result Format Given
walked s [] = ended s
walked s (w ∷ ws) = if_ok (after s w) (λ t. walked t ws)

abbrev pub given_by : Result Format Given → Given
given_by (Ok f) = check f
given_by (Err g) = g

-- nothing was given yet
abbrev pub start : State
start = record { format = None; awaits_value = false }

-- what the words give, the program's name first
abbrev pub words_give : List Text → Given
words_give [] = given_by (walked start [])
words_give (name ∷ rest) = given_by (walked start rest)

-- the same of an answer
abbrev pub given_of : Result Format AskError → Given
given_of r = given_by (seen r)
