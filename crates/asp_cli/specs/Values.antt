-- The values that options take.
use Rattle.std.specs.Prelude.{ℕ, ◌≤◌, ◌^◌, Bool, true, false, ◌&&◌, nat_le, nat_lt, List, length, Option, Some, None, codes, if◌then◌else◌}
use Rattle.std.specs.List.{list_all}
use Rattle.std.specs.Char.{digit_value}
use Rattle.std.specs.Str.{bytes_eq}
use Rattle.std.specs.Str.Parse.{digits_value, without_leading_plus}
use Rattle.asp_cli.specs.declared.Form.{Form}
use Rattle.asp_cli.specs.declared.Form.TheVariants.{Text, Json}
use Rattle.asp_cli.specs.declared.Format.{Format}
use Rattle.asp_cli.specs.declared.Format.TheVariants.{Aspif, Smodels}
use Rattle.asp_cli.specs.declared.LogKind.{LogKind}
use Rattle.asp_cli.specs.declared.LogKind.TheVariants.{Blocks, Row}
use Rattle.asp_model.specs.declared.results.Mode.{Mode}
use Rattle.asp_model.specs.declared.results.Mode.TheVariants.{Enum, Opt, Consequences}
use Rattle.asp_model.specs.declared.results.Reasoning.TheVariants.{Brave, Cautious}

-- the mode that a name chooses; the name `auto` leaves the choice to the program
abbrev pub mode_named : List ℕ → Option (Option Mode)
mode_named t = if bytes_eq t (codes "auto") then Some None
    else (if bytes_eq t (codes "enum") then Some (Some Enum)
    else (if bytes_eq t (codes "opt") then Some (Some Opt)
    else (if bytes_eq t (codes "brave") then Some (Some (Consequences Brave))
    else (if bytes_eq t (codes "cautious") then Some (Some (Consequences Cautious)) else None))))

-- the format that a text names
abbrev pub format_named : List ℕ → Option Format
format_named t = if bytes_eq t (codes "aspif") then Some Aspif else (if bytes_eq t (codes "smodels") then Some Smodels else None)

-- the form of the results that a text names
abbrev pub form_named : List ℕ → Option Form
form_named t = if bytes_eq t (codes "text") then Some Text else (if bytes_eq t (codes "json") then Some Json else None)

-- the log that a text names
abbrev pub log_named : List ℕ → Option LogKind
log_named t = if bytes_eq t (codes "blocks") then Some Blocks else (if bytes_eq t (codes "row") then Some Row else None)

abbrev pub is_row : LogKind → Bool
is_row Blocks = false
is_row Row = true

-- one decimal digit or more, and nothing else
abbrev pub is_numeral : List ℕ → Bool
is_numeral ds = nat_lt 0 (length ds) && list_all (λ d. nat_lt (digit_value d) 10) ds

-- a number of 64 bits within these, before which a plus may stand
abbrev pub is_number_in : ℕ → ℕ → List ℕ → Bool
is_number_in least most t =
    let n = digits_value 10 (without_leading_plus t) in
    is_numeral (without_leading_plus t) && (nat_lt n (2 ^ 64) && (nat_le least n && nat_le n most))

-- the number that a text writes, if it lies within these
abbrev pub number_within : ℕ → ℕ → List ℕ → Option ℕ
number_within least most t = if is_number_in least most t then Some (digits_value 10 (without_leading_plus t)) else None

-- a ring has 3 to 2000 nodes, where one is asked for
abbrev pub IsRing : Option ℕ → Type 0
IsRing None = Unit {0}
IsRing (Some n) = (3 ≤ n) × (n ≤ 2000)

-- there are 1 to 100000 parts, where parts are asked for
abbrev pub IsPartCount : Option ℕ → Type 0
IsPartCount None = Unit {0}
IsPartCount (Some n) = (1 ≤ n) × (n ≤ 100000)

-- 1 to 64 workers search
abbrev pub IsCrew : ℕ → Type 0
IsCrew n = (1 ≤ n) × (n ≤ 64)
