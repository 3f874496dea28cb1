-- Which program is searched: with atoms for its outputs where consequences are told by name, and without what is set aside, its minimise statements unfolded.
use Rattle.std.specs.Prelude.{◌≡◌, Bool, true, false, not, ◌&&◌, ◌||◌, if◌then◌else◌, Option, Some, is_some}
use Rattle.asp_model.specs.declared.program.Program.{Program}
use Rattle.asp_model.specs.declared.results.Ask.{Ask}
use Rattle.asp_named.specs.Named.{has_numbers, named, named_if}
use Rattle.asp_equal.specs.declared.reduce.Aside.{Aside}
use Rattle.asp_equal.specs.Reduced.{aside_of, none_aside, reduced}
use Rattle.asp_unfold.specs.Unfolded.{unfolded}
use Rattle.asp_cli.specs.declared.Form.{Form}
use Rattle.asp_cli.specs.declared.Form.TheVariants.{Text, Json}
use Rattle.asp_cli.specs.declared.Options.{Options}
use Rattle.asp_cli.specs.Found.{seeks_consequences}
use Rattle.asp_prepare.specs.declared.prepared.Prepared.{Prepared}
use Rattle.asp_prepare.specs.declared.prepared.Unready.{Unready}
use Rattle.asp_prepare.specs.declared.prepared.Unready.TheVariants.{Memory, Unnamed}
use Rattle.asp_prepare.specs.Meaning.{mode_of}

-- A proof is of the whole program as it is, and so are parts.
abbrev pub is_settled : Options → Bool
is_settled given = not (given.proof || is_some given.split)

abbrev pub is_json : Form → Bool
is_json Text = false
is_json Json = true

-- whether consequences are told by name: where that was asked for, and always as JSON
abbrev pub is_named : Options → Bool
is_named given = is_settled given && seeks_consequences (Some given.mode) && (given.names || is_json given.form)

-- the program whose answers are sought: with atoms for its outputs where consequences are told by name
abbrev pub asked : Options → Program → Program
asked given p = if is_named given then named p else p

-- the same where there is one
abbrev pub asked_if : Options → Program → Option Program
asked_if given p = if is_named given then named_if p else Some p

-- what is left of it, its minimise statements unfolded; and what is set aside: its facts, and the atoms that copy another one
abbrev pub left_for : Options → Program → Program
left_for given q = if is_settled given then unfolded (reduced q) else q

abbrev pub aside_for : Options → Program → Aside
aside_for given q = if is_settled given then aside_of q else none_aside

-- what is asked of the program by the options
abbrev pub ask_of : Options → Program → Ask
ask_of given p = record { mode = mode_of given.mode p; models = given.models; all_optima = given.all_optima; by_name = is_named given }

-- ---- what is searched
-- the program that is searched
abbrev pub searched : Options → Program → Program
searched given p = left_for given (asked given p)

-- what is set aside before
abbrev pub set_aside : Options → Program → Aside
set_aside given p = aside_for given (asked given p)

-- what is searched of the program, and what is set aside
abbrev pub prepared_of : Options → Program → Prepared
prepared_of given p = record { compiled = searched given p; aside = set_aside given p }

-- There are numbers where outputs need atoms.
abbrev pub HasNumbers : Options → Program → Type 0
HasNumbers given p = is_named given ≡ true → has_numbers p ≡ true

-- why nothing is searched of a program that is there
abbrev pub WhyNot : Options → Program → Unready → Type 0
WhyNot given p Memory = Unit {0}
WhyNot given p Unnamed = (is_named given ≡ true) × (has_numbers p ≡ false)
