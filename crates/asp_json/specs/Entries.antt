-- Several queries as JSON: an entry of "Call" for each, and what is said of all of them.
use Rattle.std.specs.Prelude.{ℕ, nat_lt, Bool, false, if◌then◌else◌, List, [], ◌++◌, map, ℤ, Option, None, Some, codes, decimal}
use Rattle.std.specs.Fmt.{signed_decimal}
use Rattle.asp_model.specs.declared.program.Output.{Output}
use Rattle.asp_model.specs.declared.program.Program.{Program}
use Rattle.asp_model.specs.declared.results.Mode.{Mode}
use Rattle.asp_model.specs.declared.results.Mode.TheVariants.{Enum, Opt, Consequences}
use Rattle.asp_model.specs.Found.{Found}
use Rattle.asp_model.specs.Texts.{found_count}
use Rattle.asp_print.specs.Queries.{denial, name_of}
use Rattle.asp_print.specs.Shown.{separator}
use Rattle.asp_json.specs.declared.entries.Sums.{Sums}
use Rattle.asp_json.specs.Json.{array, known_texts, more, recorded_text, result_word, summary_text}
use Rattle.asp_json.specs.Quoting.{quoted}

-- ---- a core
-- a literal by its atom's name in quotes, if it has one, and else by its number
abbrev pub element_by : Option (List ℕ) → ℤ → List ℕ
element_by None l = signed_decimal l
element_by (Some name) l = quoted (denial l ++ name)

abbrev pub element : Bool → List Output → ℤ → List ℕ
element names os l = element_by (name_of names os l) l

-- whether it is known that no literal may be left out
abbrev pub minimal_word : Bool → List ℕ
minimal_word minimal = if minimal then codes "yes" else codes "unknown"

-- the literals of a core, where there is one, and whether it is known to be minimal
abbrev pub core_text : Bool → List Output → Option (List ℤ) → Bool → List ℕ
core_text names os None minimal = []
core_text names os (Some core) minimal =
    codes ",\"Core\":" ++ array (map (element names os) core) ++ (codes ",\"Minimal\":\"" ++ minimal_word minimal ++ codes "\"")

-- ---- an entry
-- the number of the query, after a comma where an entry stands before it
abbrev pub entry_start : ℕ → List ℕ
entry_start number = separator 44 (nat_lt 1 number) ++ (codes "\n{\"Query\":" ++ decimal number)

-- whether answers are listed
abbrev pub is_listed : Mode → Found → Bool
is_listed Enum r = nat_lt 0 (found_count Enum r)
is_listed Opt r = nat_lt 0 (found_count Opt r)
is_listed (Consequences w) r = false

-- the answers behind a comma, where there is one; a brief text leaves them out
abbrev pub entry_answers : Program → Found → Bool → List ℕ
entry_answers p r brief = if brief then [] else separator 44 (is_listed r.mode r) ++ recorded_text p r.mode r

-- what was found of a query
abbrev pub entry_results : Program → ℕ → Found → Bool → List ℕ
entry_results p number r brief = entry_start number ++ entry_answers p r brief ++ summary_text r (known_texts p r.known) (found_count r.mode r)

-- the entry of the query with this number: the same of a run with one query, and its core. `names` says whether the core's literals are
-- told by the names that these outputs give their atoms.
abbrev pub entry_text : Program → List Output → ℕ → Found → Option (List ℤ) → Bool → Bool → Bool → List ℕ
entry_text p os number r core minimal brief names = entry_results p number r brief ++ (core_text names os core minimal ++ codes "}")

-- ---- before the first entry, and after the last
abbrev pub opening_text : List ℕ
opening_text = codes "{\"Solver\":\"aspenum\",\"Call\":["

abbrev pub sums_result : Sums → List ℕ
sums_result s = codes "\n],\"Result\":\"" ++ result_word s.end s.mode s.models ++ codes "\""

abbrev pub sums_models : Sums → List ℕ
sums_models s = codes ",\"Models\":{\"Number\":" ++ decimal s.models ++ codes ",\"More\":\"" ++ more s.end ++ codes "\""

abbrev pub sums_calls : Sums → List ℕ
sums_calls s = codes "},\"Calls\":" ++ decimal s.calls ++ codes "}\n"

-- what is said of all queries
abbrev pub sums_text : Sums → List ℕ
sums_text s = sums_result s ++ sums_models s ++ sums_calls s
