-- What was found of what is left of a program, told with what was set aside, and its text.
use Rattle.std.specs.Prelude.{◌≡◌, ℕ, Bool, true, false, List, Option, map, option_map}
use Rattle.asp_model.specs.declared.program.Program.{Program}
use Rattle.asp_model.specs.declared.results.Ask.{Ask}
use Rattle.asp_model.specs.declared.results.End.{End}
use Rattle.asp_model.specs.Found.{Found}
use Rattle.asp_model.specs.Sets.{Atoms}
use Rattle.asp_model.specs.Texts.{shown}
use Rattle.asp_equal.specs.declared.reduce.Aside.{Aside}
use Rattle.asp_equal.specs.Reduced.{restored}
use Rattle.asp_print.specs.Named.{printed_text}
use Rattle.asp_json.specs.Json.{json_text}
use Rattle.asp_cli.specs.declared.Form.{Form}
use Rattle.asp_cli.specs.declared.Form.TheVariants.{Text, Json}
use Rattle.asp_crew_laws.specs.declared.report.Report.{Report}
use Rattle.asp_crew_laws.specs.Reports.{Says as SaysReport}
use Rattle.asp_prepare.specs.declared.layout.Layout.{Layout}

-- what was found, each set with what was set aside
abbrev pub found_with : Aside → Found → Found
found_with A r = record r { answers = map (restored A) r.answers; best = option_map (λ best. (restored A best.0, best.1)) r.best; known = option_map (restored A) r.known }

-- the report of a search for what is left, as one on the program
abbrev pub report_with : Aside → Report → Report
report_with A r = record r { results = found_with A r.results }

-- the same where no answer is listed
abbrev pub told_with : Aside → Report → Report
told_with A r = record r { results = record r.results { known = option_map (restored A) r.results.known } }

-- what is asked by name without the names: what holds in some answer, or in each, of all atoms
abbrev pub without_names : Ask → Ask
without_names ask = record ask { by_name = false }

-- the report with this set of consequences
abbrev pub with_known : Option Atoms → Report → Report
with_known known r = record r { results = record r.results { known = known } }

-- The set told shows the same texts as this one where consequences are told by name, and else it is this one.
abbrev pub ShowsAs : Bool → Program → Option Atoms → Option Atoms → Type 0
ShowsAs false p known told = told ≡ known
ShowsAs true p known told = option_map (shown p) told ≡ option_map (shown p) known

-- The report says of the program what was asked. By name its set of consequences isn't the program's, but shows the same texts.
pub record SaysOf (p : Program) (ask : Ask) (r : Report) (end : End) : Type 0 where
  pub known : Option Atoms
  pub says : SaysReport p (without_names ask) (with_known known r) end
  pub same : ShowsAs ask.by_name p known r.results.known

-- ---- its text
-- the text of results, in the form that was asked for; `names` says whether lines tell consequences by name
abbrev pub text_in : Form → Program → Found → Bool → Bool → List ℕ
text_in Text p r brief names = printed_text p r brief names
text_in Json p r brief names = json_text p r brief

-- the text of a report: that of its results
abbrev pub report_text : Program → Report → Layout → List ℕ
report_text p r layout = text_in layout.form p r.results layout.brief layout.names
