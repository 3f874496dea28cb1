-- What the notes say of a run.
use Rattle.std.specs.Prelude.{ℕ, Bool, true, false, not, ◌&&◌, ◌||◌, ◌==◌, is_some, if◌then◌else◌, List, [], ◌++◌, codes, decimal, Option, None, Some}
use Rattle.std.specs.List.{flat_map}
use Rattle.asp_cli.specs.declared.Options.{Options}
use Rattle.asp_cli.specs.Values.{is_row}
use Rattle.asp_crew_laws.specs.declared.report.Report.{Report}
use Rattle.asp_model.specs.declared.results.Mode.{Mode}
use Rattle.asp_model.specs.declared.results.Mode.TheVariants.{Enum, Opt, Consequences}
use Rattle.asp_counts.specs.declared.tallies.WorkerCounts.{WorkerCounts}
use Rattle.asp_top.specs.declared.status.Outcome.{Outcome}
use Rattle.asp_top.specs.declared.status.Status.{Status}
use Rattle.asp_top.specs.declared.counts.Tally.{Tally}
use Rattle.asp_top.specs.declared.counts.Item.{Item}
use Rattle.asp_prepare.specs.Naming.{is_json, is_settled}
use Rattle.asp_top.specs.Counts.{item_text, loop_items, program_items, report_items, search_items, worker_items}
use Rattle.asp_top.specs.Usage.{usage_text}
use Rattle.asp_faults.specs.Faults.{fault_text}
use Rattle.asp_top.specs.declared.status.Status.TheVariants.{All, NoModel, Partial, Unknown, Enough, Help, Memory, Usage, Refused, ReadFault, TooLong, Unnamed, WriteFault, Parts}

-- the lines for a status; none where results, parts, help or the version were asked for and written. Usage is here the status of
-- words that can't be had
abbrev pub note_of : Status → List ℕ
note_of All = []
note_of NoModel = []
note_of Partial = []
note_of Unknown = []
note_of Enough = []
note_of Help = []
note_of Memory = codes "aspenum: out of memory\n"
note_of Usage = codes "aspenum: an argument is not UTF-8" ++ usage_text
note_of (Refused f line) = codes "aspenum: line " ++ decimal line ++ fault_text f ++ codes "\n"
note_of ReadFault = codes "aspenum: read failed\n"
note_of TooLong = codes "aspenum: input too long\n"
note_of Unnamed = codes "aspenum: consequences can't be told by name: the numbers of atoms are too great\n"
note_of (WriteFault false) = codes "aspenum: write failed\n"
note_of (WriteFault true) = []
note_of Parts = []

-- numbers with their names, one behind the other
abbrev pub items_text : List Item → List ℕ
items_text items = flat_map item_text items

-- what one worker did
abbrev pub worker_text : WorkerCounts → List ℕ
worker_text w = items_text (worker_items w)

-- what each of several workers did, a line each
abbrev pub workers_text : List WorkerCounts → List ℕ
workers_text ws = flat_map worker_text ws

-- how many components of the program have a loop, where that was counted
abbrev pub loops_text : Option ℕ → List ℕ
loops_text None = []
loops_text (Some loops) = items_text (loop_items loops)

-- what the program has, a line each
abbrev pub program_text : Tally → List ℕ
program_text t = items_text (program_items t) ++ loops_text t.loops

-- the counts of a run, a line each
abbrev pub stats_of : Tally → Report → List ℕ
stats_of t r = items_text (report_items r t.search) ++ (items_text (search_items t.search) ++ (workers_text t.workers ++ (program_text t ++ codes "\n")))

abbrev pub counts_of : Tally → Option Report → List ℕ
counts_of t None = []
counts_of t (Some r) = stats_of t r

-- whether results or parts were written
abbrev pub is_answered : Status → Bool
is_answered All = true
is_answered NoModel = true
is_answered Partial = true
is_answered Unknown = true
is_answered Enough = true
is_answered Parts = true
is_answered _ = false

-- whether the text that was asked for was written: results, parts, help or the version
abbrev pub is_written : Status → Bool
is_written Help = true
is_written status = is_answered status

-- ---- options that had no effect
-- whether a list of answers was sought, which a limit can end
abbrev pub is_list : Bool → Mode → Bool
is_list all_optima Enum = true
is_list all_optima Opt = all_optima
is_list all_optima (Consequences reasoning) = false

abbrev pub is_optimum : Mode → Bool
is_optimum Opt = true
is_optimum _ = false

-- a limit of answers where no list of them was sought
abbrev pub is_idle_limit : Options → Mode → Bool
is_idle_limit given mode = not (given.models == 0) && not (is_list given.all_optima mode)

abbrev pub limit_text : Options → Mode → List ℕ
limit_text given mode = if is_idle_limit given mode then codes "aspenum: --models has no effect: no list of answers is sought\n" else []

-- all optima where no optimum was sought
abbrev pub is_idle_request : Options → Mode → Bool
is_idle_request given mode = given.all_optima && not (is_optimum mode)

abbrev pub optima_text : Options → Mode → List ℕ
optima_text given mode = if is_idle_request given mode then codes "aspenum: --opt-all has no effect: no optimum is sought\n" else []

abbrev pub asked_text : Options → Mode → List ℕ
asked_text given mode = limit_text given mode ++ optima_text given mode

-- whether answers are written as lines, where they are listed
abbrev pub lists_lines : Options → Bool
lists_lines given = not (is_json given.form) && (not (is_some given.make || given.quiet) && is_settled given)

-- Whether answers are written while they are found: where that was asked for, and answers are listed as lines.
abbrev pub is_streamed : Options → Mode → Bool
is_streamed given mode = given.stream && (is_list given.all_optima mode && lists_lines given)

abbrev pub is_idle_stream : Options → Mode → Bool
is_idle_stream given mode = given.stream && not (is_streamed given mode)

abbrev pub stream_text : Options → Mode → List ℕ
stream_text given mode = if is_idle_stream given mode then codes "aspenum: --stream has no effect: no list of answers is written as lines\n" else []

-- a row of slots where one thread searched, or several that share no nogoods
abbrev pub is_idle_row : Options → Bool
is_idle_row given = ((given.workers == 1) || given.stream) && is_row given.log

abbrev pub row_text : Options → List ℕ
row_text given = if is_idle_row given then codes "aspenum: --log has no effect: no nogoods are shared\n" else []

-- whether a list of answers is told by as many searches as there are workers: where no budget is given, since these burn no unit
abbrev pub is_in_parts : Options → Mode → Bool
is_in_parts given mode = is_streamed given mode && (not (is_optimum mode) && (given.budget == 9223372036854775807))

-- several workers where one thread searched
abbrev pub is_idle_crew : Options → Mode → Bool
is_idle_crew given mode = given.stream && (not (given.workers == 1) && not (is_in_parts given mode))

abbrev pub crew_text : Options → Mode → List ℕ
crew_text given mode = if is_idle_crew given mode then codes "aspenum: --workers has no effect: --stream searches with one thread\n" else []

abbrev pub threads_text : Options → Mode → List ℕ
threads_text given mode = row_text given ++ crew_text given mode

abbrev pub sought_text : Options → Mode → List ℕ
sought_text given mode = asked_text given mode ++ stream_text given mode

abbrev pub idle_text : Options → Mode → List ℕ
idle_text given mode = sought_text given mode ++ threads_text given mode

-- the lines for options that had no effect on what was sought
abbrev pub idle_of : Options → Option Report → List ℕ
idle_of given None = []
idle_of given (Some r) = idle_text given r.results.mode

-- the counts, where they are asked for and results were written
abbrev pub counts_if : Bool → Tally → Outcome → List ℕ
counts_if stats t o = if stats && is_answered o.status then counts_of t o.report else []

-- what follows the line for the status
abbrev pub later_notes : Options → Tally → Outcome → List ℕ
later_notes given t o = idle_of given o.report ++ counts_if given.stats t o

-- what the notes get of an outcome
abbrev pub notes_of : Options → Tally → Outcome → List ℕ
notes_of given t o = note_of o.status ++ later_notes given t o
