-- Numbers with their names.
use Rattle.std.specs.Prelude.{ℕ, max, Bool, if◌then◌else◌, List, [], ◌∷◌, ◌++◌, codes, decimal}
use Rattle.asp_crew_laws.specs.declared.report.Report.{Report}
use Rattle.asp_counts.specs.declared.counts.Counts.{Counts}
use Rattle.asp_counts.specs.declared.tallies.WorkerCounts.{WorkerCounts}
use Rattle.asp_top.specs.declared.counts.What.{What}
use Rattle.asp_top.specs.declared.counts.What.TheVariants.{Spent, Leaves, Log, Decisions, Propagated, Restarts, Kept, Dropped, Worker, ItsConflicts, ItsDecisions, ItsPropagated, ItsRestarts, ItsAnswers, ItsKept, ItsDropped, Atoms, Bodies, Loops, SoFarConflicts, SoFarDecisions, SoFarRestarts, SoFarKept, SoFarAnswers, Query, Queries, SeriesConflicts}
use Rattle.asp_top.specs.declared.counts.Item.{Item}
use Rattle.asp_top.specs.declared.counts.Tally.{Tally}

-- what stands before a number
abbrev pub label_of : What → List ℕ
label_of Spent = codes "Conflicts: "
label_of Leaves = codes "\nLeaves: "
label_of Log = codes "\nLog: "
label_of Decisions = codes "\nDecisions: "
label_of Propagated = codes "\nPropagated: "
label_of Restarts = codes "\nRestarts: "
label_of Kept = codes "\nKept: "
label_of Dropped = codes "\nDropped: "
label_of Worker = codes "\nWorker "
label_of ItsConflicts = codes ": conflicts "
label_of ItsDecisions = codes ", decisions "
label_of ItsPropagated = codes ", propagated "
label_of ItsRestarts = codes ", restarts "
label_of ItsAnswers = codes ", answers "
label_of ItsKept = codes ", kept "
label_of ItsDropped = codes ", dropped "
label_of Atoms = codes "\nAtoms: "
label_of Bodies = codes "\nBodies: "
label_of Loops = codes "\nLoops: "
label_of SoFarConflicts = codes "Progress: conflicts "
label_of SoFarDecisions = codes ", decisions "
label_of SoFarRestarts = codes ", restarts "
label_of SoFarKept = codes ", nogoods "
label_of SoFarAnswers = codes ", answers "
label_of Query = codes "Query: "
label_of Queries = codes "Queries: "
label_of SeriesConflicts = codes "\nConflicts: "

abbrev pub item_text : Item → List ℕ
item_text i = label_of i.what ++ decimal i.number

abbrev count_of : What → ℕ → Item
count_of what number = record { what = what; number = number }

-- of a report: the units that were burnt, for each of which a nogood was learnt, or the conflicts that the searches counted where these
-- are more, as those of a stream that burns none; the leaves of the tree of paths; and the nogoods that workers shared
abbrev pub report_items : Report → Counts → List Item
report_items r c = count_of Spent (max r.spent c.conflicts) ∷ count_of Leaves r.leaves ∷ count_of Log r.log ∷ []

-- what the searches did together
abbrev pub search_items : Counts → List Item
search_items c = count_of Decisions c.decisions ∷ count_of Propagated c.propagated ∷ count_of Restarts c.restarts ∷ count_of Kept c.kept ∷ count_of Dropped c.dropped ∷ []

-- what one of several workers did, on a line
abbrev pub worker_items : WorkerCounts → List Item
worker_items w =
    count_of Worker w.worker ∷ count_of ItsConflicts w.counts.conflicts ∷ count_of ItsDecisions w.counts.decisions ∷ count_of ItsPropagated w.counts.propagated ∷ count_of ItsRestarts w.counts.restarts
    ∷ count_of ItsAnswers w.counts.answers ∷ count_of ItsKept w.counts.kept ∷ count_of ItsDropped w.counts.dropped ∷ []

-- of the program
abbrev pub program_items : Tally → List Item
program_items t = count_of Atoms t.atoms ∷ count_of Bodies t.bodies ∷ []

-- of its components with a loop
abbrev pub loop_items : ℕ → List Item
loop_items loops = count_of Loops loops ∷ []

-- what stands before the other counts of a query, or of all queries together
abbrev pub part_items : Bool → Counts → List Item
part_items all c = count_of (if all then Queries else Query) c.query ∷ count_of SeriesConflicts c.conflicts ∷ []

-- the counts of a run that goes on
abbrev pub told_items : Counts → List Item
told_items c =
    count_of SoFarConflicts c.conflicts ∷ count_of SoFarDecisions c.decisions ∷ count_of SoFarRestarts c.restarts ∷ count_of SoFarKept c.kept ∷ count_of SoFarAnswers c.answers ∷ []
