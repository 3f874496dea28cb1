-- What each status of a run says of the words, of the bytes read and of the bytes written.
use Rattle.std.specs.Prelude.{◌≡◌, ◌⊎◌, ℕ, ◌+◌, ◌-◌, ◌<◌, ◌≤◌, ◌^◌, ◌==◌, nat_lt, Bool, true, false, ◌&&◌, ◌||◌, if◌then◌else◌, List, [], ◌++◌, Contains, Option, None, Some, Result, Ok, Err, IfSome, is_some, length, take, ℤ}
use Rattle.std.specs.Io.KnownBytes.{Appends, Keeps, IsAtEnd}
use Rattle.asp_io.specs.Causes.{Rose, AppendsFront}
use Rattle.asp_read.specs.declared.fault.Fault.{Fault}
use Rattle.asp_read.specs.declared.fault.ReadError.{ReadError}
use Rattle.asp_read.specs.declared.fault.ReadError.TheVariants as errors
use Rattle.asp_model.specs.declared.program.Program.{Program}
use Rattle.asp_model.specs.declared.results.Ask.{Ask}
use Rattle.asp_model.specs.declared.results.End.{End}
use Rattle.asp_model.specs.declared.results.End.TheVariants.{Finished, Limited, Unfinished}
use Rattle.asp_model.specs.declared.results.Mode.{Mode}
use Rattle.asp_model.specs.declared.results.Mode.TheVariants.{Enum, Opt, Consequences}
use Rattle.asp_model.specs.Costs.{cost, optima}
use Rattle.asp_model.specs.Sound.{IsSound}
use Rattle.asp_equal.specs.declared.reduce.Aside.{Aside}
use Rattle.asp_named.specs.Named.{has_numbers}
use Rattle.asp_read.specs.Judging.{most_bytes}
use Rattle.asp_cli.specs.declared.Format.{Format}
use Rattle.asp_top.specs.Codes.{IsLost}
use Rattle.asp_top.specs.Formats.{StopsFor, outcome_for}
use Rattle.asp_make.specs.Ring.{ring}
use Rattle.asp_make.specs.Texts.{parts_text}
use Rattle.asp_cli.specs.Given.{Given, help, misuse, options, version}
use Rattle.asp_cli.specs.declared.Options.{Options}
use Rattle.asp_cli.specs.declared.Form.TheVariants as forms
use Rattle.asp_model.specs.Models.{atoms_of}
use Rattle.asp_model.specs.Sets.{Atoms}
use Rattle.asp_model.specs.Texts.{answers_from}
use Rattle.asp_vars.specs.Numbering.{bodies_of}
use Rattle.asp_counts.specs.Telling.{AreNumbered}
use Rattle.asp_crew.specs.Refuting.{is_finished}
use Rattle.asp_crew_laws.specs.declared.report.Report.{Report}
use Rattle.asp_crew_laws.specs.Reports.{IsReport, joined}
use Rattle.asp_crew_laws.specs.Runs.{asks}
use Rattle.asp_top.specs.declared.status.Status.{Status}
use Rattle.asp_top.specs.declared.status.Status.TheVariants.{All, NoModel, Partial, Unknown, Enough, Help, Memory, Usage, Refused, ReadFault, TooLong, Unnamed, WriteFault, Parts}
use Rattle.asp_top.specs.declared.status.Outcome.{Outcome}
use Rattle.asp_top.specs.declared.counts.Tally.{Tally}
use Rattle.asp_top.specs.Loops.{HasLoops}
use Rattle.asp_prepare.specs.declared.layout.Layout.{Layout}
use Rattle.asp_prepare.specs.declared.prepared.Prepared.{Prepared}
use Rattle.asp_prepare.specs.declared.prepared.Unready.{Unready}
use Rattle.asp_prepare.specs.declared.prepared.Unready.TheVariants as unready
use Rattle.asp_prepare.specs.Meaning.{has_model, is_some_of, mode_of}
use Rattle.asp_prepare.specs.Naming.{HasNumbers, WhyNot, ask_of, asked, is_named, prepared_of, searched, set_aside}
use Rattle.asp_prepare.specs.Told.{SaysOf, report_text, report_with, told_with}
use Rattle.asp_top.specs.Meaning.{status_for}
use Rattle.asp_outlet.specs.Outlets.{list_of, optima_text, whole_text}
use Rattle.asp_limit.specs.Limits.{room}
use Rattle.asp_stream.specs.Endings.{IsTellingOf, IsTellingOfTies, report_of}
use Rattle.asp_stream.specs.declared.told.End.{End as StreamEnd}
use Rattle.asp_stream.specs.declared.told.End.TheVariants as ends
use Rattle.asp_stream.specs.declared.told.Told.{Told}
use Rattle.asp_proof.specs.declared.proof.Line.{Line}
use Rattle.asp_proof.specs.declared.proof.Sought.{Sought}
use Rattle.asp_proof.specs.Texts.{head_text, line_text, lines, text_of}
use Rattle.asp_scribe.specs.Proofs.{proof_of, sought_of}
use Rattle.asp_top.specs.Notes.{is_answered, is_optimum, is_streamed, is_written, note_of, notes_of}
use Rattle.asp_faults.specs.Writing.{IsNoted}
use Rattle.asp_top.specs.Parting.{AreParts, Divides}
use Rattle.asp_top.specs.Held.{row_of}
use Rattle.asp_top.specs.Progress.{IsTold, scope, tells_parts}
use Rattle.asp_top.specs.Telling.{Point, Tells}
use Rattle.asp_top.specs.Usage.{misuse_note}

-- the source and the sink before and after a run: the bytes that are left and held, where they are told, and the counts of faults
pub record Around : Type 0 where
  pub left : Option (List ℕ)
  pub left' : Option (List ℕ)
  pub reads : ℕ
  pub reads' : ℕ
  pub held : Option (List ℕ)
  pub held' : Option (List ℕ)
  pub writes : ℕ
  pub writes' : ℕ

abbrev pub around : Option (List ℕ) → Option (List ℕ) → ℕ → ℕ → Option (List ℕ) → Option (List ℕ) → ℕ → ℕ → Around
around left left' reads reads' held held' writes writes' =
    record { left = left; left' = left'; reads = reads; reads' = reads'; held = held; held' = held'; writes = writes; writes' = writes' }

-- the whole content of the source says this, where it is told
abbrev pub Says : Format → Around → Result Program ReadError → Type 0
Says f a said = IfSome a.left (λ text. outcome_for f text ≡ said)

-- some text says this
abbrev pub IsSaid : Format → Result Program ReadError → Type 0
IsSaid f said = (text : List ℕ) × (outcome_for f text ≡ said)

-- the source wasn't read
pub record IsUnasked (a : Around) : Type 0 where
  pub left : Keeps a.left a.left'
  pub reads : a.reads' ≡ a.reads

-- the text says the program, and was read to its end; where the source doesn't tell its bytes, some text says it
pub record IsRead (f : Format) (a : Around) (p : Program) : Type 0 where
  pub says : Says f a (Ok p)
  pub said : IsSaid f (Ok p)
  pub end : IsAtEnd a.left'

-- the program of the text, or the ring that is asked for, and then nothing is read
abbrev pub IsGiven : Format → Option ℕ → Around → Program → Type 0
IsGiven f None a p = IsRead f a p
IsGiven f (Some n) a p = (p ≡ ring n) × IsUnasked a

-- ---- a list that is written while it is found
-- whether one is
abbrev pub streams : Options → Program → Bool
streams given p = is_streamed given (mode_of given.mode p)

-- the list: all answers, or where an optimum is sought all optima
abbrev pub whole_list : Mode → Program → List Atoms
whole_list mode p = list_of (is_optimum mode) p

-- The cost that is told after the last: of optima that of each, and of answers none.
abbrev pub IsCostOf : Mode → Program → Option (List ℤ) → Type 0
IsCostOf Enum p c = c ≡ None
IsCostOf Opt p c = (S : Atoms) × Contains (optima p) S × (c ≡ Some (cost p S))
IsCostOf (Consequences w) p c = ⊥

-- the text of a list that ended so
abbrev pub list_text : Option (List ℤ) → Program → End → List Atoms → List ℕ
list_text None p end Ss = whole_text p end Ss
list_text (Some c) p end Ss = optima_text p end c Ss

-- what is asked of a run that has no limit
abbrev pub list_ask : Mode → Ask
list_ask Enum = asks Enum 0 false
list_ask Opt = record { mode = Opt; models = 0; all_optima = true; by_name = false }
list_ask (Consequences w) = asks (Consequences w) 0 false

-- the report with these answers
abbrev pub with_answers : List Atoms → Report → Report
with_answers Ss r = record r { results = record r.results { answers = Ss } }

-- what is asked of a run: the whole list, where it is written while it is found; the limit then ends what is written
abbrev pub run_ask : Options → Program → Ask
run_ask given p = record (ask_of given p) { models = if streams given p then 0 else given.models }

-- those of the last answers that may still be written, where the others were; 0 is no limit
abbrev pub left_of : ℕ → List Atoms → List Atoms → List Atoms
left_of models heard rest = if models == 0 then rest else take (models - length heard) rest

-- What is reported of a run, told with what was set aside: all that it found; or of one whose answers were written while they were
-- found, only those that were written at the end, as they were found.
abbrev pub IsReported : Bool → ℕ → Aside → Report → Option Report → Type 0
IsReported false models A done report = report ≡ Some (told_with A done)
IsReported true models A done report = (heard rest : List Atoms) × (done.results.answers ≡ heard ++ rest) × (report ≡ Some (with_answers (left_of models heard rest) done))

-- ---- outputs get atoms, and facts and copies are set aside, before the search
-- No parts are asked for. The report is that of a run on what is left of the program, with what is asked of the run and the units that were given;
-- with what was set aside it says of the program what was asked. Where consequences are told by name all
-- this is about the program with atoms for its outputs, and the texts of those are what is said.
pub record IsSolved (given : Options) (a : Around) (report : Option Report) : Type 0 where
  pub program : Program
  pub source : IsGiven given.format given.make a program
  pub sound : IsSound program
  pub numbers : HasNumbers given program
  pub whole : given.split ≡ None
  pub done : Report
  pub reports : IsReported (streams given program) given.models (set_aside given program) done report
  pub is : IsReport (searched given program) (run_ask given program) given.budget done
  pub says : SaysOf (asked given program) (run_ask given program) (report_with (set_aside given program) done) done.results.end

-- the closing lines alone are written of a ring, and where they were asked for
abbrev pub is_brief : Options → Bool
is_brief given = is_some given.make || given.quiet

-- how the results are written
abbrev pub layout_of : Options → Layout
layout_of given = record { form = given.form; brief = is_brief given; names = given.names }

-- Where answers are written while they are found, the run found fewer than `--models` asks for.
abbrev pub IsFew : Options → Program → Report → Type 0
IsFew given p done = streams given p ≡ true → 0 < given.models → length done.results.answers < given.models

-- ---- its text
-- The text of the results; or where a proof is asked for that of a proof that lists them, with some lines.
abbrev pub HasText : Bool → Options → Program → Report → (List ℕ → Type 0) → Type 0
HasText false given p done Is = Is (report_text (asked given p) (report_with (set_aside given p) done) (layout_of given))
HasText true given p done Is = (entries : List Line) × Is (text_of (proof_of (ask_of given p) entries done.results))

-- exactly the text of the report was written
pub record IsWritten (given : Options) (a : Around) (report : Option Report) (end : End) (model : Bool) : Type 0 where
  pub solved : IsSolved given a report
  pub end_is : solved.done.results.end ≡ end
  pub model_is : has_model solved.done.results ≡ model
  pub few : IsFew given solved.program solved.done
  pub text : HasText given.proof given solved.program solved.done (Appends a.held a.held')

-- a front of that text was written, and a fault counted
pub record IsCutOff (given : Options) (a : Around) (report : Option Report) : Type 0 where
  pub solved : IsSolved given a report
  pub few : IsFew given solved.program solved.done
  pub text : HasText given.proof given solved.program solved.done (AppendsFront a.held a.held')
  pub cause : Rose a.writes a.writes'

-- the program was divided into parts as was asked, and not solved
pub record IsDivided (given : Options) (a : Around) (report : Option Report) : Type 0 where
  pub program : Program
  pub source : IsGiven given.format given.make a program
  pub most : ℕ
  pub asked : given.split ≡ Some most
  pub cubes : List (List ℤ)
  pub parts : AreParts program most cubes
  pub none : report ≡ None

-- exactly the lines of the parts were written
pub record IsParted (given : Options) (a : Around) (report : Option Report) : Type 0 where
  pub divided : IsDivided given a report
  pub text : Appends a.held a.held' (parts_text divided.cubes)

-- a front of them was written, and a fault counted
pub record ArePartsCutOff (given : Options) (a : Around) (report : Option Report) : Type 0 where
  pub divided : IsDivided given a report
  pub text : AppendsFront a.held a.held' (parts_text divided.cubes)
  pub cause : Rose a.writes a.writes'

-- A run whose list is written while it is found ended before: a front of the lines of the whole list was written, and nothing is
-- reported.
pub record IsStreamCut (given : Options) (a : Around) (report : Option Report) : Type 0 where
  pub program : Program
  pub source : IsGiven given.format given.make a program
  pub streamed : streams given program ≡ true
  pub none : report ≡ None
  pub text : AppendsFront a.held a.held' (answers_from program 1 (whole_list (mode_of given.mode program) program))

-- A run whose proof is written while it goes on ended before: a front of the head of a proof's text and some lines was written, no answer
-- and no last line, and nothing is reported.
pub record IsProofCut (given : Options) (a : Around) (report : Option Report) : Type 0 where
  pub program : Program
  pub source : IsGiven given.format given.make a program
  pub asked : given.proof ≡ true
  pub none : report ≡ None
  pub entries : List Line
  pub text : AppendsFront a.held a.held' (head_text (sought_of (ask_of given program)) ++ lines line_text entries)

-- a run that wrote while it went on ended before
abbrev pub IsRunCut : Options → Around → Option Report → Type 0
IsRunCut given a report = IsStreamCut given a report ⊎ IsProofCut given a report

-- ---- as many answers as `--models` asks for, written while they are found
-- They are the first of the list. The report tells that a list was sought.
pub record HasFirst (given : Options) (a : Around) (report : Option Report) : Type 0 where
  pub program : Program
  pub source : IsGiven given.format given.make a program
  pub streamed : streams given program ≡ true
  pub some : 0 < given.models
  pub enough : given.models ≤ length (whole_list (mode_of given.mode program) program)
  pub price : Option (List ℤ)
  pub told : IsCostOf (mode_of given.mode program) program price
  pub reports : (r : Report) × (report ≡ Some r) × (r.results.mode ≡ mode_of given.mode program)

-- the lines of the first of a list, so many, and those after the last
abbrev pub first_text : Option (List ℤ) → Program → List Atoms → ℕ → List ℕ
first_text c p all models = list_text c p Limited (take models all)

-- exactly these lines were written
pub record IsFirst (given : Options) (a : Around) (report : Option Report) : Type 0 where
  pub has : HasFirst given a report
  pub text : Appends a.held a.held' (first_text has.price has.program (whole_list (mode_of given.mode has.program) has.program) given.models)

-- a front of them was written, and a fault counted
pub record IsFirstCut (given : Options) (a : Around) (report : Option Report) : Type 0 where
  pub has : HasFirst given a report
  pub text : AppendsFront a.held a.held' (first_text has.price has.program (whole_list (mode_of given.mode has.program) has.program) given.models)
  pub cause : Rose a.writes a.writes'

-- The budget was spent before it was known which answers are the first, and no fewer were found than `--models` asks for.
pub record HasPart (given : Options) (a : Around) (report : Option Report) : Type 0 where
  pub solved : IsSolved given a report
  pub end_is : solved.done.results.end ≡ Unfinished
  pub streamed : streams given solved.program ≡ true
  pub some : 0 < given.models
  pub enough : given.models ≤ length solved.done.results.answers

-- the report with the first of its answers, so many
abbrev pub cut_to : ℕ → Report → Report
cut_to models r = with_answers (take models r.results.answers) r

-- the text of the report with the first of its answers, so many
abbrev pub part_text : Options → Program → Report → List ℕ
part_text given p done = report_text (asked given p) (report_with (set_aside given p) (cut_to given.models done)) (layout_of given)

-- exactly this text was written
pub record IsPart (given : Options) (a : Around) (report : Option Report) : Type 0 where
  pub has : HasPart given a report
  pub text : Appends a.held a.held' (part_text given has.solved.program has.solved.done)

-- a front of it was written, and a fault counted
pub record IsPartCut (given : Options) (a : Around) (report : Option Report) : Type 0 where
  pub has : HasPart given a report
  pub text : AppendsFront a.held a.held' (part_text given has.solved.program has.solved.done)
  pub cause : Rose a.writes a.writes'

-- nothing was solved and nothing written
pub record IsUntouched (a : Around) (report : Option Report) : Type 0 where
  pub none : report ≡ None
  pub kept : Keeps a.held a.held'

-- the text was refused, and nothing was read behind the read that decided so
pub record IsRefused (f : Format) (a : Around) (report : Option Report) (error : ReadError) : Type 0 where
  pub untouched : IsUntouched a report
  pub says : Says f a (Err error)
  pub said : IsSaid f (Err error)
  pub stops : StopsFor f most_bytes a.left a.left' (Err error)

-- a read failed before any line with a fault was whole
pub record IsUnread (f : Format) (a : Around) (report : Option Report) : Type 0 where
  pub untouched : IsUntouched a report
  pub cause : Rose a.reads a.reads'
  pub stops : StopsFor f most_bytes a.left a.left' (Err errors.ReadFault)

-- consequences were to be told by name, and the program that was read or made leaves too few numbers for atoms of its outputs
pub record IsUnnamed (given : Options) (a : Around) (report : Option Report) : Type 0 where
  pub untouched : IsUntouched a report
  pub program : Program
  pub source : IsGiven given.format given.make a program
  pub by_name : is_named given ≡ true
  pub full : has_numbers program ≡ false

-- how an outcome tells why no program was read
abbrev pub status_of : ReadError → Status
status_of errors.Memory = Memory
status_of errors.ReadFault = ReadFault
status_of errors.TooLong = TooLong
status_of (errors.Refused fault line) = Refused fault line

-- a text is read
abbrev pub Reads : Options → Type 0
Reads given = given.make ≡ None

-- each status after the words, and what it says
abbrev pub Means : Options → Around → Option Report → Status → Type 0
Means given a report All = IsWritten given a report Finished true
Means given a report NoModel = IsWritten given a report Finished false
Means given a report Partial = IsWritten given a report Unfinished true ⊎ IsPart given a report
Means given a report Unknown = IsWritten given a report Unfinished false
Means given a report Enough = IsWritten given a report Limited true ⊎ IsFirst given a report
Means given a report Help = ⊥
Means given a report Memory = IsUntouched a report ⊎ IsRunCut given a report
Means given a report Usage = ⊥
Means given a report (Refused fault line) = Reads given × IsRefused given.format a report (errors.Refused fault line)
Means given a report ReadFault = Reads given × IsUnread given.format a report
Means given a report TooLong = Reads given × IsRefused given.format a report errors.TooLong
Means given a report Unnamed = IsUnnamed given a report
Means given a report (WriteFault closed) =
    IsCutOff given a report ⊎ (ArePartsCutOff given a report ⊎ ((IsRunCut given a report × Rose a.writes a.writes') ⊎ (IsFirstCut given a report ⊎ IsPartCut given a report)))
Means given a report Parts = IsParted given a report

-- an accepted text, where one is read
abbrev pub IsAccepted : Options → Around → Type 0
IsAccepted given a = Reads given → (text : List ℕ) × (p : Program) × (a.left ≡ Some text) × (outcome_for given.format text ≡ Ok p)

-- results or parts were written, or consequences can't be told by name
abbrev pub IsAnswered : Status → Type 0
IsAnswered status = (is_answered status ≡ true) ⊎ (status ≡ Unnamed)

-- which status comes, but for want of memory
pub record IsExact (given : Options) (a : Around) (status : Status) : Type 0 where
  -- an accepted text, or a ring, where neither count rose, is answered, or divided where parts are asked for; or its
  -- consequences can't be told by name
  pub accepted : IsAccepted given a → ¬ Rose a.reads a.reads' → ¬ Rose a.writes a.writes' → IsAnswered status ⊎ (status ≡ Memory)
  -- a faulty text, where the source's count didn't rise, is refused
  pub refused : Reads given → (text : List ℕ) (fault : Fault) (line : ℕ) → a.left ≡ Some text →
      outcome_for given.format text ≡ Err (errors.Refused fault line) → ¬ Rose a.reads a.reads' → (status ≡ Refused fault line) ⊎ (status ≡ Memory)
  pub too_long : Reads given → (text : List ℕ) → a.left ≡ Some text → outcome_for given.format text ≡ Err errors.TooLong → ¬ Rose a.reads a.reads' → (status ≡ TooLong) ⊎ (status ≡ Memory)
  -- a fault of the source was counted only where the status says so: every failed read is told
  pub quiet : ¬ (status ≡ ReadFault) → a.reads' ≡ a.reads

-- a fault of the sink was counted only where the status says so: every failed write and every failed flush is told
abbrev pub TellsFaults : ℕ → ℕ → Status → Type 0
TellsFaults writes writes' status = ¬ IsLost status → writes' ≡ writes

-- where the text that was asked for was written, all of it was sent on
abbrev pub IsSentOn : Status → Bool → Type 0
IsSentOn status is_sent = is_written status ≡ true → is_sent ≡ true

-- where the sink failed, the status says what the sink says: whether nobody reads any more
abbrev pub TellsClosed : Status → Bool → Type 0
TellsClosed (WriteFault closed) is_closed = closed ≡ is_closed
TellsClosed status is_closed = Unit {0}

-- the text of the report was written, or cut off by a fault
abbrev pub DeliveryMeans : Layout → Program → Report → Option (List ℕ) → Option (List ℕ) → ℕ → ℕ → Status → Type 0
DeliveryMeans layout p r held held' writes writes' status =
    ((status ≡ status_for r.results.end (has_model r.results)) × Appends held held' (report_text p r layout))
    ⊎ (IsLost status × AppendsFront held held' (report_text p r layout) × Rose writes writes')

-- a report that was to be written
pub record Delivers (layout : Layout) (p : Program) (r : Report) (held held' : Option (List ℕ)) (writes writes' : ℕ) (o : Outcome) : Type 0 where
  pub reports : o.report ≡ Some r
  pub means : DeliveryMeans layout p r held held' writes writes' o.status
  pub later : writes ≤ writes'

-- A report was told with what was set aside, or memory ran out before.
abbrev pub Concludes : Layout → Program → Aside → Report → Option (List ℕ) → Option (List ℕ) → ℕ → ℕ → Outcome → Type 0
Concludes layout p A r held held' writes writes' o =
    ((o ≡ record { status = Memory; report = None }) × Keeps held held' × (writes' ≡ writes)) ⊎ Delivers layout p (told_with A r) held held' writes writes' o

-- The program was solved as was asked, or memory ran out and nothing was written.
abbrev pub Solves : Options → Program → Option (List ℕ) → Option (List ℕ) → ℕ → ℕ → Outcome → Type 0
Solves given p held held' writes writes' o =
    ((o ≡ record { status = Memory; report = None }) × Keeps held held' × (writes' ≡ writes))
    ⊎ ((r : Report) × IsReport (searched given p) (ask_of given p) given.budget r ×
    Delivers (layout_of given) (searched given p) (told_with (set_aside given p) r) held held' writes writes' o)

-- This text was written, and so the status is this one; or a front of it, and exactly then a fault was counted.
pub record WritesAs (status : Status) (text : List ℕ) (held held' : Option (List ℕ)) (writes writes' : ℕ) (result : Status) : Type 0 where
  pub means : ((result ≡ status) × Appends held held' text) ⊎ (IsLost result × AppendsFront held held' text × Rose writes writes')
  pub later : writes ≤ writes'
  pub quiet : TellsFaults writes writes' result

-- ---- a proof that is written while it is found
-- Memory ran out or a write failed before, and a front of the head of a proof's text and of some lines was written.
pub record IsProofStopped (s : Sought) (held held' : Option (List ℕ)) (writes writes' : ℕ) (o : Outcome) : Type 0 where
  pub none : o.report ≡ None
  pub entries : List Line
  pub text : AppendsFront held held' (head_text s ++ lines line_text entries)
  pub why : ((o.status ≡ Memory) × (writes' ≡ writes)) ⊎ (IsLost o.status × Rose writes writes')
  pub later : writes ≤ writes'

-- The text of a proof was written that lists these answers, and so the status is this one; or a front of it.
pub record WritesProof (s : Sought) (listed : List Atoms) (part : Bool) (status : Status) (held held' : Option (List ℕ)) (writes writes' : ℕ) (result : Status) : Type 0 where
  pub entries : List Line
  pub wrote : WritesAs status (text_of (record { sought = s; lines = entries; answers = listed; part = part })) held held' writes writes' result

-- The text of a proof was written that lists what the report found, or a front of it, and exactly then a fault was counted.
pub record DeliversProof (ask : Ask) (A : Aside) (r : Report) (held held' : Option (List ℕ)) (writes writes' : ℕ) (o : Outcome) : Type 0 where
  pub reports : o.report ≡ Some (told_with A r)
  pub entries : List Line
  pub wrote : WritesAs (status_for r.results.end (has_model r.results)) (text_of (proof_of ask entries r.results)) held held' writes writes' o.status

-- The proof of what the report found was written, unless it was stopped.
abbrev pub EndsProof : Ask → Aside → Report → Option (List ℕ) → Option (List ℕ) → ℕ → ℕ → Outcome → Type 0
EndsProof ask A r held held' writes writes' o = IsProofStopped (sought_of ask) held held' writes writes' o ⊎ DeliversProof ask A r held held' writes writes' o

-- the same where memory may have run out before there was a report
abbrev pub EndsProofBy : {E : Type 0} → Result Report E → Ask → Aside → Option (List ℕ) → Option (List ℕ) → ℕ → ℕ → Outcome → Type 0
EndsProofBy (Ok r) ask A held held' writes writes' o = EndsProof ask A r held held' writes writes' o
EndsProofBy (Err e) ask A held held' writes writes' o = IsProofStopped (sought_of ask) held held' writes writes' o

-- The program was solved as was asked, and its proof written while it went on, unless it was stopped.
abbrev pub Proves : Options → Program → Option (List ℕ) → Option (List ℕ) → ℕ → ℕ → Outcome → Type 0
Proves given p held held' writes writes' o =
    IsProofStopped (sought_of (ask_of given p)) held held' writes writes' o
    ⊎ ((r : Report) × IsReport (searched given p) (ask_of given p) given.budget r × DeliversProof (ask_of given p) (set_aside given p) r held held' writes writes' o)

-- what workers do: they solve it, or prove it where a proof is asked for
abbrev pub SolvesOr : Bool → Options → Program → Option (List ℕ) → Option (List ℕ) → ℕ → ℕ → Outcome → Type 0
SolvesOr false given p held held' writes writes' o = Solves given p held held' writes writes' o
SolvesOr true given p held held' writes writes' o = Proves given p held held' writes writes' o

-- ---- a list that is written while it is found
-- Memory ran out or a write failed before, and a front of the list's lines was written.
pub record IsCutShort (p : Program) (all : List Atoms) (held held' : Option (List ℕ)) (writes writes' : ℕ) (o : Outcome) : Type 0 where
  pub none : o.report ≡ None
  pub text : AppendsFront held held' (answers_from p 1 all)
  pub why : ((o.status ≡ Memory) × (writes' ≡ writes)) ⊎ (IsLost o.status × Rose writes writes')
  pub later : writes ≤ writes'

-- as lines, each answer with them
abbrev pub as_lines : Layout
as_lines = record { form = forms.Text; brief = false; names = false }

-- fewer were found than the limit says; 0 is no limit
abbrev pub is_few : ℕ → ℕ → Bool
is_few models found = (models == 0) || nat_lt found models

-- how the results of a stream end: at its limit where as many answers were written before, or are with those that are left where
-- these are all
abbrev pub last_of : StreamEnd → Bool → Bool → End
last_of ends.Finished few full = if few then Finished else Limited
last_of (ends.Unpaid x) few full = if full then Limited else Unfinished
last_of ends.Unwanted few full = Limited

-- the same where so many were written and so many are left
abbrev pub last_at : ℕ → ℕ → ℕ → StreamEnd → End
last_at models written rest e = last_of e (is_few models (written + rest)) (room models written == 0)

-- of what is left, those that may still be written
abbrev pub kept_of : ℕ → List Atoms → Told → Told
kept_of models written t = record t { rest = record t.rest { sets = take (room models (length written)) t.rest.sets } }

-- ---- after a first search that was finished and found an optimum, if there was one
abbrev pub mode_after : Option Report → Mode
mode_after None = Enum
mode_after (Some first) = Opt

-- the cost that the optima have
abbrev pub price_of : Option (Atoms × List ℤ) → Option (List ℤ)
price_of None = None
price_of (Some best) = Some best.1

abbrev pub price_after : Option Report → Option (List ℤ)
price_after None = None
price_after (Some first) = price_of first.results.best

-- the report of both searches, or of the one
abbrev pub report_after : Option Report → Report → Report
report_after None r = r
report_after (Some first) r = joined first r

-- The first search's report, with so many units.
pub record HasOptimum (p : Program) (units : ℕ) (first : Report) : Type 0 where
  pub is : IsReport p (asks Opt 0 false) units first
  pub finished : first.results.end ≡ Finished
  pub best : Atoms × List ℤ
  pub found : first.results.best ≡ Some best

abbrev pub IsFirstOf : Program → ℕ → Option Report → Type 0
IsFirstOf p units None = Unit {0}
IsFirstOf p units (Some first) = HasOptimum p units first

-- whether a report is that of such a search
abbrev pub has_optimum : Report → Bool
has_optimum first = is_finished first.results.end && is_some first.results.best

-- it sought an optimum
abbrev pub IsFirstMode : Option Report → Type 0
IsFirstMode None = Unit {0}
IsFirstMode (Some first) = first.results.mode ≡ Opt

-- The stream after it had the units that it left.
abbrev pub Follows : Option Report → Told → Type 0
Follows None t = Unit {0}
Follows (Some first) t = (t.paid.program ≡ first.paid.program) × (t.paid.left + t.paid.burnt ≡ first.paid.left) × (first.paid.burnt ≡ first.spent)

-- some optimum was heard or is left
abbrev pub HasTold : Option Report → List Atoms → Told → Type 0
HasTold None heard t = Unit {0}
HasTold (Some first) heard t = 0 < length heard + length t.rest.sets

-- what is told of the optima of the cost that this one has
abbrev pub TellsOptima : Option (Atoms × List ℤ) → Program → ℕ → List Atoms → Bool → Told → Type 0
TellsOptima None p units heard wants t = ⊥
TellsOptima (Some best) p units heard wants t = IsTellingOfTies p (cost p best.0) units heard wants t

-- what is told of all answers, or after a first search of all optima
abbrev pub TellsAfter : Option Report → Program → ℕ → List Atoms → Bool → Told → Type 0
TellsAfter None p units heard wants t = IsTellingOf p units heard wants t
TellsAfter (Some first) p units heard wants t = TellsOptima first.results.best p first.paid.left heard wants t

-- what is reported of a stream that ended so
abbrev pub ReportsLast : End → Program → Mode → Report → Report → Type 0
ReportsLast Limited p mode done r = (r.results.mode ≡ mode) × (r.paid.program ≡ p)
ReportsLast end p mode done r = r ≡ done

-- The answers that were left and may be written were, and the lines after the last, or a front of them.
pub record DeliversLast (p : Program) (first : Option Report) (models : ℕ) (written : List Atoms) (t : Told) (held held' : Option (List ℕ)) (writes writes' : ℕ) (o : Outcome) : Type 0 where
  pub report : Report
  pub reports : o.report ≡ Some report
  pub report_is : ReportsLast (last_at models (length written) (length t.rest.sets) t.end) p (mode_after first) (report_after first (report_of [] (kept_of models written t))) report
  pub wrote : WritesAs (status_for (last_at models (length written) (length t.rest.sets) t.end) (is_some_of (written ++ (kept_of models written t).rest.sets)))
      (list_text (price_after first) p (last_at models (length written) (length t.rest.sets) t.end) (written ++ (kept_of models written t).rest.sets)) held held' writes writes' o.status

-- What is left can be counted, with what was heard, and is among the program's atoms; and it follows the first search.
pub record HasRest (p : Program) (first : Option Report) (heard : List Atoms) (t : Told) : Type 0 where
  pub atoms : t.rest.atoms ≡ atoms_of p
  pub few : length heard + length t.rest.sets + 1 < 2 ^ 64
  pub follows : Follows first t

-- how a stream ends whose outlet wrote these: by a fault or want of memory, or with all that may be written
abbrev pub EndsStream : Program → List Atoms → Option Report → ℕ → List Atoms → Bool → Bool → Told → Option (List ℕ) → Option (List ℕ) → ℕ → ℕ → Outcome → Type 0
EndsStream p all first models written failed short t held held' writes writes' o =
    IsCutShort p all held held' writes writes' o ⊎ ((failed ≡ false) × (short ≡ false) × DeliversLast p first models written t held held' writes writes' o)

-- the same where memory may have run out
abbrev pub EndsRun : {E : Type 0} → Result Told E → Program → List Atoms → Option Report → ℕ → List Atoms → Bool → Bool → Option (List ℕ) → Option (List ℕ) → ℕ → ℕ → Outcome → Type 0
EndsRun (Ok t) p all first models written failed short held held' writes writes' o = EndsStream p all first models written failed short t held held' writes writes' o
EndsRun (Err e) p all first models written failed short held held' writes writes' o = IsCutShort p all held held' writes writes' o

-- ---- what was found
-- a report of what was heard and what is left, in this order
pub record IsFound (p : Program) (mode : Mode) (units : ℕ) (heard rest : List Atoms) (done : Report) : Type 0 where
  pub answers : done.results.answers ≡ heard ++ rest
  pub is : IsReport p (list_ask mode) units done

-- The text of the report was written, or cut off by a fault; what is left is reported.
pub record DeliversRest (p : Program) (heard rest : List Atoms) (done : Report) (models : ℕ) (held held' : Option (List ℕ)) (writes writes' : ℕ) (o : Outcome) : Type 0 where
  pub few : 0 < models → length done.results.answers < models
  pub reports : o.report ≡ Some (with_answers (left_of models heard rest) done)
  pub means : DeliveryMeans as_lines p done held held' writes writes' o.status
  pub later : writes ≤ writes'
  pub quiet : TellsFaults writes writes' o.status

-- The same with the first of these answers alone, where the budget was spent and no fewer were found than may be written.
pub record DeliversPart (p : Program) (heard rest : List Atoms) (done : Report) (models : ℕ) (held held' : Option (List ℕ)) (writes writes' : ℕ) (o : Outcome) : Type 0 where
  pub end_is : done.results.end ≡ Unfinished
  pub some : 0 < models
  pub enough : models ≤ length done.results.answers
  pub reports : o.report ≡ Some (with_answers (left_of models heard rest) done)
  pub wrote : WritesAs Partial (report_text p (cut_to models done) as_lines) held held' writes writes' o.status

-- The first of the list were written, as many as may be, or a front of their lines.
pub record DeliversFirst (p : Program) (mode : Mode) (models : ℕ) (held held' : Option (List ℕ)) (writes writes' : ℕ) (o : Outcome) : Type 0 where
  pub some : 0 < models
  pub enough : models ≤ length (whole_list mode p)
  pub price : Option (List ℤ)
  pub told : IsCostOf mode p price
  pub report : Report
  pub reports : o.report ≡ Some report
  pub mode_is : report.results.mode ≡ mode
  pub program : report.paid.program ≡ p
  pub wrote : WritesAs Enough (first_text price p (whole_list mode p) models) held held' writes writes' o.status

-- what was heard and left is what a report says, and was written; or the first of it
abbrev pub StreamsFound : Program → Mode → ℕ → ℕ → Option (List ℕ) → Option (List ℕ) → ℕ → ℕ → Outcome → Type 0
StreamsFound p mode units models held held' writes writes' o = (heard : List Atoms) × (rest : List Atoms) × (done : Report) × IsFound p mode units heard rest done
    × (DeliversRest p heard rest done models held held' writes writes' o ⊎ DeliversPart p heard rest done models held held' writes writes' o)

-- The whole list that was sought with these units was found and written, or the first of it, as many as may be, unless it was cut short.
abbrev pub Streams : Program → Mode → ℕ → ℕ → Option (List ℕ) → Option (List ℕ) → ℕ → ℕ → Outcome → Type 0
Streams p mode units models held held' writes writes' o = IsCutShort p (whole_list mode p) held held' writes writes' o
    ⊎ (StreamsFound p mode units models held held' writes writes' o ⊎ DeliversFirst p mode models held held' writes writes' o)

-- The program was solved as was asked: its list written while it was found, or all at once.
abbrev pub SolvesBy : Bool → Options → Program → Option (List ℕ) → Option (List ℕ) → ℕ → ℕ → Outcome → Type 0
SolvesBy false given p held held' writes writes' o = Solves given p held held' writes writes' o
SolvesBy true given p held held' writes writes' o = Streams (searched given p) (mode_of given.mode p) given.budget given.models held held' writes writes' o

-- The same where no proof is asked for, and else its proof was written.
abbrev pub SolvesAs : Bool → Options → Program → Option (List ℕ) → Option (List ℕ) → ℕ → ℕ → Outcome → Type 0
SolvesAs false given p held held' writes writes' o = SolvesBy (streams given p) given p held held' writes writes' o
SolvesAs true given p held held' writes writes' o = Proves given p held held' writes writes' o

-- The program was divided where parts are asked for, and else solved.
abbrev pub DoesBy : Option ℕ → Options → Program → Option (List ℕ) → Option (List ℕ) → ℕ → ℕ → Outcome → Type 0
DoesBy None given p held held' writes writes' o = SolvesAs given.proof given p held held' writes writes' o
DoesBy (Some most) given p held held' writes writes' o = Divides p most held held' writes writes' o

abbrev pub Does : Options → Program → Option (List ℕ) → Option (List ℕ) → ℕ → ℕ → Outcome → Type 0
Does given p held held' writes writes' o = DoesBy given.split given p held held' writes writes' o

-- a run after the words
pub record Runs (given : Options) (a : Around) (o : Outcome) : Type 0 where
  pub means : Means given a o.report o.status
  pub exact : IsExact given a o.status
  pub later : (a.reads ≤ a.reads') × (a.writes ≤ a.writes')

-- ---- before the program is solved
-- The program is there, whatever the sink holds: the source was read to its end, or it was made and nothing read.
pub record IsReady (given : Options) (left left' : Option (List ℕ)) (reads reads' : ℕ) (p : Program) : Type 0 where
  pub source : (held held' : Option (List ℕ)) (writes writes' : ℕ) → IsGiven given.format given.make (around left left' reads reads' held held' writes writes') p
  pub sound : IsSound p
  pub later : reads ≤ reads'
  pub quiet : reads' ≡ reads

-- There is none, and so a run ends with this status that writes nothing, whatever the sink holds.
abbrev pub IsOver : Options → Option (List ℕ) → Option (List ℕ) → ℕ → ℕ → Status → Type 0
IsOver given left left' reads reads' status =
    (held : Option (List ℕ)) (writes : ℕ) → Runs given (around left left' reads reads' held held writes writes) (record { status = status; report = None })

-- how a run ends of whose program nothing is searched
abbrev pub status_unready : Unready → Status
status_unready unready.Memory = Memory
status_unready unready.Unnamed = Unnamed

-- A run ends so, since nothing is searched of its program.
abbrev pub EndsUnready : Options → Program → Status → Type 0
EndsUnready given p status = (why : Unready) × WhyNot given p why × (status ≡ status_unready why)

-- The program is there, and what is searched of it.
abbrev pub Prepares : Options → Option (List ℕ) → Option (List ℕ) → ℕ → ℕ → Result Prepared Status → Type 0
Prepares given left left' reads reads' (Ok prepared) = (p : Program) × IsReady given left left' reads reads' p × HasNumbers given p × (prepared ≡ prepared_of given p)
Prepares given left left' reads reads' (Err status) = IsOver given left left' reads reads' status

-- ---- without a program
-- the text that was asked for
abbrev pub TextMeans : List ℕ → Option (List ℕ) → Option (List ℕ) → ℕ → ℕ → Status → Type 0
TextMeans text held held' writes writes' Help = Appends held held' text
TextMeans text held held' writes writes' (WriteFault closed) = AppendsFront held held' text × Rose writes writes'
TextMeans text held held' writes writes' status = ⊥

-- help or the version was asked for: its text was written, or cut off by a fault
pub record Helps (text : List ℕ) (a : Around) (o : Outcome) : Type 0 where
  pub none : o.report ≡ None
  pub means : TextMeans text a.held a.held' a.writes a.writes' o.status
  pub unasked : IsUnasked a

-- the words are faulty, and nothing was done
pub record Misuses (a : Around) (o : Outcome) : Type 0 where
  pub status : o.status ≡ Usage
  pub untouched : IsUntouched a o.report
  pub unasked : IsUnasked a

-- No workers search the program: one search does it all with one worker and for a stream, queries are asked in turn, and parts aren't searched.
abbrev pub is_alone : Options → Bool
is_alone given = (given.workers == 1) || is_some given.split || given.queries || given.stream

-- how many workers search the program
abbrev pub crew_of : Options → ℕ
crew_of given = if is_alone given then 0 else given.workers

-- the atoms of the report's program, the different bodies of its rules in force, and where they are counted its components with a
-- loop; counts of each worker, with its number, in their order, where some were started
pub record IsCounted (workers : ℕ) (t : Tally) (r : Report) : Type 0 where
  pub atoms : t.atoms ≡ length (atoms_of r.paid.program)
  pub bodies : t.bodies ≡ length (bodies_of r.paid.program)
  pub loops : IfSome t.loops (HasLoops r.paid.program)
  pub numbered : AreNumbered workers t.workers

-- So many bytes each answer takes that is held until the end, where `--stream` would write it sooner; and the program whose better
-- answers may be shown, that with atoms for its outputs where consequences are told by name. 0 and none where there is no program, and
-- of queries.
abbrev pub IsScope : Options → Around → ℕ → Option Program → Type 0
IsScope given a row sought =
    ((row ≡ 0) × (sought ≡ None)) ⊎ ((p : Program) × IsGiven given.format given.make a p × (row ≡ row_of given p) × (sought ≡ Some (asked given p)))

-- what was told while such a run went on
abbrev pub Hears : Options → Around → Bool → Bool → Point → Point → Type 0
Hears given a on parts p q = (row : ℕ) × (sought : Option Program) × IsScope given a row sought × Tells (scope on parts row sought) p q

-- What the notes get of a run after the words: lines while it goes on, where they are asked for, and one where answers are held that take
-- much; then the line of its status, lines for options that had no effect, and the counts, where they are asked for
pub record NotesRun (workers : ℕ) (given : Options) (a : Around) (held held' : Option (List ℕ)) (faults faults' : ℕ) (o : Outcome) : Type 0 where
  pub tally : Tally
  pub counted : IfSome o.report (IsCounted workers tally)
  pub row : ℕ
  pub sought : Option Program
  pub scope_is : IsScope given a row sought
  pub told : IsTold (scope given.progress (tells_parts given) row sought) held held' faults faults' (notes_of given tally o)

-- what the notes get of a run whose words give this
abbrev pub NotesOn : Given → Around → Option (List ℕ) → Option (List ℕ) → ℕ → ℕ → Outcome → Type 0
NotesOn help a held held' faults faults' o = IsNoted held held' faults faults' (note_of o.status)
NotesOn version a held held' faults faults' o = IsNoted held held' faults faults' (note_of o.status)
NotesOn (misuse m) a held held' faults faults' o = IsNoted held held' faults faults' (misuse_note m)
NotesOn (options given) a held held' faults faults' o = NotesRun (crew_of given) given a held held' faults faults' o
