-- What each status means, from what reading, solving and writing did.
use Rattle.std.proofs.Common.{◌≡◌, ◌⊎◌, ℕ, ◌<◌, ◌≤◌, Bool, true, false, ◌||◌, cond, List, [], ◌∷◌, length, refl, sym, ap, ◌∙◌, subst, inl, inr, arith}
use Rattle.std.specs.Prelude.{ℤ, Option, None, Some, Result, Ok, Err, IfErr, IfOk, IfSome, IsErrOf, OnOk, is_some}
use Rattle.std.proofs.lemmas.Bool.{false≢true}
use Rattle.std.proofs.KnownBytes.{Keeps-refl}
use Rattle.std.specs.Io.KnownBytes.{Appends, Keeps, IsAtEnd}
use Rattle.asp_io.specs.Causes.{AppendsFront, Rose}
use Rattle.asp_read.specs.declared.fault.ReadError.{ReadError}
use Rattle.asp_read.specs.declared.fault.ReadError.TheVariants as errors
use Rattle.asp_model.specs.declared.program.Program.{Program}
use Rattle.asp_model.specs.declared.results.Ask.{Ask}
use Rattle.asp_model.specs.declared.results.End.{End}
use Rattle.asp_model.specs.declared.results.End.TheVariants.{Finished, Limited, Unfinished}
use Rattle.asp_read.specs.Judging.{most_bytes}
use Rattle.asp_read.specs.Stream.{ReadsText}
use Rattle.asp_cli.specs.declared.Format.{Format}
use Rattle.asp_top.specs.Formats.{StopsFor, outcome_for}
use Rattle.asp_make.specs.Ring.{ring}
use Rattle.asp_make.specs.Texts.{parts_text}
use Rattle.asp_crew_laws.specs.declared.report.Report.{Report}
use Rattle.asp_crew_laws.specs.Reports.{IsReport}
use Rattle.asp_top.specs.declared.status.Status.{Status}
use Rattle.asp_top.specs.declared.status.Status.TheVariants.{All, NoModel, Partial, Unknown, Enough, Help, Memory, Usage, Refused, ReadFault, TooLong, Unnamed, WriteFault, Parts}
use Rattle.asp_top.specs.declared.status.Outcome.{Outcome}
use Rattle.asp_prepare.specs.declared.prepared.Prepared.{Prepared}
use Rattle.asp_prepare.specs.declared.prepared.Unready.{Unready}
use Rattle.asp_prepare.specs.declared.prepared.Unready.TheVariants as unready
use Rattle.asp_prepare.specs.Meaning.{has_model, mode_of}
use Rattle.asp_prepare.specs.Naming.{HasNumbers, WhyNot, ask_of, asked, is_named, prepared_of, searched, set_aside}
use Rattle.asp_prepare.specs.Told.{report_text, told_with}
use Rattle.asp_prepare.proofs.AskedLaws.{asked-sound, limited-has}
use Rattle.asp_prepare.proofs.ToldLaws.{told-model, told-says, told-text}
use Rattle.asp_top.specs.Meaning.{status_for}
use Rattle.asp_top.specs.Codes.{IsLost}
use Rattle.asp_named.specs.Named.{has_numbers}
use Rattle.asp_top.specs.Notes.{is_written}
use Rattle.asp_top.specs.Parting.{Divides, HandingMeans}
use Rattle.asp_top.specs.Runs.{Around, DeliversPart, DeliversRest, DeliveryMeans, Does, DoesBy, EndsUnready, HasFirst, HasPart, HasText, IsAnswered, IsDivided, IsExact, IsFew, IsGiven, IsOver, IsProofCut, IsReady, IsReported, IsRunCut, IsSaid, IsSentOn, IsSolved, IsStreamCut, Means, Prepares, Proves, Runs, Says, Solves, SolvesAs, SolvesBy, SolvesOr, Streams, TellsClosed, WritesAs, around, first_text, layout_of, part_text, run_ask, status_of, status_unready, streams, whole_list}
use Rattle.asp_top.proofs.ListingLaws.{is-listing}
use Rattle.asp_top.proofs.StreamLaws.{done-is, first-searched, means-asked, part-lines, streamed-cut, streamed-first, streamed-solved, unproved}
use Rattle.asp_proof.specs.declared.proof.Line.{Line}
use Rattle.asp_proof.specs.Texts.{text_of}
use Rattle.asp_scribe.specs.Proofs.{proof_of}
use Rattle.asp_equal.specs.declared.reduce.Aside.{Aside}
use Rattle.asp_model.specs.Sound.{IsSound}
use Rattle.asp_cli.specs.declared.Options.{Options}

says-at : (f : Format) (a : Around) (text : List ℕ) (said : Result Program ReadError) → a.left ≡ Some text → Says f a said → outcome_for f text ≡ said
says-at f a text said is h = subst (λ (l : Option (List ℕ)). IfSome l (λ t. outcome_for f t ≡ said)) is h

ok-or-err : (o : Result Program ReadError) (p : Program) (e : ReadError) → o ≡ Ok p → o ≡ Err e → ⊥
ok-or-err o p e is isn't = cc

one-error : (o : Result Program ReadError) (e f : ReadError) → o ≡ Err e → o ≡ Err f → e ≡ f
one-error o e f p q = cc

abbrev Quiet : Around → Status → Type 0
Quiet a status = ¬ (status ≡ ReadFault) → a.reads' ≡ a.reads

-- an accepted text says the program that is there, so no other is said
given-exact : (given : Options) (a : Around) (p : Program) (status : Status) → IsGiven given.format given.make a p
    → (¬ Rose a.writes a.writes' → IsAnswered status) → Quiet a status → IsExact given a status
given-exact given a program status source done quiet = record {
  accepted = λ text r w. inl (done w);
  refused = λ reads text fault line is out r. absurd (said given.make reads program source text is (errors.Refused fault line) out);
  too_long = λ reads text is out r. absurd (said given.make reads program source text is errors.TooLong out);
  quiet = quiet;
}
  where
    said : (m : Option ℕ) → m ≡ None → (p : Program) → IsGiven given.format m a p → (text : List ℕ) → a.left ≡ Some text → (e : ReadError) → outcome_for given.format text ≡ Err e → ⊥
    said None none p from text is e out = ok-or-err (outcome_for given.format text) p e (says-at given.format a text _ is from.says) out
    said (Some n) none p from text is e out = absurd cc

-- the program of a run that was cut
cut-program : (given : Options) (a : Around) (report : Option Report) → IsRunCut given a report → Program
cut-program given a report (inl m) = m.program
cut-program given a report (inr m) = m.program

cut-source : (given : Options) (a : Around) (report : Option Report) (m : IsRunCut given a report) → IsGiven given.format given.make a (cut-program given a report m)
unfolding cut-program
cut-source given a report (inl m) = m.source
cut-source given a report (inr m) = m.source

exact : (given : Options) (a : Around) (report : Option Report) (status : Status) → Means given a report status → Quiet a status → IsExact given a status
exact given a report All m quiet = given-exact given a m.solved.program All m.solved.source (λ w. inl refl) quiet
exact given a report NoModel m quiet = given-exact given a m.solved.program NoModel m.solved.source (λ w. inl refl) quiet
exact given a report Partial (inl m) quiet = given-exact given a m.solved.program Partial m.solved.source (λ w. inl refl) quiet
exact given a report Partial (inr m) quiet = given-exact given a m.has.solved.program Partial m.has.solved.source (λ w. inl refl) quiet
exact given a report Unknown m quiet = given-exact given a m.solved.program Unknown m.solved.source (λ w. inl refl) quiet
exact given a report Enough (inl m) quiet = given-exact given a m.solved.program Enough m.solved.source (λ w. inl refl) quiet
exact given a report Enough (inr m) quiet = given-exact given a m.has.program Enough m.has.source (λ w. inl refl) quiet
exact given a report Parts m quiet = given-exact given a m.divided.program Parts m.divided.source (λ w. inl refl) quiet
exact given a report (WriteFault closed) (inl m) quiet = given-exact given a m.solved.program (WriteFault closed) m.solved.source (λ w. absurd (w m.cause)) quiet
exact given a report (WriteFault closed) (inr (inl m)) quiet = given-exact given a m.divided.program (WriteFault closed) m.divided.source (λ w. absurd (w m.cause)) quiet
exact given a report (WriteFault closed) (inr (inr (inl m))) quiet =
    given-exact given a (cut-program given a report m.0) (WriteFault closed) (cut-source given a report m.0) (λ w. absurd (w m.1)) quiet
exact given a report (WriteFault closed) (inr (inr (inr (inl m)))) quiet = given-exact given a m.has.program (WriteFault closed) m.has.source (λ w. absurd (w m.cause)) quiet
exact given a report (WriteFault closed) (inr (inr (inr (inr m)))) quiet = given-exact given a m.has.solved.program (WriteFault closed) m.has.solved.source (λ w. absurd (w m.cause)) quiet
exact given a report Unnamed m quiet = given-exact given a m.program Unnamed m.source (λ w. inr refl) quiet
exact given a report Help m quiet = absurd m
exact given a report Usage m quiet = absurd m
exact given a report Memory m quiet = record {
  accepted = λ text r w. inr refl;
  refused = λ reads text fault line is out r. inr refl;
  too_long = λ reads text is out r. inr refl;
  quiet = quiet;
}
exact given a report ReadFault m quiet = record {
  accepted = λ text r w. absurd (r m.1.cause);
  refused = λ reads text fault line is out r. absurd (r m.1.cause);
  too_long = λ reads text is out r. absurd (r m.1.cause);
  quiet = quiet;
}
exact given a report TooLong m quiet = record {
  accepted = λ told r w. let t = told m.0 in absurd (ok-or-err (outcome_for given.format t.0) t.1 errors.TooLong t.3 (says-at given.format a t.0 _ t.2 m.1.says));
  refused = λ reads text fault line is out r. let same : errors.TooLong ≡ errors.Refused fault line =
      one-error (outcome_for given.format text) _ _ (says-at given.format a text _ is m.1.says) out in absurd cc;
  too_long = λ reads text is out r. inl refl;
  quiet = quiet;
}
exact given a report (Refused f l) m quiet = record {
  accepted = λ told r w. let t = told m.0 in absurd (ok-or-err (outcome_for given.format t.0) t.1 (errors.Refused f l) t.3 (says-at given.format a t.0 _ t.2 m.1.says));
  refused = λ reads text fault line is out r. let same : errors.Refused f l ≡ errors.Refused fault line =
      one-error (outcome_for given.format text) _ _ (says-at given.format a text _ is m.1.says) out in inl cc;
  too_long = λ reads text is out r. let same : errors.Refused f l ≡ errors.TooLong = one-error (outcome_for given.format text) _ _ (says-at given.format a text _ is m.1.says) out in absurd cc;
  quiet = quiet;
}

-- what reading a program says where it gives none
record Unread (f : Format) (a : Around) (e : ReadError) : Type 0 where
  pub text : IfSome a.left (λ t. ReadsText (Err e) (outcome_for f t))
  pub some_text : (text : List ℕ) × ReadsText (Err e) (outcome_for f text)
  pub later : a.reads ≤ a.reads'
  pub cause : e ≡ errors.ReadFault → Rose a.reads a.reads'
  pub stops : StopsFor f most_bytes a.left a.left' (Err e)
  pub quiet : ¬ (e ≡ errors.ReadFault) → a.reads' ≡ a.reads

unread-means : (given : Options) (a : Around) (e : ReadError) → given.make ≡ None → Keeps a.held a.held' → Unread given.format a e → Means given a None (status_of e)
unread-means given a errors.Memory reads kept u = inl (record { none = refl; kept = kept })
unread-means given a errors.ReadFault reads kept u = (reads, record { untouched = record { none = refl; kept = kept }; cause = u.cause refl; stops = u.stops })
unread-means given a errors.TooLong reads kept u = (reads, record { untouched = record { none = refl; kept = kept }; says = u.text; said = u.some_text; stops = u.stops })
unread-means given a (errors.Refused f l) reads kept u = (reads, record { untouched = record { none = refl; kept = kept }; says = u.text; said = u.some_text; stops = u.stops })

fault-status : (e : ReadError) → e ≡ errors.ReadFault → status_of e ≡ ReadFault
fault-status e is = rw is refl

runs-unread : (given : Options) (a : Around) (e : ReadError) → given.make ≡ None → Keeps a.held a.held' → a.writes ≤ a.writes' → Unread given.format a e
    → Runs given a (record { status = status_of e; report = None })
runs-unread given a e reads kept writes u =
    let means = unread-means given a e reads kept u in
    record {
      means = means;
      exact = exact given a None (status_of e) means (λ isn't. u.quiet (λ is. isn't (fault-status e is)));
      later = (u.later, writes);
    }

runs-memory : (given : Options) (a : Around) → Keeps a.held a.held' → a.reads ≤ a.reads' → a.writes ≤ a.writes' → a.reads' ≡ a.reads
    → Runs given a (record { status = Memory; report = None })
runs-memory given a kept reads writes quiet =
    let means : Means given a None Memory = inl (record { none = refl; kept = kept }) in
    record { means = means; exact = exact given a None Memory means (λ isn't. quiet); later = (reads, writes) }

written : (given : Options) (a : Around) (report : Option Report) → (s : IsSolved given a report) → IsFew given s.program s.done → (end : End) (model : Bool) → s.done.results.end ≡ end →
    has_model s.done.results ≡ model → HasText given.proof given s.program s.done (Appends a.held a.held')
    → Means given a report (status_for end model)
written given a report s few Finished true e m text = record { solved = s; end_is = e; model_is = m; few = few; text = text }
written given a report s few Finished false e m text = record { solved = s; end_is = e; model_is = m; few = few; text = text }
written given a report s few Limited model e m text =
    inl (record { solved = s; end_is = e; model_is = limited-has (searched given s.program) (run_ask given s.program) given.budget s.done s.is e; few = few; text = text })
written given a report s few Unfinished true e m text = inl (record { solved = s; end_is = e; model_is = m; few = few; text = text })
written given a report s few Unfinished false e m text = record { solved = s; end_is = e; model_is = m; few = few; text = text }

-- the text of the results, where no proof is asked for
plain-text : (given : Options) (p : Program) (done : Report) (Is : List ℕ → Type 0) → given.proof ≡ false
    → Is (report_text (searched given p) (told_with (set_aside given p) done) (layout_of given)) → HasText given.proof given p done Is
plain-text given p done Is plain is =
    subst (λ (b : Bool). HasText b given p done Is) (sym plain) (subst Is (told-text given p done (layout_of given)) is)

delivered : (given : Options) (a : Around) (s : Status) (report : Option Report) → given.proof ≡ false → (solved : IsSolved given a report) → IsFew given solved.program solved.done
    → DeliveryMeans (layout_of given) (searched given solved.program) (told_with (set_aside given solved.program) solved.done) a.held a.held' a.writes a.writes' s → Means given a report s
delivered given a s report plain solved few (inl m) =
    let F = set_aside given solved.program in
    let done = solved.done in
    let is : s ≡ status_for done.results.end (has_model done.results) = m.0 ∙ ap (status_for done.results.end) (told-model F done) in
    let text = plain-text given solved.program done (Appends a.held a.held') plain m.1 in
    subst (Means given a report) (sym is) (written given a report solved few done.results.end (has_model done.results) refl refl text)
delivered given a s report plain solved few (inr m) =
    subst (Means given a report) (sym m.0.1)
    (inl (record {
      solved = solved;
      few = few;
      text =
          plain-text given solved.program solved.done (AppendsFront a.held a.held') plain m.1;
      cause =
          m.2;
    }))

-- the first of the list were written, or a front of their lines
first-written : (given : Options) (a : Around) (text : List ℕ) (s : Status) (report : Option Report) → (has : HasFirst given a report) →
    text ≡ first_text has.price has.program (whole_list (mode_of given.mode has.program) has.program) given.models
    → WritesAs Enough text a.held a.held' a.writes a.writes' s → Means given a report s
first-written given a text s report has same w = by w.means
  where
    by : ((s ≡ Enough) × Appends a.held a.held' text) ⊎ (IsLost s × AppendsFront a.held a.held' text × Rose a.writes a.writes') → Means given a report s
    by (inl m) = subst (Means given a report) (sym m.0) (inr (record { has = has; text = subst (Appends a.held a.held') same m.1 }))
    by (inr m) = subst (Means given a report) (sym m.0.1) (inr (inr (inr (inl (record { has = has; text = subst (AppendsFront a.held a.held') same m.1; cause = m.2 })))))

-- the first of what was found was written when the budget was spent, or a front of their lines
part-written : (given : Options) (a : Around) (text : List ℕ) (s : Status) (report : Option Report) → (has : HasPart given a report) → text ≡ part_text given has.solved.program has.solved.done
    → WritesAs Partial text a.held a.held' a.writes a.writes' s → Means given a report s
part-written given a text s report has same w = by w.means
  where
    by : ((s ≡ Partial) × Appends a.held a.held' text) ⊎ (IsLost s × AppendsFront a.held a.held' text × Rose a.writes a.writes') → Means given a report s
    by (inl m) = subst (Means given a report) (sym m.0) (inr (record { has = has; text = subst (Appends a.held a.held') same m.1 }))
    by (inr m) = subst (Means given a report) (sym m.0.1) (inr (inr (inr (inr (record { has = has; text = subst (AppendsFront a.held a.held') same m.1; cause = m.2 })))))

-- the text of parts was written, or cut off
handed : (given : Options) (a : Around) (s : Status) (report : Option Report) → (divided : IsDivided given a report)
    → HandingMeans (parts_text divided.cubes) a.held a.held' a.writes a.writes' s → Means given a report s
handed given a s report divided (inl m) = subst (Means given a report) (sym m.0) (record { divided = divided; text = m.1 })
handed given a s report divided (inr m) = subst (Means given a report) (sym m.0.1) (inr (inl (record { divided = divided; text = m.1; cause = m.2 })))

-- what is asked of a run that writes its answers at once
asked-once : (given : Options) (p : Program) → streams given p ≡ false → ask_of given p ≡ run_ask given p
asked-once given p off = ap (λ (b : Bool). record (ask_of given p) { models = cond b 0 given.models }) (sym off)

runs-solved : (given : Options) (a : Around) (p : Program) (o : Outcome) → given.split ≡ None → IsGiven given.format given.make a p → IsSound p →
    HasNumbers given p → a.reads ≤ a.reads' → a.reads' ≡ a.reads → streams given p ≡ false → given.proof ≡ false
    → Solves given p a.held a.held' a.writes a.writes' o → Runs given a o
runs-solved given a p o whole from sound numbers reads quiet off plain (inl m) = subst (Runs given a) (sym m.0) (runs-memory given a m.1 reads (omega (arith, m.2)) quiet)
runs-solved given a p o whole from sound numbers reads quiet off plain (inr s) =
    let is : IsReport (searched given p) (run_ask given p) given.budget s.0 = subst (λ (ask : Ask). IsReport (searched given p) ask given.budget s.0) (asked-once given p off) s.1 in
    let solved : IsSolved given a o.report = record {
      program = p;
      source = from;
      sound = sound;
      numbers = numbers;
      whole = whole;
      done = s.0;
      reports = subst (λ (b : Bool). IsReported b given.models (set_aside given p) s.0 o.report) (sym off) s.2.reports;
      is = is;
      says =
          told-says given p (run_ask given p) s.0 s.0.results.end (asked-sound given p sound numbers) is.says;
    } in
    let means = delivered given a o.status o.report plain solved (λ on some. absurd (false≢true (sym off ∙ on))) s.2.means in
    record { means = means; exact = exact given a o.report o.status means (λ isn't. quiet); later = (reads, s.2.later) }

-- The text of the proof was written, or a front of it.
proof-written : (given : Options) (a : Around) (s : Status) (report : Option Report) (entries : List Line)
    → given.proof ≡ true → (solved : IsSolved given a report) → IsFew given solved.program solved.done
    → WritesAs (status_for solved.done.results.end (has_model solved.done.results)) (text_of (proof_of (ask_of given solved.program) entries solved.done.results)) a.held a.held' a.writes a.writes' s
    → Means given a report s
proof-written given a s report entries asked solved few w = by w.means
  where
    text : List ℕ
    text = text_of (proof_of (ask_of given solved.program) entries solved.done.results)

    by : ((s ≡ status_for solved.done.results.end (has_model solved.done.results)) × Appends a.held a.held' text) ⊎ (IsLost s × AppendsFront a.held a.held' text × Rose a.writes a.writes')
        → Means given a report s
    by (inl m) =
        subst (Means given a report) (sym m.0) (written given a report solved few solved.done.results.end (has_model solved.done.results) refl refl
        (subst (λ (b : Bool). HasText b given solved.program solved.done (Appends a.held a.held')) (sym asked) (entries, m.1)))
    by (inr m) =
        subst (Means given a report) (sym m.0.1) (inl (record {
          solved = solved;
          few = few;
          text = subst (λ (b : Bool). HasText b given solved.program solved.done (AppendsFront a.held a.held')) (sym asked) (entries, m.1);
          cause = m.2;
        }))

-- no list is written while a proof is
proved-unstreamed : (given : Options) (p : Program) (b : Bool) → given.proof ≡ true → streams given p ≡ b → b ≡ false
proved-unstreamed given p false asked on = refl
proved-unstreamed given p true asked on = absurd (false≢true (sym (unproved given p on) ∙ asked))

-- its proof was written while it was found
runs-proved : (given : Options) (a : Around) (p : Program) (o : Outcome) → given.split ≡ None → IsGiven given.format given.make a p → IsSound p →
    HasNumbers given p → a.reads ≤ a.reads' → a.reads' ≡ a.reads → given.proof ≡ true
    → Proves given p a.held a.held' a.writes a.writes' o → Runs given a o
runs-proved given a p o whole from sound numbers reads quiet asked (inl cut) =
    let short : IsProofCut given a o.report = record { program = p; source = from; asked = asked; none = cut.none; entries = cut.entries; text = cut.text } in
    let means : Means given a o.report o.status = by cut.why short in
    record { means = means; exact = exact given a o.report o.status means (λ isn't. quiet); later = (reads, cut.later) }
  where
    by : ((o.status ≡ Memory) × (a.writes' ≡ a.writes)) ⊎ (IsLost o.status × Rose a.writes a.writes') → IsProofCut given a o.report → Means given a o.report o.status
    by (inl m) short = subst (Means given a o.report) (sym m.0) (inr (inr short))
    by (inr m) short = subst (Means given a o.report) (sym m.0.1) (inr (inr (inl (inr short, m.1))))
runs-proved given a p o whole from sound numbers reads quiet asked (inr s) =
    let off = proved-unstreamed given p (streams given p) asked refl in
    let is : IsReport (searched given p) (run_ask given p) given.budget s.0 = subst (λ (ask : Ask). IsReport (searched given p) ask given.budget s.0) (asked-once given p off) s.1 in
    let solved : IsSolved given a o.report = record {
      program = p;
      source = from;
      sound = sound;
      numbers = numbers;
      whole = whole;
      done = s.0;
      reports = subst (λ (b : Bool). IsReported b given.models (set_aside given p) s.0 o.report) (sym off) s.2.reports;
      is = is;
      says = told-says given p (run_ask given p) s.0 s.0.results.end (asked-sound given p sound numbers) is.says;
    } in
    let means = proof-written given a o.status o.report s.2.entries asked solved (λ on some. absurd (false≢true (sym off ∙ on))) s.2.wrote in
    record { means = means; exact = exact given a o.report o.status means (λ isn't. quiet); later = (reads, s.2.wrote.later) }

-- its list was written while it was found
runs-streamed : (given : Options) (a : Around) (p : Program) (o : Outcome) → given.split ≡ None → IsGiven given.format given.make a p → IsSound p →
    HasNumbers given p → a.reads ≤ a.reads' → a.reads' ≡ a.reads → streams given p ≡ true
    → Streams (searched given p) (mode_of given.mode p) given.budget given.models a.held a.held' a.writes a.writes' o → Runs given a o
runs-streamed given a p o whole from sound numbers reads quiet on (inl cut) =
    let short = streamed-cut given a p o from sound numbers on cut in
    let means : Means given a o.report o.status = by cut.why short in
    record { means = means; exact = exact given a o.report o.status means (λ isn't. quiet); later = (reads, cut.later) }
  where
    by : ((o.status ≡ Memory) × (a.writes' ≡ a.writes)) ⊎ (IsLost o.status × Rose a.writes a.writes') → IsStreamCut given a o.report → Means given a o.report o.status
    by (inl m) short = subst (Means given a o.report) (sym m.0) (inr (inl short))
    by (inr m) short = subst (Means given a o.report) (sym m.0.1) (inr (inr (inl (inl short, m.1))))
runs-streamed given a p o whole from sound numbers reads quiet on (inr (inl f)) = by f.4
  where
    by : DeliversRest (searched given p) f.0 f.1 f.2 given.models a.held a.held' a.writes a.writes' o ⊎ DeliversPart (searched given p) f.0 f.1 f.2 given.models a.held a.held' a.writes a.writes' o
        → Runs given a o
    by (inl d) =
        let solved = streamed-solved given a p f.0 f.1 f.2 o whole from sound numbers on f.3 d.reports in
        let means = delivered given a o.status o.report (unproved given p on) solved (λ streamed some. d.few some)
        (means-asked given p (searched given p) f.2 a.held a.held' a.writes a.writes' o.status (done-is given p f.0 f.1 f.2 (is-listing given p on) f.3) d.means) in
        record { means = means; exact = exact given a o.report o.status means (λ isn't. quiet); later = (reads, d.later) }
    by (inr d) =
        let solved = streamed-solved given a p f.0 f.1 f.2 o whole from sound numbers on f.3 d.reports in
        let has : HasPart given a o.report = record { solved = solved; end_is = d.end_is; streamed = on; some = d.some; enough = d.enough } in
        let means = part-written given a _ o.status o.report has (part-lines given p f.2 (done-is given p f.0 f.1 f.2 (is-listing given p on) f.3)) d.wrote in
        record { means = means; exact = exact given a o.report o.status means (λ isn't. quiet); later = (reads, d.wrote.later) }
runs-streamed given a p o whole from sound numbers reads quiet on (inr (inr d)) =
    let has = streamed-first given a p o from sound numbers on d in
    let means = first-written given a _ o.status o.report has (first-searched given p d.price given.models sound numbers (is-listing given p on)) d.wrote in
    record { means = means; exact = exact given a o.report o.status means (λ isn't. quiet); later = (reads, d.wrote.later) }

runs-divided : (given : Options) (a : Around) (p : Program) (most : ℕ) (o : Outcome) → given.split ≡ Some most → IsGiven given.format given.make a p → a.reads ≤ a.reads' → a.reads' ≡ a.reads
    → Divides p most a.held a.held' a.writes a.writes' o → Runs given a o
runs-divided given a p most o asked from reads quiet (inl m) = subst (Runs given a) (sym m.0) (runs-memory given a m.1 reads (omega (arith, m.2)) quiet)
runs-divided given a p most o asked from reads quiet (inr d) =
    let divided : IsDivided given a o.report = record { program = p; source = from; most = most; asked = asked; cubes = d.1.cubes; parts = d.1.parts; none = d.2.none } in
    let means = handed given a o.status o.report divided (subst (λ (t : List ℕ). HandingMeans t a.held a.held' a.writes a.writes' o.status) d.1.is d.2.means) in
    record { means = means; exact = exact given a o.report o.status means (λ isn't. quiet); later = (reads, d.2.later) }

-- the program of a text is there
pub ready-read : (given : Options) (l l' : Option (List ℕ)) (r r' : ℕ) (p : Program) → given.make ≡ None → IsSound p →
    IfSome l (λ text. outcome_for given.format text ≡ Ok p) → IsSaid given.format (Ok p) → IsAtEnd l' → r ≤ r' → r' ≡ r
    → IsReady given l l' r r' p
ready-read given l l' r r' p none sound says said end later quiet = record {
  source = λ h h' w w'. subst (λ (m : Option ℕ). IsGiven given.format m (around l l' r r' h h' w w') p) (sym none) (record { says = says; said = said; end = end });
  sound = sound;
  later = later;
  quiet = quiet;
}

-- a ring is there, and nothing read
pub ready-ring : (given : Options) (l : Option (List ℕ)) (r n : ℕ) (p : Program) → given.make ≡ Some n → IsSound p → p ≡ ring n → IsReady given l l r r p
ready-ring given l r n p make sound is = record {
  source = λ h h' w w'. subst (λ (m : Option ℕ). IsGiven given.format m (around l l r r h h' w w') p) (sym make) (is, record { left = Keeps-refl l; reads = refl });
  sound = sound;
  later = omega arith;
  quiet = refl;
}

-- memory was wanting before the program was there
pub over-memory : (given : Options) (l l' : Option (List ℕ)) (r r' : ℕ) (status : Status) → status ≡ Memory → r ≤ r' → r' ≡ r → IsOver given l l' r r' status
over-memory given l l' r r' status is later quiet =
    subst (IsOver given l l' r r') (sym is) (λ h w. runs-memory given (around l l' r r' h h w w) (Keeps-refl h) later (omega arith) quiet)

err-of : (e : ReadError) → e ≡ errors.ReadFault → IsErrOf {T = Program} (Err e) errors.ReadFault
err-of e is = cc

of-err : (e : ReadError) → IsErrOf {T = Program} (Err e) errors.ReadFault → e ≡ errors.ReadFault
of-err e is = cc

-- no program was read
pub over-unread : (given : Options) (l l' : Option (List ℕ)) (r r' : ℕ) (e : ReadError) (status : Status) → status ≡ status_of e → given.make ≡ None
    → IfSome l (λ t. ReadsText (Err e) (outcome_for given.format t)) → (text : List ℕ) × ReadsText (Err e) (outcome_for given.format text) → r ≤ r' →
    (IsErrOf {T = Program} (Err e) errors.ReadFault → Rose r r') → StopsFor given.format most_bytes l l' (Err e)
    → (¬ IsErrOf {T = Program} (Err e) errors.ReadFault → r' ≡ r) → IsOver given l l' r r' status
over-unread given l l' r r' e status is none text some later cause stops quiet =
    subst (IsOver given l l' r r') (sym is) (λ h w. runs-unread given (around l l' r r' h h w w) e none (Keeps-refl h) (omega arith)
    (record { text = text; some_text = some; later = later; cause = λ fault. cause (err-of e fault); stops = stops; quiet = λ no. quiet (λ is. no (of-err e is)) }))

-- the program leaves too few numbers
over-unnamed : (given : Options) (l l' : Option (List ℕ)) (r r' : ℕ) (p : Program) → IsReady given l l' r r' p → is_named given ≡ true → has_numbers p ≡ false → IsOver given l l' r r' Unnamed
over-unnamed given l l' r r' p ready by_name full = λ h w.
    let a = around l l' r r' h h w w in
    let means : Means given a None Unnamed = record { untouched = record { none = refl; kept = Keeps-refl h }; program = p; source = ready.source h h w w; by_name = by_name; full = full } in
    record { means = means; exact = exact given a None Unnamed means (λ isn't. ready.quiet); later = (ready.later, omega arith) }

over-why : (given : Options) (l l' : Option (List ℕ)) (r r' : ℕ) (p : Program) (why : Unready) → IsReady given l l' r r' p → WhyNot given p why → IsOver given l l' r r' (status_unready why)
over-why given l l' r r' p unready.Memory ready is = over-memory given l l' r r' Memory refl ready.later ready.quiet
over-why given l l' r r' p unready.Unnamed ready is = over-unnamed given l l' r r' p ready is.0 is.1

-- a program that is there is compiled, unless memory or numbers are wanting
pub prepares : (given : Options) (l l' : Option (List ℕ)) (r r' : ℕ) (p : Program) (result : Result Prepared Status) → IsReady given l l' r r' p →
    IfOk result (λ x. x ≡ prepared_of given p) → OnOk result (HasNumbers given p) → IfErr result (EndsUnready given p)
    → Prepares given l l' r r' result
prepares given l l' r r' p (Ok x) ready same numbers wanting = (p, ready, numbers, same)
prepares given l l' r r' p (Err status) ready same numbers wanting = subst (IsOver given l l' r r') (sym wanting.2) (over-why given l l' r r' p wanting.0 ready wanting.1)

-- it is solved
pub runs-ready : (given : Options) (l l' : Option (List ℕ)) (r r' : ℕ) (h h' : Option (List ℕ)) (w w' : ℕ) (p : Program) (o : Outcome) →
    given.split ≡ None → IsReady given l l' r r' p → HasNumbers given p → streams given p ≡ false → given.proof ≡ false → Solves given p h h' w w' o
    → Runs given (around l l' r r' h h' w w') o
runs-ready given l l' r r' h h' w w' p o whole ready numbers off plain solves =
    runs-solved given (around l l' r r' h h' w w') p o whole (ready.source h h' w w') ready.sound numbers ready.later ready.quiet off plain solves

-- and its proof is written while it is found
runs-shown : (given : Options) (l l' : Option (List ℕ)) (r r' : ℕ) (h h' : Option (List ℕ)) (w w' : ℕ) (p : Program) (o : Outcome) →
    given.split ≡ None → IsReady given l l' r r' p → HasNumbers given p → given.proof ≡ true → Proves given p h h' w w' o
    → Runs given (around l l' r r' h h' w w') o
runs-shown given l l' r r' h h' w w' p o whole ready numbers asked proves =
    runs-proved given (around l l' r r' h h' w w') p o whole (ready.source h h' w w') ready.sound numbers ready.later ready.quiet asked proves

-- workers solved it, or proved it
pub runs-crew : (given : Options) (l l' : Option (List ℕ)) (r r' : ℕ) (h h' : Option (List ℕ)) (w w' : ℕ) (p : Program) (o : Outcome) →
    given.split ≡ None → IsReady given l l' r r' p → HasNumbers given p → streams given p ≡ false → SolvesOr given.proof given p h h' w w' o
    → Runs given (around l l' r r' h h' w w') o
runs-crew given l l' r r' h h' w w' p o whole ready numbers off solves = by given.proof refl solves
  where
    by : (b : Bool) → given.proof ≡ b → SolvesOr b given p h h' w w' o → Runs given (around l l' r r' h h' w w') o
    by false plain solves = runs-ready given l l' r r' h h' w w' p o whole ready numbers off plain solves
    by true asked proves = runs-shown given l l' r r' h h' w w' p o whole ready numbers asked proves

-- at once, or its list while it is found
runs-by : (given : Options) (l l' : Option (List ℕ)) (r r' : ℕ) (h h' : Option (List ℕ)) (w w' : ℕ) (p : Program) (o : Outcome) (b : Bool) →
    given.split ≡ None → IsReady given l l' r r' p → HasNumbers given p → given.proof ≡ false → streams given p ≡ b → SolvesBy b given p h h' w w' o
    → Runs given (around l l' r r' h h' w w') o
runs-by given l l' r r' h h' w w' p o false whole ready numbers plain off solves = runs-ready given l l' r r' h h' w w' p o whole ready numbers off plain solves
runs-by given l l' r r' h h' w w' p o true whole ready numbers plain on solves =
    runs-streamed given (around l l' r r' h h' w w') p o whole (ready.source h h' w w') ready.sound numbers ready.later ready.quiet on solves

-- it is divided
runs-parted : (given : Options) (l l' : Option (List ℕ)) (r r' : ℕ) (h h' : Option (List ℕ)) (w w' : ℕ) (p : Program) (most : ℕ) (o : Outcome) → given.split ≡ Some most → IsReady given l l' r r' p
    → Divides p most h h' w w' o → Runs given (around l l' r r' h h' w w') o
runs-parted given l l' r r' h h' w w' p most o asked ready divides = runs-divided given (around l l' r r' h h' w w') p most o asked (ready.source h h' w w') ready.later ready.quiet divides

-- it is divided or solved, as was asked
pub runs-done : (given : Options) (l l' : Option (List ℕ)) (r r' : ℕ) (h h' : Option (List ℕ)) (w w' : ℕ) (p : Program) (o : Outcome) →
    IsReady given l l' r r' p → HasNumbers given p → Does given p h h' w w' o
    → Runs given (around l l' r r' h h' w w') o
runs-done given l l' r r' h h' w w' p o ready numbers done = go given.split refl done
  where
    go : (m : Option ℕ) → given.split ≡ m → DoesBy m given p h h' w w' o → Runs given (around l l' r r' h h' w w') o
    go None asked d = by given.proof refl d
      where
        by : (b : Bool) → given.proof ≡ b → SolvesAs b given p h h' w w' o → Runs given (around l l' r r' h h' w w') o
        by false plain solves = runs-by given l l' r r' h h' w w' p o (streams given p) asked ready numbers plain refl solves
        by true wanted proves = runs-shown given l l' r r' h h' w w' p o asked ready numbers wanted proves
    go (Some most) asked d = runs-parted given l l' r r' h h' w w' p most o asked ready d

-- the units of a report are of its program
pub paid-of : {E : Type 0} (p : Program) (ask : Ask) (units : ℕ) (s : Result Report E) (r : Report) → s ≡ Ok r → IfOk s (IsReport p ask units) → r.paid.program ≡ p
paid-of {E = E} p ask units s r is has = (subst (λ (x : Result Report E). IfOk x (IsReport p ask units)) is has).program

pub second-false : (a b : Bool) → (a || b) ≡ false → b ≡ false
second-false true b e = absurd cc
second-false false b e = e

pub first-false : (a b : Bool) → (a || b) ≡ false → a ≡ false
first-false true b e = absurd cc
first-false false b e = refl

pub unsplit : (o : Option ℕ) → is_some o ≡ false → o ≡ None
unsplit None e = refl
unsplit (Some n) e = absurd cc

none-is-some : {A : Type 0} (x : A) → None ≡ Some x → ⊥
none-is-some x e = cc

unreported : (b : Bool) (models : ℕ) (A : Aside) (done : Report) → IsReported b models A done None → ⊥
unreported false models A done is = none-is-some _ is
unreported true models A done is = none-is-some _ is.3

begun : (byte : ℕ) (bytes : List ℕ) → byte ∷ bytes ≡ [] → ⊥
begun byte bytes e = cc

parts-have-text : (cubes : List (List ℤ)) → 0 < length cubes → parts_text cubes ≡ [] → ⊥
parts-have-text [] some e = let no : ⊥ = omega (arith, some) in no
parts-have-text (c ∷ cubes) some e = begun 54 _ e

-- A run that ends before there is a program has written nothing.
unwritten : (given : Options) (l l' : Option (List ℕ)) (r r' : ℕ) (status : Status) → IsOver given l l' r r' status → is_written status ≡ false
unwritten given l l' r r' status over = by status (over (Some []) 0).means
  where
    by : (s : Status) → Means given (around l l' r r' (Some []) (Some []) 0 0) None s → is_written s ≡ false
    by All m = absurd (unreported _ _ _ _ m.solved.reports)
    by NoModel m = absurd (unreported _ _ _ _ m.solved.reports)
    by Partial (inl m) = absurd (unreported _ _ _ _ m.solved.reports)
    by Partial (inr m) = absurd (unreported _ _ _ _ m.has.solved.reports)
    by Unknown m = absurd (unreported _ _ _ _ m.solved.reports)
    by Enough (inl m) = absurd (unreported _ _ _ _ m.solved.reports)
    by Enough (inr m) = absurd (none-is-some m.has.reports.0 m.has.reports.1)
    by Help m = absurd m
    by Memory m = refl
    by Usage m = refl
    by (Refused fault line) m = refl
    by ReadFault m = refl
    by TooLong m = refl
    by Unnamed m = refl
    by (WriteFault closed) m = refl
    by Parts m = absurd (parts-have-text m.divided.cubes m.divided.parts.some (sym m.text))

pub nothing-to-send : (given : Options) (l l' : Option (List ℕ)) (r r' : ℕ) (status : Status) (o : Outcome) (is_sent : Bool) →
    IsOver given l l' r r' status → o ≡ record { status = status; report = None } → IsSentOn o.status is_sent
nothing-to-send given l l' r r' status o is_sent over is =
    λ done. absurd (false≢true (sym (unwritten given l l' r r' status over) ∙ (sym (ap (λ (x : Outcome). is_written x.status) is) ∙ done)))

no-rise : Rose 0 0 → ⊥
no-rise rose = omega (arith, rose)

-- A run that ends before there is a program has lost nothing.
lost-nothing : (given : Options) (l l' : Option (List ℕ)) (r r' : ℕ) (status : Status) (is_closed : Bool) → IsOver given l l' r r' status → TellsClosed status is_closed
lost-nothing given l l' r r' status is_closed over = by status (over (Some []) 0).means
  where
    by : (s : Status) → Means given (around l l' r r' (Some []) (Some []) 0 0) None s → TellsClosed s is_closed
    by All m = tt
    by NoModel m = tt
    by Partial m = tt
    by Unknown m = tt
    by Enough m = tt
    by Help m = tt
    by Memory m = tt
    by Usage m = tt
    by (Refused fault line) m = tt
    by ReadFault m = tt
    by TooLong m = tt
    by Unnamed m = tt
    by (WriteFault closed) (inl m) = absurd (no-rise m.cause)
    by (WriteFault closed) (inr (inl m)) = absurd (no-rise m.cause)
    by (WriteFault closed) (inr (inr (inl m))) = absurd (no-rise m.1)
    by (WriteFault closed) (inr (inr (inr (inl m)))) = absurd (no-rise m.cause)
    by (WriteFault closed) (inr (inr (inr (inr m)))) = absurd (no-rise m.cause)
    by Parts m = tt

pub nothing-closed : (given : Options) (l l' : Option (List ℕ)) (r r' : ℕ) (status : Status) (o : Outcome) (is_closed : Bool) →
    IsOver given l l' r r' status → o ≡ record { status = status; report = None } → TellsClosed o.status is_closed
nothing-closed given l l' r r' status o is_closed over is =
    subst (λ (x : Outcome). TellsClosed x.status is_closed) (sym is) (lost-nothing given l l' r r' status is_closed over)

pub ok-no-fault : (p : Program) (e : ReadError) → ¬ IsErrOf (Ok p) e
ok-no-fault p e is = cc
