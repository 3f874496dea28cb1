-- A run with queries, from what reading and asking did.
use Rattle.std.proofs.Common.{◌≡◌, ◌∙◌, ◌⊎◌, ℕ, ◌≤◌, Bool, true, false, List, refl, sym, ap, subst, inl, inr, arith}
use Rattle.std.specs.Prelude.{Option, None, Some, Result, Ok, Err, IfSome, IsErrOf}
use Rattle.std.specs.Io.KnownBytes.{IsAtEnd, Keeps}
use Rattle.std.proofs.KnownBytes.{Keeps-refl}
use Rattle.std.proofs.lemmas.Bool.{false≢true}
use Rattle.asp_io.specs.Causes.{Rose}
use Rattle.asp_read.specs.declared.fault.ReadError.{ReadError}
use Rattle.asp_read.specs.declared.fault.ReadError.TheVariants as errors
use Rattle.asp_read.specs.declared.series.Series.{Series}
use Rattle.asp_read.specs.Judging.{most_bytes}
use Rattle.asp_read.specs.Queries.{IsSoundSeries, asking, series_outcome}
use Rattle.asp_read.specs.Stream.{ReadsText, StopsBy}
use Rattle.asp_cli.specs.declared.Options.{Options}
use Rattle.asp_series.specs.declared.end.SeriesEnd.{SeriesEnd}
use Rattle.asp_series.specs.declared.end.SeriesEnd.TheVariants as ends
use Rattle.asp_series.specs.Series.{Asks, EndsAs, IsSentOn as EndsSent, TellsClosed as EndsClosed, TellsFaults as EndsFaults}
use Rattle.asp_top.specs.declared.status.Outcome.{Outcome}
use Rattle.asp_top.specs.declared.status.Status.{Status}
use Rattle.asp_top.specs.declared.status.Status.TheVariants.{All, NoModel, Partial, Unknown, Memory, ReadFault, WriteFault}
use Rattle.asp_top.specs.Notes.{is_answered, is_written}
use Rattle.asp_top.specs.Runs.{Around, IsSentOn, Runs, TellsClosed, TellsFaults, around, status_of}
use Rattle.asp_top.specs.Series.{AsksMeans, IsExactSeries, IsReadSeries, IsSaidSeries, RunsBy, RunsSeries, SaysSeries, SeriesMeans, status_at}

-- ---- the end of a series
ends-means : (given : Options) (s : Series) (held held' : Option (List ℕ)) (w w' : ℕ) (end : SeriesEnd) → EndsAs given s held held' w w' end → AsksMeans given s held held' w w' (status_at end)
ends-means given s held held' w w' ends.All m = m
ends-means given s held held' w w' ends.NoModel m = m
ends-means given s held held' w w' ends.Partial m = m
ends-means given s held held' w w' ends.Unknown m = m
ends-means given s held held' w w' ends.Memory m = m
ends-means given s held held' w w' (ends.WriteFault closed) m = m

lost-at : (w w' : ℕ) (end : SeriesEnd) → EndsFaults w w' end → TellsFaults w w' (status_at end)
lost-at w w' ends.All told = λ kept. told (λ lost. let no = lost.1 in cc)
lost-at w w' ends.NoModel told = λ kept. told (λ lost. let no = lost.1 in cc)
lost-at w w' ends.Partial told = λ kept. told (λ lost. let no = lost.1 in cc)
lost-at w w' ends.Unknown told = λ kept. told (λ lost. let no = lost.1 in cc)
lost-at w w' ends.Memory told = λ kept. told (λ lost. let no = lost.1 in cc)
lost-at w w' (ends.WriteFault closed) told = λ kept. absurd (kept (closed, refl))

sent-at : (end : SeriesEnd) (is_sent : Bool) → EndsSent end is_sent → IsSentOn (status_at end) is_sent
sent-at ends.All is_sent sent = sent
sent-at ends.NoModel is_sent sent = sent
sent-at ends.Partial is_sent sent = sent
sent-at ends.Unknown is_sent sent = sent
sent-at ends.Memory is_sent sent = sent
sent-at (ends.WriteFault closed) is_sent sent = sent

closed-at : (end : SeriesEnd) (is_closed : Bool) → EndsClosed end is_closed → TellsClosed (status_at end) is_closed
closed-at ends.All is_closed told = told
closed-at ends.NoModel is_closed told = told
closed-at ends.Partial is_closed told = told
closed-at ends.Unknown is_closed told = told
closed-at ends.Memory is_closed told = told
closed-at (ends.WriteFault closed) is_closed told = told

-- the outcome of a run whose series ended so
ended : (end : SeriesEnd) (status : Status) (o : Outcome) → status ≡ status_at end → o ≡ record { status = status; report = None } → status_at end ≡ o.status
ended end status o at is = sym at ∙ sym (ap (λ (x : Outcome). x.status) is)

pub series-flushed : (w w' : ℕ) (end : SeriesEnd) (status : Status) (o : Outcome) → status ≡ status_at end →
    o ≡ record { status = status; report = None } → EndsFaults w w' end → TellsFaults w w' o.status
series-flushed w w' end status o at is told = subst (TellsFaults w w') (ended end status o at is) (lost-at w w' end told)

pub series-sent : (is_sent : Bool) (end : SeriesEnd) (status : Status) (o : Outcome) → status ≡ status_at end →
    o ≡ record { status = status; report = None } → EndsSent end is_sent → IsSentOn o.status is_sent
series-sent is_sent end status o at is sent = subst (λ (s : Status). IsSentOn s is_sent) (ended end status o at is) (sent-at end is_sent sent)

pub series-closed : (is_closed : Bool) (end : SeriesEnd) (status : Status) (o : Outcome) → status ≡ status_at end →
    o ≡ record { status = status; report = None } → EndsClosed end is_closed → TellsClosed o.status is_closed
series-closed is_closed end status o at is told = subst (λ (s : Status). TellsClosed s is_closed) (ended end status o at is) (closed-at end is_closed told)

-- ---- the whole run
says-series : (a : Around) (text : List ℕ) (said : Result Series ReadError) → a.left ≡ Some text → SaysSeries a said → series_outcome text ≡ said
says-series a text said is h = subst (λ (l : Option (List ℕ)). IfSome l (λ t. series_outcome t ≡ said)) is h

ok-or-err : (o : Result Series ReadError) (s : Series) (e : ReadError) → o ≡ Ok s → o ≡ Err e → ⊥
ok-or-err o s e is isn't = cc

one-error : (o : Result Series ReadError) (e f : ReadError) → o ≡ Err e → o ≡ Err f → e ≡ f
one-error o e f p q = cc

abbrev Quiet : Around → Status → Type 0
Quiet a status = ¬ (status ≡ ReadFault) → a.reads' ≡ a.reads

-- an accepted text says the series that is there, so no other is said
read-exact : (a : Around) (s : Series) (status : Status) → IsReadSeries a s → (¬ Rose a.writes a.writes' → (is_answered status ≡ true) ⊎ (status ≡ Memory)) → Quiet a status → IsExactSeries a status
read-exact a s status source done quiet = record {
  accepted = λ text t is out r w. done w;
  refused = λ text fault line is out r. absurd (ok-or-err (series_outcome text) s (errors.Refused fault line) (says-series a text (Ok s) is source.says) out);
  too_long = λ text is out r. absurd (ok-or-err (series_outcome text) s errors.TooLong (says-series a text (Ok s) is source.says) out);
  quiet = quiet;
}

asked-exact : (given : Options) (a : Around) (s : Series) (status : Status) → IsReadSeries a s → AsksMeans given s a.held a.held' a.writes a.writes' status → Quiet a status → IsExactSeries a status
asked-exact given a s All source m quiet = read-exact a s All source (λ w. inl refl) quiet
asked-exact given a s NoModel source m quiet = read-exact a s NoModel source (λ w. inl refl) quiet
asked-exact given a s Partial source m quiet = read-exact a s Partial source (λ w. inl refl) quiet
asked-exact given a s Unknown source m quiet = read-exact a s Unknown source (λ w. inl refl) quiet
asked-exact given a s Memory source m quiet = read-exact a s Memory source (λ w. inr refl) quiet
asked-exact given a s (WriteFault closed) source m quiet = read-exact a s (WriteFault closed) source (λ w. absurd (w m.cause)) quiet
asked-exact given a s status source m quiet = absurd m

asked-means : (given : Options) (a : Around) (s : Series) (status : Status) → IsReadSeries a s → AsksMeans given s a.held a.held' a.writes a.writes' status → SeriesMeans given a status
asked-means given a s All source m = record { series = s; source = source; means = m }
asked-means given a s NoModel source m = record { series = s; source = source; means = m }
asked-means given a s Partial source m = record { series = s; source = source; means = m }
asked-means given a s Unknown source m = record { series = s; source = source; means = m }
asked-means given a s Memory source m = inr (record { series = s; source = source; means = m })
asked-means given a s (WriteFault closed) source m = record { series = s; source = source; means = m }
asked-means given a s status source m = absurd m

-- the queries were asked
pub runs-asked : (given : Options) (left left' : Option (List ℕ)) (r r' : ℕ) (held held' : Option (List ℕ)) (w w' : ℕ) (s : Series) (end : SeriesEnd)
    (status : Status) (o : Outcome) → status ≡ status_at end → o ≡ record { status = status; report = None }
    → IfSome left (λ text. series_outcome text ≡ Ok s) → IsSaidSeries (Ok s) → IsAtEnd left' → IsSoundSeries s → r ≤ r' → r' ≡ r → Asks given s held held' w w' end
    → RunsSeries given (around left left' r r' held held' w w') o
runs-asked given left left' r r' held held' w w' s end status o at is says said finish sound later quiet asks =
    let a = around left left' r r' held held' w w' in
    let source : IsReadSeries a s = record { says = says; said = said; end = finish; sound = sound } in
    let means : AsksMeans given s held held' w w' status = subst (AsksMeans given s held held' w w') (sym at) (ends-means given s held held' w w' end asks.means) in
    subst (RunsSeries given a) (sym is) (record {
      none = refl;
      means = asked-means given a s status source means;
      exact = asked-exact given a s status source means (λ isn't. quiet);
      later = (later, asks.later);
    })

err-of : (e : ReadError) → e ≡ errors.ReadFault → IsErrOf {T = Series} (Err e) errors.ReadFault
err-of e is = cc

of-err : (e : ReadError) → IsErrOf {T = Series} (Err e) errors.ReadFault → e ≡ errors.ReadFault
of-err e is = cc

-- what reading says where it gives no series
record Unread (a : Around) (e : ReadError) : Type 0 where
  pub text : IfSome a.left (λ t. ReadsText (Err e) (series_outcome t))
  pub some_text : (text : List ℕ) × ReadsText (Err e) (series_outcome text)
  pub later : a.reads ≤ a.reads'
  pub cause : e ≡ errors.ReadFault → Rose a.reads a.reads'
  pub stops : StopsBy asking most_bytes a.left a.left' (Err e)
  pub quiet : ¬ (e ≡ errors.ReadFault) → a.reads' ≡ a.reads
  pub kept : Keeps a.held a.held'

unread-means : (given : Options) (a : Around) (e : ReadError) → Unread a e → SeriesMeans given a (status_of e)
unread-means given a errors.Memory u = inl u.kept
unread-means given a errors.ReadFault u = record { kept = u.kept; cause = u.cause refl; stops = u.stops }
unread-means given a errors.TooLong u = record { kept = u.kept; says = u.text; said = u.some_text; stops = u.stops }
unread-means given a (errors.Refused fault line) u = record { kept = u.kept; says = u.text; said = u.some_text; stops = u.stops }

unread-exact : (a : Around) (e : ReadError) → Unread a e → Quiet a (status_of e) → IsExactSeries a (status_of e)
unread-exact a errors.Memory u quiet = record {
  accepted = λ text s is out r w. inr refl;
  refused = λ text fault line is out r. inr refl;
  too_long = λ text is out r. inr refl;
  quiet = quiet;
}
unread-exact a errors.ReadFault u quiet = record {
  accepted = λ text s is out r w. absurd (r (u.cause refl));
  refused = λ text fault line is out r. absurd (r (u.cause refl));
  too_long = λ text is out r. absurd (r (u.cause refl));
  quiet = quiet;
}
unread-exact a errors.TooLong u quiet = record {
  accepted = λ text s is out r w. absurd (ok-or-err (series_outcome text) s errors.TooLong out (says-series a text _ is u.text));
  refused = λ text fault line is out r. let same : errors.TooLong ≡ errors.Refused fault line = one-error (series_outcome text) _ _ (says-series a text _ is u.text) out in absurd cc;
  too_long = λ text is out r. inl refl;
  quiet = quiet;
}
unread-exact a (errors.Refused f l) u quiet = record {
  accepted = λ text s is out r w. absurd (ok-or-err (series_outcome text) s (errors.Refused f l) out (says-series a text _ is u.text));
  refused = λ text fault line is out r. let same : errors.Refused f l ≡ errors.Refused fault line = one-error (series_outcome text) _ _ (says-series a text _ is u.text) out in inl cc;
  too_long = λ text is out r. let same : errors.Refused f l ≡ errors.TooLong = one-error (series_outcome text) _ _ (says-series a text _ is u.text) out in absurd cc;
  quiet = quiet;
}

fault-status : (e : ReadError) → e ≡ errors.ReadFault → status_of e ≡ ReadFault
fault-status e is = rw is refl

-- no series was read
pub runs-unread : (given : Options) (left left' : Option (List ℕ)) (r r' : ℕ) (held : Option (List ℕ)) (w : ℕ) (e : ReadError) (status : Status)
    (o : Outcome) → o ≡ record { status = status; report = None } → status ≡ status_of e
    → IfSome left (λ t. ReadsText (Err e) (series_outcome t)) → (text : List ℕ) × ReadsText (Err e) (series_outcome text) → r ≤ r' → (IsErrOf {T = Series} (Err e) errors.ReadFault → Rose r r')
    → StopsBy asking most_bytes left left' (Err e) → (¬ IsErrOf {T = Series} (Err e) errors.ReadFault → r' ≡ r) → RunsSeries given (around left left' r r' held held w w) o
runs-unread given left left' r r' held w e status o is same text some later cause stops quiet =
    let a = around left left' r r' held held w w in
    let u : Unread a e = record {
      text = text;
      some_text = some;
      later = later;
      cause = λ fault. cause (err-of e fault);
      stops = stops;
      quiet =
          λ no. quiet (λ x. no (of-err e x));
      kept = Keeps-refl held;
    } in
    subst (RunsSeries given a) (sym (is ∙ ap (λ (x : Status). record { status = x; report = None }) same)) (record {
      none = refl;
      means = unread-means given a e u;
      exact = unread-exact a e u (λ isn't. u.quiet (λ fault. isn't (fault-status e fault)));
      later = (later, omega arith);
    })

unsent : (e : ReadError) → is_written (status_of e) ≡ false
unsent errors.Memory = refl
unsent errors.ReadFault = refl
unsent errors.TooLong = refl
unsent (errors.Refused fault line) = refl

pub unread-sent : (e : ReadError) (status : Status) (o : Outcome) (is_sent : Bool) → o ≡ record { status = status; report = None } → status ≡ status_of e → IsSentOn o.status is_sent
unread-sent e status o is_sent is same = λ done. absurd (false≢true (sym (unsent e) ∙ (sym (ap (λ (x : Outcome). is_written x.status) is ∙ ap is_written same) ∙ done)))

unclosed : (e : ReadError) (is_closed : Bool) → TellsClosed (status_of e) is_closed
unclosed errors.Memory is_closed = tt
unclosed errors.ReadFault is_closed = tt
unclosed errors.TooLong is_closed = tt
unclosed (errors.Refused fault line) is_closed = tt

pub unread-closed : (e : ReadError) (status : Status) (o : Outcome) (is_closed : Bool) → o ≡ record { status = status; report = None } → status ≡ status_of e → TellsClosed o.status is_closed
unread-closed e status o is_closed is same = subst (λ (x : Status). TellsClosed x is_closed) (sym (ap (λ (y : Outcome). y.status) is ∙ same)) (unclosed e is_closed)

pub ok-no-fault : (s : Series) (e : ReadError) → ¬ IsErrOf {T = Series} (Ok s) e
ok-no-fault s e is = cc

-- ---- a run with queries or without
pub runs-queries : (b : Bool) (given : Options) (a : Around) (o : Outcome) → b ≡ true → RunsSeries given a o → RunsBy b given a o
runs-queries b given a o is runs = subst (λ (x : Bool). RunsBy x given a o) (sym is) runs

pub runs-program : (b : Bool) (given : Options) (a : Around) (o : Outcome) → b ≡ false → Runs given a o → RunsBy b given a o
runs-program b given a o is runs = subst (λ (x : Bool). RunsBy x given a o) (sym is) runs
