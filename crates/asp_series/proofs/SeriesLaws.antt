-- Queries that are answered one after another.
use Rattle.std.proofs.Common.{◌≡◌, ◌∙◌, ℕ, ◌+◌, ◌-◌, ◌*◌, ◌<◌, ◌≤◌, zero, suc, Bool, true, false, not, ◌&&◌, ◌||◌, List, [], ◌∷◌, ◌++◌, length, drop, get_or, refl, sym, ap, subst, arith}
use Rattle.std.specs.Prelude.{ℤ, Option, None, Some, Ok, Err, IfSome}
use Rattle.std.specs.Io.KnownBytes.{Appends}
use Rattle.std.proofs.KnownBytes.{Appends-kept, Appends-nil, Appends-trans}
use Rattle.std.proofs.lemmas.Bool.{false≢true}
use Rattle.std.proofs.lemmas.List.{append-nil, append_assoc, length-append}
use Rattle.asp_io.specs.Causes.{AppendsFront, Rose}
use Rattle.asp_buffer.proofs.OutLaws.{drop_turn, front-after, front-more}
use Rattle.std.specs.List.{AllByRecursion}
use Rattle.asp_vars.proofs.PlaceLaws.{at_each}
use Rattle.asp_model.specs.declared.program.Program.{Program}
use Rattle.asp_model.specs.declared.results.Mode.{Mode}
use Rattle.asp_model.specs.Sound.{IsSound}
use Rattle.asp_model.specs.Texts.{found_count}
use Rattle.asp_read.specs.declared.series.Series.{Series}
use Rattle.asp_read.specs.Queries.{with_query}
use Rattle.asp_json.specs.declared.entries.Sums.{Sums}
use Rattle.asp_cli.specs.declared.Form.{Form}
use Rattle.asp_cli.specs.declared.Options.{Options}
use Rattle.asp_cli.specs.Found.{seeks_consequences}
use Rattle.asp_series.specs.declared.ask.Sought.{Sought}
use Rattle.asp_series.specs.declared.cores.Core.{Core}
use Rattle.asp_series.specs.declared.series.Course.{Course}
use Rattle.asp_series.specs.declared.series.Reply.{Reply}
use Rattle.asp_series.specs.declared.end.SeriesEnd.{SeriesEnd}
use Rattle.asp_series.specs.declared.end.SeriesEnd.TheVariants.{Memory, WriteFault}
use Rattle.asp_series.specs.Asking.{AsksOn, Breaks, CloseMeans, Ends, IsAt, IsAtQuery, IsFoundBy, IsReason, IsReply, IsThrough, StepMeans, StopMeans, answered_of, end_of, gone_on, literals_in, minimal_in, most_recorded, reply_text, rest_text, spent_in, sums_at}
use Rattle.asp_prepare.specs.Meaning.{has_model, mode_of}
use Rattle.asp_series.specs.Series.{Answered, AreAnswered, Asks, EndsAs, IsAnsweredBy, IsSentOn, IsWrittenOf, TellsClosed, TellsFaults, all_done, answered_text, any_model, closing_in, end_by, is_done, is_open, is_refuted, models_of, opening_in, series_text, sums_of, whole_text}
use Rattle.asp_faults.specs.Writing.{Writes}
use Rattle.asp_series.proofs.FindLaws.{found-budget, found-is, found-says, found-text}

-- ---- a reply
spends : (c : Option Core) (spent left units all : ℕ) → spent + left ≡ units → all ≡ spent + spent_in c → IfSome (literals_in c) (λ core. minimal_in c ≡ false → spent_in c ≡ left)
    → IfSome (literals_in c) (λ core. minimal_in c ≡ false → all ≡ units)
spends None spent left units all a b h = tt
spends (Some c) spent left units all a b h = λ spent_all. let e = h spent_all in omega (arith, a, b, e)

pub reply-is : (given : Options) (p : Program) (query : List ℤ) (units : ℕ) (s : Sought) (c : Option Core) (left spent : ℕ) →
    seeks_consequences (Some given.mode) ≡ false → IsSound (with_query p query)
    → IsFoundBy given p query units s → left ≡ units - s.report.spent →
    IsReason given.core_min p (p.assumptions ++ query) (is_refuted s.report.results) left c
    → spent ≡ s.report.spent + spent_in c → IsReply given p query units (record { sought = s; core = c; spent = spent })
reply-is given p query units s c left spent e sound found rest reason all =
    let b = found-budget given p query units s found in
    let paid = reason.paid in
    record {
      sought = found;
      answered = record {
        is = found-is given p query units s found;
        says = found-says given p query units s e sound found;
        core = reason.core;
        spent = (omega (arith, all), omega (arith, b, all, rest, paid));
        plain = λ off. let none = reason.plain off in omega (arith, all, none);
        least = λ on. spends c s.report.spent left units spent (omega (arith, b, rest)) all (reason.spends on);
      };
    }

-- what is written of it
pub text-answered : (given : Options) (p : Program) (query : List ℤ) (units number : ℕ) (y : Reply) → seeks_consequences (Some given.mode) ≡ false → IsReply given p query units y
    → reply_text given p number y ≡ answered_text given p query number (answered_of y)
text-answered given p query units number y e reply =
    found-text given.form given p query units number y.sought (literals_in y.core) (minimal_in y.core) e reply.sought

-- ---- one query
pub step-means : (given : Options) (p : Program) (query : List ℤ) (number : ℕ) (c d : Course) (held held' : Option (List ℕ)) (w w' : ℕ) (x : Answered)
    → IsAnsweredBy given p query c.left x → Appends held held' (answered_text given p query number x) → w' ≡ w → d ≡ gone_on c number x →
    StepMeans given p query number c held held' w w' (Ok d)
step-means given p query number c d held held' w w' x is text quiet goes = (record { x = x; is = is; text = text; goes = goes }, quiet)

-- a front of the text of a reply was written
pub breaks : (given : Options) (p : Program) (query : List ℤ) (number : ℕ) (c : Course) (held held' : Option (List ℕ)) (w w' : ℕ) (y : Reply)
    (text : List ℕ) → IsReply given p query c.left y → text ≡ answered_text given p query number (answered_of y)
    → AppendsFront held held' text → Rose w w' → w ≤ w' → Breaks given p query number c held held' w w'
breaks given p query number c held held' w w' y text reply same front rose later =
    record { x = answered_of y; is = reply.answered; text = subst (AppendsFront held held') same front; cause = rose; later = later }

-- ---- one more query
nothing-left : {A : Type 0} (n : ℕ) (x : A) (xs : List A) → drop n [] ≡ x ∷ xs → ⊥
nothing-left zero x xs e = let f : ⊥ = cc in f
nothing-left (suc n) x xs e = let f : ⊥ = cc in f

first-is : {A : Type 0} (x y : A) (xs ys : List A) → x ∷ xs ≡ y ∷ ys → x ≡ y
first-is x y xs ys e = cc

done-parts : (a b : Bool) → (a && b) ≡ true → (a ≡ true) × (b ≡ true)
done-parts true true e = (refl, refl)
done-parts true false e = absurd (false≢true e)
done-parts false b e = absurd (false≢true e)

not-open : (x : Answered) → is_done x.done.results.end ≡ true → is_open x ≡ true → ⊥
not-open x done o = false≢true (sym (ap not done) ∙ o)

pub answered-push : (given : Options) (p : Program) (queries : List (List ℤ)) (query : List ℤ) (rest : List (List ℤ)) (units : ℕ) (xs : List Answered)
    (x : Answered) (left : ℕ) → drop (length xs) queries ≡ query ∷ rest
    → AreAnswered given p queries units xs left → all_done xs ≡ true → IsAnsweredBy given p query left x → AreAnswered given p queries units (xs ++ x ∷ []) (left - x.spent)
answered-push given p [] query rest units [] x left at are done is = absurd (nothing-left zero query rest at)
answered-push given p [] query rest units (y ∷ xs) x left at are done is = absurd are
answered-push given p (q ∷ queries) query rest units [] x left at are done is =
    let same : query ≡ q = sym (first-is q query queries rest at) in (
      subst (λ (n : ℕ). IsAnsweredBy given p q n x) are (subst (λ (l : List ℤ). IsAnsweredBy given p l left x) same is),
      λ o. refl,
      ap (λ (n : ℕ). n - x.spent) are,
    )
answered-push given p (q ∷ queries) query rest units (y ∷ xs) x left at are done is =
    let both = done-parts (is_done y.done.results.end) (all_done xs) done in
    (are.0, λ o. absurd (not-open y both.0 o), answered-push given p queries query rest (units - y.spent) xs x left at are.2 both.1 is)

pub text-push : (given : Options) (p : Program) (queries : List (List ℤ)) (query : List ℤ) (rest : List (List ℤ)) (units n : ℕ) (xs : List Answered)
    (x : Answered) (left : ℕ) → drop (length xs) queries ≡ query ∷ rest
    → AreAnswered given p queries units xs left → series_text given p queries n (xs ++ x ∷ []) ≡ series_text given p queries n xs ++ answered_text given p query (n + length xs) x
text-push given p [] query rest units n [] x left at are = absurd (nothing-left zero query rest at)
text-push given p [] query rest units n (y ∷ xs) x left at are = absurd are
text-push given p (q ∷ queries) query rest units n [] x left at are =
    append-nil (answered_text given p q n x) ∙ ap (λ (l : List ℤ). answered_text given p l n x) (first-is q query queries rest at)
    ∙ ap (λ (k : ℕ). answered_text given p query k x) (let e : n ≡ n + 0 = omega arith in e)
text-push given p (q ∷ queries) query rest units n (y ∷ xs) x left at are =
    ap (λ (t : List ℕ). answered_text given p q n y ++ t) (text-push given p queries query rest (units - y.spent) (n + 1) xs x left at are.2)
    ∙ sym (append_assoc (answered_text given p q n y) (series_text given p queries (n + 1) xs) (answered_text given p query (n + 1 + length xs) x))
    ∙ ap (λ (k : ℕ). (answered_text given p q n y ++ series_text given p queries (n + 1) xs) ++ answered_text given p query k x) (let e : n + 1 + length xs ≡ n + length (y ∷ xs) = omega arith in e)

done-push : (xs : List Answered) (x : Answered) → all_done xs ≡ true → all_done (xs ++ x ∷ []) ≡ is_done x.done.results.end
done-push [] x done = and-true (is_done x.done.results.end)
  where
    and-true : (b : Bool) → (b && true) ≡ b
    and-true true = refl
    and-true false = refl
done-push (y ∷ xs) x done = by (is_done y.done.results.end) (all_done xs) (all_done (xs ++ x ∷ [])) done (done-push xs x)
  where
    by : (a b c : Bool) → (a && b) ≡ true → (b ≡ true → c ≡ is_done x.done.results.end) → (a && c) ≡ is_done x.done.results.end
    by true true c h f = f refl
    by true false c h f = absurd (false≢true h)
    by false b c h f = absurd (false≢true h)

model-push : (xs : List Answered) (x : Answered) → any_model (xs ++ x ∷ []) ≡ (any_model xs || has_model x.done.results)
model-push [] x = or-false (has_model x.done.results)
  where
    or-false : (b : Bool) → (b || false) ≡ b
    or-false true = refl
    or-false false = refl
model-push (y ∷ xs) x = by (has_model y.done.results) (model-push xs x)
  where
    by : (b : Bool) → any_model (xs ++ x ∷ []) ≡ (any_model xs || has_model x.done.results) → (b || any_model (xs ++ x ∷ [])) ≡ ((b || any_model xs) || has_model x.done.results)
    by true h = refl
    by false h = h

models-push : (xs : List Answered) (x : Answered) → models_of (xs ++ x ∷ []) ≡ models_of xs + found_count x.done.results.mode x.done.results
models-push [] x = let e : found_count x.done.results.mode x.done.results + 0 ≡ 0 + found_count x.done.results.mode x.done.results = omega arith in e
models-push (y ∷ xs) x =
    let h = models-push xs x in
    let e : found_count y.done.results.mode y.done.results + models_of (xs ++ x ∷ [])
    ≡ (found_count y.done.results.mode y.done.results + models_of xs) + found_count x.done.results.mode x.done.results = omega (arith, h) in
    e

-- the place of the next query
next-at : (count : ℕ) (queries : List (List ℤ)) (xs : List Answered) (query : List ℤ) (rest : List (List ℤ)) → length xs ≡ count →
    drop count queries ≡ query ∷ rest → drop (length xs) queries ≡ query ∷ rest
next-at count queries xs query rest is at = ap (λ (n : ℕ). drop n queries) is ∙ at

-- the text with one more
text-more : (given : Options) (s : Series) (count : ℕ) (query : List ℤ) (rest : List (List ℤ)) (xs : List Answered) (left : ℕ) (x : Answered) → length xs ≡ count
    → AreAnswered given s.program s.queries given.budget xs left → drop count s.queries ≡ query ∷ rest
    → series_text given s.program s.queries 1 (xs ++ x ∷ []) ≡ series_text given s.program s.queries 1 xs ++ answered_text given s.program query (count + 1) x
text-more given s count query rest xs left x is are next =
    text-push given s.program s.queries query rest given.budget 1 xs x left (next-at count s.queries xs query rest is next) are
    ∙ ap (λ (k : ℕ). series_text given s.program s.queries 1 xs ++ answered_text given s.program query k x) (let f : 1 + length xs ≡ count + 1 = omega (arith, is) in f)

-- one more query was answered
pub at-more : (given : Options) (s : Series) (count : ℕ) (query : List ℤ) (rest : List (List ℤ)) (held held' held'' : Option (List ℕ)) (w w' w'' : ℕ)
    (c d : Course) → IsAtQuery given s.program s.queries held held' w w' count c → drop count s.queries ≡ query ∷ rest
    → StepMeans given s.program query (count + 1) c held' held'' w' w'' (Ok d) → d.models ≤ (count + 1) * most_recorded
    → IsAt given s.program s.queries held held'' w w'' d × (d.calls ≡ count + 1)
at-more given s count query rest held held' held'' w w' w'' c d before next step few =
    let at = before.at in
    let x = step.0.x in
    let is : length at.xs ≡ count = at.calls ∙ before.count_is in
    let done : all_done at.xs ≡ true = at.done ∙ before.finished in
    subst (λ (e : Course). IsAt given s.program s.queries held held'' w w'' e × (e.calls ≡ count + 1)) (sym step.0.goes) (
      record {
        xs = at.xs ++ x ∷ [];
        answered = answered-push given s.program s.queries query rest given.budget at.xs x c.left (next-at count s.queries at.xs query rest is next) at.answered done step.0.is;
        calls = length-append at.xs (x ∷ []) ∙ (let f : length at.xs + 1 ≡ count + 1 = omega (arith, is) in f);
        done = done-push at.xs x done;
        any = model-push at.xs x ∙ ap (λ (b : Bool). b || has_model x.done.results) at.any;
        models = models-push at.xs x ∙ ap (λ (n : ℕ). n + found_count x.done.results.mode x.done.results) at.models;
        few = subst (λ (e : Course). e.models ≤ (count + 1) * most_recorded) step.0.goes few;
        text = subst (Appends held held'') (sym (text-more given s count query rest at.xs c.left x is at.answered next)) (Appends-trans held held' held'' _ _ at.text step.0.text);
        quiet = step.1 ∙ at.quiet;
      },
      refl,
    )

-- the next query may be asked
pub at-next : (given : Options) (s : Series) (count : ℕ) (held held'' : Option (List ℕ)) (w w'' : ℕ) (d : Course)
    → IsAt given s.program s.queries held held'' w w'' d × (d.calls ≡ count + 1) → d.done ≡ true → IsAtQuery given s.program s.queries held held'' w w'' (count + 1) d
at-next given s count held held'' w w'' d h done = record { at = h.0; finished = done; count_is = h.1 }

-- the last one that was begun isn't finished
pub at-open : (given : Options) (s : Series) (count : ℕ) (held held'' : Option (List ℕ)) (w w'' : ℕ) (d : Course)
    → IsAt given s.program s.queries held held'' w w'' d × (d.calls ≡ count + 1) → d.done ≡ false → IsThrough given s.program s.queries held held'' w w'' d
at-open given s count held held'' w w'' d h unfinished = record { at = h.0; every = λ done. absurd (false≢true (sym unfinished ∙ done)) }

-- all queries were answered
pub at-end : (given : Options) (s : Series) (held held'' : Option (List ℕ)) (w w'' : ℕ) (count : ℕ) (d : Course)
    → IsAtQuery given s.program s.queries held held'' w w'' count d → count ≡ length s.queries → IsThrough given s.program s.queries held held'' w w'' d
at-end given s held held'' w w'' count d h is = record { at = h.at; every = λ done. h.count_is ∙ is }

-- so few answers were recorded before the next query
pub few-at : (models calls count : ℕ) → models ≤ calls * most_recorded → calls ≡ count → models ≤ (count + 1 - 1) * most_recorded
few-at models calls count few is =
    let same : count + 1 - 1 ≡ count = omega arith in
    subst (λ (n : ℕ). models ≤ n * most_recorded) (is ∙ sym same) few

-- memory ran out, or the sink failed, at a query
pub at-stops : (given : Options) (s : Series) (count : ℕ) (query : List ℤ) (rest : List (List ℤ)) (held held' held'' : Option (List ℕ)) (w w' w'' : ℕ)
    (c : Course) (end : SeriesEnd) → IsAtQuery given s.program s.queries held held' w w' count c
    → drop count s.queries ≡ query ∷ rest → StepMeans given s.program query (count + 1) c held' held'' w' w'' (Err end) → StopMeans given s held held'' w w'' end
at-stops given s count query rest held held' held'' w w' w'' c Memory before next step =
    let at = before.at in (
      record { xs = at.xs; some = record { left = c.left; answered = at.answered }; text = Appends-kept held held' held'' _ at.text step.0 },
      step.1 ∙ at.quiet,
    )
at-stops given s count query rest held held' held'' w w' w'' c (WriteFault closed) before next step =
    let at = before.at in
    let x = step.x in
    let is : length at.xs ≡ count = at.calls ∙ before.count_is in
    record {
      xs = at.xs ++ x ∷ [];
      some = record {
        left = c.left - x.spent;
        answered = answered-push given s.program s.queries query rest given.budget at.xs x c.left (next-at count s.queries at.xs query rest is next) at.answered (at.done ∙ before.finished) step.is;
      };
      text = front-more held held'' _ _ (subst (AppendsFront held held'') (sym (text-more given s count query rest at.xs c.left x is at.answered next))
          (front-after held held' held'' _ _ at.text step.text));
      cause = subst (λ (n : ℕ). Rose n w'') at.quiet step.cause;
      later = subst (λ (n : ℕ). n ≤ w'') at.quiet step.later;
    }
at-stops given s count query rest held held' held'' w w' w'' c end before next step = absurd step

-- ---- the end of a series
pub stop-asks : (given : Options) (s : Series) (held held' : Option (List ℕ)) (w w' : ℕ) (end : SeriesEnd) → StopMeans given s held held' w w' end → AsksOn given s held held' w w' end
stop-asks given s held held' w w' Memory stops = stops
stop-asks given s held held' w w' (WriteFault closed) stops = stops
stop-asks given s held held' w w' end stops = absurd stops

pub stop-unsent : (given : Options) (s : Series) (held held' : Option (List ℕ)) (w w' : ℕ) (is_sent : Bool) (end : SeriesEnd) → StopMeans given s held held' w w' end → IsSentOn end is_sent
stop-unsent given s held held' w w' is_sent Memory stops = λ written. absurd (false≢true written)
stop-unsent given s held held' w w' is_sent (WriteFault closed) stops = λ written. absurd (false≢true written)
stop-unsent given s held held' w w' is_sent end stops = absurd stops

-- what is said of the queries together
same-sums : (mode : Mode) (xs : List Answered) (c : Course) → length xs ≡ c.calls → all_done xs ≡ c.done → models_of xs ≡ c.models → sums_at mode c ≡ sums_of mode xs
same-sums mode xs c calls done models =
    ap (λ (b : Bool). let s : Sums = record { end = end_by b; mode = mode; models = c.models; calls = c.calls } in s) (sym done)
    ∙ ap (λ (n : ℕ). let s : Sums = record { end = end_by (all_done xs); mode = mode; models = n; calls = c.calls } in s) (sym models)
    ∙ ap (λ (n : ℕ). let s : Sums = record { end = end_by (all_done xs); mode = mode; models = models_of xs; calls = n } in s) (sym calls)

ended : (given : Options) (s : Series) (held held' held'' : Option (List ℕ)) (w w' w'' : ℕ) (c : Course) (mode : Mode) (end : SeriesEnd)
    → IsThrough given s.program s.queries held held' w w' c → mode ≡ mode_of given.mode s.program
    → (end ≡ end_of c.done c.any) × Appends held' held'' (closing_in given.form (sums_at mode c)) × (w'' ≡ w') → Ends given s held held'' end × (w'' ≡ w)
ended given s held held' held'' w w' w'' c mode end through is means =
    let at = through.at in
    let sums : sums_at mode c ≡ sums_of (mode_of given.mode s.program) at.xs = ap (λ (m : Mode). sums_at m c) is ∙ same-sums (mode_of given.mode s.program) at.xs c at.calls at.done at.models in (
      record {
        xs = at.xs;
        some = record { left = c.left; answered = at.answered };
        text = Appends-trans held held' held'' _ _ at.text (subst (λ (x : Sums). Appends held' held'' (closing_in given.form x)) sums means.1);
        every = λ done. at.calls ∙ through.every (sym at.done ∙ done);
        end_is = means.0 ∙ (ap (λ (b : Bool). end_of b c.any) (sym at.done) ∙ ap (λ (b : Bool). end_of (all_done at.xs) b) (sym at.any));
      },
      means.2 ∙ at.quiet,
    )

pub closed-asks : (given : Options) (s : Series) (held held' held'' : Option (List ℕ)) (w w' w'' : ℕ) (c : Course) (mode : Mode) (end : SeriesEnd)
    → IsThrough given s.program s.queries held held' w w' c → mode ≡ mode_of given.mode s.program → CloseMeans given.form mode c held' held'' w' w'' end → w' ≤ w'' →
    AsksOn given s held held'' w w'' end
closed-asks given s held held' held'' w w' w'' c mode Memory through is means later = absurd means
closed-asks given s held held' held'' w w' w'' c mode (WriteFault closed) through is means later =
    let at = through.at in
    let sums : sums_at mode c ≡ sums_of (mode_of given.mode s.program) at.xs = ap (λ (m : Mode). sums_at m c) is ∙ same-sums (mode_of given.mode s.program) at.xs c at.calls at.done at.models in
    record {
      xs = at.xs;
      some = record { left = c.left; answered = at.answered };
      text = front-after held held' held'' _ _ at.text (subst (λ (x : Sums). AppendsFront held' held'' (closing_in given.form x)) sums means.0);
      cause = subst (λ (n : ℕ). Rose n w'') at.quiet means.1;
      later = subst (λ (n : ℕ). n ≤ w'') at.quiet later;
    }
closed-asks given s held held' held'' w w' w'' c mode end through is means later = ended given s held held' held'' w w' w'' c mode end through is means

pub nothing-written : {T E : Type 0} (held : Option (List ℕ)) (w : ℕ) (v : T) → Writes {T = T} {E = E} held held w w (Ok v) []
nothing-written held w v = record { all = Appends-nil held; front = tt; later = omega arith; cause = tt; quiet = refl }

-- what stands after the last query was written
pub closing-means : (form : Form) (mode : Mode) (c : Course) (sums : Sums) (held held' : Option (List ℕ)) (w w' : ℕ) (end : SeriesEnd) → sums ≡ sums_at mode c
    → end ≡ end_of c.done c.any → Appends held held' (closing_in form sums) → w' ≡ w → CloseMeans form mode c held held' w w' end
closing-means form mode c sums held held' w w' end same is text quiet =
    subst (CloseMeans form mode c held held' w w') (sym is) (by c.done c.any refl refl)
  where
    written : Appends held held' (closing_in form (sums_at mode c))
    written = subst (λ (x : Sums). Appends held held' (closing_in form x)) same text

    so : (done any : Bool) → done ≡ c.done → any ≡ c.any → end_of done any ≡ end_of c.done c.any
    so done any p q = ap (λ (b : Bool). end_of b any) p ∙ ap (λ (b : Bool). end_of c.done b) q

    by : (done any : Bool) → done ≡ c.done → any ≡ c.any → CloseMeans form mode c held held' w w' (end_of done any)
    by true true p q = (so true true p q, written, quiet)
    by true false p q = (so true false p q, written, quiet)
    by false true p q = (so false true p q, written, quiet)
    by false false p q = (so false false p q, written, quiet)

-- a front of it was written
pub closing-front : (form : Form) (mode : Mode) (c : Course) (sums : Sums) (held held' : Option (List ℕ)) → sums ≡ sums_at mode c
    → AppendsFront held held' (closing_in form sums) → AppendsFront held held' (closing_in form (sums_at mode c))
closing-front form mode c sums held held' same front = subst (λ (x : Sums). AppendsFront held held' (closing_in form x)) same front

-- it doesn't say that the sink failed
pub closing-closed : (done any : Bool) (end : SeriesEnd) (is_closed : Bool) → end ≡ end_of done any → TellsClosed end is_closed
closing-closed done any end is_closed is = subst (λ (e : SeriesEnd). TellsClosed e is_closed) (sym is) (by done any)
  where
    by : (done any : Bool) → TellsClosed (end_of done any) is_closed
    by true true = tt
    by true false = tt
    by false true = tt
    by false false = tt

-- ---- the whole series
-- the text after the opening is all that is left of the whole
whole-text : (given : Options) (s : Series) (xs : List Answered) → opening_in given.form ++ rest_text given s xs ≡ whole_text given s xs
whole-text given s xs = sym (append_assoc (opening_in given.form) (series_text given s.program s.queries 1 xs) (closing_in given.form (sums_of (mode_of given.mode s.program) xs)))

written : (given : Options) (s : Series) (held held' held'' : Option (List ℕ)) (end : SeriesEnd) → Appends held held' (opening_in given.form) → (e : Ends given s held' held'' end) →
    IsWrittenOf given s held held'' e.xs
written given s held held' held'' end opening e =
    record { some = e.some; text = subst (Appends held held'') (whole-text given s e.xs) (Appends-trans held held' held'' _ _ opening e.text) }

ends-by : (given : Options) (s : Series) (held held'' : Option (List ℕ)) (w w'' : ℕ) (xs : List Answered) (done any : Bool) → IsWrittenOf given s held held'' xs
    → (all_done xs ≡ true → length xs ≡ length s.queries) → all_done xs ≡ done → any_model xs ≡ any → EndsAs given s held held'' w w'' (end_of done any)
ends-by given s held held'' w w'' xs true true written every done any = record { xs = xs; written = written; every = every done; done = done; model_is = any }
ends-by given s held held'' w w'' xs true false written every done any = record { xs = xs; written = written; every = every done; done = done; model_is = any }
ends-by given s held held'' w w'' xs false true written every done any = record { xs = xs; written = written; unfinished = done; model_is = any }
ends-by given s held held'' w w'' xs false false written every done any = record { xs = xs; written = written; unfinished = done; model_is = any }

ends-as : (given : Options) (s : Series) (held held' held'' : Option (List ℕ)) (w w' w'' : ℕ) (end : SeriesEnd)
    → Appends held held' (opening_in given.form) → Ends given s held' held'' end × (w'' ≡ w') → w' ≡ w → Asks given s held held'' w w'' end
ends-as given s held held' held'' w w' w'' end opening e quiet = record {
  means = subst (EndsAs given s held held'' w w'') (sym e.0.end_is)
      (ends-by given s held held'' w w'' e.0.xs (all_done e.0.xs) (any_model e.0.xs) (written given s held held' held'' end opening e.0) e.0.every refl refl);
  later = let a = e.1 in omega (arith, a, quiet);
}

-- the opening was written, and the queries asked
pub asks-on : (given : Options) (s : Series) (held held' held'' : Option (List ℕ)) (w w' w'' : ℕ) (end : SeriesEnd)
    → Appends held held' (opening_in given.form) → w' ≡ w → AsksOn given s held' held'' w' w'' end → Asks given s held held'' w w'' end
asks-on given s held held' held'' w w' w'' Memory opening quiet on = record {
  means = record { xs = on.0.xs; some = on.0.some; text = Appends-trans held held' held'' _ _ opening on.0.text };
  later = let a = on.1 in omega (arith, a, quiet);
}
asks-on given s held held' held'' w w' w'' (WriteFault closed) opening quiet on = record {
  means = record {
    xs = on.xs;
    some = on.some;
    text = subst (AppendsFront held held'') (whole-text given s on.xs) (front-after held held' held'' _ _ opening on.text);
    cause = subst (λ (n : ℕ). Rose n w'') quiet on.cause;
  };
  later = subst (λ (n : ℕ). n ≤ w'') quiet on.later;
}
asks-on given s held held' held'' w w' w'' end opening quiet on = ends-as given s held held' held'' w w' w'' end opening on quiet

-- a fault of the sink is told
pub asks-flushed : (given : Options) (s : Series) (held held' : Option (List ℕ)) (w w' w'' : ℕ) (end : SeriesEnd)
    → w' ≡ w → AsksOn given s held held' w' w'' end → TellsFaults w w'' end
asks-flushed given s held held' w w' w'' Memory quiet on = λ kept. on.1 ∙ quiet
asks-flushed given s held held' w w' w'' (WriteFault closed) quiet on = λ kept. absurd (kept (closed, refl))
asks-flushed given s held held' w w' w'' end quiet on = λ kept. on.1 ∙ quiet

-- the opening wasn't written
pub unopened : (given : Options) (s : Series) (held held' : Option (List ℕ)) (w w' : ℕ) (closed : Bool)
    → AppendsFront held held' (opening_in given.form) → Rose w w' → w ≤ w' → Asks given s held held' w w' (WriteFault closed)
unopened given s held held' w w' closed front rose later = record {
  means = record {
    xs = [];
    some = record { left = given.budget; answered = nothing-answered given s.program s.queries given.budget };
    text = front-more held held' _ _ (subst (AppendsFront held held') (ap (λ (t : List ℕ). opening_in given.form ++ t) (sym
        (nothing-said given s.program s.queries))) (front-more held held' _ [] front));
    cause = rose;
  };
  later = later;
}
  where
    nothing-answered : (given : Options) (p : Program) (queries : List (List ℤ)) (units : ℕ) → AreAnswered given p queries units [] units
    nothing-answered given p [] units = refl
    nothing-answered given p (q ∷ queries) units = refl

    nothing-said : (given : Options) (p : Program) (queries : List (List ℤ)) → series_text given p queries 1 [] ≡ []
    nothing-said given p [] = refl
    nothing-said given p (q ∷ queries) = refl

-- ---- the next of the queries
pub next-query : (queries read : List (List ℤ)) (i : ℕ) (x y : List ℤ) → read ≡ queries → i < length read → x ≡ get_or read i x → y ≡ x → drop i queries ≡ y ∷ drop (i + 1) queries
next-query queries read i x y same within at is =
    subst (λ (qs : List (List ℤ)). drop i qs ≡ y ∷ drop (i + 1) qs) same (subst (λ (q : List ℤ). drop i read ≡ q ∷ drop (i + 1) read) (sym is) (drop_turn read i x within at))

pub sound-query : (p : Program) (queries read : List (List ℤ)) (i : ℕ) (x y : List ℤ) → read ≡ queries → i < length read → x ≡ get_or read i x →
    y ≡ x → AllByRecursion (λ q. IsSound (with_query p q)) queries → IsSound (with_query p y)
sound-query p queries read i x y same within at is all =
    subst (λ (q : List ℤ). IsSound (with_query p q)) (sym (is ∙ at))
    (at_each (λ (q : List ℤ). IsSound (with_query p q)) read i x
    (subst (AllByRecursion (λ (q : List ℤ). IsSound (with_query p q))) (sym same) all) within)
