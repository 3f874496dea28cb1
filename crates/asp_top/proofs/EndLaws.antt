-- How a stream ends, from what its outlet wrote.
use Rattle.std.proofs.Common.{◌≡◌, ◌⊎◌, ◌∙◌, ℕ, zero, suc, ◌+◌, ◌-◌, ◌<◌, ◌≤◌, ◌==◌, ◌||◌, ◌&&◌, Bool, true, false, not, cond, nat_eq, List, [], ◌∷◌, ◌++◌, length, take, refl, sym, ap, subst, inl, inr, arith, append_assoc, append-nil, length-append, length-take-le}
use Rattle.std.specs.Prelude.{Option, None, Some, Result, Ok, Err, IfOk, IfSome, nat_lt}
use Rattle.std.proofs.lemmas.Bool.{and_parts, eqb-true, false≢true, ltb-false, ltb-true}
use Rattle.std.proofs.lemmas.List.{take_all, take_at}
use mathlib.Core.List.{IsPrefix}
use Rattle.std.specs.Io.KnownBytes.{Appends}
use Rattle.std.proofs.KnownBytes.{Appends-nil}
use Rattle.asp_io.specs.Causes.{AppendsFront, Rose}
use Rattle.asp_model.specs.declared.program.Program.{Program}
use Rattle.asp_model.specs.declared.results.Ask.{Ask}
use Rattle.asp_model.specs.declared.results.End.{End}
use Rattle.asp_model.specs.declared.results.End.TheVariants.{Finished, Limited, Unfinished}
use Rattle.asp_model.specs.declared.results.Mode.{Mode}
use Rattle.asp_model.specs.declared.results.Mode.TheVariants.{Enum, Opt, Consequences}
use Rattle.asp_model.specs.Models.{atoms_of}
use Rattle.asp_model.specs.Sets.{Atoms}
use Rattle.asp_vars.specs.Numbering.{bodies_of}
use Rattle.asp_vars.specs.Paid.{Clash}
use Rattle.asp_counts.specs.Telling.{AreNumbered}
use Rattle.asp_crew_laws.specs.declared.report.Report.{Report}
use Rattle.asp_crew_laws.specs.Reports.{IsReport}
use Rattle.asp_cli.specs.declared.Options.{Options}
use Rattle.asp_outlet.specs.Outlets.{Heard, IsAfter, Moment, moment}
use Rattle.asp_outlet.proofs.OutletLaws.{front_is_written}
use Rattle.asp_limit.specs.Limits.{IsCutAt, IsLimitedTo, heard_of, left_out, room, wants}
use Rattle.asp_prepare.specs.declared.prepared.Prepared.{Prepared}
use Rattle.asp_prepare.specs.Meaning.{has_model, is_some_of, mode_of}
use Rattle.asp_prepare.specs.Told.{report_text}
use Rattle.asp_prepare.specs.Naming.{ask_of, prepared_of, searched}
use Rattle.asp_prepare.proofs.ToldLaws.{same-ask}
use Rattle.asp_stream.specs.Endings.{Tells, end_of, report_of}
use Rattle.asp_stream.specs.declared.told.End.{End as StreamEnd}
use Rattle.asp_stream.specs.declared.told.End.TheVariants as ends
use Rattle.asp_stream.specs.declared.told.Told.{Told}
use Rattle.asp_top.specs.declared.counts.Tally.{Tally}
use Rattle.asp_top.specs.declared.status.Outcome.{Outcome}
use Rattle.asp_top.specs.declared.status.Status.TheVariants.{Enough, Memory, Partial, WriteFault}
use Rattle.asp_top.specs.Codes.{IsLost}
use Rattle.asp_top.specs.Loops.{HasLoops}
use Rattle.asp_top.specs.Meaning.{status_for}
use Rattle.asp_top.specs.Notes.{is_list, is_streamed, lists_lines}
use Rattle.asp_top.specs.Runs.{DeliversFirst, DeliversLast, DeliversPart, DeliversRest, DeliveryMeans, EndsRun, HasTold, IsCounted, IsCutShort, IsFirstOf, IsFound, ReportsLast, Solves, SolvesBy, Streams, StreamsFound, TellsAfter, TellsFaults, WritesAs, as_lines, cut_to, is_few, kept_of, last_at, last_of, left_of, list_ask, list_text, mode_after, price_after, report_after, streams, whole_list, with_answers}
use Rattle.asp_top.proofs.AfterLaws.{after-answers, after-end, after-kept, after-whole, all-after, full-some, model-after, price-is, text-after, told-after, told-some}

filled : (n : ℕ) → (n ≡ 0 → ⊥) → not (nat_eq n 0) ≡ true
filled n some = ap not (isn't (nat_eq n 0) refl)
  where
    isn't : (b : Bool) → nat_eq n 0 ≡ b → nat_eq n 0 ≡ false
    isn't true e = absurd (some (eqb-true n 0 e))
    isn't false e = e

-- the first of two lists has an element
pub some-first : {A : Type 0} (xs ys : List A) (n : ℕ) → n ≡ length xs → (n ≡ 0 → ⊥) → not (nat_eq n 0) ≡ is_some_of (xs ++ ys)
some-first [] ys n is some = absurd (some is)
some-first (x ∷ xs) ys n is some = filled n some

-- ---- cut short
-- nothing was written
pub cut-unwritten : (p : Program) (all : List Atoms) (h : Option (List ℕ)) (w : ℕ) (o : Outcome) → o ≡ record { status = Memory; report = None } → IsCutShort p all h h w w o
cut-unwritten p all h w o is =
    subst (IsCutShort p all h h w w) (sym is) (record { none = refl; text = record { count = 0; front = Appends-nil h }; why = inl (refl, refl); later = omega arith })

pub cut-by-fault : (p : Program) (all : List Atoms) (a m : Moment) (closed : Bool) (o : Outcome) → a.heard ≡ [] → a.failed ≡ false → IsAfter p a m → IsPrefix m.heard all
    → m.failed ≡ true → o ≡ record { status = WriteFault closed; report = None } → IsCutShort p all a.held m.held a.faults m.faults o
cut-by-fault p all a m closed o none fine after front failed is =
    subst (IsCutShort p all a.held m.held a.faults m.faults) (sym is) (record {
      none = refl;
      text = front_is_written p all a m none fine after front;
      why = inr ((closed, refl), (after.1.cut fine failed).1);
      later = after.1.later;
    })

pub cut-by-memory : (p : Program) (all : List Atoms) (a m : Moment) (o : Outcome) → a.heard ≡ [] → a.failed ≡ false → IsAfter p a m → IsPrefix m.heard all
    → m.failed ≡ false → o ≡ record { status = Memory; report = None } → IsCutShort p all a.held m.held a.faults m.faults o
cut-by-memory p all a m o none fine after front kept is =
    subst (IsCutShort p all a.held m.held a.faults m.faults) (sym is) (record {
      none = refl;
      text = front_is_written p all a m none fine after front;
      why = inl (refl, (after.1.written kept).2);
      later = after.1.later;
    })

-- ---- which answers were written
module _ {A : Type 0} where
  -- a front of a front
  pub front-first : (xs ys zs : List A) → IsPrefix (xs ++ ys) zs → IsPrefix xs zs
  front-first xs ys zs h = (ys ++ h.0, sym (append_assoc xs ys h.0) ∙ h.1)

  take-over : (n : ℕ) (xs ys : List A) → length xs ≤ n → take n (xs ++ ys) ≡ xs ++ take (n - length xs) ys
  take-over n [] ys le = ap (λ (k : ℕ). take k ys) (let same : n ≡ n - 0 = omega arith in same)
  take-over zero (x ∷ xs) ys le = let f : ⊥ = omega (arith, le) in absurd f
  take-over (suc n) (x ∷ xs) ys le =
      ap (λ (t : List A). x ∷ t) (take-over n xs ys (omega (arith, le)))
      ∙ ap (λ (k : ℕ). x ∷ (xs ++ take k ys)) (let same : n - length xs ≡ suc n - length (x ∷ xs) = omega arith in same)

  -- what was written, and what is then, where nothing was left out
  none-left : (n : ℕ) (written left rest : List A) → left ≡ [] → length written ≤ n → written ++ take (n - length written) rest ≡ take n ((written ++ left) ++ rest)
  none-left n written left rest none le =
      sym (take-over n written rest le)
      ∙ ap (λ (t : List A). take n (t ++ rest)) (sym (ap (λ (t : List A). written ++ t) none ∙ append-nil written))

  -- as many were written as may be
  all-written : (n : ℕ) (written left all : List A) → length written ≡ n → IsPrefix (written ++ left) all → written ≡ take n all
  all-written n written left all count front =
      sym (take_at written (left ++ front.0) n count)
      ∙ ap (take n) (sym (append_assoc written left front.0) ∙ front.1)

  none-kept : (n : ℕ) (written rest : List A) → n ≡ 0 → written ++ take n rest ≡ written
  none-kept n written rest e = ap (λ (k : ℕ). written ++ take k rest) e ∙ append-nil written

room-none : (models written : ℕ) → (models == 0) ≡ true → room models written ≡ 18446744073709551615
room-none models written e = ap (λ (b : Bool). cond b 18446744073709551615 (models - written)) e

room-some : (models written : ℕ) → (models == 0) ≡ false → room models written ≡ models - written
room-some models written e = ap (λ (b : Bool). cond b 18446744073709551615 (models - written)) e

positive : (n : ℕ) → (n == 0) ≡ false → 0 < n
positive zero e = absurd (false≢true (sym e))
positive (suc n) e = omega arith

-- no more were written than the limit says, and others left out only where as many were written
record CutAt (models : ℕ) (written left : List Atoms) : Type 0 where
  pub within : 0 < models → length written ≤ models
  pub full : (left ≡ []) ⊎ ((0 < models) × (length written ≡ models))

cut-at : (all : List Atoms) (models : ℕ) (written : List Atoms) (left : ℕ) → IsCutAt models written left → CutAt models written (left_out all written left)
cut-at all models written left is = record { within = is.within; full = by is.full }
  where
    by : (left ≡ 0) ⊎ ((0 < models) × (length written ≡ models)) → (left_out all written left ≡ []) ⊎ ((0 < models) × (length written ≡ models))
    by (inl none) = inl (ap (λ (n : ℕ). left_out all written n) none)
    by (inr full) = inr full

-- what a limit that isn't reached says
few-says : (models found : ℕ) → is_few models found ≡ true → 0 < models → found < models
few-says models found few some = by (models == 0) refl
  where
    by : (b : Bool) → (models == 0) ≡ b → found < models
    by true e = let f : ⊥ = omega (arith, some, eqb-true models 0 e) in absurd f
    by false e = ltb-true found models (sym (ap (λ (b : Bool). b || nat_lt found models) e) ∙ few)

many-says : (models found : ℕ) → is_few models found ≡ false → (0 < models) × (models ≤ found)
many-says models found many = by (models == 0) refl
  where
    by : (b : Bool) → (models == 0) ≡ b → (0 < models) × (models ≤ found)
    by true e = absurd (false≢true (sym many ∙ ap (λ (b : Bool). b || nat_lt found models) e))
    by false e = (positive models e, ltb-false found models (sym (ap (λ (b : Bool). b || nat_lt found models) e) ∙ many))

-- no more may be written
full-says : (models : ℕ) (written left : List Atoms) → CutAt models written left → (room models (length written) == 0) ≡ true → (0 < models) × (length written ≡ models)
full-says models written left cut full = by (models == 0) refl
  where
    none : room models (length written) ≡ 0
    none = eqb-true (room models (length written)) 0 full

    by : (b : Bool) → (models == 0) ≡ b → (0 < models) × (length written ≡ models)
    by true e = let f : ⊥ = omega (arith, none, room-none models (length written) e) in absurd f
    by false e = let some = positive models e in (some, omega (arith, none, room-some models (length written) e, cut.within some))

-- more may be written, so nothing was left out
open-says : (models : ℕ) (written left : List Atoms) → CutAt models written left → (room models (length written) == 0) ≡ false → left ≡ []
open-says models written left cut more = by cut.full
  where
    by : (left ≡ []) ⊎ ((0 < models) × (length written ≡ models)) → left ≡ []
    by (inl none) = none
    by (inr full) =
        let limited : (models == 0) ≡ false = isn't (models == 0) refl in
        let zero-room : room models (length written) ≡ 0 = omega (arith, room-some models (length written) limited, full.1) in
        absurd (false≢true (sym more ∙ ap (λ (n : ℕ). n == 0) zero-room))
      where
        isn't : (b : Bool) → (models == 0) ≡ b → (models == 0) ≡ false
        isn't true e = let f : ⊥ = omega (arith, full.0, eqb-true models 0 e) in absurd f
        isn't false e = e

-- what is still written
module _ (models : ℕ) (written left rest : List Atoms) (cut : CutAt models written left) (small : length rest < 18446744073709551615) where
  -- all that is left, where few were found
  few-kept : left ≡ [] → is_few models (length written + length rest) ≡ true → take (room models (length written)) rest ≡ rest
  few-kept none few = by (models == 0) refl
    where
      by : (b : Bool) → (models == 0) ≡ b → take (room models (length written)) rest ≡ rest
      by true e = take_all (room models (length written)) rest (omega (arith, small, room-none models (length written) e))
      by false e =
          let less = few-says models (length written + length rest) few (positive models e) in
          take_all (room models (length written)) rest (omega (arith, less, room-some models (length written) e))

  left-kept : left ≡ [] → left_of models (written ++ left) rest ≡ take (room models (length written)) rest
  left-kept none = by (models == 0) refl
    where
      same : written ++ left ≡ written
      same = ap (λ (t : List Atoms). written ++ t) none ∙ append-nil written

      by : (b : Bool) → (models == 0) ≡ b → left_of models (written ++ left) rest ≡ take (room models (length written)) rest
      by true e =
          ap (λ (b : Bool). cond b rest (take (models - length (written ++ left)) rest)) e
          ∙ sym (take_all (room models (length written)) rest (omega (arith, small, room-none models (length written) e)))
      by false e =
          ap (λ (b : Bool). cond b rest (take (models - length (written ++ left)) rest)) e
          ∙ ap (λ (t : List Atoms). take (models - length t) rest) same
          ∙ ap (λ (n : ℕ). take n rest) (sym (room-some models (length written) e))

  -- the first of what was found
  part-kept : left ≡ [] → 0 < models → written ++ take (room models (length written)) rest ≡ take models ((written ++ left) ++ rest)
  part-kept none some = by (models == 0) refl
    where
      by : (b : Bool) → (models == 0) ≡ b → written ++ take (room models (length written)) rest ≡ take models ((written ++ left) ++ rest)
      by true e = let f : ⊥ = omega (arith, some, eqb-true models 0 e) in absurd f
      by false e =
          ap (λ (n : ℕ). written ++ take n rest) (room-some models (length written) e)
          ∙ none-left models written left rest none (cut.within some)

  -- as many were written as may be
  full-kept : (all : List Atoms) → (room models (length written) == 0) ≡ true → IsPrefix (written ++ left) all → written ++ take (room models (length written)) rest ≡ take models all
  full-kept all full front =
      none-kept (room models (length written)) written rest (eqb-true (room models (length written)) 0 full)
      ∙ all-written models written left all (full-says models written left cut full).1 front

-- ---- by how it ended
module _ (p : Program) (first : Option Report) (units models : ℕ) (written left : List Atoms) (t : Told) (h h' : Option (List ℕ)) (w w' : ℕ) (o : Outcome)
    (is_first : IsFirstOf p units first) (told_some : HasTold first (written ++ left) t)
    (front : IsPrefix (written ++ left) (whole_list (mode_after first) p)) (cut : CutAt models written left) (small : length t.rest.sets < 18446744073709551615)
    (d : DeliversLast p first models written t h h' w w' o) where
  abbrev all_heard : List Atoms
  all_heard = written ++ left

  abbrev all : List Atoms
  all = whole_list (mode_after first) p

  abbrev done : Report
  done = report_after first (report_of all_heard t)

  abbrev Has : Type 0
  Has = IsReport p (list_ask (mode_after first)) units done

  abbrev kept : List Atoms
  kept = take (room models (length written)) t.rest.sets

  abbrev Ended : Type 0
  Ended = StreamsFound p (mode_after first) units models h h' w w' o ⊎ DeliversFirst p (mode_after first) models h h' w w' o

  -- what was written, by how the results end
  abbrev WroteAs : End → List Atoms → Type 0
  WroteAs end Ss = WritesAs (status_for end (is_some_of Ss)) (list_text (price_after first) p end Ss) h h' w w' o.status

  wrote-as : (end : End) (Ss : List Atoms) → last_at models (length written) (length t.rest.sets) t.end ≡ end → written ++ kept ≡ Ss → WroteAs end Ss
  wrote-as end Ss is same = subst (λ (x : End). WroteAs x Ss) is (subst (λ (X : List Atoms). WroteAs (last_at models (length written) (length t.rest.sets) t.end) X) same d.wrote)

  abbrev last_report : Report
  last_report = report_after first (report_of [] (kept_of models written t))

  told-as : (end : End) → last_at models (length written) (length t.rest.sets) t.end ≡ end → ReportsLast end p (mode_after first) last_report d.report
  told-as end is = subst (λ (x : End). ReportsLast x p (mode_after first) last_report d.report) is d.report_is

  -- the first of the list
  at-limit : last_at models (length written) (length t.rest.sets) t.end ≡ Limited → 0 < models → models ≤ length all → written ++ kept ≡ take models all → Ended
  at-limit is some enough same =
      let told = told-as Limited is in
      inr (record {
        some = some;
        enough = enough;
        price = price_after first;
        told = price-is p units first is_first;
        report = d.report;
        reports = d.reports;
        mode_is = told.0;
        program = told.1;
        wrote = at-limit-as (wrote-as Limited (take models all) is same);
      })
    where
      at-limit-as : WroteAs Limited (take models all) → WritesAs Enough (list_text (price_after first) p Limited (take models all)) h h' w w' o.status
      at-limit-as wrote = wrote

  full-enough : (room models (length written) == 0) ≡ true → models ≤ length all
  full-enough full =
      let whole : length all ≡ length written + length (left ++ front.0) =
      ap length (sym front.1) ∙ ap length (append_assoc written left front.0) ∙ length-append written (left ++ front.0) in
      omega (arith, whole, (full-says models written left cut full).1)

  first-full : last_at models (length written) (length t.rest.sets) t.end ≡ Limited → (room models (length written) == 0) ≡ true → Ended
  first-full is full = at-limit is (full-says models written left cut full).0 (full-enough full) (full-kept models written left t.rest.sets cut small all full front)

  -- what is reported where it isn't the first
  told-left : (end : End) → ReportsLast end p (mode_after first) last_report d.report → ¬ (end ≡ Limited) → left ≡ []
      → o.report ≡ Some (with_answers (left_of models all_heard t.rest.sets) done)
  told-left end told isn't none =
      d.reports ∙ ap (λ (r : Report). Some r) (plain end told isn't ∙ after-kept first models written all_heard t)
      ∙ ap (λ (Ss : List Atoms). Some (with_answers Ss done)) (sym (left-kept models written left t.rest.sets cut small none))
    where
      plain : (end : End) → ReportsLast end p (mode_after first) last_report d.report → ¬ (end ≡ Limited) → d.report ≡ last_report
      plain Finished told isn't = told
      plain Unfinished told isn't = told
      plain Limited told isn't = absurd (isn't refl)

  found-all : left ≡ [] → is_few models (length written + length t.rest.sets) ≡ true → written ++ kept ≡ all_heard ++ t.rest.sets
  found-all none few =
      ap (λ (Ss : List Atoms). written ++ Ss) (few-kept models written left t.rest.sets cut small none few)
      ∙ ap (λ (Ss : List Atoms). Ss ++ t.rest.sets) (sym (ap (λ (Ss : List Atoms). written ++ Ss) none ∙ append-nil written))

  found-count : left ≡ [] → length (all_heard ++ t.rest.sets) ≡ length written + length t.rest.sets
  found-count none = ap (λ (Ss : List Atoms). length (Ss ++ t.rest.sets)) (ap (λ (Ss : List Atoms). written ++ Ss) none ∙ append-nil written) ∙ length-append written t.rest.sets

  -- what was found is what the report lists
  found-is : Has → IsFound p (mode_after first) units all_heard t.rest.sets done
  found-is has = record { answers = after-answers first (report_of all_heard t); is = has }

  count-done : left ≡ [] → length done.results.answers ≡ length written + length t.rest.sets
  count-done none = ap length (after-answers first (report_of all_heard t)) ∙ found-count none

  -- the text of the whole report
  means-done : WroteAs (end_of t.end) (all_heard ++ t.rest.sets) → DeliveryMeans as_lines p done h h' w w' o.status
  means-done wrote =
      let whole : Report = with_answers (all_heard ++ t.rest.sets) done in
      subst (λ (r : Report). DeliveryMeans as_lines p r h h' w w' o.status) (after-whole first all_heard t)
      (subst (λ (e : End). (λ (r : Report). ((o.status ≡ status_for e (has_model r.results)) × Appends h h' (report_text p r as_lines)) ⊎ (IsLost o.status ×
      AppendsFront h h' (report_text p r as_lines) × Rose w w')) whole)
      (sym (after-end first (report_of all_heard t)))
      (subst (λ (b : Bool). ((o.status ≡ status_for (end_of t.end) b) × Appends h h' (report_text p whole as_lines)) ⊎ (IsLost o.status × AppendsFront h h' (report_text p whole as_lines) × Rose w w'))
      (model-after p units first all_heard t (all_heard ++ t.rest.sets) is_first (told-some first all_heard t told_some))
      (subst
      (λ (text : List ℕ). ((o.status ≡ status_for (end_of t.end) (is_some_of (all_heard ++ t.rest.sets))) × Appends h h' text) ⊎ (IsLost o.status × AppendsFront h h' text × Rose w w'))
      (text-after p units first all_heard t (all_heard ++ t.rest.sets) is_first (told-some first all_heard t told_some)) wrote.means)))

  -- few were found
  few-found : (end : End) → end_of t.end ≡ end → ¬ (end ≡ Limited) → last_at models (length written) (length t.rest.sets) t.end ≡ end → left ≡ [] →
      is_few models (length written + length t.rest.sets) ≡ true → Has → Ended
  few-found end is isn't last none few has =
      let wrote = wrote-as (end_of t.end) (all_heard ++ t.rest.sets) (last ∙ sym is) (found-all none few) in
      inl (
        all_heard,
        t.rest.sets,
        done,
        found-is has,
        inl (record {
          few = λ some. let less = few-says models (length written + length t.rest.sets) few some in omega (arith, less, count-done none);
          reports = told-left end (told-as end last) isn't none;
          means = means-done wrote;
          later = wrote.later;
          quiet = wrote.quiet;
        }),
      )

  some-of : (Ss : List Atoms) → 0 < length Ss → is_some_of Ss ≡ true
  some-of [] some = let f : ⊥ = omega (arith, some) in absurd f
  some-of (S ∷ Ss) some = refl

  -- as many were found as may be written, and the budget is spent
  part-found : end_of t.end ≡ Unfinished → last_at models (length written) (length t.rest.sets) t.end ≡ Unfinished → left ≡ [] →
      is_few models (length written + length t.rest.sets) ≡ false → Has → Ended
  part-found is last none many has =
      let much = many-says models (length written + length t.rest.sets) many in
      let count = found-count none in
      let enough : models ≤ length (all_heard ++ t.rest.sets) = omega (arith, much.1, count) in
      let Ss : List Atoms = take models (all_heard ++ t.rest.sets) in
      let taken : length Ss ≡ models = length-take-le models (all_heard ++ t.rest.sets) enough in
      let more : 0 < length Ss = omega (arith, taken, much.0) in
      let wrote = wrote-as Unfinished Ss last (part-kept models written left t.rest.sets cut small none much.0) in
      let text : list_text (price_after first) p Unfinished Ss ≡ report_text p (cut_to models done) as_lines =
      ap (λ (e : End). list_text (price_after first) p e Ss) (sym is) ∙ text-after p units first all_heard t Ss is_first (full-some first Ss more)
      ∙ ap (λ (X : List Atoms). report_text p (with_answers (take models X) done) as_lines) (sym (after-answers first (report_of all_heard t))) in
      let partly : WritesAs Partial (report_text p (cut_to models done) as_lines) h h' w w' o.status =
      subst (λ (x : List ℕ). WritesAs Partial x h h' w w' o.status) text
      (subst (λ (b : Bool). WritesAs (status_for Unfinished b) (list_text (price_after first) p Unfinished Ss) h h' w w' o.status) (some-of Ss more) wrote) in
      let no : ¬ (Unfinished ≡ Limited) = λ e. cc in
      inl (
        all_heard,
        t.rest.sets,
        done,
        found-is has,
        inr (record {
          end_is = after-end first (report_of all_heard t) ∙ is;
          some = much.0;
          enough = omega (arith, much.1, count-done none);
          reports = told-left Unfinished (told-as Unfinished last) no none;
          wrote = partly;
        }),
      )

  abbrev Few : Bool
  Few = is_few models (length written + length t.rest.sets)

  abbrev Full : Bool
  Full = room models (length written) == 0

  last-finished : (few : Bool) → t.end ≡ ends.Finished → Few ≡ few → last_at models (length written) (length t.rest.sets) t.end ≡ cond few Finished Limited
  last-finished few is e = ap (λ (x : StreamEnd). last_of x Few Full) is ∙ ap (λ (b : Bool). cond b Finished Limited) e

  few-open : (b : Bool) → Full ≡ b → Few ≡ true → Full ≡ false
  few-open true full few =
      let says = full-says models written left cut full in
      let less = few-says models (length written + length t.rest.sets) few says.0 in
      let f : ⊥ = omega (arith, says.1, less) in absurd f
  few-open false full few = full

  finished : (few : Bool) → t.end ≡ ends.Finished → Few ≡ few → Has → Ended
  finished true is few has =
      let more = few-open Full refl few in
      let no : ¬ (Finished ≡ Limited) = λ e. cc in
      few-found Finished (ap end_of is) no (last-finished true is few) (open-says models written left cut more) few has
  finished false is many has = by Full refl
    where
      by : (b : Bool) → Full ≡ b → Ended
      by true full = first-full (last-finished false is many) full
      by false more =
          let much = many-says models (length written + length t.rest.sets) many in
          let none = open-says models written left cut more in
          let whole = all-after p units first all_heard t is has in
          at-limit (last-finished false is many) much.0
          (let count = found-count none in let same : length (all_heard ++ t.rest.sets) ≡ length all = ap length whole in omega (arith, much.1, count, same))
          (part-kept models written left t.rest.sets cut small none much.0 ∙ ap (take models) whole)

  unpaid : (x : Clash) → t.end ≡ ends.Unpaid x → Has → Ended
  unpaid x is has = by Full Few refl refl
    where
      last : (full : Bool) → Full ≡ full → last_at models (length written) (length t.rest.sets) t.end ≡ cond full Limited Unfinished
      last full e = ap (λ (y : StreamEnd). last_of y Few Full) is ∙ ap (λ (b : Bool). cond b Limited Unfinished) e

      by : (full few : Bool) → Full ≡ full → Few ≡ few → Ended
      by true few full e = first-full (last true full) full
      by false true more few =
          let no : ¬ (Unfinished ≡ Limited) = λ e. cc in
          few-found Unfinished (ap end_of is) no (last false more) (open-says models written left cut more) few has
      by false false more many = part-found (ap end_of is) (last false more) (open-says models written left cut more) many has

  -- no more was wanted
  unwanted : t.end ≡ ends.Unwanted → wants models written false false ≡ false → Ended
  unwanted is less = first-full (ap (λ (y : StreamEnd). last_of y Few Full) is) (by Full less)
    where
      by : (b : Bool) → not b ≡ false → b ≡ true
      by true e = refl
      by false e = absurd (false≢true (sym e))

  ended : (e : StreamEnd) → t.end ≡ e → Tells Has (wants models written false false) e → Ended
  ended ends.Finished is has = finished Few is refl has
  ended (ends.Unpaid x) is has = unpaid x is has
  ended ends.Unwanted is less = unwanted is less

-- what was told, and written
pub streams-of : {E : Type 0} (r : Result Told E) (p q : Program) (all : List Atoms) (first : Option Report) (units models : ℕ) (written : List Atoms)
    (left : ℕ) (failed short : Bool) (h h' : Option (List ℕ)) (w w' : ℕ)
    (o : Outcome) → IsFirstOf p units first → q ≡ p → all ≡ whole_list (mode_after first) p
    → IsPrefix (heard_of all written left) all → IsLimitedTo models written left short → IfOk r (TellsAfter first p units (heard_of all written left) (wants models written failed short))
    → IfOk r (HasTold first (heard_of all written left)) → EndsRun r q all first models written failed short h h' w w' o → Streams p (mode_after first) units models h h' w w' o
streams-of (Ok t) p q all first units models written left failed short h h' w w' o is_first same list front limited told some (inl cut) =
    inl (subst (λ (x : Program). IsCutShort x (whole_list (mode_after first) p) h h' w w' o) same (subst (λ (L : List Atoms). IsCutShort q L h h' w w' o) list cut))
streams-of (Ok t) p q all first units models written left failed short h h' w w' o is_first same list front limited told some (inr d) =
    let heard : List Atoms = heard_of all written left in
    let telling = told-after p units first heard (wants models written failed short) t is_first told in
    let tells = subst (λ (b : Bool). Tells (IsReport p (list_ask (mode_after first)) units (report_after first (report_of heard t))) (wants models written false b) t.end) d.1
    (subst (λ (b : Bool). Tells (IsReport p (list_ask (mode_after first)) units (report_after first (report_of heard t))) (wants models written b short) t.end) d.0 telling.tells) in
    inr (ended p first units models written (left_out all written left) t h h' w w' o is_first some (subst (λ (L : List Atoms). IsPrefix heard L) list front)
    (cut-at all models written left (limited d.1)) (omega (arith, telling.few))
    (subst (λ (x : Program). DeliversLast x first models written t h h' w w' o) same d.2) t.end refl tells)
streams-of (Err x) p q all first units models written left failed short h h' w w' o is_first same list front limited told some cut =
    inl (subst (λ (y : Program). IsCutShort y (whole_list (mode_after first) p) h h' w w' o) same (subst (λ (L : List Atoms). IsCutShort q L h h' w w' o) list cut))

-- nothing was written yet
pub limited-start : (models : ℕ) (written : List Atoms) (left : ℕ) (short : Bool) → written ≡ [] → left ≡ 0 → IsLimitedTo models written left short
limited-start models written left short none empty = λ fine. record { within = λ some. subst (λ (Ss : List Atoms). length Ss ≤ models) (sym none) (omega arith); full = inl empty }

-- since nothing was heard
pub from-start : {K : Type 0} (held : K → Option (List ℕ)) (faults : K → ℕ) (k k₁ k₂ : K) (l₁ l₂ : Heard) (f₁ f₂ : Bool) → k₁ ≡ k → l₁.sets ≡ [] → f₁ ≡ false → l₂.program ≡ l₁.program
    → IsAfter l₁.program (moment l₁.sets (held k₁) (faults k₁) f₁) (moment l₂.sets (held k₂) (faults k₂) f₂)
    → IsAfter l₂.program (moment [] (held k) (faults k) false) (moment l₂.sets (held k₂) (faults k₂) f₂)
from-start {K = K} held faults k k₁ k₂ l₁ l₂ f₁ f₂ now none fine same after =
    let m = moment l₂.sets (held k₂) (faults k₂) f₂ in
    let one = subst (λ (x : K). IsAfter l₁.program (moment l₁.sets (held x) (faults x) f₁) m) now after in
    let two = subst (λ (b : Bool). IsAfter l₁.program (moment l₁.sets (held k) (faults k) b) m) fine one in
    let three = subst (λ (s : List Atoms). IsAfter l₁.program (moment s (held k) (faults k) false) m) none two in
    subst (λ (p : Program). IsAfter p (moment [] (held k) (faults k) false) m) (sym same) three

-- the sink is the same at another name
pub streams-moved : {K : Type 0} (held : K → Option (List ℕ)) (faults : K → ℕ) (p : Program) (mode : Mode) (units models : ℕ) (h : Option (List ℕ)) (w : ℕ) (x y : K) (o : Outcome) → x ≡ y
    → Streams p mode units models h (held y) w (faults y) o → Streams p mode units models h (held x) w (faults x) o
streams-moved {K = K} held faults p mode units models h w x y o e s = subst (λ (k : K). Streams p mode units models h (held k) w (faults k) o) (sym e) s

-- each failed write is told
pub streams-told : (p : Program) (mode : Mode) (units models : ℕ) (h h' : Option (List ℕ)) (w w' : ℕ) (o : Outcome) → Streams p mode units models h h' w w' o → TellsFaults w w' o.status
streams-told p mode units models h h' w w' o (inl cut) = by cut.why
  where
    by : ((o.status ≡ Memory) × (w' ≡ w)) ⊎ (IsLost o.status × Rose w w') → TellsFaults w w' o.status
    by (inl m) = λ kept. m.1
    by (inr m) = λ kept. absurd (kept m.0)
streams-told p mode units models h h' w w' o (inr (inl f)) = by f.4
  where
    by : DeliversRest p f.0 f.1 f.2 models h h' w w' o ⊎ DeliversPart p f.0 f.1 f.2 models h h' w w' o → TellsFaults w w' o.status
    by (inl d) = d.quiet
    by (inr d) = d.wrote.quiet
streams-told p mode units models h h' w w' o (inr (inr d)) = d.wrote.quiet

-- ---- what the notes tell of it
counted-of : (p q : Program) (t : Tally) → t.atoms ≡ length (atoms_of p) → t.bodies ≡ length (bodies_of p) → IfSome t.loops (HasLoops p) → AreNumbered 0 t.workers → q ≡ p
    → (r : Report) → r.paid.program ≡ q → IsCounted 0 t r
counted-of p q t atoms bodies loops numbered is r paid =
    let of = sym (paid ∙ is) in
    record {
      atoms = atoms ∙ ap (λ (q : Program). length (atoms_of q)) of;
      bodies = bodies ∙ ap (λ (q : Program). length (bodies_of q)) of;
      loops = subst (λ (q : Program). IfSome t.loops (HasLoops q)) of loops;
      numbered = numbered;
    }

pub counted-stream : (p : Program) (mode : Mode) (units models : ℕ) (h h' : Option (List ℕ)) (w w' : ℕ) (o : Outcome) (t : Tally) → t.atoms ≡ length (atoms_of p) → t.bodies ≡ length (bodies_of p)
    → IfSome t.loops (HasLoops p) → AreNumbered 0 t.workers → Streams p mode units models h h' w w' o → IfSome o.report (IsCounted 0 t)
counted-stream p mode units models h h' w w' o t atoms bodies loops numbered (inl cut) = subst (λ r. IfSome r (IsCounted 0 t)) (sym cut.none) tt
counted-stream p mode units models h h' w w' o t atoms bodies loops numbered (inr (inl f)) = by f.4
  where
    one : o.report ≡ Some (with_answers (left_of models f.0 f.1) f.2) → IfSome o.report (IsCounted 0 t)
    one is = subst (λ r. IfSome r (IsCounted 0 t)) (sym is) (counted-of p p t atoms bodies loops numbered refl (with_answers (left_of models f.0 f.1) f.2) f.3.is.program)

    by : DeliversRest p f.0 f.1 f.2 models h h' w w' o ⊎ DeliversPart p f.0 f.1 f.2 models h h' w w' o → IfSome o.report (IsCounted 0 t)
    by (inl d) = one d.reports
    by (inr d) = one d.reports
counted-stream p mode units models h h' w w' o t atoms bodies loops numbered (inr (inr d)) =
    subst (λ r. IfSome r (IsCounted 0 t)) (sym d.reports) (counted-of p p t atoms bodies loops numbered refl d.report d.program)

-- ---- whether it is one
pub streamed-as : (given : Options) (p : Program) (x : Prepared) (q : Program) (ask : Ask) (b : Bool) → x ≡ prepared_of given p → q ≡ x.compiled → ask ≡ ask_of given q
    → b ≡ is_streamed given ask.mode → streams given p ≡ b
streamed-as given p x q ask b is of asks by =
    let searched-is : q ≡ searched given p = of ∙ ap (λ (y : Prepared). y.compiled) is in
    sym (by ∙ ap (λ (a : Ask). is_streamed given a.mode) (asks ∙ ap (λ (r : Program). ask_of given r) searched-is ∙ same-ask given p))

-- the mode that is asked for
mode-as : (given : Options) (p : Program) (x : Prepared) (q : Program) (ask : Ask) → x ≡ prepared_of given p → q ≡ x.compiled → ask ≡ ask_of given q → ask.mode ≡ mode_of given.mode p
mode-as given p x q ask is of asks =
    let searched-is : q ≡ searched given p = of ∙ ap (λ (y : Prepared). y.compiled) is in
    ap (λ (a : Ask). a.mode) (asks ∙ ap (λ (r : Program). ask_of given r) searched-is ∙ same-ask given p)

pub solves-streamed : (given : Options) (p : Program) (x : Prepared) (q : Program) (ask : Ask) (h h' : Option (List ℕ)) (w w' : ℕ) (o : Outcome) → x ≡ prepared_of given p → q ≡ x.compiled
    → ask ≡ ask_of given q → streams given p ≡ true → Streams x.compiled ask.mode given.budget given.models h h' w w' o → SolvesBy (streams given p) given p h h' w w' o
solves-streamed given p x q ask h h' w w' o is of asks on s =
    subst (λ (b : Bool). SolvesBy b given p h h' w w' o) (sym on)
    (subst (λ (m : Mode). Streams (searched given p) m given.budget given.models h h' w w' o) (mode-as given p x q ask is of asks)
    (subst (λ (y : Prepared). Streams y.compiled ask.mode given.budget given.models h h' w w' o) is s))

-- a list is sought then
list-all : (all : Bool) (mode : Mode) → is_list all mode ≡ true → is_list true mode ≡ true
list-all true mode e = e
list-all false Enum e = refl
list-all false Opt e = absurd (false≢true e)
list-all false (Consequences w) e = absurd (false≢true e)

pub streamed-list : (given : Options) (mode : Mode) (b : Bool) → b ≡ is_streamed given mode → b ≡ true → is_list true mode ≡ true
streamed-list given mode b is on =
    list-all given.all_optima mode
    (and_parts (is_list given.all_optima mode) (lists_lines given) (and_parts given.stream (is_list given.all_optima mode && lists_lines given) (sym is ∙ on)).1).0

pub solves-at-once : (given : Options) (p : Program) (h h' : Option (List ℕ)) (w w' : ℕ) (o : Outcome) → streams given p ≡ false → Solves given p h h' w w' o
    → SolvesBy (streams given p) given p h h' w w' o
solves-at-once given p h h' w w' o off s = subst (λ (b : Bool). SolvesBy b given p h h' w w' o) (sym off) s
