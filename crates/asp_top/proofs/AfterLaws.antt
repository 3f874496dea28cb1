-- A stream after a first search, or without one: what is reported of both, and its text.
use Rattle.std.proofs.Common.{◌≡◌, ℕ, zero, suc, ◌+◌, ◌-◌, ◌<◌, ◌^◌, ◌==◌, ◌&&◌, Bool, true, false, cond, List, [], ◌∷◌, ◌++◌, filter, length, take, inl, inr, refl, sym, ap, ◌∙◌, subst, arith, append_assoc, length-append}
use Rattle.std.proofs.lemmas.Bool.{and_parts, false≢true}
use Rattle.std.specs.Prelude.{Option, None, Some, Result, Ok, Err, IfOk, is_some, ℤ}
use Rattle.asp_model.specs.declared.program.Program.{Program}
use Rattle.asp_model.specs.declared.results.End.{End}
use Rattle.asp_model.specs.declared.results.End.TheVariants.{Finished, Limited, Unfinished}
use Rattle.asp_model.specs.declared.results.Mode.{Mode}
use Rattle.asp_model.specs.declared.results.Mode.TheVariants.{Enum, Opt}
use Rattle.asp_model.specs.Costs.{IsOptimum, cost, optima}
use Rattle.asp_model.specs.Models.{answers, atoms_of}
use Rattle.asp_model.specs.Found.{Found}
use Rattle.asp_model.specs.Sets.{Atoms}
use Rattle.asp_model.specs.Texts.{answers_from, cost_line}
use Rattle.asp_print.specs.Named.{printed_text}
use Rattle.asp_print.specs.Parts.{closing_of}
use Rattle.asp_outlet.specs.Outlets.{list_of, optima_text}
use Rattle.asp_crew_laws.specs.declared.report.Report.{Report}
use Rattle.asp_crew_laws.specs.Reports.{IsReport, Says as SaysReport, joined}
use Rattle.asp_crew_laws.specs.Runs.{IsBest, asks}
use Rattle.asp_prepare.specs.Meaning.{has_model, is_some_of}
use Rattle.asp_prepare.specs.Told.{report_text}
use Rattle.asp_prepare.specs.declared.layout.Layout.{Layout}
use Rattle.asp_stream.specs.Endings.{IsTellingOf, IsTellingOfTies, Tells, end_of, report_of, ties}
use Rattle.asp_stream.proofs.EndLaws.{tells-weaker}
use Rattle.asp_stream.proofs.FirstLaws.{played-all, second-none}
use Rattle.asp_stream.specs.declared.told.End.{End as StreamEnd}
use Rattle.asp_stream.specs.declared.told.End.TheVariants as ends
use Rattle.asp_stream.specs.declared.told.Told.{Told}
use Rattle.asp_top.specs.Runs.{Delivers, Follows, HasOptimum, HasRest, HasTold, IsCostOf, IsFirstMode, IsFirstOf, Streams, TellsAfter, TellsFaults, TellsOptima, as_lines, has_optimum, kept_of, left_of, list_ask, list_text, mode_after, price_after, price_of, report_after, whole_list, with_answers}
use Rattle.asp_crew.specs.Refuting.{is_finished}
use Rattle.asp_crew.specs.Twice.{IsSearched}
use Rattle.asp_crew.proofs.TieLaws.{joined-reports}
use Rattle.asp_top.specs.declared.status.Outcome.{Outcome}
use Rattle.asp_top.proofs.WholeLaws.{an-optimum, no-optima}

-- ---- the report of both searches has what the second one found
pub after-answers : (first : Option Report) (r : Report) → (report_after first r).results.answers ≡ r.results.answers
after-answers None r = refl
after-answers (Some f) r = refl

pub after-end : (first : Option Report) (r : Report) → (report_after first r).results.end ≡ r.results.end
after-end None r = refl
after-end (Some f) r = refl

-- what is left is the list that is reported
pub after-kept : (first : Option Report) (models : ℕ) (written heard : List Atoms) (t : Told) →
    report_after first (report_of [] (kept_of models written t)) ≡ with_answers (kept_of models written t).rest.sets (report_after first (report_of heard t))
after-kept None models written heard t = refl
after-kept (Some f) models written heard t = refl

pub after-whole : (first : Option Report) (heard : List Atoms) (t : Told) → with_answers (heard ++ t.rest.sets) (report_after first (report_of heard t)) ≡ report_after first (report_of heard t)
after-whole None heard t = refl
after-whole (Some f) heard t = refl

-- ---- the first search
first-best : (p : Program) (units : ℕ) (f : Report) → (h : HasOptimum p units f) → IsOptimum p h.best.0 h.best.1
first-best p units f h = subst (IsBest p) h.found (subst (SaysReport p (asks Opt 0 false) f) h.finished h.is.says).1

pub mode-of-first : (p : Program) (units : ℕ) (first : Option Report) → IsFirstOf p units first → IsFirstMode first
mode-of-first p units None h = tt
mode-of-first p units (Some f) h = h.is.mode_is

-- the cost that is told
pub price-is : (p : Program) (units : ℕ) (first : Option Report) → IsFirstOf p units first → IsCostOf (mode_after first) p (price_after first)
price-is p units None h = refl
price-is p units (Some f) h =
    let best = first-best p units f h in
    (h.best.0, an-optimum p h.best.0 h.best.1 best, ap price_of h.found ∙ ap (λ (c : List ℤ). Some c) best.sums)

-- ---- the text
optima-printed : (p : Program) (end : End) (known : Option Atoms) (best : Atoms × List ℤ) (Ss : List Atoms) → 0 < length Ss →
    optima_text p end best.1 Ss ≡ printed_text p (record { mode = Opt; end = end; answers = Ss; best = Some best; known = known }) false false
optima-printed p end known best [] some = let f : ⊥ = omega (arith, some) in absurd f
optima-printed p end known best (S ∷ Ss) some = sym (append_assoc (answers_from p 1 (S ∷ Ss)) (cost_line best.1) (closing_of Opt end (length (S ∷ Ss))))

-- of results of this mode, with this best answer
optima-found : (p : Program) (r : Found) (best : Atoms × List ℤ) → r.mode ≡ Opt → r.best ≡ Some best → 0 < length r.answers →
    list_text (price_of r.best) p r.end r.answers ≡ printed_text p r false false
optima-found p r best mode found some =
    ap (λ (o : Option (Atoms × List ℤ)). list_text (price_of o) p r.end r.answers) found
    ∙ optima-printed p r.end r.known best r.answers some
    ∙ ap (λ (o : Option (Atoms × List ℤ)). printed_text p (record { mode = Opt; end = r.end; answers = r.answers; best = o; known = r.known }) false false) (sym found)
    ∙ ap (λ (m : Mode). printed_text p (record { mode = m; end = r.end; answers = r.answers; best = r.best; known = r.known }) false false) (sym mode)

model-found : (r : Found) → r.mode ≡ Opt → 0 < length r.answers → is_some_of r.answers ≡ has_model r
model-found r mode some = by r.answers refl some ∙ ap (λ (m : Mode). has_model (record { mode = m; end = r.end; answers = r.answers; best = r.best; known = r.known })) (sym mode)
  where
    by : (Ss : List Atoms) → r.answers ≡ Ss → 0 < length Ss → is_some_of Ss ≡ has_model (record { mode = Opt; end = r.end; answers = Ss; best = r.best; known = r.known })
    by [] are some = let f : ⊥ = omega (arith, some) in absurd f
    by (S ∷ Ss) are some = refl

-- at least one of these is there after a first search
abbrev pub AreSome : Option Report → List Atoms → Type 0
AreSome None Ss = Unit {0}
AreSome (Some f) Ss = 0 < length Ss

pub told-some : (first : Option Report) (heard : List Atoms) (t : Told) → HasTold first heard t → AreSome first (heard ++ t.rest.sets)
told-some None heard t h = tt
told-some (Some f) heard t h = omega (arith, h, length-append heard t.rest.sets)

pub full-some : (first : Option Report) (Ss : List Atoms) → 0 < length Ss → AreSome first Ss
full-some None Ss h = tt
full-some (Some f) Ss h = h

-- the text of these answers is that of the report with them, and so is whether there are any
pub text-after : (p : Program) (units : ℕ) (first : Option Report) (heard : List Atoms) (t : Told) (Ss : List Atoms) → IsFirstOf p units first → AreSome first Ss →
    list_text (price_after first) p (end_of t.end) Ss ≡ report_text p (with_answers Ss (report_after first (report_of heard t))) as_lines
text-after p units None heard t Ss h some = refl
text-after p units (Some f) heard t Ss h some = optima-found p (with_answers Ss (joined f (report_of heard t))).results h.best h.is.mode_is h.found some

pub model-after : (p : Program) (units : ℕ) (first : Option Report) (heard : List Atoms) (t : Told) (Ss : List Atoms) → IsFirstOf p units first → AreSome first Ss →
    is_some_of Ss ≡ has_model (with_answers Ss (report_after first (report_of heard t))).results
model-after p units None heard t Ss h some = refl
model-after p units (Some f) heard t Ss h some = model-found (with_answers Ss (joined f (report_of heard t))).results h.is.mode_is some

-- all were found
pub all-after : (p : Program) (units : ℕ) (first : Option Report) (heard : List Atoms) (t : Told) → t.end ≡ ends.Finished → IsReport p (list_ask
    (mode_after first)) units (report_after first (report_of heard t)) →
    heard ++ t.rest.sets ≡ whole_list (mode_after first) p
all-after p units None heard t is has = (subst (λ (e : StreamEnd). SaysReport p (list_ask Enum) (report_of heard t) (end_of e)) is has.says).0
all-after p units (Some f) heard t is has = (subst (λ (e : StreamEnd). SaysReport p (list_ask Opt) (joined f (report_of heard t)) (end_of e)) is has.says).0

-- ---- what is told after it
pub record IsToldAfter (p : Program) (units : ℕ) (first : Option Report) (heard : List Atoms) (wants : Bool) (t : Told) : Type 0 where
  pub tells : Tells (IsReport p (list_ask (mode_after first)) units (report_after first (report_of heard t))) wants t.end
  pub atoms : t.rest.atoms ≡ atoms_of p
  pub few : length heard + length t.rest.sets + 1 < 2 ^ 64
  pub follows : Follows first t

told-ties : (p : Program) (units : ℕ) (f : Report) (heard : List Atoms) (wants : Bool) (t : Told) → HasOptimum p units f → (best : Option (Atoms × List ℤ)) → f.results.best ≡ best →
    TellsOptima best p f.paid.left heard wants t → IsToldAfter p units (Some f) heard wants t
told-ties p units f heard wants t h None is told = absurd told
told-ties p units f heard wants t h (Some best) is told =
    let sums : best.1 ≡ cost p best.0 = (subst (IsBest p) is (subst (SaysReport p (asks Opt 0 false) f) h.finished h.is.says).1).sums in
    record {
      tells = tells-weaker (IsSearched (ties p (cost p best.0) f.paid.left) (report_of heard t)) (IsReport p (list_ask Opt) units (joined f (report_of heard t))) wants t.end
          (λ searched. joined-reports p (list_ask Opt) units f (report_of heard t) (second-none p units f h.finished h.is) (record {
            all = refl;
            opt = refl;
            finished = h.finished;
            best = best.0;
            found = is ∙ ap (λ (c : List ℤ). let o : Option (Atoms × List ℤ) = Some (best.0, c) in o) sums;
            searched = searched;
          }) h.is) told.tells;
      atoms = told.atoms;
      few = told.few;
      follows = (told.program ∙ sym h.is.program, told.units, h.is.spent);
    }

pub told-after : (p : Program) (units : ℕ) (first : Option Report) (heard : List Atoms) (wants : Bool) (t : Told) → IsFirstOf p units first → TellsAfter first p units heard wants t →
    IsToldAfter p units first heard wants t
told-after p units None heard wants t h told = record { tells = told.tells; atoms = told.atoms; few = told.few; follows = tt }
told-after p units (Some f) heard wants t h told = told-ties p units f heard wants t h f.results.best refl told

-- ---- how it is told, by whether there was a first search
pub list-none : (first : Option Report) (p : Program) → first ≡ None → whole_list (mode_after first) p ≡ answers p
list-none first p e = ap (λ (o : Option Report). whole_list (mode_after o) p) e

pub list-some : (first : Option Report) (f : Report) (p : Program) → first ≡ Some f → whole_list (mode_after first) p ≡ optima p
list-some first f p e = ap (λ (o : Option Report). whole_list (mode_after o) p) e

list-by : (first : Option Report) (p : Program) → list_of (is_some first) p ≡ whole_list (mode_after first) p
list-by None p = refl
list-by (Some f) p = refl

pub list-is : (some : Bool) (q p : Program) (first : Option Report) → some ≡ is_some first → q ≡ p → list_of some q ≡ whole_list (mode_after first) p
list-is some q p first there same = ap (λ (b : Bool). list_of b q) there ∙ ap (list_of (is_some first)) same ∙ list-by first p

pub first-is : (first : Option Report) (f : Report) (p : Program) (units : ℕ) → first ≡ Some f → IsFirstOf p units first → HasOptimum p units f
first-is first f p units e h = subst (IsFirstOf p units) e h

pub best-there : (f : Report) (p : Program) (units : ℕ) → HasOptimum p units f → f.results.best ≡ None → ⊥
best-there f p units h none = let e : None ≡ Some h.best = sym none ∙ h.found in cc

pub best-is : (f : Report) (p : Program) (units : ℕ) (best : Atoms × List ℤ) → HasOptimum p units f → f.results.best ≡ Some best → IsOptimum p best.0 (cost p best.0)
best-is f p units best h is =
    let o : IsOptimum p best.0 best.1 = subst (IsBest p) is (subst (SaysReport p (asks Opt 0 false) f) h.finished h.is.says).1 in
    subst (IsOptimum p best.0) o.sums o

pub told-none : {E : Type 0} (r : Result Told E) (first : Option Report) (p : Program) (units : ℕ) (heard : List Atoms) (wants : Bool) → first ≡ None → IfOk r (IsTellingOf p units heard wants)
    → IfOk r (TellsAfter first p units heard wants)
told-none r first p units heard wants e h = subst (λ (o : Option Report). IfOk r (TellsAfter o p units heard wants)) (sym e) h

pub told-first : {E : Type 0} (r : Result Told E) (first : Option Report) (f : Report) (p : Program) (units left : ℕ) (S : Atoms) (best : Atoms × List ℤ)
    (heard : List Atoms) (wants : Bool) → first ≡ Some f
    → f.results.best ≡ Some best → S ≡ best.0 → left ≡ f.paid.left → IfOk r (IsTellingOfTies p (cost p S) left heard wants) → IfOk r (TellsAfter first p units heard wants)
told-first r first f p units left S best heard wants e is same units-are h =
    subst (λ (o : Option Report). IfOk r (TellsAfter o p units heard wants)) (sym e)
    (subst (λ (b : Option (Atoms × List ℤ)). IfOk r (TellsOptima b p f.paid.left heard wants)) (sym is)
    (subst (λ (T : Atoms). IfOk r (IsTellingOfTies p (cost p T) f.paid.left heard wants)) same
    (subst (λ (n : ℕ). IfOk r (IsTellingOfTies p (cost p S) n heard wants)) units-are h)))

pub some-none : {E : Type 0} (r : Result Told E) (first : Option Report) (heard : List Atoms) → first ≡ None → IfOk r (HasTold first heard)
some-none (Ok t) first heard e = subst (λ (o : Option Report). HasTold o heard t) (sym e) tt
some-none (Err x) first heard e = tt

pub some-first : {E : Type 0} (r : Result Told E) (first : Option Report) (f : Report) (heard : List Atoms) → first ≡ Some f → IfOk r (λ t. 0 < length heard + length t.rest.sets)
    → IfOk r (HasTold first heard)
some-first r first f heard e h = subst (λ (o : Option Report). IfOk r (HasTold o heard)) (sym e) h

-- what an outlet may count on of what was told
pub rest-after : {E : Type 0} (r : Result Told E) (p q : Program) (units : ℕ) (first : Option Report) (heard : List Atoms) (wants : Bool) → IsFirstOf p units first → q ≡ p
    → IfOk r (TellsAfter first p units heard wants) → IfOk r (HasRest q first heard)
rest-after (Ok t) p q units first heard wants h same told =
    let is = told-after p units first heard wants t h told in
    subst (λ (x : Program). HasRest x first heard t) (sym same) (record { atoms = is.atoms; few = is.few; follows = is.follows })
rest-after (Err x) p q units first heard wants h same told = tt

-- ---- a first search alone
unlisted : (p : Program) (f : Report) (e : End) → SaysReport p (asks Opt 0 false) f e → f.results.answers ≡ []
unlisted p f Finished h = h.0
unlisted p f Limited h = absurd (false≢true h.listing)
unlisted p f Unfinished h = h.0.0

none-chosen : (L : List Atoms) → filter (λ (S : Atoms). false) L ≡ []
none-chosen [] = refl
none-chosen (S ∷ L) = none-chosen L

-- It found all optima where there is none, and else none of them.
says-whole : (p : Program) (f : Report) (e : End) → f.results.end ≡ e → has_optimum f ≡ false → SaysReport p (asks Opt 0 false) f e → SaysReport p (list_ask Opt) f e
says-whole p f Finished is none h = by f.results.best refl (ap (λ (e : End). is_finished e && is_some f.results.best) (sym is) ∙ none) h
  where
    by : (o : Option (Atoms × List ℤ)) → f.results.best ≡ o → is_some o ≡ false → (f.results.answers ≡ []) × IsBest p f.results.best → (f.results.answers ≡ optima p) × IsBest p f.results.best
    by None e absent h = (h.0 ∙ sym (no-optima p (subst (IsBest p) e h.1)), h.1)
    by (Some best) e absent h = absurd (false≢true (sym absent))
says-whole p f Limited is none h = absurd (false≢true h.listing)
says-whole p f Unfinished is none h = ((((λ S. false), h.0.0 ∙ sym (none-chosen (optima p))), h.0.1), h.1)

first-whole : (p : Program) (units : ℕ) (f : Report) → IsReport p (asks Opt 0 false) units f → has_optimum f ≡ false → IsReport p (list_ask Opt) units f
first-whole p units f is none = record {
  mode_is = is.mode_is;
  says = says-whole p f f.results.end refl none is.says;
  program = is.program;
  spent = is.spent;
  budget = is.budget;
  reasoned = is.reasoned;
  known = is.known;
  untold = is.untold;
  least = is.least;
  played = played-all p units f is.played;
}

take-none : (n : ℕ) → take {A = Atoms} n [] ≡ []
take-none zero = refl
take-none (suc n) = refl

left-none : (models : ℕ) → left_of models [] [] ≡ []
left-none models = by (models == 0)
  where
    by : (b : Bool) → cond {A = List Atoms} b [] (take (models - 0) []) ≡ []
    by true = refl
    by false = take-none (models - 0)

none-again : (f : Report) (models : ℕ) → f.results.answers ≡ [] → f ≡ with_answers (left_of models [] []) f
none-again f models empty = ap (λ (Ss : List Atoms). with_answers Ss f) (empty ∙ sym (left-none models))

-- its text is written with these lines
pub delivers-by : (l : Layout) (p q : Program) (f : Report) (h h' : Option (List ℕ)) (w w' : ℕ) (o : Outcome) → l ≡ as_lines → q ≡ p → Delivers l q f h h' w w' o → Delivers as_lines p f h h' w w' o
delivers-by l p q f h h' w w' o lines same d =
    subst (λ (x : Layout). Delivers x p f h h' w w' o) lines (subst (λ (x : Program). Delivers l x f h h' w w' o) same d)

-- its results are written
pub first-alone : (p : Program) (units models : ℕ) (f : Report) (h h' : Option (List ℕ)) (w w' : ℕ) (o : Outcome) → IsReport p (asks Opt 0 false) units f → has_optimum f ≡ false →
    Delivers as_lines p f h h' w w' o → TellsFaults w w' o.status → Streams p Opt units models h h' w w' o
first-alone p units models f h h' w w' o is none d quiet =
    let empty : f.results.answers ≡ [] = unlisted p f f.results.end is.says in
    inr (inl (
      [],
      [],
      f,
      record { answers = empty; is = first-whole p units f is none },
      inl (record {
        few = λ some. omega (arith, some, ap length empty);
        reports = d.reports ∙ ap (λ (r : Report). Some r) (none-again f models empty);
        means = d.means;
        later = d.later;
        quiet = quiet;
      }),
    ))

-- ---- whether there is a second search
is-finished : (e : End) → is_finished e ≡ true → e ≡ Finished
is-finished Finished e = refl
is-finished Limited e = absurd (false≢true e)
is-finished Unfinished e = absurd (false≢true e)

pub first-found : (p : Program) (units : ℕ) (f : Report) → IsReport p (asks Opt 0 false) units f → has_optimum f ≡ true → HasOptimum p units f
first-found p units f is has = by f.results.best refl parts.1
  where
    parts : (is_finished f.results.end ≡ true) × (is_some f.results.best ≡ true)
    parts = and_parts (is_finished f.results.end) (is_some f.results.best) has

    by : (o : Option (Atoms × List ℤ)) → f.results.best ≡ o → is_some o ≡ true → HasOptimum p units f
    by None e some = absurd (false≢true some)
    by (Some best) e some = record { is = is; finished = is-finished f.results.end parts.0; best = best; found = e }
