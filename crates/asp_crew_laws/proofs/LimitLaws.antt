-- How many answers a report has, and which.
use Rattle.std.proofs.Common.{◌≡◌, ℕ, ◌<◌, Bool, true, false, cond, not, ◌||◌, List, [], ◌∷◌, length, filter, Option, Some, None, Contains, refl, sym, ap, ◌∙◌, subst, arith}
use Rattle.std.specs.Prelude.{ℤ, IfSome}
use Rattle.std.specs.List.{list_any, AllPairs}
use Rattle.std.proofs.lemmas.Bool.{false≢true, or_right}
use Rattle.std.proofs.lemmas.List.Kept.{AllPairs-filter}
use Rattle.asp_model.specs.declared.program.Program.{Program}
use Rattle.asp_model.specs.declared.results.Ask.{Ask}
use Rattle.asp_model.specs.declared.results.Mode.{Mode}
use Rattle.asp_model.specs.declared.results.Mode.TheVariants.{Enum, Opt, Consequences}
use Rattle.asp_model.specs.declared.results.Reasoning.{Reasoning}
use Rattle.asp_model.specs.Asked.{limit_of, reasoning_of}
use Rattle.asp_model.specs.Consequences.{consequences_of}
use Rattle.asp_model.specs.declared.results.End.{End}
use Rattle.asp_model.specs.declared.results.End.TheVariants.{Finished, Limited, Unfinished}
use Rattle.asp_model.specs.Found.{Found}
use Rattle.asp_model.specs.Sets.{Atoms, IsBefore, same_set}
use Rattle.asp_model.specs.Models.{answers}
use Rattle.asp_model.specs.Costs.{cost, betters, optima}
use Rattle.asp_model.proofs.ListedLaws.{contains_from_test, test_from_contains}
use Rattle.asp_model.proofs.ModelLaws.{answers-rise}
use Rattle.asp_model.proofs.SubsetLaws.{pairs_from_rising}
use Rattle.asp_core.specs.declared.event.Event.{Event}
use Rattle.asp_core.specs.declared.task.Task.{Task}
use Rattle.asp_core.specs.Boards.{showing_by, sought, start, IsQuery}
use Rattle.asp_core.proofs.ResultLaws.{IsBoard-replay, task-run}
use Rattle.asp_crew_laws.specs.declared.report.Report.{Report}
use Rattle.asp_crew_laws.specs.Runs.{task_of, ties_of, IsBest}
use Rattle.asp_crew_laws.specs.Reports.{IsAllFound, IsAsked, IsPartOf, IsPlayed, IsPlayedBy, IsPriced, IsReport, Says}
use Rattle.asp_crew_laws.proofs.PlayedLaws.{sought-mode, under-limit}

-- A run that ended at its limit has as many answers as were asked for.
pub exact : (p : Program) (ask : Ask) (units : ℕ) (r : Report) → IsReport p ask units r → r.results.end ≡ Limited → length r.results.answers ≡ ask.models
exact p ask units r is q = let asked : IsAsked p ask r.results = subst (Says p ask r) q is.says in asked.count

-- One that ended otherwise has fewer.
under : (t : Task) (r : Report) → IsQuery t.program t.query → sought t.goal ≡ None → IsPlayed t r → (r.results.end ≡ Limited → ⊥) → 0 < t.limit → length r.results.answers < t.limit
under t r query none is = under-limit t r is (IsBoard-replay t r.journal query is.lawful) (task-run (start t) r.journal) none

limit-listed : (mode : Mode) (n : ℕ) → reasoning_of mode ≡ None → limit_of mode n ≡ n
limit-listed Enum n e = refl
limit-listed Opt n e = refl
limit-listed (Consequences w) n e = absurd (some e)
  where
    some : Some w ≡ None → ⊥
    some e = cc

none-some : (w : Reasoning) → None ≡ Some w → ⊥
none-some w e = cc

-- where consequences are sought none is listed
none-told : (all n : Bool) (p : Program) (mode : Mode) (w : Reasoning) (r : Found) → reasoning_of mode ≡ Some w → IsPartOf all n p mode r → r.answers ≡ []
none-told all n p Enum w r e part = absurd (none-some w e)
none-told all n p Opt w r e part = absurd (none-some w e)
none-told false n p (Consequences v) w r e part = part.0
none-told true n p (Consequences v) w r e part = part.0

-- ---- a part of the answers
all-chosen : (L : List Atoms) → filter (λ (S : Atoms). true) L ≡ L
all-chosen [] = refl
all-chosen (S ∷ L) = ap (λ (K : List Atoms). S ∷ K) (all-chosen L)

best-priced : (p : Program) (best : Option (Atoms × List ℤ)) → IsBest p best → IfSome best (IsPriced p)
best-priced p None h = tt
best-priced p (Some best) h = (h.answer, h.sums)

found-part : (all n : Bool) (p : Program) (mode : Mode) (r : Found) → IsAllFound all n p mode r.answers r.best r.known → IsPartOf all n p mode r
found-part false n p (Consequences w) r h = (h.0, h.1, ((λ S. true), h.2 ∙ ap (λ (L : List Atoms). consequences_of w p (showing_by n w p L)) (sym (all-chosen (answers p)))))
found-part true n p (Consequences w) r h = (h.0, h.1, ((λ S. true), h.2 ∙ ap (λ (L : List Atoms). consequences_of w p (showing_by n w p L)) (sym (all-chosen (answers p)))))
found-part false n p Enum r h = (((λ S. true), h.0 ∙ sym (all-chosen (answers p))), h.1)
found-part false n p Opt r h = (h.0, best-priced p r.best h.1)
found-part true n p Enum r h = (((λ S. true), h.0 ∙ sym (all-chosen (answers p))), h.1)
found-part true n p Opt r h = (((λ S. true), h.0 ∙ sym (all-chosen (optima p))), best-priced p r.best h.1)

says-part : (p : Program) (ask : Ask) (r : Report) (e : End) → Says p ask r e → IsPartOf ask.all_optima ask.by_name p ask.mode r.results
says-part p ask r Finished h = found-part ask.all_optima ask.by_name p ask.mode r.results h
says-part p ask r Limited h = h.part
says-part p ask r Unfinished h = h.0

pub fewer : (p : Program) (ask : Ask) (units : ℕ) (r : Report) → IsReport p ask units r → (r.results.end ≡ Limited → ⊥) → 0 < ask.models → length r.results.answers < ask.models
fewer p ask units r is other some = cases (reasoning_of ask.mode) refl
  where
    here : reasoning_of ask.mode ≡ None → (o : Option (List Event)) → IsPlayedBy o p ask units r → length r.results.answers < ask.models
    here none None played =
        let limit : limit_of ask.mode ask.models ≡ ask.models = limit-listed ask.mode ask.models none in
        omega (arith, under (task_of p ask units) r tt (sought-mode ask.mode ask.by_name ∙ none) played other (omega (arith, some, limit)), limit)
    here none (Some second) twice =
        omega (
          arith,
          under (ties_of p ask twice.best.1 twice.first.paid.left) twice.ties tt refl twice.again (λ e. other (ap (λ (x : Report). x.results.end) twice.both ∙ e)) some,
          ap (λ (x : Report). length x.results.answers) twice.both,
        )

    cases : (k : Option Reasoning) → reasoning_of ask.mode ≡ k → length r.results.answers < ask.models
    cases None e = here e r.second is.played
    cases (Some w) e = omega (arith, some, ap length (none-told ask.all_optima ask.by_name p ask.mode w r.results e (says-part p ask r r.results.end is.says)))

-- They are distinct answers of the program, in their order.
chosen-order : (chosen : Atoms → Bool) (L M : List Atoms) → L ≡ filter chosen M → AllPairs IsBefore M → AllPairs IsBefore L
chosen-order chosen L M e up = subst (λ (K : List Atoms). AllPairs IsBefore K) (sym e) (AllPairs-filter IsBefore chosen M up)

none-order : (L : List Atoms) → L ≡ [] → AllPairs IsBefore L
none-order L e = subst (λ (K : List Atoms). AllPairs IsBefore K) (sym e) (pairs_from_rising [] tt)

optima-order : (p : Program) → AllPairs IsBefore (optima p)
optima-order p = chosen-order (λ S. not (list_any (λ T. betters (cost p T) (cost p S)) (answers p))) (optima p) (answers p) refl (answers-rise p)

part-order : (all n : Bool) (p : Program) (mode : Mode) (r : Found) → IsPartOf all n p mode r → AllPairs IsBefore r.answers
part-order false n p Enum r part = chosen-order part.0.0 r.answers (answers p) part.0.1 (answers-rise p)
part-order false n p Opt r part = none-order r.answers part.0
part-order false n p (Consequences w) r part = none-order r.answers part.0
part-order true n p (Consequences w) r part = none-order r.answers part.0
part-order true n p Enum r part = chosen-order part.0.0 r.answers (answers p) part.0.1 (answers-rise p)
part-order true n p Opt r part = chosen-order part.0.0 r.answers (optima p) part.0.1 (optima-order p)

any-filtered : (q chosen : Atoms → Bool) (L : List Atoms) → list_any q (filter chosen L) ≡ true → list_any q L ≡ true
any-filtered q chosen [] h = h
any-filtered q chosen (S ∷ L) h = here (chosen S) h (any-filtered q chosen L)
  where
    with-rest : (x y z : Bool) → (y ≡ true → z ≡ true) → (x || y) ≡ true → (x || z) ≡ true
    with-rest true y z rest e = refl
    with-rest false y z rest e = rest e

    here : (x : Bool) → list_any q (cond x (S ∷ filter chosen L) (filter chosen L)) ≡ true → (list_any q (filter chosen L) ≡ true → list_any q L ≡ true) → (q S || list_any q L) ≡ true
    here true e rest = with-rest (q S) (list_any q (filter chosen L)) (list_any q L) rest e
    here false e rest = or_right (q S) (list_any q L) (rest e)

chosen-has : (chosen : Atoms → Bool) (L M : List Atoms) (S : Atoms) → L ≡ filter chosen M → list_any (same_set S) L ≡ true → list_any (same_set S) M ≡ true
chosen-has chosen L M S e h = any-filtered (same_set S) chosen M (sym (ap (list_any (same_set S)) e) ∙ h)

part-has : (all n : Bool) (p : Program) (mode : Mode) (r : Found) (S : Atoms) → IsPartOf all n p mode r → list_any (same_set S) r.answers ≡ true → list_any (same_set S) (answers p) ≡ true
part-has false n p Enum r S part h = chosen-has part.0.0 r.answers (answers p) S part.0.1 h
part-has false n p Opt r S part h = absurd (false≢true (ap (list_any (same_set S)) (sym part.0) ∙ h))
part-has false n p (Consequences w) r S part h = absurd (false≢true (ap (list_any (same_set S)) (sym part.0) ∙ h))
part-has true n p (Consequences w) r S part h = absurd (false≢true (ap (list_any (same_set S)) (sym part.0) ∙ h))
part-has true n p Enum r S part h = chosen-has part.0.0 r.answers (answers p) S part.0.1 h
part-has true n p Opt r S part h =
    chosen-has (λ S. not (list_any (λ T. betters (cost p T) (cost p S)) (answers p))) (optima p) (answers p) S refl (chosen-has part.0.0 r.answers (optima p) S part.0.1 h)

pub in-order : (p : Program) (ask : Ask) (units : ℕ) (r : Report) → IsReport p ask units r → AllPairs IsBefore r.results.answers
in-order p ask units r is = part-order ask.all_optima ask.by_name p ask.mode r.results (says-part p ask r r.results.end is.says)

pub all-answers : (p : Program) (ask : Ask) (units : ℕ) (r : Report) (S : Atoms) → IsReport p ask units r → Contains r.results.answers S → Contains (answers p) S
all-answers p ask units r S is has =
    contains_from_test (answers p) S (part-has ask.all_optima ask.by_name p ask.mode r.results S (says-part p ask r r.results.end is.says)
    (test_from_contains r.results.answers S has))
