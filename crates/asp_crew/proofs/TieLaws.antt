-- A second search: how its book begins, and what its report says beside that of the first.
use Rattle.std.proofs.Common.{◌≡◌, ℕ, ◌+◌, Bool, true, false, List, [], ◌∷◌, Option, Some, None, not, refl, sym, ap, ◌∙◌, subst, inr}
use Rattle.std.specs.Prelude.{ℤ, IsTrue}
use Rattle.std.specs.List.{list_any}
use Rattle.std.proofs.lemmas.Bool.{false≢true}
use Rattle.asp_model.specs.declared.program.Program.{Program}
use Rattle.asp_model.specs.declared.results.Ask.{Ask}
use Rattle.asp_model.specs.declared.results.Mode.{Mode}
use Rattle.asp_model.specs.declared.results.Mode.TheVariants.{Enum, Opt, Consequences}
use Rattle.asp_model.specs.declared.results.End.TheVariants.{Finished}
use Rattle.asp_model.specs.Sets.{Atoms, same_set}
use Rattle.asp_model.specs.Costs.{cost, just_above, IsOptimum}
use Rattle.asp_model.specs.Models.{answers}
use Rattle.asp_model.proofs.ListedLaws.{test_from_contains}
use Rattle.asp_core.specs.declared.event.Event.TheVariants as event
use Rattle.asp_core.specs.declared.goal.Goal.{Goal}
use Rattle.asp_core.specs.declared.goal.Goal.TheVariants as goal
use Rattle.asp_core.specs.declared.task.Task.{Task}
use Rattle.asp_core.specs.Boards.{Board, start, is_answer, lists}
use Rattle.asp_core.specs.Events.{replay}
use Rattle.asp_core.proofs.ResultLaws.{task-run}
use Rattle.asp_core.proofs.SortingLaws.{has-answers_of}
use Rattle.asp_book.specs.Books.{Booked, board, with_events, IsJournalOf}
use Rattle.asp_book.specs.Replies.{delivered}
use Rattle.asp_crew_laws.specs.declared.report.Report.{Report}
use Rattle.asp_crew_laws.specs.Runs.{asks, ties_of, IsBest}
use Rattle.asp_crew_laws.specs.Reports.{joined, IsIdle, IsReport, IsToldBy, Says}
use Rattle.asp_crew_laws.specs.Working.{MayBegin}
use Rattle.asp_crew_laws.proofs.FoundLaws.{answers-same}
use Rattle.asp_crew_laws.proofs.PlayedLaws.{told-budget}
use Rattle.asp_crew_laws.proofs.TieLaws.{best-listed}
use Rattle.asp_crew_laws.proofs.TwiceLaws.{ties-report}
use Rattle.asp_crew.specs.Running.{QueryStands}
use Rattle.asp_crew.specs.Twice.{IsSearched, IsSecond}

-- ---- the book of the second search
pub begun-ties : (p : Program) (ask : Ask) (c : List ℤ) (budget : ℕ) (o : Option (List ℤ)) (q : List ℤ) (s : Board) (v : Booked) → o ≡ just_above c →
    q ≡ [] → s ≡ start (record { program = p; goal = goal.Ties o; budget = budget; limit = ask.models; query = q }) →
    v ≡ record { task = s.task; journal = [] } →
    v ≡ record { task = ties_of p ask c budget; journal = [] }
begun-ties p ask c budget o q s v above none is now =
    now ∙ ap (λ (b : Board). let x : Booked = record { task = b.task; journal = [] } in x) is
    ∙ ap (λ (d : Option (List ℤ)). let x : Booked = record { task = record { program = p; goal = goal.Ties d; budget = budget; limit = ask.models; query = q }; journal = [] } in x) above
    ∙ ap (λ (l : List ℤ). let x : Booked = record { task = record { program = p; goal = goal.Ties (just_above c); budget = budget; limit = ask.models; query = l }; journal = [] } in x) none

-- the best may be delivered
pub best-lists : (p : Program) (ask : Ask) (S : Atoms) (budget : ℕ) (v : Booked) → IsOptimum p S (cost p S) →
    v ≡ record { task = ties_of p ask (cost p S) budget; journal = [] } → IsTrue (lists (board v).task S)
best-lists p ask S budget v is e = subst (λ (x : Booked). IsTrue (lists (board x).task S)) (sym e) (best-listed p S (cost p S) is)

pub best-answers : (p : Program) (ask : Ask) (S : Atoms) (c : List ℤ) (budget : ℕ) (v : Booked) → IsOptimum p S c →
    v ≡ record { task = ties_of p ask (cost p S) budget; journal = [] } → IsTrue (is_answer (board v).task S)
best-answers p ask S c budget v is e =
    subst (λ (x : Booked). IsTrue (is_answer (board x).task S)) (sym e)
    (sym (has-answers_of (ties_of p ask (cost p S) budget) S) ∙ ap (λ (L : List Atoms). list_any (same_set S) L) (answers-same p ask budget) ∙ test_from_contains (answers p) S is.answer)

pub opened-task : (t : Task) (v w : Booked) (S : Atoms) (r : Bool) → v ≡ record { task = t; journal = [] } → w ≡ with_events v (delivered 0 S r) → w.task ≡ t
opened-task t v w S true e now = ap (λ (z : Booked). z.task) (now ∙ ap (λ (x : Booked). with_events x (event.Deliver 0 S ∷ [])) e)
opened-task t v w S false e now = ap (λ (z : Booked). z.task) (now ∙ e)

pub opened-idle : (t : Task) (v w : Booked) (S : Atoms) (r : Bool) → v ≡ record { task = t; journal = [] } → w ≡ with_events v (delivered 0 S r) → IsIdle (board w)
opened-idle t v w S true e now = subst (λ (z : Booked). IsIdle (board z)) (sym (now ∙ ap (λ (x : Booked). with_events x (event.Deliver 0 S ∷ [])) e)) (record { free = refl; home = λ s. refl })
opened-idle t v w S false e now = subst (λ (z : Booked). IsIdle (board z)) (sym (now ∙ e)) (record { free = refl; home = λ s. refl })

pub ties-query : (p : Program) (ask : Ask) (c : List ℤ) (budget : ℕ) (t : Task) → t ≡ ties_of p ask c budget → QueryStands t
ties-query p ask c budget t e = subst QueryStands (sym e) tt

pub ties-may : (p : Program) (ask : Ask) (c : List ℤ) (budget : ℕ) (t : Task) (o : Option (List ℤ)) → t ≡ ties_of p ask c budget → o ≡ just_above c → MayBegin Enum o t.goal
ties-may p ask c budget t o e above = inr (refl, ap (λ (x : Task). x.goal) e ∙ ap (λ (d : Option (List ℤ)). let g : Goal = goal.Ties d in g) (sym above))

-- ---- its report
pub searched-is : (t : Task) (v : Booked) (r : Report) → v.task ≡ t → IsJournalOf v.task v.journal → r.journal ≡ v.journal → IsToldBy (board v) r → IsSearched t r
searched-is t v r e lawful journal told =
    record {
      lawful = subst (λ (x : Task). IsJournalOf x r.journal) e (subst (IsJournalOf v.task) (sym journal) lawful);
      told = subst (λ (b : Board). IsToldBy b r) (ap (λ (x : Task). replay x v.journal) e ∙ ap (replay t) (sym journal)) told;
    }

-- ---- the first search's report
none-some : {X : Type 0} (x : X) → None ≡ Some x → ⊥
none-some x e = cc

-- one that was finished and has a best answer
record HasOptimum (p : Program) (mode : Mode) (best : Atoms × List ℤ) : Type 0 where
  pub opt : mode ≡ Opt
  pub optimum : IsOptimum p best.0 best.1

has-optimum : (p : Program) (mode : Mode) (n : ℕ) (named : Bool) (r : Report) (best : Atoms × List ℤ) → Says p (asks mode n named) r Finished → r.results.best ≡ Some best → HasOptimum p mode best
has-optimum p Enum n named r best says found = absurd (none-some best (sym says.1 ∙ found))
has-optimum p Opt n named r best says found = record { opt = refl; optimum = subst (IsBest p) found says.1 }
has-optimum p (Consequences w) n named r best says found = absurd (none-some best (sym says.1 ∙ found))

first-optimum : (p : Program) (ask : Ask) (units : ℕ) (r : Report) (best : Atoms × List ℤ) →
    IsReport p (asks ask.mode ask.models ask.by_name) units r → r.results.end ≡ Finished → r.results.best ≡ Some best → HasOptimum p ask.mode best
first-optimum p ask units r best is end found = has-optimum p ask.mode ask.models ask.by_name r best (subst (Says p (asks ask.mode ask.models ask.by_name) r) end is.says) found

pub may-search : (p : Program) (ask : Ask) (r : Report) (best : Atoms × List ℤ) → (units : ℕ) ×
    IsReport p (asks ask.mode ask.models ask.by_name) units r → r.results.end ≡ Finished → r.results.best ≡ Some best →
    IsOptimum p best.0 (cost p best.0)
may-search p ask r best is end found =
    let has = first-optimum p ask is.0 r best is.1 end found in
    subst (IsOptimum p best.0) has.optimum.sums has.optimum

-- the second search's report beside it
is-true : (b : Bool) → not b ≡ false → b ≡ true
is-true true h = refl
is-true false h = absurd (false≢true (sym h))

pub second-is : (p : Program) (ask : Ask) (first ties : Report) (best : Atoms × List ℤ) (left : ℕ) →
    ((units : ℕ) × IsReport p (asks ask.mode ask.models ask.by_name) units first) → not ask.all_optima ≡ false → first.results.end ≡ Finished →
    first.results.best ≡ Some best → left ≡ first.paid.left → IsSearched (ties_of p ask (cost p best.0) left) ties → IsSecond p ask first ties
second-is p ask first ties best left is all end found units searched =
    let has = first-optimum p ask is.0 first best is.1 end found in
    record {
      all = is-true ask.all_optima all;
      opt = has.opt;
      finished = end;
      best = best.0;
      found = found ∙ ap (λ (c : List ℤ). let o : Option (Atoms × List ℤ) = Some (best.0, c) in o) has.optimum.sums;
      searched = subst (λ (n : ℕ). IsSearched (ties_of p ask (cost p best.0) n) ties) units searched;
    }

-- ---- both
pub joins-program : (p : Program) (ask : Ask) (first ties : Report) → (units : ℕ) × IsReport p (asks ask.mode ask.models ask.by_name) units first →
    IsSecond p ask first ties → ties.paid.program ≡ first.paid.program
joins-program p ask first ties is second =
    second.searched.told.paid.fits.program ∙ ap (λ (t : Task). t.program) (task-run (start (ties_of p ask (cost p second.best) first.paid.left)) ties.journal) ∙ sym is.1.program

pub joins-units : (p : Program) (ask : Ask) (first ties : Report) → IsSecond p ask first ties → ties.paid.left + ties.spent ≡ first.paid.left
joins-units p ask first ties second = told-budget (ties_of p ask (cost p second.best) first.paid.left) ties tt second.searched.lawful second.searched.told

pub joined-reports : (p : Program) (ask : Ask) (units : ℕ) (first ties : Report) → first.second ≡ None → IsSecond p ask first ties →
    IsReport p (asks ask.mode ask.models ask.by_name) units first → IsReport p ask units (joined first ties)
joined-reports p ask units first ties alone second is =
    subst (λ x. let a : Ask = record { mode = ask.mode; models = ask.models; all_optima = x; by_name = ask.by_name } in IsReport p a units (joined first ties)) (sym second.all)
    (subst (λ (m : Mode). let a : Ask = record { mode = m; models = ask.models; all_optima = true; by_name = ask.by_name } in IsReport p a units (joined first ties)) (sym second.opt)
    (ties-report p ask.models units ask.by_name first ties second.best (cost p second.best)
    (subst (λ (m : Mode). IsReport p (asks m ask.models ask.by_name) units first) second.opt is) alone second.finished second.found
    second.searched.lawful second.searched.told))
