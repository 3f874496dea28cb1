-- A first search of two, that was asked for one optimum. Where it found one it is the only search of its run.
use Rattle.std.proofs.Common.{◌≡◌, ℕ, Bool, true, false, List, [], filter, refl, sym, ap, ◌∙◌, subst, arith}
use Rattle.std.specs.Prelude.{Contains, Option, None, Some, ℤ}
use Rattle.std.specs.List.{list_any}
use Rattle.asp_model.specs.declared.program.Program.{Program}
use Rattle.asp_model.specs.declared.results.Ask.{Ask}
use Rattle.asp_model.specs.declared.results.End.TheVariants.{Finished}
use Rattle.asp_model.specs.declared.results.Mode.TheVariants.{Enum, Opt}
use Rattle.asp_model.specs.Costs.{IsOptimum, betters, cost, optima}
use Rattle.asp_model.specs.Models.{answers}
use Rattle.asp_model.specs.Sets.{Atoms}
use Rattle.asp_model.proofs.ModelLaws.{optima-are}
use Rattle.asp_path.specs.Trees.{all_closed}
use Rattle.asp_core.specs.declared.event.Event.{Event}
use Rattle.asp_core.specs.declared.task.Task.{Task}
use Rattle.asp_core.specs.Boards.{Board, is_enough, lists, start}
use Rattle.asp_core.specs.Sorting.{answers_of}
use Rattle.asp_core.proofs.ResultLaws.{HasResult-finished, task-run}
use Rattle.asp_crew_laws.specs.declared.report.Report.{Report}
use Rattle.asp_crew_laws.specs.Reports.{IsPlayedBy, IsPlayedTwice, IsReport, Says, board_by}
use Rattle.asp_crew_laws.specs.Runs.{IsBest, asks, ties_of}
use Rattle.asp_crew_laws.proofs.FoundLaws.{answers-same}
use Rattle.asp_crew_laws.proofs.PlayedLaws.{closed-by}
use Rattle.asp_crew_laws.proofs.TieLaws.{ties-optima}

abbrev one : Ask
one = asks Opt 0 false

an-optimum : (p : Program) (S : Atoms) (c : List ℤ) → IsOptimum p S c → Contains (optima p) S
an-optimum p S c is = (optima-are p S).1 (record {
  answer = is.answer;
  sums = refl;
  least = subst (λ (d : List ℤ). list_any (λ T. betters (cost p T) d) (answers p) ≡ false) is.sums is.least;
})

-- a second search would list all optima, and there is one
module _ (p : Program) (units : ℕ) (f : Report) (done : f.results.end ≡ Finished) (is : IsReport p one units f) (twice : IsPlayedTwice p one units f) where
  found : (f.results.answers ≡ []) × IsBest p f.results.best
  found = subst (Says p one f) done is.says

  same-best : f.results.best ≡ Some twice.best
  same-best = ap (λ (r : Report). r.results.best) twice.both ∙ twice.found

  optimum : IsOptimum p twice.best.0 twice.best.1
  optimum = subst (IsBest p) same-best found.1

  abbrev task : Task
  task = ties_of p one twice.best.1 twice.first.paid.left

  abbrev board : Board
  board = board_by task twice.ties

  closed : all_closed board.nodes ≡ true
  closed = closed-by (is_enough board) (all_closed board.nodes) (sym twice.again.end ∙ sym (ap (λ (r : Report). r.results.end) twice.both) ∙ done)

  listed : twice.ties.results.answers ≡ optima p
  listed =
      twice.again.answers ∙ HasResult-finished task twice.ties.journal tt twice.again.lawful closed
      ∙ ap (λ (x : Task). filter (lists x) (answers_of x)) (task-run (start task) twice.ties.journal)
      ∙ ap (filter (lists task)) (answers-same p one units) ∙ ties-optima p twice.best.0 twice.best.1 optimum

  none : optima p ≡ []
  none = sym listed ∙ sym (ap (λ (r : Report). r.results.answers) twice.both) ∙ found.0

  pub not-twice : ⊥
  not-twice =
      let has : Contains [] twice.best.0 = subst (λ (L : List Atoms). Contains L twice.best.0) none (an-optimum p twice.best.0 twice.best.1 optimum) in
      let f : ⊥ = omega (arith, has.1) in f

pub second-none : (p : Program) (units : ℕ) (f : Report) → f.results.end ≡ Finished → IsReport p one units f → f.second ≡ None
second-none p units f done is = by f.second refl is.played
  where
    by : (o : Option (List Event)) → f.second ≡ o → IsPlayedBy o p one units f → f.second ≡ None
    by None e played = e
    by (Some second) e played = absurd (not-twice p units f done is played)

-- what was played is the same where all optima are asked for
pub played-all : (p : Program) (units : ℕ) (f : Report) → IsPlayedBy f.second p one units f
    → IsPlayedBy f.second p (record { mode = Opt; models = 0; all_optima = true; by_name = false }) units f
played-all p units f played = by f.second played
  where
    by : (second : Option (List Event)) → IsPlayedBy second p one units f → IsPlayedBy second p (record { mode = Opt; models = 0; all_optima = true; by_name = false }) units f
    by None h = h
    by (Some second) h =
        record { first = h.first; ties = h.ties; best = h.best; both = h.both; finished = h.finished; found = h.found; played = h.played; again = h.again }

-- and so it is of answers, which are all of them anyway
pub played-enum : (all : Bool) (p : Program) (units : ℕ) (r : Report) → IsPlayedBy r.second p (asks Enum 0 false) units r
    → IsPlayedBy r.second p (record { mode = Enum; models = 0; all_optima = all; by_name = false }) units r
played-enum all p units r played = by r.second played
  where
    by : (second : Option (List Event)) → IsPlayedBy second p (asks Enum 0 false) units r → IsPlayedBy second p (record { mode = Enum; models = 0; all_optima = all; by_name = false }) units r
    by None h = h
    by (Some second) h =
        record { first = h.first; ties = h.ties; best = h.best; both = h.both; finished = h.finished; found = h.found; played = h.played; again = h.again }
