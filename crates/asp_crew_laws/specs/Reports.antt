-- What a report says of a program, and why: its journal.
use Rattle.std.specs.Prelude.{◌≡◌, ℕ, ◌+◌, ◌<◌, ◌≤◌, max, ◌||◌, Bool, true, false, List, [], filter, length, Contains, ℤ, Option, None, Some, IfSome, IsTrue, option_map, option_to_list}
use Rattle.asp_model.specs.declared.program.Program.{Program}
use Rattle.asp_model.specs.declared.results.Ask.{Ask}
use Rattle.asp_model.specs.declared.results.Mode.{Mode}
use Rattle.asp_model.specs.declared.results.Mode.TheVariants.{Enum, Opt, Consequences}
use Rattle.asp_model.specs.declared.results.Reasoning.{Reasoning}
use Rattle.asp_model.specs.Asked.{reasoning_of}
use Rattle.asp_model.specs.Consequences.{consequences_of, used_up}
use Rattle.asp_model.specs.declared.results.End.{End}
use Rattle.asp_model.specs.declared.results.End.TheVariants.{Finished, Limited, Unfinished}
use Rattle.asp_model.specs.Found.{Found}
use Rattle.std.specs.Option.{is_some}
use Rattle.asp_model.specs.Sets.{Atoms}
use Rattle.asp_model.specs.Models.{answers}
use Rattle.asp_model.specs.Costs.{cost, optima}
use Rattle.asp_vars.specs.Conflicts.{IsConflict}
use Rattle.asp_vars.specs.Paid.{Clash, Units, IsAtLeast, least_of}
use Rattle.asp_path.specs.declared.status.Status.TheVariants as status
use Rattle.asp_path.specs.Trees.{all_closed, cube_of, status_of, is_unclosed, held_count, leaf_count}
use Rattle.asp_core.specs.declared.event.Event.{Event}
use Rattle.asp_core.specs.declared.task.Task.{Task}
use Rattle.asp_core.specs.Units.{out_of, total_out}
use Rattle.asp_core.specs.Boards.{Board, IsBoundOf, bound_of, common_by, is_enough, known_count, listed_by, showing, showing_by, showing_of, sought, used}
use Rattle.asp_core.specs.Events.{replay}
use Rattle.asp_core.specs.Sorting.{sorted_once}
use Rattle.asp_book.specs.Books.{IsJournalOf}
use Rattle.asp_book.specs.Fuels.{IsOwnFuel}
use Rattle.asp_crew_laws.specs.declared.report.Report.{Report}
use Rattle.asp_crew_laws.specs.Runs.{task_of, ties_of, with_cost, IsBest, IsFound}

-- the board to which the report's journal leads
abbrev pub board_by : Task → Report → Board
board_by t r = replay t r.journal

-- how a run ended: whether it had enough, and else whether every leaf was closed
abbrev pub end_by : Bool → Bool → End
end_by true closed = Limited
end_by false true = Finished
end_by false false = Unfinished

-- the same of a board
abbrev pub end_of : Board → End
end_of b = end_by (is_enough b) (all_closed b.nodes)

abbrev pub best_cost : Found → Option (List ℤ)
best_cost r = option_map (λ best. best.1) r.best

-- ---- what is left on a board
-- No number holds a leaf, and none has units out.
pub record IsIdle (b : Board) : Type 0 where
  pub free : held_count b.nodes ≡ 0
  pub home : (s : ℕ) → out_of b.out s ≡ 0

-- A conflict of the board's program by what was recorded, that knew no more answers than were delivered.
pub record IsMet (b : Board) (x : Clash) : Type 0 where
  pub program : x.program ≡ b.task.program
  pub reasoning : x.reasoning ≡ sought b.task.goal
  pub known : x.known ≤ known_count b
  pub bound : IfSome x.bound (IsBoundOf b)
  pub conflict : IsConflict b.task.program (used b) (bound_of b) x.cube x.decisions x.nogood

-- The conflict is below this leaf, which is open.
pub record IsUnpaidAt (b : Board) (x : Clash) (leaf : ℕ) : Type 0 where
  pub unclosed : status_of b.nodes leaf ≡ status.Open
  pub cube : x.cube ≡ cube_of b.nodes leaf
  pub met : IsMet b x

-- It is enough, or every leaf is closed; or neither, no unit is left, and a conflict was met below a leaf that is open.
abbrev pub IsWorkedOff : Board → Option Clash → Type 0
IsWorkedOff b None = (is_enough b || all_closed b.nodes) ≡ true
IsWorkedOff b (Some x) = (is_enough b ≡ false) × (b.pool ≡ 0) × ((leaf : ℕ) × IsUnpaidAt b x leaf)

-- What a report tells when it is made of a board: what was found, how it ended, and what was paid.
pub record IsToldBy (b : Board) (r : Report) : Type 0 where
  pub answers : r.results.answers ≡ sorted_once (listed_by (sought b.task.goal) b.answers)
  pub best : r.results.best ≡ option_map (with_cost b.task.program) b.best
  pub common : r.results.known ≡ common_by (sought b.task.goal) b.task.program (showing_of b)
  pub end : r.results.end ≡ end_of b
  pub leaves : r.leaves ≡ leaf_count b.nodes
  pub spent : r.spent ≡ b.burnt
  pub paid : IsOwnFuel b r.paid
  pub idle : IsIdle b
  pub over : IsWorkedOff b r.unpaid

-- ---- what a report says by its journal
-- what is known by the report: the answers listed, or where consequences were sought what the answers found have in common
abbrev pub known_in : Option Reasoning → Found → List Atoms
known_in None r = r.answers
known_in (Some w) r = option_to_list r.known

-- A conflict below a leaf that isn't closed, by the answers that were found and the bound that stood at the end.
pub record IsUnpaid (t : Task) (b : Board) (r : Found) (x : Clash) : Type 0 where
  pub program : x.program ≡ t.program
  pub leaf : ℕ
  pub unclosed : IsTrue (is_unclosed (status_of b.nodes leaf))
  pub cube : x.cube ≡ cube_of b.nodes leaf
  pub reasoning : x.reasoning ≡ sought t.goal
  pub known : x.known ≤ length (known_in (sought t.goal) r)
  pub bound : IfSome x.bound (IsBoundOf b)
  pub conflict : IsConflict t.program (used_up (sought t.goal) t.program (known_in (sought t.goal) r)) (bound_of b) x.cube x.decisions x.nogood

-- No conflict is unpaid, since every leaf is closed or it was enough; or one was met when the budget was spent.
abbrev pub Ends : Task → Board → Report → End → Type 0
Ends t b r Finished = r.unpaid ≡ None
Ends t b r Limited = r.unpaid ≡ None
Ends t b r Unfinished = (b.pool ≡ 0) × (r.spent ≡ b.task.budget) × ((x : Clash) × (r.unpaid ≡ Some x) × IsUnpaid t b r.results x)

-- The journal is lawful for the task, and leads to what the report says.
pub record IsPlayed (t : Task) (r : Report) : Type 0 where
  pub lawful : IsJournalOf t r.journal
  pub answers : r.results.answers ≡ sorted_once (listed_by (sought t.goal) (board_by t r).answers)
  pub best : r.results.best ≡ option_map (with_cost t.program) (board_by t r).best
  pub common : r.results.known ≡ common_by (sought t.goal) t.program (showing t.goal t.program (board_by t r).answers)
  pub end : r.results.end ≡ end_of (board_by t r)
  pub leaves : r.leaves ≡ leaf_count (board_by t r).nodes
  pub spent : r.spent ≡ (board_by t r).burnt
  pub home : total_out (board_by t r).out ≡ 0
  pub paid : IsOwnFuel (board_by t r) r.paid
  pub ends : Ends t (board_by t r) r r.results.end

-- ---- two searches
-- what both burnt, and what the second left
abbrev pub summed : Units → Units → Units
summed u v = record { program = u.program; left = v.left; burnt = u.burnt + v.burnt; reasoned = u.reasoned || v.reasoned; known = max u.known v.known; least = least_of u.least v.least }

-- the report of a search for a best answer and of one for all answers that are as good
abbrev pub joined : Report → Report → Report
joined first ties = record {
  results = record { mode = first.results.mode; end = ties.results.end; answers = ties.results.answers; best = first.results.best; known = first.results.known };
  journal = first.journal;
  second = Some ties.journal;
  spent = first.spent + ties.spent;
  leaves = ties.leaves;
  log = first.log;
  short = first.short;
  unpaid = ties.unpaid;
  paid = summed first.paid ties.paid;
  core = None;
}

-- A first search was finished and had found a best answer; a second one went over the answers that cost no more, with the units
-- that were left.
pub record IsPlayedTwice (p : Program) (ask : Ask) (units : ℕ) (r : Report) : Type 0 where
  pub first : Report
  pub ties : Report
  pub best : Atoms × List ℤ
  pub both : r ≡ joined first ties
  pub finished : first.results.end ≡ Finished
  pub found : first.results.best ≡ Some best
  pub played : IsPlayed (task_of p ask units) first
  pub again : IsPlayed (ties_of p ask best.1 first.paid.left) ties

abbrev pub IsPlayedBy : Option (List Event) → Program → Ask → ℕ → Report → Type 0
IsPlayedBy None p ask units r = IsPlayed (task_of p ask units) r
IsPlayedBy (Some second) p ask units r = IsPlayedTwice p ask units r

-- ---- what a report says of the program
-- an answer with its cost
abbrev pub IsPriced : Program → Atoms × List ℤ → Type 0
IsPriced p best = Contains (answers p) best.0 × (best.1 ≡ cost p best.0)

-- what one search found: in an enumeration some of the answers, each once, in their order; in an optimisation at most one, with its
-- cost; of consequences what is in some, or in each, of some of the answers, where by name what isn't asked for counts as shown
abbrev pub IsPart : Bool → Program → Mode → Found → Type 0
IsPart n p Enum r = ((chosen : Atoms → Bool) × (r.answers ≡ filter chosen (answers p))) × (r.best ≡ None)
IsPart n p Opt r = (r.answers ≡ []) × IfSome r.best (IsPriced p)
IsPart n p (Consequences w) r = (r.answers ≡ []) × (r.best ≡ None) × ((chosen : Atoms → Bool) × (r.known ≡ consequences_of w p (showing_by n w p (filter chosen (answers p)))))

-- The same of a run; where all optima are asked for some of these, each once, in their order.
abbrev pub IsPartOf : Bool → Bool → Program → Mode → Found → Type 0
IsPartOf false n p mode r = IsPart n p mode r
IsPartOf true n p Enum r = IsPart n p Enum r
IsPartOf true n p (Consequences w) r = IsPart n p (Consequences w) r
IsPartOf true n p Opt r = ((chosen : Atoms → Bool) × (r.answers ≡ filter chosen (optima p))) × IfSome r.best (IsPriced p)

-- All that was asked for was found; where all optima are, exactly these, each once, in their order.
abbrev pub IsAllFound : Bool → Bool → Program → Mode → List Atoms → Option (Atoms × List ℤ) → Option Atoms → Type 0
IsAllFound false n p mode L best known = IsFound n p mode L best known
IsAllFound true n p Enum L best known = IsFound n p Enum L best known
IsAllFound true n p (Consequences w) L best known = IsFound n p (Consequences w) L best known
IsAllFound true n p Opt L best known = (L ≡ optima p) × IsBest p best

-- whether a list of answers is asked for
abbrev pub asks_list : Bool → Mode → Bool
asks_list all Enum = true
asks_list all Opt = all
asks_list all (Consequences w) = false

-- An optimisation has a best answer that none betters, or there is no answer.
abbrev pub HasBest : Program → Mode → Option (Atoms × List ℤ) → Type 0
HasBest p Enum best = Unit {0}
HasBest p Opt best = IsBest p best
HasBest p (Consequences w) best = Unit {0}

-- as many of the answers as were asked for, each once, in their order; where all optima were, as many of these
pub record IsAsked (p : Program) (ask : Ask) (r : Found) : Type 0 where
  pub listing : asks_list ask.all_optima ask.mode ≡ true
  pub some : 0 < ask.models
  pub count : length r.answers ≡ ask.models
  pub part : IsPartOf ask.all_optima ask.by_name p ask.mode r
  pub best : HasBest p ask.mode r.best

-- All was found; or as many answers as were asked for; or a part was, and the budget is spent.
abbrev pub Says : Program → Ask → Report → End → Type 0
Says p ask r Finished = IsAllFound ask.all_optima ask.by_name p ask.mode r.results.answers r.results.best r.results.known
Says p ask r Limited = IsAsked p ask r.results
Says p ask r Unfinished = IsPartOf ask.all_optima ask.by_name p ask.mode r.results × (r.paid.left ≡ 0)

-- Each unit spent was burnt for a conflict of the program, by no more answers than were found, and by no bound below the cost of the best.
-- None was a conflict of a search for consequences where these weren't asked for, and then none are told.
pub record IsReport (p : Program) (ask : Ask) (units : ℕ) (r : Report) : Type 0 where
  pub mode_is : r.results.mode ≡ ask.mode
  pub says : Says p ask r r.results.end
  pub program : r.paid.program ≡ p
  pub spent : r.paid.burnt ≡ r.spent
  pub budget : r.paid.left + r.spent ≡ units
  pub reasoned : r.paid.reasoned ≡ true → is_some (reasoning_of ask.mode) ≡ true
  pub known : r.paid.known ≤ length (known_in (reasoning_of ask.mode) r.results)
  pub untold : reasoning_of ask.mode ≡ None → r.results.known ≡ None
  pub least : IsAtLeast (best_cost r.results) r.paid.least
  pub played : IsPlayedBy r.second p ask units r

-- Nothing is left to a second search: all optima aren't asked for, or the first isn't finished, or it found no answer.
abbrev pub IsWhole : Bool → End → Option (Atoms × List ℤ) → Type 0
IsWhole false end best = Unit {0}
IsWhole true Finished None = Unit {0}
IsWhole true Finished (Some best) = ⊥
IsWhole true Limited best = Unit {0}
IsWhole true Unfinished best = Unit {0}
