-- A stream of optima: which answers its goal lists, and how it begins.
use Rattle.std.proofs.Common.{◌≡◌, ℕ, ◌<◌, true, false, List, [], ◌∷◌, ◌++◌, filter, length, Option, refl, sym, ap, ◌∙◌, subst, arith, length-append}
use Rattle.std.specs.Prelude.{ℤ}
use Rattle.asp_model.specs.declared.program.Program.{Program}
use Rattle.asp_model.specs.declared.results.Mode.TheVariants.{Opt}
use Rattle.asp_model.specs.Costs.{IsOptimum, cost, just_above, optima}
use Rattle.asp_model.specs.Sets.{Atoms}
use Rattle.asp_core.specs.declared.event.Event.{Event}
use Rattle.asp_core.specs.declared.event.Event.TheVariants as event
use Rattle.asp_core.specs.declared.goal.Goal.{Goal}
use Rattle.asp_core.specs.declared.goal.Goal.TheVariants as goal
use Rattle.asp_core.specs.declared.task.Task.{Task}
use Rattle.asp_core.specs.Boards.{Board, is_answer, lists}
use Rattle.asp_core.specs.Events.{happens}
use Rattle.asp_book.specs.Books.{Booked, board, with_events}
use Rattle.asp_crew_laws.specs.Reports.{IsIdle}
use Rattle.asp_crew_laws.specs.Runs.{asks}
use Rattle.asp_crew_laws.proofs.FoundLaws.{answers-same}
use Rattle.asp_crew_laws.proofs.TieLaws.{best-listed, ties-optima}
use Rattle.asp_crew.proofs.BookLaws.{board-with}
use Rattle.asp_crew.proofs.TieLaws.{best-answers}
use Rattle.asp_ledger.specs.Ledgers.{ListsAnswers}
use Rattle.asp_stream.specs.Endings.{IsBegun, ties}
use Rattle.asp_stream.specs.Streams.{IsStart, start_of}
use Rattle.asp_stream.specs.declared.stream.Stream.{Stream}
use Rattle.asp_watermark.specs.Floors.{listed}

-- the goal lists answers
pub ties-list : (g : Goal) (bound : Option (List ℤ)) → g ≡ goal.Ties bound → ListsAnswers g
ties-list g bound same = subst ListsAnswers (sym same) (record { apart = refl; plain = refl })

module _ (p : Program) (S : Atoms) (budget : ℕ) (is : IsOptimum p S (cost p S)) where
  abbrev task : Task
  task = ties p (cost p S) budget

  -- the best is one of those that are listed
  pub ties-lists : lists task S ≡ true
  ties-lists = best-listed p S (cost p S) is

  pub ties-answers : is_answer task S ≡ true
  ties-answers = best-answers p (asks Opt 0 false) S (cost p S) budget (start_of p (goal.Ties (just_above (cost p S))) budget) is refl

  -- and these are all optima
  pub optima-listed : listed task ≡ optima p
  optima-listed = ap (filter (lists task)) (answers-same p (asks Opt 0 false) budget) ∙ ties-optima p S (cost p S) is

-- the task of a stream at which nothing has happened
pub ties-task : (p : Program) (g : Goal) (c : List ℤ) (bound : Option (List ℤ)) (budget : ℕ) (s : Stream) → g ≡ goal.Ties bound → bound ≡ just_above c → IsStart p g budget s →
    s.ledger.task ≡ ties p c budget
ties-task p g c bound budget s goals above is =
    ap (λ (v : Booked). v.task) is.ledger ∙ ap (λ (h : Goal). let v : Booked = start_of p h budget in v.task) (goals ∙ ap (λ (d : Option (List ℤ)). let h : Goal = goal.Ties d in h) above)

-- the goal, by the bound that the search has
pub tied-goal : (p : Program) (c : List ℤ) (bound : Option (List ℤ)) (budget : ℕ) (t : Task) → t ≡ ties p c budget → bound ≡ just_above c → t.goal ≡ goal.Ties bound
tied-goal p c bound budget t same above =
    ap (λ (x : Task). x.goal) same ∙ ap (λ (d : Option (List ℤ)). let h : Goal = goal.Ties d in h) (sym above)

-- it may begin after the best was delivered, too
pub begun-delivered : (v w : Booked) (S : Atoms) → IsBegun v → w ≡ with_events v (event.Deliver 0 S ∷ []) → IsBegun w
begun-delivered v w S is now =
    let e : Event = event.Deliver 0 S in
    let b : board w ≡ happens (board v) e = ap board now ∙ board-with v e in
    record {
      idle = subst IsIdle (sym b) (record { free = is.idle.free; home = is.idle.home });
      pool = ap (λ (c : Board). c.pool) b ∙ is.pool ∙ sym (ap (λ (z : Booked). z.task.budget) now);
    }

pub delivered-some : (v w : Booked) (S : Atoms) → w ≡ with_events v (event.Deliver 0 S ∷ []) → 0 < length (board w).answers
delivered-some v w S now =
    let b : (board w).answers ≡ (board v).answers ++ S ∷ [] = ap (λ (z : Booked). (board z).answers) now ∙ ap (λ (c : Board). c.answers) (board-with v (event.Deliver 0 S)) in
    omega (arith, ap length b, length-append (board v).answers (S ∷ []))
