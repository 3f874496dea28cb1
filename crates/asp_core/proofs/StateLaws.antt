-- Each event keeps the state.
use Rattle.std.proofs.Common.{◌≡◌, ◌+◌, ◌<◌, ◌≤◌, length, sym, ap, ◌∙◌, subst}
use Rattle.std.specs.Vec.{vec_capacity}
use Rattle.asp_path.specs.Trees.{held_count}
use Rattle.std.specs.Option.{IfSome}
use Rattle.std.specs.Prelude.{IsTrue}
use Rattle.std.proofs.lemmas.Bool.{and_parts}
use Rattle.asp_model.specs.declared.program.Program.{Program}
use Rattle.asp_model.specs.Costs.{cost}
use Rattle.asp_model.specs.Models.{atoms_of, is_stable}
use Rattle.asp_model.specs.Holding.{all_hold}
use Rattle.asp_model.specs.Sets.{Atoms}
use Rattle.asp_model.proofs.ModelLaws.{stable-subset}
use Rattle.asp_rows.specs.Bits.{IsAmong}
use Rattle.asp_core.specs.declared.task.Task.{Task}
use Rattle.asp_model.specs.Sound.{IsSound}
use Rattle.asp_core.specs.declared.event.Event.{Event}
use Rattle.asp_core.specs.declared.state.State.TheInside.{Inside}
use Rattle.asp_core.specs.Boards.{Board, is_answer, sought, wanted}
use Rattle.asp_core.specs.Events.{Guard, happens}
use Rattle.asp_core.specs.Invariant.{IsBoard}
use Rattle.asp_core.specs.Stored.{AreDifferent, answers_in, board_of, IsSeen, IsState, seed_of}
use Rattle.asp_core.proofs.BoardLaws.{IsBoard-happens}

-- from i to j by an event, which may happen at the value seen
pub IsState-happens : (i j : Inside) (seen : Board) (e : Event) → IsState i → board_of i ≡ seen → Guard seen e → board_of j ≡ happens (board_of i) e →
    j.program.value ≡ i.program.value → j.prices ≡ i.prices → j.answers.atoms ≡ i.answers.atoms →
    IfSome j.best (λ x. x.1 ≡ cost j.program.value x.0) →
    (0 < j.limit → AreDifferent (atoms_of j.program.value) j.different.keys (answers_in (sought j.goal) j.answers.sets j.told.items)) →
    IsSeen j.goal (sought j.goal) j.program.value j.known j.answers.sets j.told.items j.atoms.items → j.seed ≡ seed_of j.goal j.program.value →
    length j.reasons.items + held_count j.tree ≤ vec_capacity j.reasons → IsState j
IsState-happens i j at e is view guard now same prices among costed sorted seen seeded room =
    let May : Board → Type 0 = λ x. Guard x e in
    record {
      board = subst IsBoard (sym now) (IsBoard-happens (board_of i) e is.board (subst May (sym view) guard));
      priced = ap (λ (p : Program). p.minimize) prices ∙ is.priced ∙ ap (λ (p : Program). p.minimize) (sym same);
      sound = subst IsSound (sym prices) is.sound;
      costed = costed;
      sorted = sorted;
      seen = seen;
      seeded = seeded;
      among = among ∙ is.among ∙ ap atoms_of (sym same);
      room = room;
    }

-- an answer's atoms stand in the program
pub answer-among : (t : Task) (S : Atoms) → IsTrue (is_answer t S) → IsAmong (atoms_of t.program) S
answer-among t S h =
    let parts = stable-subset t.program S (and_parts (is_stable t.program S) (all_hold S (wanted t)) h).0 in
    record { rising = parts.0; stand = parts.1 }
