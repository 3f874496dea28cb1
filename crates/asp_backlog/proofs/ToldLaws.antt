-- What was told and what waits, when a floor rises, an answer is delivered, and at the end.
use Rattle.std.proofs.Common.{◌≡◌, Bool, true, false, not, List, [], ◌∷◌, ◌++◌, filter, length, None, Some, refl, sym, ap, ◌∙◌, subst}
use Rattle.std.proofs.lemmas.Bool.{false≢true}
use mathlib.Core.List.{IsPrefix}
use Rattle.asp_model.specs.Models.{atoms_of}
use Rattle.asp_model.specs.Sets.{Atoms, IsAscending, IsBefore}
use Rattle.asp_model.proofs.OrderLaws.{cmp_from_before}
use Rattle.asp_core.specs.declared.event.Event.{Event}
use Rattle.asp_core.specs.declared.event.Event.TheVariants as event
use Rattle.asp_core.specs.declared.task.Task.{Task}
use Rattle.asp_core.specs.Boards.{Board, sought}
use Rattle.asp_core.specs.Events.{Guard, happens}
use Rattle.asp_core.specs.Invariant.{IsBoard}
use Rattle.asp_core.specs.Sorting.{sorted_once}
use Rattle.asp_core.proofs.SortingLaws.{sorted-rise}
use Rattle.asp_watermark.specs.Floors.{IsFloor, IsNoHigher, is_below, is_between, listed}
use Rattle.asp_watermark.proofs.BelowLaws.{goes-on, less-below, no_higher, sorted-filter}
use Rattle.asp_watermark.proofs.FloorLaws.{IsFloor-happens, passed-run}
use Rattle.asp_watermark.proofs.PartLaws.{passed-front, rest-follows}
use Rattle.asp_backlog.specs.Backlogs.{Pending, with_waiting}
use Rattle.asp_backlog.specs.Telling.{IsTold}
use Rattle.asp_backlog.proofs.BacklogLaws.{waiting-delivered}
use Rattle.asp_backlog.proofs.FilterLaws.{filter-both, filter-stronger}

-- ---- floors by their sets
pub before-below : (S x : Atoms) → IsAscending S → IsAscending x → IsBefore S x → is_below (Some x) S ≡ true
before-below S x s up before = less-below x S (cmp_from_before S x s up before)

pub rises : (x y : Atoms) → IsAscending x → IsAscending y → is_below (Some x) y ≡ false → IsNoHigher (Some x) (Some y)
rises x y up high above = no_higher x y up high (λ before. false≢true (sym above ∙ before-below y x high up before))

-- ---- events
-- an event that delivers nothing
pub told-happens : (b : Board) (e : Event) (heard : List Atoms) (w : Pending) → Guard b e → (happens b e).task ≡ b.task → (happens b e).answers ≡ b.answers →
    IsTold b heard w → IsTold (happens b e) heard w
told-happens b e heard w guard task answers is = record {
  atoms = is.atoms ∙ ap (λ (t : Task). atoms_of t.program) (sym task);
  floor = IsFloor-happens b e (Some w.floor) guard is.floor;
  heard_is = is.heard_is ∙ ap (λ (A : List Atoms). filter (is_below (Some w.floor)) (sorted_once A)) (sym answers);
  waiting = is.waiting ∙ ap (λ (A : List Atoms). sorted_once (filter (λ S. not (is_below (Some w.floor) S)) A)) (sym answers);
}

pub told-delivered : (b : Board) (S : Atoms) (heard : List Atoms) (w : Pending) → IsBoard b → sought b.task.goal ≡ None → Guard b (event.Deliver 0 S) →
    IsTold b heard w → IsTold (happens b (event.Deliver 0 S)) heard (record w { sets = with_waiting w.floor S w.sets })
told-delivered b S heard w is_board none guard is = record {
  atoms = is.atoms;
  floor = IsFloor-happens b (event.Deliver 0 S) (Some w.floor) guard is.floor;
  heard_is = is.heard_is ∙ sym (passed-run b (event.Deliver 0 S ∷ []) (Some w.floor) is_board (guard, tt) none is.floor);
  waiting = ap (with_waiting w.floor S) is.waiting ∙ waiting-delivered w.floor b.answers S;
}

-- ---- a floor that rises
pub told-raised : (b : Board) (heard : List Atoms) (w : Pending) (low : Atoms) → IsTold b heard w → IsFloor b (Some low) → is_below (Some w.floor) low ≡ false →
    IsTold b (heard ++ filter (is_below (Some low)) w.sets) (record w { floor = low; sets = filter (λ S. not (is_below (Some low) S)) w.sets })
told-raised b heard w low is higher above = record {
  atoms = is.atoms;
  floor = higher;
  heard_is =
      ap (λ (X : List Atoms). heard ++ filter (is_below (Some low)) X) waits
      ∙ ap (λ (X : List Atoms). heard ++ X) (filter-both (is_below (Some low)) under (sorted_once b.answers))
      ∙ ap (λ (X : List Atoms). X ++ filter (is_between (Some w.floor) (Some low)) (sorted_once b.answers)) is.heard_is
      ∙ sym (goes-on (Some w.floor) (Some low) up (sorted_once b.answers) (sorted-rise [] b.answers tt));
  waiting =
      ap (filter over) is.waiting ∙ sym (sorted-filter over (filter under b.answers))
      ∙ ap sorted_once (filter-stronger over under stronger b.answers);
}
  where
    under : Atoms → Bool
    under S = not (is_below (Some w.floor) S)

    over : Atoms → Bool
    over S = not (is_below (Some low) S)

    up : IsNoHigher (Some w.floor) (Some low)
    up = rises w.floor low is.floor.0 higher.0 above

    waits : w.sets ≡ filter under (sorted_once b.answers)
    waits = is.waiting ∙ sorted-filter under b.answers

    stronger : (S : Atoms) → over S ≡ true → under S ≡ true
    stronger S h = here (is_below (Some w.floor) S) refl
      where
        here : (x : Bool) → x ≡ is_below (Some w.floor) S → not x ≡ true
        here false q = refl
        here true q = absurd (false≢true (sym (ap not (up S (sym q))) ∙ h))

-- ---- what was heard
pub told-front : (b : Board) (heard : List Atoms) (w : Pending) → IsBoard b → sought b.task.goal ≡ None → IsTold b heard w → IsPrefix heard (listed b.task)
told-front b heard w is_board none is = subst (λ (L : List Atoms). IsPrefix L (listed b.task)) (sym is.heard_is) (passed-front b (Some w.floor) is_board none is.floor)

-- and what waits
pub told-all : (b : Board) (heard : List Atoms) (w : Pending) → IsBoard b → sought b.task.goal ≡ None → IsTold b heard w → heard ++ w.sets ≡ sorted_once b.answers
told-all b heard w is_board none is =
    rest-follows b heard w.sets is_board none (told-front b heard w is_board none is) (record {
      floor = Some w.floor;
      is = is.floor;
      count = ap length (sym is.heard_is);
      sets_are = is.waiting ∙ sorted-filter (λ S. not (is_below (Some w.floor) S)) b.answers;
    })
