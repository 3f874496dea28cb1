-- The leaf of a query is closed.
use Rattle.std.proofs.Common.{◌≡◌, ℕ, true, List, [], ◌∷◌, None, refl, sym, ap, ◌∙◌}
use Rattle.std.specs.Prelude.{slice_get}
use Rattle.asp_model.specs.declared.results.Mode.TheVariants.{Enum}
use Rattle.asp_vars.specs.Conflicts.{has_all}
use Rattle.asp_vars.specs.Literals.{Literal}
use Rattle.asp_vars.specs.Paid.{Units}
use Rattle.asp_path.specs.declared.status.Status.TheVariants as status
use Rattle.asp_path.specs.Trees.{Node, cube_of, open_from, status_of, with_status}
use Rattle.asp_core.specs.declared.event.Event.{Event}
use Rattle.asp_core.specs.declared.event.Event.TheVariants as event
use Rattle.asp_core.specs.Boards.{Board, is_enough}
use Rattle.asp_core.specs.Events.{Guard, happens}
use Rattle.asp_core.specs.declared.task.Task.{Task}
use Rattle.asp_book.specs.Books.{Booked, board, with_events}
use Rattle.asp_search_laws.specs.Searching.{Searching}
use Rattle.asp_crew.specs.Running.{IsAlone, IsReady, OnlyRecords, status_after}
use Rattle.asp_crew.proofs.AddLaws.{adds-events, adds-self, adds-trans}
use Rattle.asp_crew.proofs.BookLaws.{board-with, ready-with}
use Rattle.asp_crew.proofs.FinishLaws.{IsBetween, IsTaken, between-next}
use Rattle.asp_query.specs.Turns.{ClosesAll, ClosesLeaf, IsAsking, IsThrough}
use Rattle.asp_query.proofs.TurnLaws.{not-enough}

-- ---- the leaf while answers are delivered
pub still_held : (v w : Booked) (leaf : ℕ) → OnlyRecords v w → status_of (board v).nodes leaf ≡ status.Held 0 → status_of (board w).nodes leaf ≡ status.Held 0
still_held v w leaf only held = ap (λ (n : List Node). status_of n leaf) only.nodes ∙ held

pub same_cube : (v w : Booked) (leaf : ℕ) (q : List Literal) → OnlyRecords v w → q ≡ cube_of (board v).nodes leaf → cube_of (board w).nodes leaf ≡ q
same_cube v w leaf q only is = ap (λ (n : List Node). cube_of n leaf) only.nodes ∙ sym is

-- ---- it is closed by literals of its cube
pub closes-by : (v w y : Booked) (leaf : ℕ) (q n : List Literal) (t : Searching) (g : Units) → IsThrough v w t g n →
    status_of (board v).nodes leaf ≡ status.Held 0 → q ≡ cube_of (board v).nodes leaf → has_all q n ≡ true →
    y ≡ with_events w (event.Close 0 leaf n ∷ []) → ClosesLeaf v y leaf t g
closes-by v w y leaf q n t g is held cube within now =
    let e : Event = event.Close 0 leaf n in
    let b : board y ≡ happens (board w) e = ap board now ∙ board-with w e in
    let guard : Guard (board w) e = (
      still_held v w leaf is.only held,
      ap (λ (x : List Literal). has_all x n) (same_cube v w leaf q is.only cube) ∙ within,
      is.settled,
    ) in
    let task : y.task ≡ w.task = ap (λ (x : Booked). x.task) now in
    let ready : IsReady Enum y t g = ready-with Enum w y t g e is.asking.ready guard refl now in
    record {
      asking = record {
        ready = ready;
        entered = is.asking.entered;
        learnt = is.asking.learnt;
        unlimited = ap (λ (x : Task). x.limit) task ∙ is.asking.unlimited;
        unbounded = is.asking.unbounded;
      };
      leaves = record {
        ready = ready;
        task = task ∙ is.only.task;
        adds = adds-trans v w y is.only.adds (adds-events w y (e ∷ []) now (refl, tt));
        nodes =
            ap (λ (c : Board). c.nodes) b ∙ ap (λ (xs : List Node). with_status xs leaf status.Closed) is.only.nodes
            ∙ ap (λ x. with_status (board v).nodes leaf (status_after None x)) (sym (ap is_enough b ∙ not-enough w is.asking.unlimited));
        out = ap (λ (c : Board). c.out) b ∙ is.only.out;
        pool = ap (λ (c : Board). c.pool) b ∙ is.only.pool;
        stopped = tt;
      };
    }

-- ---- all leaves
-- what holds between two leaves, from v on
pub record IsAmid (v w : Booked) (s : Searching) (f : Units) : Type 0 where
  pub between : IsBetween Enum v w s f
  pub asking : IsAsking w s f

pub amid-begins : (v : Booked) (s : Searching) (f : Units) → IsAsking v s f → IsAlone (board v) → IsAmid v v s f
amid-begins v s f is alone = record {
  between = record { ready = is.ready; alone = alone; task = refl; adds = adds-self v; pool = refl };
  asking = is;
}

pub asking-taken : (v w : Booked) (leaf : ℕ) (s : Searching) (f : Units) → IsAsking v s f → IsTaken Enum v w leaf s f → IsAsking w s f
asking-taken v w leaf s f is taken = record {
  ready = taken.ready;
  entered = is.entered;
  learnt = is.learnt;
  unlimited = ap (λ (x : Task). x.limit) taken.task ∙ is.unlimited;
  unbounded = is.unbounded;
}

pub amid-next : (u v w y : Booked) (leaf : ℕ) (s t : Searching) (f g : Units) → IsAmid u v s f → IsTaken Enum v w leaf s f → ClosesLeaf w y leaf t g → IsAmid u y t g
amid-next u v w y leaf s t f g is taken left = record { between = between-next Enum u v w y leaf s t f g is.between taken left.leaves; asking = left.asking }

none-open : (xs : List ℕ) → slice_get xs 0 ≡ None → xs ≡ []
none-open [] e = refl
none-open (x ∷ xs) e = absurd (let f : ⊥ = cc in f)

-- no leaf is open
pub amid-ends : (u v : Booked) (s : Searching) (f : Units) → IsAmid u v s f → slice_get (open_from 0 (board v).nodes) 0 ≡ None → ClosesAll u v s f
amid-ends u v s f is none = record {
  asking = is.asking;
  leaves = record {
    ready = is.between.ready;
    alone = is.between.alone;
    task = is.between.task;
    adds = is.between.adds;
    pool = is.between.pool;
    through = λ more. none-open (open_from 0 (board v).nodes) none;
  };
}
