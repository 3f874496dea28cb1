-- A worker on its path, after what a step asked for.
use Rattle.std.proofs.Common.{◌≡◌, ℕ, List, Some, sym, ap, ◌∙◌, subst}
use Rattle.std.specs.Prelude.{slice_index_or, false}
use Rattle.asp_model.specs.declared.program.Program.{Program}
use Rattle.asp_model.specs.declared.results.Mode.{Mode}
use Rattle.asp_vars.specs.Literals.{Literal}
use Rattle.asp_vars.specs.Paid.{Units}
use Rattle.asp_vault.specs.Seats.{view}
use Rattle.asp_path.specs.declared.status.Status.TheVariants as status
use Rattle.asp_path.specs.Trees.{Node, nowhere, cube_of}
use Rattle.asp_pool.specs.Pools.{IsOfPool}
use Rattle.asp_core.specs.Events.{has_var, IsVariable}
use Rattle.asp_search.specs.Beside.{IsOpen}
use Rattle.asp_book.specs.Calls.{Knows, task_of, seen_board}
use Rattle.asp_search_laws.specs.Searching.{Searching}
use Rattle.asp_slots.specs.declared.shelf.ShelfSeat.{ShelfSeat}
use Rattle.asp_worker.specs.declared.worker.Worker.{Worker}
use Rattle.asp_worker.specs.declared.worker.Shared.{Shared}
use Rattle.asp_worker.specs.Seats.{Behaves, Idles, Passes, Leases, IsReady, Keeps}
use Rattle.asp_worker.specs.Sharing.{TakesOver}
use Rattle.asp_worker.specs.Working.{GoesOn, IsOn, IsOff}
use Rattle.asp_worker.proofs.SeatLaws.{holds-idles, cube-idles, holds-leases, cube-leases, idles-passes, behaves-self, ready-seat}
use Rattle.asp_worker.proofs.GoingLaws.{owes-of, goes-on, owes-on}
use Rattle.asp_worker.proofs.SharingLaws.{refreshed-goes, refreshed-cube}

-- what others found was taken over
pub refreshed-on : (m : Mode) (v w : Knows) (t r : Searching) (u : Units) (leaf : ℕ) (pages : ShelfSeat) (from : ℕ) → IsOn m v t u leaf → Idles v w →
    TakesOver m (seen_board w) pages from t r → IsOn m w r u leaf
refreshed-on m v w t r u leaf pages from on i e = record {
  going = refreshed-goes m v w t r u pages from on.going i e;
  works = record {
    held = holds-idles v w leaf on.works.held i;
    entered = refreshed-cube m w t r pages from e ∙ on.works.entered ∙ ap (λ (q : List Literal). Some q) (sym (cube-idles v w leaf on.works.held i));
  };
}

-- memory was wanting, and the number left its leaves and units alone
pub idled-off : (m : Mode) (v w : Knows) (s : Searching) (u x : Units) (leaf : ℕ) → IsOn m v s u leaf → Idles v w → x ≡ u → IsOff w x leaf
idled-off m v w s u x leaf on i e =
    subst (λ (y : Units). IsOff w y leaf) (sym e)
    (record { held = holds-idles v w leaf on.works.held i; units = owes-on v w u (owes-of on.going) (idles-passes v w i) })

-- units were leased
pub leased-on : (m : Mode) (v w : Knows) (s t : Searching) (u x : Units) (leaf : ℕ) → IsOn m v s u leaf → Leases v w → t ≡ s → GoesOn m w t x → IsOn m w t x leaf
leased-on m v w s t u x leaf on l e g = record {
  going = g;
  works = record {
    held = holds-leases v w leaf on.works.held l;
    entered = ap (λ (y : Searching). y.cube) e ∙ on.works.entered ∙ ap (λ (q : List Literal). Some q) (sym (cube-leases v w leaf on.works.held l));
  };
}

pub leased-off : (m : Mode) (v w : Knows) (s t : Searching) (u x : Units) (leaf : ℕ) → IsOn m v s u leaf → Leases v w → GoesOn m w t x → IsOff w x leaf
leased-off m v w s t u x leaf on l g = record { held = holds-leases v w leaf on.works.held l; units = owes-of g }

-- the number did something, but the leaf is as it was
pub kept-on : (m : Mode) (v w : Knows) (s : Searching) (u : Units) (leaf : ℕ) → IsOn m v s u leaf → Passes v w →
    slice_index_or (seen_board w).nodes leaf nowhere ≡ slice_index_or (seen_board v).nodes leaf nowhere → IsOn m w s u leaf
kept-on m v w s u leaf on p same = record {
  going = goes-on m v w s u on.going p;
  works = record {
    held = ap (λ (x : Node). x.status) same ∙ on.works.held ∙ ap status.Held (sym p.stays.number);
    entered = on.works.entered ∙ ap (λ (x : Node). Some x.cube) (sym same);
  };
}

-- the worker with another seat at the log
pub ready-pages : (c : Shared) (h k : Worker) → IsReady c h → Keeps h k → IsOfPool c.pool k.pass → view k.seat ≡ view h.seat → IsReady c k
ready-pages c h k r keeps pool same = ready-seat c h k r keeps pool (subst (λ (v : Knows). Behaves (view h.seat) v) (sym same) (behaves-self (view h.seat) r.settled))

-- a literal that is open for the search may split the path
pub open-lit : (m : Mode) (v : Knows) (s : Searching) (u : Units) (leaf : ℕ) (l : Literal) → IsOn m v s u leaf → ((q : List Literal) → s.cube ≡ Some q → IsOpen s.program q l) →
    IsVariable (task_of v).program l.var × (has_var (cube_of (seen_board v).nodes leaf) l.var ≡ false)
open-lit m v s u leaf l on h = let opens : IsOpen s.program (cube_of (seen_board v).nodes leaf) l =
    h (cube_of (seen_board v).nodes leaf) on.works.entered in (subst (λ (p : Program). IsVariable p l.var) on.going.program opens.0, opens.1)
