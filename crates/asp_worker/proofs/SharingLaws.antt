-- What a search takes over from the log, and gives to it.
use Rattle.std.proofs.Common.{◌≡◌, ℕ, ◌+◌, ◌<◌, Bool, true, false, List, [], ◌∷◌, ◌++◌, length, take, Option, Some, refl, sym, ap, ◌∙◌, subst}
use Rattle.std.specs.Prelude.{slice_get, MatchBool, All}
use Rattle.std.proofs.lemmas.List.{take_more}
use Rattle.std.proofs.lemmas.Option.{get_or_from_slice_get}
use Rattle.asp_store.specs.declared.stored_nogood.StoredNogood.{StoredNogood}
use Rattle.asp_model.specs.declared.program.Program.{Program}
use Rattle.asp_model.specs.declared.results.Mode.{Mode}
use Rattle.asp_vars.specs.declared.nogood.Nogood.{Nogood}
use Rattle.asp_vars.specs.Literals.{Literal}
use Rattle.asp_vars.specs.Paid.{Units}
use Rattle.asp_log.specs.Entries.{IsEntry}
use Rattle.asp_path.specs.Trees.{cube_of}
use Rattle.asp_book.specs.Calls.{Knows, seen_board}
use Rattle.asp_search.specs.Beside.{Enters, Imports, Leaves, IsShared}
use Rattle.asp_search_laws.specs.Searching.{Searching}
use Rattle.asp_search_laws.specs.Steps.{is_of_use}
use Rattle.asp_slots.specs.declared.shelf.Shelf.{Shelf}
use Rattle.asp_slots.specs.declared.shelf.ShelfSeat.{ShelfSeat}
use Rattle.asp_slots.specs.Shelves.{program_of, seen_count, AreRead}
use Rattle.asp_slots.proofs.ShelfLaws.{none-read}
use Rattle.asp_worker.specs.Seats.{Idles, Holds}
use Rattle.asp_worker.specs.Sharing.{ImportsIf, ImportsAll, ImportsNew, TakesOver, Remembers}
use Rattle.asp_worker.specs.Working.{GoesOn, IsOn}
use Rattle.asp_worker.proofs.SeatLaws.{holds-idles, cube-idles, idles-passes}
use Rattle.asp_worker.proofs.GoingLaws.{goes-same, goes-on, best-goes, best-cube}

-- ---- entries of the log, and nogoods of a search
pub shared-entry : (p : Program) (n : Nogood) → IsShared p n → IsEntry p n
shared-entry p n s = record { variables = s.variables; shared = s.shared }

-- the program of the log is the search's
pub log-entry : (c : Shelf) (p : Program) (n : Nogood) → program_of c ≡ p → IsShared p n → IsEntry (program_of c) n
log-entry c p n e s = subst (λ (q : Program). IsEntry q n) (sym e) (shared-entry p n s)

-- ---- one nogood after another
imports-only : (s t : Searching) (n : Nogood) → ImportsIf s t n → t ≡ record s { slots = t.slots }
imports-only s t n h = here (is_of_use s.mode s.bound n.base) h
  where
    here : (b : Bool) → MatchBool b (Imports s t n) (t ≡ s) → t ≡ record s { slots = t.slots }
    here true h = h.same
    here false h = h ∙ ap (λ (l : List (Option StoredNogood)). record s { slots = l }) (sym (ap (λ (x : Searching). x.slots) h))

-- nothing has changed but what is kept
pub slots-only : (xs : List Nogood) (s t : Searching) → ImportsAll xs s t → t ≡ record s { slots = t.slots }
slots-only [] s t h = h ∙ ap (λ (l : List (Option StoredNogood)). record s { slots = l }) (sym (ap (λ (x : Searching). x.slots) h))
slots-only (n ∷ xs) s t h = slots-only xs h.0 t h.2 ∙ ap (λ (x : Searching). record x { slots = t.slots }) (imports-only s h.0 n h.1)

pub imports-push : (xs : List Nogood) (n : Nogood) (s t u : Searching) → ImportsAll xs s t → ImportsIf t u n → ImportsAll (xs ++ n ∷ []) s u
imports-push [] n s t u h k = (u, subst (λ (x : Searching). ImportsIf x u n) h k, refl)
imports-push (m ∷ xs) n s t u h k = (h.0, h.1, imports-push xs n h.0 t u h.2 k)

pub imports-by : (s t : Searching) (n : Nogood) (b : Bool) → b ≡ is_of_use s.mode s.bound n.base → MatchBool b (Imports s t n) (t ≡ s) → ImportsIf s t n
imports-by s t n b e h = subst (λ x. MatchBool x (Imports s t n) (t ≡ s)) e h

-- ---- a path is begun
pub entered-goes : (m : Mode) (v : Knows) (s t : Searching) (u : Units) (q : List Literal) → GoesOn m v s u → Enters s t q → GoesOn m v t u
entered-goes m v s t u q g e =
    goes-same m v s t u (ap (λ (x : Searching). x.program) e.same) (ap (λ (x : Searching). x.mode) e.same) (ap (λ (x : Searching). x.known) e.same) (ap (λ (x : Searching). x.bound) e.same) g

pub refreshed-goes : (m : Mode) (v w : Knows) (s t : Searching) (u : Units) (pages : ShelfSeat) (from : ℕ) → GoesOn m v s u → Idles v w → TakesOver m (seen_board w) pages from s t → GoesOn m w t u
refreshed-goes m v w s t u pages from g i e =
    let same : t ≡ record e.between { slots = t.slots } = slots-only e.imported.entries e.between t e.imported.imported in
    goes-same m w e.between t u (ap (λ (x : Searching). x.program) same) (ap (λ (x : Searching). x.mode) same) (ap (λ (x : Searching). x.known) same)
    (ap (λ (x : Searching). x.bound) same) (best-goes m w s e.between u (goes-on m v w s u g (idles-passes v w i)) e.best)

pub refreshed-cube : (m : Mode) (w : Knows) (s t : Searching) (pages : ShelfSeat) (from : ℕ) → TakesOver m (seen_board w) pages from s t → t.cube ≡ s.cube
refreshed-cube m w s t pages from e = ap (λ (x : Searching). x.cube) (slots-only e.imported.entries e.between t e.imported.imported) ∙ best-cube m (seen_board w) s e.between e.best

-- the path of a leaf that is held, after it was entered at x and what others found was taken over at w
pub begun-on : (m : Mode) (v x w : Knows) (s t r : Searching) (u : Units) (leaf : ℕ) (pages : ShelfSeat) (from : ℕ) → GoesOn m v s u → Holds v leaf →
    Idles v x → Enters s t (cube_of (seen_board x).nodes leaf) → Idles x w → TakesOver m (seen_board w) pages from t r → IsOn m w r u leaf
begun-on m v x w s t r u leaf pages from g held i enters j e =
    let held-x : Holds x leaf = holds-idles v x leaf held i in
    record {
      going = refreshed-goes m x w t r u pages from (entered-goes m x s t u (cube_of (seen_board x).nodes leaf) (goes-on m v x s u g (idles-passes v x i)) enters) j e;
      works = record {
        held = holds-idles x w leaf held-x j;
        entered = refreshed-cube m w t r pages from e ∙ ap (λ (y : Searching). y.cube) enters.same ∙ ap (λ (q : List Literal). Some q) (sym (cube-idles x w leaf held-x j));
      };
    }

-- ---- reading the log
pub all-at : {X : Type 0} (P : X → Type 0) (xs : List X) (i : ℕ) (x : X) → All P xs → i < length xs → slice_get xs i ≡ Some x → P x
all-at P xs i x all lt at = subst P (get_or_from_slice_get xs i x x at) (all i x lt)

pub take-next : {X : Type 0} (xs : List X) (i : ℕ) (x : X) → i < length xs → slice_get xs i ≡ Some x → take (i + 1) xs ≡ take i xs ++ x ∷ []
take-next xs i x lt at = take_more xs i x lt ∙ ap (λ y. take i xs ++ y ∷ []) (get_or_from_slice_get xs i x x at)

pub forgotten-after : (xs : List Nogood) (s t u : Searching) → ImportsAll xs s t → Remembers t u → Remembers s u
forgotten-after xs s t u h f =
    let same : t ≡ record s { slots = t.slots } = slots-only xs s t h in
    record {
      program = f.program ∙ ap (λ (x : Searching). x.program) same;
      mode_is = f.mode_is ∙ ap (λ (x : Searching). x.mode) same;
      known = f.known ∙ ap (λ (x : Searching). x.known) same;
      bound = f.bound ∙ ap (λ (x : Searching). x.bound) same;
    }

pub forgotten-leaves : (s t : Searching) → Leaves s t → Remembers s t
forgotten-leaves s t gone = record {
  program = ap (λ (x : Searching). x.program) gone;
  mode_is = ap (λ (x : Searching). x.mode) gone;
  known = ap (λ (x : Searching). x.known) gone;
  bound = ap (λ (x : Searching). x.bound) gone;
}

-- ---- what is new in the log
-- the entries that were read, where the log's program is the search's
pub read-for : (c : Shelf) (p : Program) (pages : ShelfSeat) (from : ℕ) (xs : List Nogood) → program_of c ≡ p → AreRead (program_of c) pages from xs → AreRead p pages from xs
read-for c p pages from xs e r = subst (λ (q : Program). AreRead q pages from xs) e r

-- nothing was new
pub none-new : (s : Searching) (pages : ShelfSeat) (from : ℕ) → from ≡ seen_count pages → ImportsNew pages from s s
none-new s pages from e = record { entries = []; read = none-read s.program pages from e; imported = refl }
