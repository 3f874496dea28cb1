-- A book after one event more.
use Rattle.std.proofs.Common.{◌≡◌, ℕ, ◌+◌, ◌-◌, ◌≤◌, max, Bool, true, false, cond, ◌||◌, inl, inr, List, [], ◌∷◌, ◌++◌, length, Option, Some, None, sym, ap, ◌∙◌, subst, arith}
use Rattle.std.specs.Prelude.{ℤ}
use Rattle.std.specs.Option.{IfSome, is_some}
use Rattle.std.proofs.lemmas.Bool.{or_cases}
use Rattle.std.specs.Vec.{vec_capacity}
use Rattle.asp_model.specs.Costs.{betters}
use Rattle.asp_vars.specs.Paid.{Units, least_of}
use Rattle.asp_vars.specs.Resolution.{smaller}
use Rattle.asp_core.specs.declared.event.Event.{Event}
use Rattle.asp_core.specs.declared.event.Event.TheVariants as event
use Rattle.asp_core.specs.declared.task.Task.{Task}
use Rattle.asp_core.specs.Boards.{Board, start, sought, IsBoundOf}
use Rattle.asp_core.specs.Events.{Guard, happens, replay}
use Rattle.asp_core.specs.Growth.{Grows}
use Rattle.asp_core.specs.Invariant.{IsBoard}
use Rattle.asp_core.specs.Units.{out_of}
use Rattle.asp_core.proofs.UnitLaws.{out_of-le-total}
use Rattle.asp_core.proofs.HeldLaws.{run-push, IsLawful-push}
use Rattle.asp_core.proofs.GrowthLaws.{Grows-happens}
use Rattle.asp_book.specs.declared.book.Book.TheInside.{Inside}
use Rattle.asp_book.specs.Books.{Booked, board, IsJournalOf}
use Rattle.asp_book.specs.Fuels.{Fits, IsOwnFuel, places_of}
use Rattle.asp_book.specs.Stored.{booked_of, IsStored}

bounds-grow : (b c : Board) (o : Option (List ℤ)) → Grows b c → IfSome o (IsBoundOf b) → IfSome o (IsBoundOf c)
bounds-grow b c None g h = tt
bounds-grow b c (Some d) g h = g.bounds d h

pub Fits-grows : (b c : Board) (u : Units) → Grows b c → Fits b u → Fits c u
Fits-grows b c u g fits = record {
  program = fits.program ∙ ap (λ (t : Task). t.program) (sym g.task);
  reasoned = λ e. ap (λ (t : Task). is_some (sought t.goal)) g.task ∙ fits.reasoned e;
  known = omega (arith, fits.known, g.known);
  least = bounds-grow b c u.least g fits.least;
}

-- an event that moves no unit
pub IsOwnFuel-happens : (b c : Board) (e : Event) (u : Units) → Guard b e → c ≡ happens b e → (happens b e).pool ≡ b.pool → (happens b e).burnt ≡ b.burnt → IsOwnFuel b u → IsOwnFuel c u
IsOwnFuel-happens b c e u guard now pool burnt is = subst (λ (x : Board). IsOwnFuel x u) (sym now) (record {
  fits = Fits-grows b (happens b e) u (Grows-happens b e guard) is.fits;
  left = is.left ∙ sym pool;
  burnt = is.burnt ∙ sym burnt;
})

-- from i to j by an event
pub IsStored-happens : (i j : Inside) (e : Event) → IsStored i → Guard i.state.value e → j.state.value ≡ happens i.state.value e → j.journal.items ≡ i.journal.items ++ e ∷ []
    → IsOwnFuel j.state.value j.fuel → j.places ≡ places_of j.state.value → length j.journal.items + j.places ≤ vec_capacity j.journal → IsStored j
IsStored-happens i j e is guard now items fuel places room =
    let task : j.state.value.task ≡ i.state.value.task = ap (λ (b : Board). b.task) now ∙ (Grows-happens i.state.value e guard).task in
    let may : Guard (replay i.state.value.task i.journal.items) e = subst (λ (b : Board). Guard b e) is.state guard in
    let lawful : IsJournalOf i.state.value.task (i.journal.items ++ e ∷ []) = IsLawful-push (start i.state.value.task) i.journal.items e is.lawful may in
    record {
      state = now ∙ ap (λ (b : Board). happens b e) is.state ∙ sym (run-push (start i.state.value.task) i.journal.items e) ∙ (λ k. replay (sym task k) (sym items k));
      lawful = subst (λ (t : Task). IsJournalOf t j.journal.items) (sym task) (subst (IsJournalOf i.state.value.task) (sym items) lawful);
      fuel = fuel;
      places = places;
      room = room;
    }

-- what the calls ask of the board, they ask of the state
pub state-is : (i : Inside) (b : Booked) → IsStored i → booked_of i ≡ b → i.state.value ≡ board b
state-is i b is view = is.state ∙ ap board view

-- ---- events that move units
pub IsOwnFuel-lease : (b c : Board) (s n : ℕ) (u v : Units) → c ≡ happens b (event.Lease s n) → v ≡ record u { left = u.left - n } → IsOwnFuel b u → IsOwnFuel c v
IsOwnFuel-lease b c s n u v now part is = subst (λ (x : Board). IsOwnFuel x v) (sym now) (subst (IsOwnFuel (happens b (event.Lease s n))) (sym part) (record {
  fits = record { program = is.fits.program; reasoned = is.fits.reasoned; known = is.fits.known; least = is.fits.least };
  left = ap (λ k. k - n) is.left;
  burnt = is.burnt;
}))

smaller-of : (P : List ℤ → Type 0) (c d : List ℤ) → P c → P d → P (smaller c d)
smaller-of P c d p q = here (betters d c)
  where
    here : (b : Bool) → P (cond b d c)
    here true = q
    here false = p

least-of : (P : List ℤ → Type 0) (a b : Option (List ℤ)) → IfSome a P → IfSome b P → IfSome (least_of a b) P
least-of P None b p q = q
least-of P (Some c) None p q = p
least-of P (Some c) (Some d) p q = smaller-of P c d p q

pub IsOwnFuel-back : (b c : Board) (s left burnt : ℕ) (u v w : Units) → c ≡ happens b (event.Back s left burnt) → left ≡ v.left → burnt ≡ v.burnt
    → w ≡ record {
      program = u.program;
      left = u.left + v.left;
      burnt = u.burnt + v.burnt;
      reasoned = u.reasoned || v.reasoned;
      known =
          max u.known v.known;
      least = least_of u.least v.least;
    } → Fits b v → IsOwnFuel b u → IsOwnFuel c w
IsOwnFuel-back b c s left burnt u v w now l r merged fits is =
    subst (λ (x : Board). IsOwnFuel x w) (sym now) (subst (IsOwnFuel (happens b (event.Back s left burnt))) (sym merged) (record {
      fits = record {
        program = is.fits.program;
        reasoned = λ e. elim (or_cases u.reasoned v.reasoned e) [ inl a ↦ is.fits.reasoned a | inr a ↦ fits.reasoned a ];
        known = omega (arith, is.fits.known, fits.known);
        least = least-of (IsBoundOf b) u.least v.least is.fits.least fits.least;
      };
      left = omega (arith, is.left, l);
      burnt = omega (arith, is.burnt, r);
    }))

-- what is left and burnt, here and in a fuel that comes back, is at most the budget
pub units-fit : (b : Board) (s : ℕ) (u v : Units) → IsBoard b → IsOwnFuel b u → v.left + v.burnt ≡ out_of b.out s → u.left + u.burnt + v.left + v.burnt ≤ b.task.budget
units-fit b s u v is own back = omega (arith, is.units, own.left, own.burnt, back, out_of-le-total s b.out)
