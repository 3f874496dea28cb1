-- Numbers whose seats came back to the first: what they left behind stands in what the first has seen.
use Rattle.std.proofs.Common.{◌≡◌, ℕ, zero, suc, ◌+◌, Bool, true, false, cond, leb, List, [], ◌∷◌, ◌++◌, length, Option, Some, refl, sym, ap, ◌∙◌, subst, arith, length-append}
use mathlib.Core.List.{IsPrefix}
use mathlib.Core.Option.{none, some}
use Rattle.std.specs.Prelude.{unwrap_or}
use lib.ListN.{get_elem?}
use Rattle.asp_vault.specs.Makers.{placed, of_number, named, NoneBy}
use Rattle.asp_vault.specs.declared.view.View.{View}
use Rattle.asp_vault.specs.Seats.{view, IsBeside}
use Rattle.asp_vault.specs.Rules.{longer, merged, Guests}
use Rattle.asp_vault.proofs.Filters.{of_more, none_if}
use Rattle.asp_core.specs.declared.event.Event.{Event}
use Rattle.asp_core.specs.declared.task.Task.{Task}
use Rattle.asp_core.specs.Units.{out_of}
use Rattle.asp_core.specs.Boards.{start}
use Rattle.asp_core.specs.Events.{held_by, run, replay}
use Rattle.asp_core.specs.Growth.{Spares}
use Rattle.asp_core.proofs.GrowthLaws.{Spares-run}
use Rattle.asp_book.specs.Books.{signed, IsJournalOf}
use Rattle.asp_book.specs.Calls.{Knows, no_task, task_of, seen_board}
use Rattle.asp_book.proofs.CallLaws.{others-are, run-append, lawful-rest}
use Rattle.asp_crew_laws.specs.Gone.{IsGone}
use Rattle.asp_slots.specs.Shelves.{IsAt, IsFirst}
use Rattle.asp_worker.specs.declared.worker.Shared.{Shared}
use Rattle.asp_worker.specs.Seats.{IsRun, IsIdle}
use Rattle.asp_team.proofs.GoneLaws.{gone-prefix}
use Rattle.asp_team.specs.declared.lead.Lead.{Lead}
use Rattle.asp_team.specs.Joined.{IsHome, IsLead, Joins, LeftBy}

-- ---- a number did nothing since
none-more : {A : Type 0} (xs ys : List A) → xs ≡ xs ++ ys → ys ≡ []
none-more xs [] e = refl
none-more xs (y ∷ ys) e = absurd (omega (arith, ap length e, length-append xs (y ∷ ys)))

pub since-none : (n : ℕ) (xs ys : List Event) (own : List (ℕ × Event)) (p : IsPrefix xs ys) → of_number signed n (placed 0 xs) ≡ named signed own →
    of_number signed n (placed 0 ys) ≡ named signed own → NoneBy signed n p.0
since-none n xs ys own p h k =
    none_if signed n (length xs) p.0
    (none-more (of_number signed n (placed 0 xs)) (of_number signed n (placed (length xs) p.0))
    (h ∙ sym k ∙ ap (λ (l : List Event). of_number signed n (placed 0 l)) (sym p.1) ∙ of_more signed n xs p.0))

-- so it has what it had
pub spares-later : (t : Task) (n : ℕ) (xs ys : List Event) (p : IsPrefix xs ys) → IsJournalOf t ys → NoneBy signed n p.0 → Spares n (replay t xs) (replay t ys)
spares-later t n xs ys p lawful idle =
    let whole : IsJournalOf t (xs ++ p.0) = subst (IsJournalOf t) (sym p.1) lawful in
    subst (Spares n (replay t xs)) (sym (run-append (start t) xs p.0) ∙ ap (replay t) p.1)
    (Spares-run (replay t xs) p.0 n (lawful-rest (start t) xs p.0 whole) (others-are n p.0 idle))

-- of two lawful journals the longer is one
pub longer-lawful : (t : Task) (xs ys : List Event) → IsJournalOf t xs → IsJournalOf t ys → IsJournalOf t (longer xs ys)
longer-lawful t xs ys h k = here (leb (length ys) (length xs))
  where
    here : (b : Bool) → IsJournalOf t (cond b xs ys)
    here true = h
    here false = k

-- ---- lists of guests
pub place-kept : {X : Type 0} (xs ys : List X) (k : ℕ) (x : X) → get_elem? xs k ≡ some x → get_elem? (xs ++ ys) k ≡ some x
place-kept [] ys k x e = absurd (none_some e)
  where
    none_some : {X : Type 0} {x : X} → none ≡ some x → ⊥
    none_some e = cc
place-kept (y ∷ xs) ys zero x e = e
place-kept (y ∷ xs) ys (suc k) x e = place-kept xs ys k x e

pub place-last : {X : Type 0} (xs : List X) (x : X) → get_elem? (xs ++ x ∷ []) (length xs) ≡ some x
place-last [] x = refl
place-last (y ∷ xs) x = place-last xs x

-- ---- a seat is joined
module _ (v u w : Knows) (same : u.about ≡ v.about) (is : w ≡ merged v u) (begins : IsPrefix v.seen w.seen × IsPrefix u.seen w.seen)
    (guests : Guests signed w w.seen) (lawful : IsJournalOf (task_of v) v.seen) where
  task-same : task_of w ≡ task_of v
  task-same = ap (λ (x : Knows). task_of x) is

  task-other : task_of w ≡ task_of u
  task-other = task-same ∙ ap (λ (o : Option Task). unwrap_or o no_task) (sym same)

  pub joined-lawful : IsJournalOf (task_of u) u.seen → IsJournalOf (task_of w) w.seen
  joined-lawful other =
      subst (λ (t : Task). IsJournalOf t w.seen) (sym task-same)
      (subst (IsJournalOf (task_of v)) (sym (ap (λ (x : Knows). x.seen) is))
      (longer-lawful (task_of v) v.seen u.seen lawful (subst (λ (t : Task). IsJournalOf t u.seen) (sym task-other ∙ task-same) other)))

  guests-are : w.guests ≡ v.guests ++ (u.number, u.own) ∷ []
  guests-are = ap (λ (x : Knows). x.guests) is

  pub still-home : IsJournalOf (task_of u) u.seen → (n : ℕ) → IsHome v n → IsHome w n
  still-home other n h =
      let at : get_elem? w.guests h.place ≡ some (n, h.own) =
      subst (λ (gs : List (ℕ × List (ℕ × Event))). get_elem? gs h.place ≡ some (n, h.own)) (sym guests-are) (place-kept v.guests ((u.number, u.own) ∷ []) h.place (n, h.own) h.guest) in
      let stands : of_number signed n (placed 0 w.seen) ≡ named signed h.own = guests h.place (n, h.own) at in
      let law : IsJournalOf (task_of v) w.seen = subst (λ (t : Task). IsJournalOf t w.seen) task-same (joined-lawful other) in
      let s : Spares n (replay (task_of v) v.seen) (replay (task_of v) w.seen) = spares-later (task_of v) n v.seen w.seen begins.0 law (since-none n v.seen w.seen h.own begins.0 h.stands stands) in
      record {
        place = h.place;
        own = h.own;
        guest = at;
        stands = stands;
        free = ap (λ (t : Task). held_by n (replay t w.seen).nodes) task-same ∙ s.count ∙ h.free;
        home = ap (λ (t : Task). out_of (replay t w.seen).out n) task-same ∙ s.units ∙ h.home;
      }

  pub still-gone : IsJournalOf (task_of u) u.seen → (n : ℕ) → IsHome v n → (s short : Bool) → (s ≡ true → short ≡ true) →
      (never : Bool) (begun : List Event) → LeftBy v s never begun n → LeftBy w short never begun n
  still-gone other n h s short more never begun g =
      let at : get_elem? w.guests h.place ≡ some (n, h.own) =
      subst (λ (gs : List (ℕ × List (ℕ × Event))). get_elem? gs h.place ≡ some (n, h.own)) (sym guests-are) (place-kept v.guests ((u.number, u.own) ∷ []) h.place (n, h.own) h.guest) in
      let law : IsJournalOf (task_of v) w.seen = subst (λ (t : Task). IsJournalOf t w.seen) task-same (joined-lawful other) in
      subst (λ (t : Task). IsGone t short never n begun w.seen) (sym task-same)
      (gone-prefix (task_of v) n v.seen w.seen begins.0 law (since-none n v.seen w.seen h.own begins.0 h.stands (guests h.place (n, h.own) at)) s short never more begun g)

  pub came-home : IsJournalOf (task_of u) u.seen → of_number signed u.number (placed 0 u.seen) ≡ named signed u.own →
      held_by u.number (seen_board u).nodes ≡ 0 → out_of (seen_board u).out u.number ≡ 0 → IsHome w u.number
  came-home other own free home =
      let at : get_elem? w.guests (length v.guests) ≡ some (u.number, u.own) =
      subst (λ (gs : List (ℕ × List (ℕ × Event))). get_elem? gs (length v.guests) ≡ some (u.number, u.own)) (sym guests-are) (place-last v.guests (u.number, u.own)) in
      let stands : of_number signed u.number (placed 0 w.seen) ≡ named signed u.own = guests (length v.guests) (u.number, u.own) at in
      let law : IsJournalOf (task_of u) w.seen = subst (λ (t : Task). IsJournalOf t w.seen) task-other (joined-lawful other) in
      let s : Spares u.number (replay (task_of u) u.seen) (replay (task_of u) w.seen) =
      spares-later (task_of u) u.number u.seen w.seen begins.1 law (since-none u.number u.seen w.seen u.own begins.1 own stands) in
      record {
        place = length v.guests;
        own = u.own;
        guest = at;
        stands = stands;
        free = ap (λ (t : Task). held_by u.number (replay t w.seen).nodes) task-other ∙ s.count ∙ free;
        home = ap (λ (t : Task). out_of (replay t w.seen).out u.number) task-other ∙ s.units ∙ home;
      }

  pub came-gone : IsJournalOf (task_of u) u.seen → of_number signed u.number (placed 0 u.seen) ≡ named signed u.own → (s short : Bool) →
      (s ≡ true → short ≡ true) → (never : Bool) (begun : List Event) → LeftBy u s never begun u.number → LeftBy w short never begun u.number
  came-gone other own s short more never begun g =
      let at : get_elem? w.guests (length v.guests) ≡ some (u.number, u.own) =
      subst (λ (gs : List (ℕ × List (ℕ × Event))). get_elem? gs (length v.guests) ≡ some (u.number, u.own)) (sym guests-are) (place-last v.guests (u.number, u.own)) in
      let law : IsJournalOf (task_of u) w.seen = subst (λ (t : Task). IsJournalOf t w.seen) task-other (joined-lawful other) in
      subst (λ (t : Task). IsGone t short never u.number begun w.seen) (sym task-other)
      (gone-prefix (task_of u) u.number u.seen w.seen begins.1 law (since-none u.number u.seen w.seen u.own begins.1 own (guests (length v.guests) (u.number, u.own) at)) s short never more begun g)

-- what a join does to the first seat
pub merged-joins : {D E : Type 0} (v u w : View D E) → w ≡ merged v u → IsPrefix v.seen w.seen → Joins v w 1
merged-joins {D = D} {E = E} v u w is more = record {
  about = ap (λ (x : View D E). x.about) is;
  splits = ap (λ (x : View D E). x.splits) is;
  joins = ap (λ (x : View D E). x.joins) is;
  own = ap (λ (x : View D E). x.own) is;
  seen = more;
}

pub lead-joined : (c : Shared) (l k : Lead) (u : Knows) → IsLead c l → IsBeside l.seat k.seat → IsAt c.log k.pages → IsFirst k.pages →
    view k.seat ≡ merged (view l.seat) u → IsJournalOf (task_of (view k.seat)) (view k.seat).seen → IsLead c k
lead-joined c l k u is beside at first e lawful = record {
  book = beside ∙ is.book;
  log = at;
  first = ap (λ (y : Knows). y.number) e ∙ is.first;
  pages_first = first;
  rests = ap (λ (y : Knows). y.holds) e ∙ is.rests;
  lawful = lawful;
}

-- ---- the first number did nothing meanwhile
pub still-idle : (v w : Knows) (n : ℕ) → IsIdle v → Joins v w n → w.number ≡ v.number → w.holds ≡ false → IsJournalOf (task_of w) w.seen →
    of_number signed v.number (placed 0 v.seen) ≡ named signed v.own → of_number signed w.number (placed 0 w.seen) ≡ named signed w.own → IsIdle w
still-idle v w n i j same rests lawful mine now =
    let task : task_of w ≡ task_of v = ap (λ (o : Option Task). unwrap_or o no_task) j.about in
    let law : IsJournalOf (task_of v) w.seen = subst (λ (t : Task). IsJournalOf t w.seen) task lawful in
    let stands : of_number signed v.number (placed 0 w.seen) ≡ named signed v.own = ap (λ k. of_number signed k (placed 0 w.seen)) (sym same) ∙ now ∙ ap (named signed) j.own in
    let s : Spares v.number (replay (task_of v) v.seen) (replay (task_of v) w.seen) =
    spares-later (task_of v) v.number v.seen w.seen j.seen law (since-none v.number v.seen w.seen v.own j.seen mine stands) in
    record {
      settled = record {
        seated = record { about = j.about ∙ i.settled.seated.about ∙ ap (λ (t : Task). Some t) (sym task); rests = rests; lawful = lawful };
        run = subst IsRun (sym task) i.settled.run;
      };
      free = ap (λ k. held_by k (seen_board w).nodes) same ∙ ap (λ (t : Task). held_by v.number (replay t w.seen).nodes) task ∙ s.count ∙ i.free;
      home = ap (λ k. out_of (seen_board w).out k) same ∙ ap (λ (t : Task). out_of (replay t w.seen).out v.number) task ∙ s.units ∙ i.home;
    }
