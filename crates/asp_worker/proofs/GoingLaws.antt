-- A worker's search and its units beside the board, from call to call.
use Rattle.std.proofs.Common.{◌≡◌, ◌≢◌, ℕ, Bool, true, false, cond, List, [], ◌∷◌, length, Option, Some, None, refl, sym, ap, ◌∙◌, subst}
use Rattle.std.specs.Prelude.{ℤ, MatchBool, option_map}
use Rattle.std.proofs.lemmas.Bool.{false≢true}
use Rattle.std.proofs.lemmas.Option.{same_Some}
use Rattle.asp_model.specs.declared.program.Program.{Program}
use Rattle.asp_model.specs.declared.results.Mode.{Mode}
use Rattle.asp_model.specs.declared.results.Mode.TheVariants.{Enum, Opt, Consequences}
use Rattle.asp_model.specs.declared.results.Reasoning.{Reasoning}
use Rattle.asp_model.specs.Asked.{reasoning_of}
use Rattle.asp_model.specs.Consequences.{common_sets, unshown, used_up}
use Rattle.asp_model.specs.Sets.{Atoms, IsSubset}
use Rattle.asp_model.proofs.ConsequenceLaws.{unshown-common}
use Rattle.asp_vars.specs.Knowing.{Knowing}
use Rattle.asp_model.specs.Costs.{cost}
use Rattle.asp_vars.specs.Entailment.{HitsOnly, Settled}
use Rattle.asp_vars.specs.Literals.{Literal}
use Rattle.asp_vars.specs.Paid.{Units}
use Rattle.asp_vars.proofs.ResolutionLaws.{betters_itself}
use Rattle.asp_vault.specs.Moments.{Stays}
use Rattle.asp_path.specs.declared.status.Status.TheVariants as status
use Rattle.asp_core.specs.declared.task.Task.{Task}
use Rattle.asp_core.specs.Units.{out_of}
use Rattle.asp_core.specs.Boards.{Board, is_excused, known_by, known_of, showing_of, sought}
use Rattle.asp_core.specs.declared.event.Event.{Event}
use Rattle.asp_core.specs.Events.{replay}
use Rattle.asp_core.specs.Growth.{Grows}
use Rattle.asp_book.specs.Calls.{Knows, task_of, seen_board, IsCall}
use Rattle.asp_book.proofs.BookLaws.{Fits-grows}
use Rattle.asp_book.proofs.CallLaws.{task-stays, seen-after}
use Rattle.asp_propagate.specs.Useful.{IsSmaller}
use Rattle.asp_search_laws.specs.Searching.{Searching, used}
use Rattle.asp_search.specs.Beside.{Adopts, count_unshown, left_to_show}
use Rattle.asp_crew_laws.specs.Working.{IsAtWork, Works}
use Rattle.asp_crew_laws.proofs.AgreeLaws.{settled-excused}
use Rattle.asp_crew_laws.proofs.KnownLaws.{IsKnown, MayTakeOver, known-is, may-take_over}
use Rattle.asp_crew_laws.proofs.WorkLaws.{sought-is, work-adopted, work-on, work-unimproved}
use Rattle.asp_worker.specs.Seats.{Passes, Idles, Owes}
use Rattle.asp_worker.specs.Sharing.{is_fewer, is_smaller, lowered, lowered_by, show_more, TakesBest, TakesKnown}
use Rattle.asp_worker.specs.Working.{GoesOn, IsOn, IsOff}
use Rattle.asp_worker.proofs.SeatLaws.{board-task, idles-call, idles-passes, holds-idles, cube-idles}

pub owes-by : (v w : Knows) (u : Units) → Owes v u → Stays v w → Grows (seen_board v) (seen_board w) → out_of (seen_board w).out v.number ≡ out_of (seen_board v).out v.number → Owes w u
owes-by v w u owes stays grows units = record {
  back = (
    Fits-grows (seen_board v) (seen_board w) u grows owes.back.0,
    owes.back.1 ∙ sym units ∙ ap (out_of (seen_board w).out) (sym stays.number),
  );
  few = owes.few;
}

pub owes-on : (v w : Knows) (u : Units) → Owes v u → Passes v w → Owes w u
owes-on v w u owes p = owes-by v w u owes p.stays p.grows p.units

pub goes-on : (m : Mode) (v w : Knows) (s : Searching) (u : Units) → GoesOn m v s u → Passes v w → GoesOn m w s u
goes-on m v w s u g p = record {
  program = g.program ∙ ap (λ (t : Task). t.program) (sym (task-stays v w p.stays));
  mode_is = g.mode_is;
  work = subst (λ n. IsAtWork (seen_board w) n m s.known s.bound u) (sym p.stays.number)
      (work-on (seen_board v) (seen_board w) v.number m s.known s.bound u g.work p.grows p.units);
  few = g.few;
}

pub owes-of : {m : Mode} {v : Knows} {s : Searching} {u : Units} → GoesOn m v s u → Owes v u
owes-of g = record { back = g.work.units; few = g.few }

pub works-on : (v w : Knows) (leaf : ℕ) (cube : Option (List Literal)) → Works (seen_board v) v.number leaf cube → Idles v w → Works (seen_board w) w.number leaf cube
works-on v w leaf cube k i = record {
  held = holds-idles v w leaf k.held i;
  entered = k.entered ∙ ap (λ (q : List Literal). Some q) (sym (cube-idles v w leaf k.held i));
}

pub on-on : (m : Mode) (v w : Knows) (s : Searching) (u : Units) (leaf : ℕ) → IsOn m v s u leaf → Idles v w → IsOn m w s u leaf
on-on m v w s u leaf on i = record { going = goes-on m v w s u on.going (idles-passes v w i); works = works-on v w leaf s.cube on.works i }

pub on-off : (m : Mode) (v : Knows) (s : Searching) (u : Units) (leaf : ℕ) → IsOn m v s u leaf → IsOff v u leaf
on-off m v s u leaf on = record { held = on.works.held; units = owes-of on.going }

pub off-on : (v w : Knows) (u : Units) (leaf : ℕ) → IsOff v u leaf → Idles v w → IsOff w u leaf
off-on v w u leaf off i = record { held = holds-idles v w leaf off.held i; units = owes-on v w u off.units (idles-passes v w i) }

-- a search that is as good as another: it knows as much, and has the same bound
pub goes-same : (m : Mode) (v : Knows) (s t : Searching) (u : Units) → t.program ≡ s.program → t.mode ≡ s.mode → t.known ≡ s.known → t.bound ≡ s.bound → GoesOn m v s u → GoesOn m v t u
goes-same m v s t u p e k b g = record {
  program = p ∙ g.program;
  mode_is = e ∙ g.mode_is;
  work = subst (λ (x : List Atoms). IsAtWork (seen_board v) v.number m x t.bound u) (sym k)
      (subst (λ (x : Option (List ℤ)). IsAtWork (seen_board v) v.number m s.known x u) (sym b) g.work);
  few = g.few;
}

-- ---- the best cost is the bound
pub lowered-goes : (v : Knows) (B : Atoms) (s : Searching) (u : Units) → (seen_board v).best ≡ Some B → GoesOn Opt v s u → GoesOn Opt v (lowered s (cost (seen_board v).task.program B)) u
lowered-goes v B s u best g = here (is_smaller (cost (seen_board v).task.program B) s.bound)
  where
    c : List ℤ
    c = cost (seen_board v).task.program B

    here : (x : Bool) → GoesOn Opt v (cond x (record s { bound = Some (cost (seen_board v).task.program B) }) s) u
    here true = record {
      program = g.program;
      mode_is = g.mode_is;
      work = work-unimproved (seen_board v) v.number B B s.known s.bound u g.work best (betters_itself (cost (seen_board v).task.program B));
      few = g.few;
    }
    here false = g

pub lowered-same : (s : Searching) (c : List ℤ) → ((lowered s c).program ≡ s.program) × ((lowered s c).mode ≡ s.mode) × ((lowered s c).known ≡ s.known) × ((lowered s c).cube ≡ s.cube)
lowered-same s c = here (is_smaller c s.bound)
  where
    here : (x : Bool) → let t : Searching = cond x (record s { bound = Some c }) s in (t.program ≡ s.program) × (t.mode ≡ s.mode) × (t.known ≡ s.known) × (t.cube ≡ s.cube)
    here true = (refl, refl, refl, refl)
    here false = (refl, refl, refl, refl)

pub best-goes : (m : Mode) (v : Knows) (s t : Searching) (u : Units) → GoesOn m v s u → TakesBest m (seen_board v) s t → GoesOn m v t u
best-goes Enum v s t u g e = subst (λ (x : Searching). GoesOn Enum v x u) (sym e) g
best-goes Opt v s t u g e = subst (λ (x : Searching). GoesOn Opt v x u) (sym e) (here (seen_board v).best refl)
  where
    here : (o : Option Atoms) → o ≡ (seen_board v).best → GoesOn Opt v (lowered_by (option_map (cost (seen_board v).task.program) o) s) u
    here None e = g
    here (Some B) e = lowered-goes v B s u (sym e) g
best-goes (Consequences r) v s t u g h = here (show_more r (seen_board v) s) h
  where
    here : (more : Bool) → MatchBool more (Adopts s t (common_sets r (seen_board v).task.program (showing_of (seen_board v)))) (t ≡ s) → GoesOn (Consequences r) v t u
    here true a =
        subst (λ (x : Searching). GoesOn (Consequences r) v x u) (sym a.same)
        (record { program = g.program; mode_is = g.mode_is; work = work-adopted (seen_board v) v.number r s.known s.bound u g.work; few = g.few })
    here false e = subst (λ (x : Searching). GoesOn (Consequences r) v x u) (sym e) g

pub best-cube : (m : Mode) (b : Board) (s t : Searching) → TakesBest m b s t → t.cube ≡ s.cube
best-cube Enum b s t e = ap (λ (x : Searching). x.cube) e
best-cube Opt b s t e = ap (λ (x : Searching). x.cube) e ∙ here (option_map (cost b.task.program) b.best)
  where
    here : (o : Option (List ℤ)) → (lowered_by o s).cube ≡ s.cube
    here None = refl
    here (Some c) = (lowered-same s c).3
best-cube (Consequences r) b s t h = here (show_more r b s) h
  where
    here : (more : Bool) → MatchBool more (Adopts s t (common_sets r b.task.program (showing_of b))) (t ≡ s) → t.cube ≡ s.cube
    here true a = ap (λ (x : Searching). x.cube) a.same
    here false e = ap (λ (x : Searching). x.cube) e

-- ---- what the answers delivered have in common is known
pub known-seen : (v w : Knows) (before : List Event) → Stays v w → IsCall v w before [] → (r : Option Knowing) → r ≡ known_of (replay (task_of v) before) → r ≡ known_of (seen_board w)
known-seen v w before stays call r e = e ∙ ap known_of (sym (seen-after v w before [] stays call))

pub told-known : (v w : Knows) (before : List Event) → Stays v w → IsCall v w before [] → (r : Option Knowing) (x : Knowing) →
    r ≡ known_of (replay (task_of v) before) → r ≡ Some x → IsKnown (seen_board w) x
told-known v w before stays call r x e is = known-is (seen_board w) x (sym (known-seen v w before stays call r e) ∙ is)

-- a search at work takes it over
pub record MayTake (s : Searching) (x : Knowing) : Type 0 where
  pub program : x.program ≡ s.program
  pub reasoning : Some x.reasoning ≡ reasoning_of s.mode
  pub all : IsSubset (unshown x.reasoning x.program x.sets) (unshown x.reasoning x.program s.known)

pub may-take : (m : Mode) (v : Knows) (s : Searching) (u : Units) (x : Knowing) → GoesOn m v s u → IsKnown (seen_board v) x → MayTake s x
may-take m v s u x g k =
    let b : Board = seen_board v in
    let may : MayTakeOver b m s.known x = may-take_over b v.number m s.known s.bound u x g.work k in
    record { program = may.program ∙ ap (λ (t : Task). t.program) (board-task v) ∙ sym g.program; reasoning = may.reasoning ∙ ap reasoning_of (sym g.mode_is); all = may.all }

-- what a call told of the answers delivered
pub taken-over : (m : Mode) (v w : Knows) (before : List Event) → Stays v w → IsCall v w before [] →
    (s : Searching) (u : Units) (r : Option Knowing) (x : Knowing) → GoesOn m v s u → r ≡ known_of (replay (task_of v) before) → r ≡ Some x →
    MayTake s x
taken-over m v w before stays call s u r x g e is =
    may-take m w s u x (goes-on m v w s u g (idles-passes v w (idles-call v w before stays call))) (told-known v w before stays call r x e is)

-- where fewer atoms are to be shown, an answer is known
pub fewer-some : (r : Reasoning) (p : Program) (K : List Atoms) (left : Option ℕ) → is_fewer (count_unshown r p K) left ≡ true → K ≢ []
fewer-some r p K left h none = false≢true (sym (ap (λ (L : List Atoms). is_fewer (count_unshown r p L) left) none) ∙ h)

counted-common : (r : Reasoning) (p : Program) (K : List Atoms) → count_unshown r p (common_sets r p K) ≡ count_unshown r p K
counted-common r p [] = refl
counted-common r p (S ∷ K) = ap (λ (L : Atoms). Some (length L)) (unshown-common r p (S ∷ K))

pub takes-known : (m : Mode) (v : Knows) (s t : Searching) (u : Units) (x : Knowing) → GoesOn m v s u → IsKnown (seen_board v) x → TakesKnown s t x → TakesBest m (seen_board v) s t
takes-known m v s t u x g k h = here m refl
  where
    seeks : (n : Mode) → n ≡ m → reasoning_of n ≡ Some k.reasoning
    seeks n e = ap reasoning_of e ∙ sym (sought-is m s.bound (seen_board v).task.goal g.work.goal) ∙ k.seeks

    none : None ≡ Some k.reasoning → ⊥
    none z = cc

    here : (n : Mode) → n ≡ m → TakesBest n (seen_board v) s t
    here Enum e = absurd (none (seeks Enum e))
    here Opt e = absurd (none (seeks Opt e))
    here (Consequences r) e =
        subst (λ (q : Reasoning). TakesBest (Consequences q) (seen_board v) s t) (sym (same_Some r k.reasoning (seeks (Consequences r) e)))
        (subst (λ (o : Option ℕ). MatchBool (is_fewer o (left_to_show s)) (Adopts s t (common_sets k.reasoning (seen_board v).task.program (showing_of (seen_board v)))) (t ≡ s))
        (counted-common k.reasoning (seen_board v).task.program (showing_of (seen_board v)))
        (subst (TakesKnown s t) k.is h))

pub taken-best : (m : Mode) (v w : Knows) (before : List Event) → Stays v w → IsCall v w before [] → (s t : Searching) (u : Units) (r : Option Knowing) (x : Knowing) → GoesOn m v s u →
    r ≡ known_of (replay (task_of v) before) → r ≡ Some x → TakesKnown s t x → TakesBest m (seen_board w) s t
taken-best m v w before stays call s t u r x g e is =
    takes-known m w s t u x (goes-on m v w s u g (idles-passes v w (idles-call v w before stays call))) (told-known v w before stays call r x e is)

-- where they are sought a call always tells what the answers delivered have in common
pub always-known : (m : Mode) (r : Reasoning) (v w : Knows) (before : List Event) → Stays v w → IsCall v w before [] →
    (s t : Searching) (u : Units) (k : Option Knowing) → GoesOn m v s u → m ≡ Consequences r →
    k ≡ known_of (replay (task_of v) before) → k ≡ None → TakesBest m (seen_board w) s t
always-known m r v w before stays call s t u k g is e none =
    absurd (apart (sym none ∙ known-seen v w before stays call k e
    ∙ ap (λ (o : Option Reasoning). known_by o (seen_board w).task.program (showing_of (seen_board w))) seeks))
  where
    on : GoesOn m w s u
    on = goes-on m v w s u g (idles-passes v w (idles-call v w before stays call))

    seeks : sought (seen_board w).task.goal ≡ Some r
    seeks = sought-is m s.bound (seen_board w).task.goal on.work.goal ∙ ap reasoning_of is

    apart : None ≡ known_by (Some r) (seen_board w).task.program (showing_of (seen_board w)) → ⊥
    apart z = cc

-- ---- a leaf may be closed for what the search has settled
pub done-excused : (m : Mode) (v : Knows) (s : Searching) (u : Units) (q : List Literal) → GoesOn m v s u → Settled s.program (used s) s.bound q →
    HitsOnly (task_of v).program (is_excused (seen_board v)) q
done-excused m v s u q g h =
    let same : s.program ≡ (seen_board v).task.program = g.program ∙ ap (λ (t : Task). t.program) (sym (board-task v)) in
    subst (λ (t : Task). HitsOnly t.program (is_excused (seen_board v)) q) (board-task v)
    (settled-excused (seen_board v) s.known s.bound q g.work.agrees
    (subst (λ (p : Program). Settled p (used_up (sought (seen_board v).task.goal) p s.known) s.bound q) same
    (subst (λ (k : Option Reasoning). Settled s.program (used_up k s.program s.known) s.bound q) (sym seeks) h)))
  where
    seeks : sought (seen_board v).task.goal ≡ reasoning_of s.mode
    seeks = sought-is m s.bound (seen_board v).task.goal g.work.goal ∙ ap reasoning_of (sym g.mode_is)

-- ---- a cost beside the bound
pub smaller-is : (c : List ℤ) (o : Option (List ℤ)) → is_smaller c o ≡ true → IsSmaller c o
smaller-is c None h = tt
smaller-is c (Some d) h = h

pub lowered-then : (s : Searching) (c : List ℤ) (b : Bool) → b ≡ is_smaller c s.bound → b ≡ true → record s { bound = Some c } ≡ lowered s c
lowered-then s c b e h = ap (λ x. cond x (record s { bound = Some c }) s) (sym h ∙ e)

pub lowered-else : (s : Searching) (c : List ℤ) (b : Bool) → b ≡ is_smaller c s.bound → b ≡ false → s ≡ lowered s c
lowered-else s c b e h = ap (λ x. cond x (record s { bound = Some c }) s) (sym h ∙ e)

-- ---- the best cost that a call told
pub best-then : (m : Mode) (b : Board) (s t : Searching) (r x : Option (List ℤ)) → m ≡ Opt → r ≡ option_map (cost b.task.program) b.best → r ≡ x → t ≡ lowered_by x s → TakesBest m b s t
best-then m b s t r x e is at now = subst (λ (k : Mode). TakesBest k b s t) (sym e) (now ∙ ap (λ (o : Option (List ℤ)). lowered_by o s) (sym at ∙ is))

pub best-seen : (v w : Knows) (before : List Event) → Stays v w → IsCall v w before [] → (r : Option (List ℤ)) →
    r ≡ option_map (cost (replay (task_of v) before).task.program) (replay (task_of v) before).best →
    r ≡ option_map (cost (seen_board w).task.program) (seen_board w).best
best-seen v w before stays call r e = e ∙ ap (λ (b : Board). option_map (cost b.task.program) b.best) (sym (seen-after v w before [] stays call))
