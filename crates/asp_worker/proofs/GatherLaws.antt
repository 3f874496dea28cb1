-- Answers that wait, and a worker's search once they were delivered.
use Rattle.std.proofs.Common.{◌≡◌, ℕ, ◌-◌, Bool, false, List, [], ◌∷◌, ◌++◌, Option, Some, None, append_assoc, refl, sym, ap, ◌∙◌, subst, inl, inr}
use Rattle.std.specs.Prelude.{ℤ, map, IsTrue, slice_index_or}
use Rattle.std.specs.List.{list_any, AllByRecursion}
use Rattle.std.proofs.lemmas.List.{append-nil}
use Rattle.asp_model.specs.declared.program.Program.{Program}
use Rattle.asp_model.specs.declared.results.Mode.{Mode}
use Rattle.asp_model.specs.declared.results.Mode.TheVariants.{Enum}
use Rattle.asp_model.specs.Asked.{reasoning_of}
use Rattle.asp_model.specs.Consequences.{used_up}
use Rattle.asp_model.specs.Models.{atoms_of, is_stable}
use Rattle.asp_model.specs.Sets.{Atoms, same_set}
use Rattle.asp_model.specs.Costs.{cost}
use Rattle.asp_rows.specs.declared.row.Row.{Row}
use Rattle.asp_rows.specs.Listed.{IsRowFor}
use Rattle.asp_vars.specs.Entailment.{costs_bound}
use Rattle.asp_vars.specs.Literals.{Literal, hits}
use Rattle.asp_vars.specs.Numbering.{values}
use Rattle.asp_vars.specs.Paid.{Units, Clash}
use Rattle.asp_vars.specs.declared.nogood.Nogood.{Nogood}
use Rattle.asp_vault.specs.Moments.{Stays}
use Rattle.asp_path.specs.Trees.{Node, nowhere, is_leaf, cube_of}
use Rattle.asp_path.proofs.TreeLaws.{leaf-within}
use Rattle.asp_core.specs.declared.event.Event.{Event}
use Rattle.asp_core.specs.declared.event.Event.TheVariants as event
use Rattle.asp_core.specs.declared.task.Task.{Task}
use Rattle.asp_core.specs.Units.{out_of}
use Rattle.asp_core.specs.Boards.{Board, start, sought}
use Rattle.asp_core.specs.Events.{happens, held_by, run, replay, IsLawful}
use Rattle.asp_core.specs.Growth.{Grows}
use Rattle.asp_core.proofs.BoardLaws.{wanted-stand}
use Rattle.asp_core.proofs.CubeLaws.{cube-at, answer-in_cube}
use Rattle.asp_core.proofs.GrowthLaws.{Grows-trans, Grows-run}
use Rattle.asp_book.specs.declared.listing.Listing.{Listing}
use Rattle.asp_book.specs.Calls.{Knows, task_of, seen_board, IsCall}
use Rattle.asp_book.specs.Replies.{IsListing, deliveries}
use Rattle.asp_book.proofs.CallLaws.{lawful-rest, task-stays, seen-after}
use Rattle.asp_propagate.specs.Useful.{IsSmaller}
use Rattle.asp_search_laws.specs.Searching.{Searching, used}
use Rattle.asp_search_laws.specs.Steps.{HasSameTask, Records, IsStep, Steps}
use Rattle.asp_search_laws.specs.declared.step.Step.{Step}
use Rattle.asp_search_laws.specs.declared.step.Step.TheVariants as step
use Rattle.asp_crew_laws.specs.Working.{IsAtWork, IsSought}
use Rattle.asp_crew_laws.proofs.WorkLaws.{work-on, work-delivered, may-list}
use Rattle.asp_worker.proofs.StepLaws.{settled-same}
use Rattle.asp_worker.specs.Seats.{IsRun, IsSettled, IsTidy, Idles}
use Rattle.asp_worker.specs.Working.{GoesOn, IsDone, IsOn, Finds, IsNew, AreNew, Gathers}
use Rattle.asp_worker.proofs.OwnLaws.{By, behaves-call}
use Rattle.asp_worker.proofs.SeatLaws.{board-task, settled-board, holds-idles, cube-idles}
use Rattle.asp_worker.proofs.RecordLaws.{not-dear}

abbrev pub sets_of : List Listing → List Atoms
sets_of found = map (λ (x : Listing). x.set) found

-- ---- one answer more
sets-push : (found : List Listing) (x : Listing) → sets_of (found ++ x ∷ []) ≡ sets_of found ++ x.set ∷ []
sets-push [] x = refl
sets-push (y ∷ found) x = ap (λ (l : List Atoms). y.set ∷ l) (sets-push found x)

new-push : (s : Searching) (q : List Literal) (known : List Atoms) (found : List Listing) (x : Listing) → AreNew s q known found →
    IsNew s q (known ++ sets_of found) x → AreNew s q known (found ++ x ∷ [])
new-push s q known [] x h n = (subst (λ (k : List Atoms). IsNew s q k x) (append-nil known) n, tt)
new-push s q known (y ∷ found) x h n = (h.0, new-push s q (known ++ y.set ∷ []) found x h.1 (subst (λ (k : List Atoms). IsNew s q k x) (sym (append_assoc known (y.set ∷ []) (sets_of found))) n))

used-enum : (s : Searching) → s.mode ≡ Enum → used s ≡ s.known
used-enum s e = ap (λ (m : Mode). used_up (reasoning_of m) s.program s.known) e

module _ (s x t : Searching) (q : List Literal) (found : List Listing) (g : Gathers s x q found) where
  -- the same task
  pub gathers-same : HasSameTask x t → Gathers s t q found
  gathers-same same = record {
    listing = g.listing;
    entered = g.entered;
    program = same.program ∙ g.program;
    mode_is = same.mode ∙ g.mode_is;
    cube = same.cube ∙ g.cube;
    bound = same.bound ∙ g.bound;
    known = same.known ∙ g.known;
    new = g.new;
  }

  -- an answer was found
  pub gathers-more : (S : Atoms) (row : Row) → t.program ≡ x.program → t.mode ≡ x.mode → t.cube ≡ x.cube → IsTrue (is_stable x.program S) →
      IsTrue (hits (values x.program S) q) → list_any (same_set S) (used x) ≡ false → IsSmaller (cost x.program S) x.bound
      → Records x.mode x t q S → IsRowFor (atoms_of t.program) S row → Gathers s t q (found ++ record { row = row; set = S } ∷ [])
  gathers-more S row program mode cube stable hit new cheaper records for =
      let y : Listing = record { row = row; set = S } in
      let enum : x.mode ≡ Enum = g.mode_is ∙ g.listing in
      let r : Records Enum x t q S = subst (λ (m : Mode). Records m x t q S) enum records in
      let less : IsSmaller (cost s.program S) x.bound = subst (λ (p : Program). IsSmaller (cost p S) x.bound) g.program cheaper in
      let one : IsNew s q (s.known ++ sets_of found) y = record {
        row = subst (λ (p : Program). IsRowFor (atoms_of p) S row) (program ∙ g.program) for;
        stable = subst (λ (p : Program). IsTrue (is_stable p S)) g.program stable;
        hit = subst (λ (p : Program). IsTrue (hits (values p S) q)) g.program hit;
        new = ap (list_any (same_set S)) (sym g.known) ∙ ap (list_any (same_set S)) (sym (used-enum x enum)) ∙ new;
        cheaper = subst (λ (b : Option (List ℤ)). IsSmaller (cost s.program S) b) g.bound less;
      } in
      record {
        listing = g.listing;
        entered = g.entered;
        program = program ∙ g.program;
        mode_is = mode ∙ g.mode_is;
        cube = cube ∙ g.cube;
        bound = r.1 ∙ g.bound;
        known = r.0 ∙ ap (λ (k : List Atoms). k ++ S ∷ []) g.known ∙ append_assoc s.known (sets_of found) (S ∷ []) ∙ ap (λ (k : List Atoms). s.known ++ k) (sym (sets-push found y));
        new = new-push s q s.known found y g.new one;
      }

  -- ---- a step
  module _ (gives : Nogood → Type 0) (silent : List (Option Bool) → Type 0) (f h : Units) (r : Step) (is : IsStep gives silent x t f h r) where
    at : (y : Step) → r ≡ y → Steps gives silent x t q f h y
    at y e = subst (λ (z : Step). Steps gives silent x t q f h z) e (is q (g.cube ∙ g.entered))

    pub gathers-decided : r ≡ step.Decided → Gathers s t q found
    gathers-decided e = gathers-same (at step.Decided e).same

    pub gathers-learnt : r ≡ step.Learnt → Gathers s t q found
    gathers-learnt e = gathers-same (at step.Learnt e).same

    pub gathers-restarted : r ≡ step.Restarted → Gathers s t q found
    gathers-restarted e = gathers-same (at step.Restarted e).same

    pub gathers-closed : (n : Nogood) → r ≡ step.Closed n → Gathers s t q found
    gathers-closed n e = gathers-same (at (step.Closed n) e).same

    pub gathers-stopped : (y : Clash) → r ≡ step.NoFuel y → Gathers s t q found
    gathers-stopped y e = gathers-same (at (step.NoFuel y) e).same

    pub gathers-answer : (S : Atoms) (row : Row) → r ≡ step.Answer S → IsRowFor (atoms_of t.program) S row → Gathers s t q (found ++ record { row = row; set = S } ∷ [])
    gathers-answer S row e for = let d = at (step.Answer S) e in gathers-more S row d.program d.mode d.cube d.stable d.hit d.new d.cheaper d.records for

    pub closed-done : (n : Nogood) (p : List Literal) → r ≡ step.Closed n → t.cube ≡ Some p → IsDone t p n
    closed-done n p e on =
        let same : HasSameTask x t = (at (step.Closed n) e).same in
        let d : Steps gives silent x t p f h (step.Closed n) = subst (λ (z : Step). Steps gives silent x t p f h z) e (is p (sym same.cube ∙ on)) in
        (d.within, settled-same x t same n.lits d.settled)

-- the first one
gathers-first : (m : Mode) (v : Knows) (s t : Searching) (u : Units) (leaf : ℕ) (S : Atoms) (row : Row) → m ≡ Enum → Finds m v s t u leaf S →
    IsRowFor (atoms_of t.program) S row → Gathers s t (cube_of (seen_board v).nodes leaf) (record { row = row; set = S } ∷ [])
gathers-first m v s t u leaf S row e f for =
    let none : Gathers s s (cube_of (seen_board v).nodes leaf) [] = record {
      listing = f.on.going.mode_is ∙ e;
      entered = f.on.works.entered;
      program = refl;
      mode_is = refl;
      cube = refl;
      bound = refl;
      known = sym (append-nil s.known);
      new = tt;
    } in
    gathers-more s s t (cube_of (seen_board v).nodes leaf) [] none S row f.program f.mode_is f.cube f.stable f.hit f.new f.cheaper f.records for

-- the first one, kept in an empty list
pub gathers-begun : (m : Mode) (v : Knows) (s t : Searching) (u : Units) (leaf : ℕ) (S : Atoms) (row : Row) (old new : List Listing) → m ≡ Enum →
    Finds m v s t u leaf S → IsRowFor (atoms_of t.program) S row → old ≡ [] → new ≡ old ++ record { row = row; set = S } ∷ []
    → Gathers s t (cube_of (seen_board v).nodes leaf) new
gathers-begun m v s t u leaf S row old new e f for none is =
    subst (λ (l : List Listing). Gathers s t (cube_of (seen_board v).nodes leaf) l)
    (sym (is ∙ ap (λ (l : List Listing). l ++ record { row = row; set = S } ∷ []) none)) (gathers-first m v s t u leaf S row e f for)

-- ---- they may be delivered
module _ (m : Mode) (v : Knows) (s t : Searching) (u : Units) (leaf : ℕ) (found : List Listing) (on : IsOn m v s u leaf) (g : Gathers s t (cube_of (seen_board v).nodes leaf) found) where
  mode-enum : m ≡ Enum
  mode-enum = sym on.going.mode_is ∙ g.listing

  sought-all : IsSought Enum s.bound (seen_board v).task.goal
  sought-all = subst (λ (k : Mode). IsSought k s.bound (seen_board v).task.goal) mode-enum on.going.work.goal

  pub gathered-sought : sought (seen_board v).task.goal ≡ None
  gathered-sought = elim sought-all [ inl e ↦ ap sought e | inr e ↦ ap sought e ]

  same-program : s.program ≡ (seen_board v).task.program
  same-program = on.going.program ∙ ap (λ (x : Task). x.program) (sym (board-task v))

  module _ (set : IsSettled v) where
    one-listing : (known : List Atoms) (x : Listing) → IsNew s (cube_of (seen_board v).nodes leaf) known x → IsListing (seen_board v).task x
    one-listing known x n =
        let b : Board = seen_board v in
        let run : IsRun b.task = subst IsRun (sym (board-task v)) set.run in
        record {
          listed = may-list b.task s.bound x.set sought-all (subst (λ (p : Program). costs_bound p s.bound x.set ≡ false) same-program (not-dear s.program s.bound x.set n.cheaper));
          answer = answer-in_cube b.task (cube_of b.nodes leaf) x.set (wanted-stand b.task run.query)
              (cube-at b.task b.nodes leaf (leaf-within b.nodes leaf (ap is_leaf on.works.held)) (settled-board v set).cubes)
              (subst (λ (p : Program). IsTrue (is_stable p x.set)) same-program n.stable)
              (subst (λ (p : Program). IsTrue (hits (values p x.set) (cube_of b.nodes leaf))) same-program n.hit);
          row = subst (λ (p : Program). IsRowFor (atoms_of p) x.set x.row) same-program n.row;
        }

    all-listings : (known : List Atoms) (xs : List Listing) → AreNew s (cube_of (seen_board v).nodes leaf) known xs → AllByRecursion (IsListing (seen_board v).task) xs
    all-listings known [] h = tt
    all-listings known (x ∷ xs) h = (one-listing known x h.0, all-listings (known ++ x.set ∷ []) xs h.1)

    pub gathered-listings : AllByRecursion (IsListing (seen_board v).task) found
    gathered-listings = all-listings s.known found g.new

-- ---- they were delivered
run-nodes : (b : Board) (n : ℕ) (found : List Listing) → (run b (deliveries n found)).nodes ≡ b.nodes
run-nodes b n [] = refl
run-nodes b n (x ∷ found) = run-nodes (happens b (event.Deliver n x.set)) n found

run-out : (b : Board) (n : ℕ) (found : List Listing) → (run b (deliveries n found)).out ≡ b.out
run-out b n [] = refl
run-out b n (x ∷ found) = run-out (happens b (event.Deliver n x.set)) n found

all-tidy : (n : ℕ) (found : List Listing) → By IsTidy n (deliveries n found)
all-tidy n [] = tt
all-tidy n (x ∷ found) = (λ _. (tt, λ r. r), all-tidy n found)

work-all : (b : Board) (n : ℕ) (s : Searching) (q : List Literal) (known : List Atoms) (bound : Option (List ℤ)) (u : Units) (found : List Listing) →
    IsAtWork b n Enum known bound u → IsLawful b (deliveries n found) → AreNew s q known found
    → IsAtWork (run b (deliveries n found)) n Enum (known ++ sets_of found) bound u
work-all b n s q known bound u [] w lawful h = subst (λ (k : List Atoms). IsAtWork b n Enum k bound u) (sym (append-nil known)) w
work-all b n s q known bound u (x ∷ found) w lawful h =
    subst (λ (k : List Atoms). IsAtWork (run (happens b (event.Deliver n x.set)) (deliveries n found)) n Enum k bound u) (append_assoc known (x.set ∷ []) (sets_of found))
    (work-all (happens b (event.Deliver n x.set)) n s q (known ++ x.set ∷ []) bound u found (work-delivered b n x.set known bound u w lawful.0 h.0.new) lawful.1 h.1)

module _ (v w : Knows) (before : List Event) (stays : Stays v w) (found : List Listing) (call : IsCall v w before (deliveries v.number found)) where
  then-lawful : IsLawful (replay (task_of v) before) (deliveries v.number found)
  then-lawful = lawful-rest (start (task_of v)) before (deliveries v.number found) call.moment.keeps

  pub then-is : seen_board w ≡ run (replay (task_of v) before) (deliveries v.number found)
  then-is = seen-after v w before (deliveries v.number found) stays call

  pub listed-idles : Idles v w
  listed-idles =
      let b : Board = replay (task_of v) before in
      let c : Board = run b (deliveries v.number found) in
      record {
        stays = stays;
        lawful = behaves-call v w before (deliveries v.number found) stays call (all-tidy v.number found);
        grows = subst (Grows (seen_board v)) (sym then-is) (Grows-trans (seen_board v) b c call.grown (Grows-run b (deliveries v.number found) then-lawful));
        spares = record {
          leaves = λ leaf h. ap (λ (x : Board). slice_index_or x.nodes leaf nowhere) then-is
              ∙ ap (λ (ns : List Node). slice_index_or ns leaf nowhere) (run-nodes b v.number found) ∙ call.spared.leaves leaf h;
          count = ap (λ (x : Board). held_by v.number x.nodes) then-is ∙ ap (held_by v.number) (run-nodes b v.number found) ∙ call.spared.count;
          units = ap (λ (x : Board). out_of x.out v.number) then-is ∙ ap (λ (o : List (ℕ × ℕ)). out_of o v.number) (run-out b v.number found) ∙ call.spared.units;
        };
      }

  module _ (m : Mode) (s t : Searching) (u : Units) (leaf : ℕ) (on : IsOn m v s u leaf) (g : Gathers s t (cube_of (seen_board v).nodes leaf) found) where
    work-listed : IsAtWork (run (replay (task_of v) before) (deliveries v.number found)) v.number Enum t.known t.bound u
    work-listed =
        let b : Board = replay (task_of v) before in
        let c : Board = run b (deliveries v.number found) in
        subst (λ (k : List Atoms). IsAtWork c v.number Enum k t.bound u) (sym g.known)
        (subst (λ (o : Option (List ℤ)). IsAtWork c v.number Enum (s.known ++ sets_of found) o u) (sym g.bound)
        (work-all b v.number s (cube_of (seen_board v).nodes leaf) s.known s.bound u found
        (subst (λ (k : Mode). IsAtWork b v.number k s.known s.bound u) (sym on.going.mode_is ∙ g.listing)
        (work-on (seen_board v) b v.number m s.known s.bound u on.going.work call.grown call.spared.units))
        then-lawful g.new))

    pub gathered-goes : GoesOn m w t u
    gathered-goes =
        let enum : m ≡ Enum = sym on.going.mode_is ∙ g.listing in
        record {
          program = g.program ∙ on.going.program ∙ ap (λ (x : Task). x.program) (sym (task-stays v w stays));
          mode_is = g.mode_is ∙ on.going.mode_is;
          work = subst (λ n. IsAtWork (seen_board w) n m t.known t.bound u) (sym stays.number)
              (subst (λ (b : Board). IsAtWork b v.number m t.known t.bound u) (sym then-is)
              (subst (λ (k : Mode). IsAtWork (run (replay (task_of v) before) (deliveries v.number found)) v.number k t.known t.bound u) (sym enum) work-listed));
          few = on.going.few;
        }

    on-then : IsOn m w t u leaf
    on-then = record {
      going = gathered-goes;
      works = record {
        held = holds-idles v w leaf on.works.held listed-idles;
        entered = g.cube ∙ on.works.entered ∙ ap (λ (q : List Literal). Some q) (sym (cube-idles v w leaf on.works.held listed-idles));
      };
    }

    pub gathered-on : (x : Units) → x ≡ u → IsOn m w t x leaf
    gathered-on x e = subst (λ (y : Units). IsOn m w t y leaf) (sym e) on-then
