-- A search at work goes with the board still, after what others did and after what its own number did.
use Rattle.std.proofs.Common.{◌≡◌, ℕ, ◌+◌, ◌-◌, ◌<◌, ◌≤◌, max, Bool, true, false, not, cond, ◌||◌, eqb, List, [], ◌∷◌, ◌++◌, length, Option, Some, None, refl, sym, ap, ◌∙◌, subst, inl, inr, arith, zero-add}
use Rattle.std.specs.Prelude.{ℤ, IsTrue}
use Rattle.std.specs.Option.{IfSome, is_some}
use Rattle.std.specs.List.{list_any, AllByRecursion}
use Rattle.std.specs.Cmp.Lexicographic.{same_text}
use Rattle.std.proofs.lemmas.Bool.{false≢true, eq-eqb, or_cases, or_parts, or_right}
use Rattle.asp_model.specs.declared.results.Mode.{Mode}
use Rattle.asp_model.specs.declared.results.Mode.TheVariants.{Enum, Opt, Consequences}
use Rattle.asp_model.specs.declared.program.Program.{Program}
use Rattle.asp_model.specs.declared.results.Reasoning.{Reasoning}
use Rattle.asp_model.specs.Asked.{reasoning_of}
use Rattle.asp_model.specs.Consequences.{common_sets, used_up}
use Rattle.asp_model.proofs.ConsequenceLaws.{used-none}
use Rattle.asp_model.specs.Sets.{Atoms, same_set}
use Rattle.asp_model.specs.Costs.{cost, betters}
use Rattle.asp_model.proofs.MemberLaws.{each_weaker}
use Rattle.asp_vars.specs.Literals.{Literal}
use Rattle.asp_vars.specs.Conflicts.{IsConflict}
use Rattle.asp_vars.specs.Entailment.{Settled, costs_bound, is_done}
use Rattle.asp_vars.specs.Paid.{Clash, Units, least_of}
use Rattle.asp_vars.proofs.ResolutionLaws.{HitsOnly-weaker}
use Rattle.asp_path.specs.declared.status.Status.TheVariants as status
use Rattle.asp_path.specs.Trees.{Node}
use Rattle.asp_core.specs.declared.event.Event.TheVariants as event
use Rattle.asp_core.specs.declared.goal.Goal.{Goal}
use Rattle.asp_core.specs.declared.goal.Goal.TheVariants as goal
use Rattle.asp_core.specs.declared.task.Task.{Task}
use Rattle.asp_core.specs.Units.{out_of, leased}
use Rattle.asp_core.specs.Boards.{Board, IsBoundBy, IsBoundOf, bound_by, bound_of, count_by, distinct, goal_of, is_excused, known_count, lists_by, lists, optimises, showing_of, sought, used}
use Rattle.asp_core.specs.Events.{Guard, happens}
use Rattle.asp_core.specs.Growth.{Grows, Spares}
use Rattle.asp_core.specs.Sorting.{sorted_once}
use Rattle.asp_core.proofs.SortingLaws.{same_itself, sorted-has}
use Rattle.asp_core.proofs.CountLaws.{length-sorted_once}
use Rattle.asp_core.proofs.GrowthLaws.{Grows-happens}
use Rattle.asp_book.specs.Fuels.{Fits, ComesBack}
use Rattle.asp_book.proofs.BookLaws.{Fits-grows}
use Rattle.asp_crew_laws.specs.Agrees.{Agrees, AreApart, AreRecorded}
use Rattle.asp_crew_laws.specs.Reports.{IsMet}
use Rattle.asp_crew_laws.specs.Working.{AreApartIn, IsKept, IsSought, IsAtWork, MayBegin, Works}
use Rattle.asp_crew_laws.proofs.AgreeLaws.{agrees-adopted, agrees-delivered, agrees-grows, agrees-told, none-recorded, used_by}
use Rattle.asp_crew_laws.proofs.FuelLaws.{pigeons, agrees-improved, agrees-unimproved}

-- ---- what a search may look for
pub sought-first : (mode : Mode) (named : Bool) (g : Goal) → g ≡ goal_of mode named → IsSought mode None g
sought-first Enum named g e = inl e
sought-first Opt named g e = e
sought-first (Consequences r) named g e = ap sought e

-- which consequences a search seeks, those the board seeks
pub sought-is : (mode : Mode) (bound : Option (List ℤ)) (g : Goal) → IsSought mode bound g → sought g ≡ reasoning_of mode
sought-is Enum bound g (inl e) = ap sought e
sought-is Enum bound g (inr e) = ap sought e
sought-is Opt bound g e = ap sought e
sought-is (Consequences r) bound g e = e

-- ---- the board went on, and the number's units are as they were
pub work-on : (b c : Board) (n : ℕ) (mode : Mode) (known : List Atoms) (bound : Option (List ℤ)) (u : Units) → IsAtWork b n mode known bound u →
    Grows b c → out_of c.out n ≡ out_of b.out n → IsAtWork c n mode known bound u
work-on b c n mode known bound u w g out = record {
  goal = subst (λ (t : Task). IsSought mode bound t.goal) (sym g.task) w.goal;
  agrees = agrees-grows b c known bound g w.agrees;
  apart = w.apart;
  kept = w.kept;
  units = (Fits-grows b c u g w.units.0, w.units.1 ∙ sym out);
}

pub works-on : (b c : Board) (n leaf : ℕ) (cube : Option (List Literal)) → Works b n leaf cube → Spares n b c → Works c n leaf cube
works-on b c n leaf cube w s = record {
  held = ap (λ (x : Node). x.status) (s.leaves leaf w.held) ∙ w.held;
  entered = w.entered ∙ ap (λ (x : Node). Some x.cube) (sym (s.leaves leaf w.held));
}

-- ---- a search that begins
none-kept : (mode : Mode) → IsKept mode []
none-kept Enum = tt
none-kept Opt = refl
none-kept (Consequences r) = tt

none-apart : (mode : Mode) → AreApartIn mode []
none-apart Enum = tt
none-apart Opt = tt
none-apart (Consequences r) = tt

pub work-begins : (b : Board) (n : ℕ) (mode : Mode) (named : Bool) (u : Units) → b.task.goal ≡ goal_of mode named → ComesBack b (out_of b.out n) u → IsAtWork b n mode [] None u
work-begins b n mode named u e units = record {
  goal = sought-first mode named b.task.goal e;
  agrees = record {
    excused = λ S h. absurd (false≢true (sym (ap (λ x. x || false) (used-none (sought b.task.goal) b.task.program S)) ∙ h));
    recorded = none-recorded (sought b.task.goal) b.task.program (showing_of b);
    bounded = tt;
  };
  apart = none-apart mode;
  kept = none-kept mode;
  units = units;
}

-- among ties: what costs too much for the search does so for the board
too-dear : (b : Board) (c : Option (List ℤ)) (S : Atoms) → b.task.goal ≡ goal.Ties c → costs_bound b.task.program c S ≡ true → is_excused b S ≡ true
too-dear b c S e h =
    or_right (list_any (same_set S) (used b)) (costs_bound b.task.program (bound_of b) S)
    (ap (λ (g : Goal). costs_bound b.task.program (bound_by g b.task.program b.best) S) e ∙ h)

bound-ties : (b : Board) (c : Option (List ℤ)) → b.task.goal ≡ goal.Ties c → IfSome c (IsBoundOf b)
bound-ties b c e = subst (λ (g : Goal). IfSome c (IsBoundBy g b.task.program b.best)) (sym e) (own c)
  where
    own : (c : Option (List ℤ)) → IfSome c (IsBoundBy (goal.Ties c) b.task.program b.best)
    own None = tt
    own (Some d) = refl

pub ties-begin : (b : Board) (n : ℕ) (c : Option (List ℤ)) (u : Units) → b.task.goal ≡ goal.Ties c → ComesBack b (out_of b.out n) u → IsAtWork b n Enum [] c u
ties-begin b n c u e units = record {
  goal = inr e;
  agrees = record {
    excused = λ S h. too-dear b c S e
        (sym (ap (λ x. x || costs_bound b.task.program c S) (used-none (sought b.task.goal) b.task.program S)) ∙ h);
    recorded =
        none-recorded (sought b.task.goal) b.task.program (showing_of b);
    bounded = bound-ties b c e;
  };
  apart = tt;
  kept = tt;
  units = units;
}

-- whatever is sought, by the bound that the search has from its beginning
pub sought-begins : (b : Board) (n : ℕ) (mode : Mode) (c : Option (List ℤ)) (u : Units) → MayBegin mode c b.task.goal → ComesBack b (out_of b.out n) u → IsAtWork b n mode [] c u
sought-begins b n mode c u (inl may) units = subst (λ (o : Option (List ℤ)). IsAtWork b n mode [] o u) (sym may.1) (work-begins b n mode may.0.0 u may.0.1 units)
sought-begins b n mode c u (inr may) units = subst (λ (m : Mode). IsAtWork b n m [] c u) (sym may.0) (ties-begin b n c u may.1 units)

-- ---- a unit is burnt
-- answers that were delivered, each known once
pub known-delivered : (known A : List Atoms) → AllByRecursion (λ S. IsTrue (list_any (same_set S) A)) known → AreApart known → length known ≤ length (distinct A)
known-delivered known A listed apart =
    omega (
      arith,
      pigeons known (sorted_once A) apart (each_weaker (λ S. IsTrue (list_any (same_set S) A)) (λ S. IsTrue (list_any (same_set S) (sorted_once A))) (λ S h. sorted-has [] A S ∙ h) known listed),
      length-sorted_once A,
    )

counted-by : (mode : Mode) (p : Program) (known A : List Atoms) → AreRecorded (reasoning_of mode) p known A → AreApartIn mode known → length known ≤ count_by (reasoning_of mode) p A
counted-by Enum p known A h apart = known-delivered known A h apart
counted-by Opt p known A h apart = known-delivered known A h apart
counted-by (Consequences r) p known A h apart = h.1

-- no more are known than were delivered
pub work-counted : (b : Board) (n : ℕ) (mode : Mode) (known : List Atoms) (bound : Option (List ℤ)) (u : Units) → IsAtWork b n mode known bound u → length known ≤ known_count b
work-counted b n mode known bound u w =
    let is : sought b.task.goal ≡ reasoning_of mode = sought-is mode bound b.task.goal w.goal in
    subst (λ (k : Option Reasoning). length known ≤ count_by k b.task.program (showing_of b)) (sym is)
    (counted-by mode b.task.program known (showing_of b) (subst (λ (k : Option Reasoning). AreRecorded k b.task.program known (showing_of b)) is w.agrees.recorded) w.apart)

least-fits : (b : Board) (l c : Option (List ℤ)) → IfSome l (IsBoundOf b) → IfSome c (IsBoundOf b) → IfSome (least_of l c) (IsBoundOf b)
least-fits b None c h k = k
least-fits b (Some d) None h k = h
least-fits b (Some d) (Some e) h k = here (betters e d)
  where
    here : (x : Bool) → IsBoundOf b (cond x e d)
    here true = k
    here false = h

pub work-burnt : (b : Board) (n : ℕ) (mode : Mode) (known : List Atoms) (bound : Option (List ℤ)) (u : Units) (x : Clash) →
    IsAtWork b n mode known bound u → 0 < u.left → x.reasoning ≡ reasoning_of mode → x.known ≡ length known → x.bound ≡ bound
    → IsAtWork b n mode known bound (record {
      program = u.program;
      left = u.left - 1;
      burnt = u.burnt + 1;
      reasoned =
          u.reasoned || is_some x.reasoning;
      known = max u.known x.known;
      least = least_of u.least x.bound;
    })
work-burnt b n mode known bound u x w some seeks count under = record {
  goal = w.goal;
  agrees = w.agrees;
  apart = w.apart;
  kept = w.kept;
  units = (
    record {
      program = w.units.0.program;
      reasoned = λ e. elim (or_cases u.reasoned (is_some x.reasoning) e) [
        | inl was ↦ w.units.0.reasoned was
        | inr new ↦ ap is_some (sought-is mode bound b.task.goal w.goal ∙ sym seeks) ∙ new
      ];
      known = omega (arith, w.units.0.known, count, work-counted b n mode known bound u w);
      least = least-fits b u.least x.bound w.units.0.least (subst (λ (o : Option (List ℤ)). IfSome o (IsBoundOf b)) (sym under) w.agrees.bounded);
    },
    omega (arith, w.units.1, some),
  );
}

-- ---- an answer is recorded
same_turned : (S T : Atoms) → same_set S T ≡ false → same_set T S ≡ false
same_turned S T e = here (same_set T S) refl
  where
    here : (x : Bool) → x ≡ same_set T S → x ≡ false
    here true q = absurd (false≢true (sym e ∙ ap (λ (R : Atoms). same_set S R) (same_text T S q) ∙ same_itself S))
    here false q = refl

any-push-false : (T : Atoms) (K : List Atoms) (S : Atoms) → list_any (same_set T) K ≡ false → same_set T S ≡ false → list_any (same_set T) (K ++ S ∷ []) ≡ false
any-push-false T [] S h e = ap (λ x. x || false) e
any-push-false T (R ∷ K) S h e =
    let parts = or_parts (same_set T R) (list_any (same_set T) K) h in
    ap (λ x. x || list_any (same_set T) (K ++ S ∷ [])) parts.0 ∙ any-push-false T K S parts.1 e

pub apart-push : (K : List Atoms) (S : Atoms) → AreApart K → list_any (same_set S) K ≡ false → AreApart (K ++ S ∷ [])
apart-push [] S apart new = (refl, tt)
apart-push (T ∷ K) S apart new =
    let parts = or_parts (same_set S T) (list_any (same_set S) K) new in
    (any-push-false T K S apart.0 (same_turned S T parts.0), apart-push K S apart.1 parts.1)

pub work-delivered : (b : Board) (n : ℕ) (S : Atoms) (known : List Atoms) (bound : Option (List ℤ)) (u : Units) → IsAtWork b n Enum known bound u →
    Guard b (event.Deliver n S) → list_any (same_set S) known ≡ false
    → IsAtWork (happens b (event.Deliver n S)) n Enum (known ++ S ∷ []) bound u
work-delivered b n S known bound u w guard new = record {
  goal = w.goal;
  agrees = agrees-delivered b n S known bound (sought-is Enum bound b.task.goal w.goal) w.agrees;
  apart = apart-push known S w.apart new;
  kept = tt;
  units = (Fits-grows b (happens b (event.Deliver n S)) u (Grows-happens b (event.Deliver n S) guard) w.units.0, w.units.1);
}

pub work-told : (b : Board) (n : ℕ) (S : Atoms) (r : Reasoning) (known : List Atoms) (bound : Option (List ℤ)) (u : Units) → IsAtWork b n (Consequences r) known bound u → Guard b (event.Deliver n S)
    → IsAtWork (happens b (event.Deliver n S)) n (Consequences r) (common_sets r b.task.program (known ++ S ∷ [])) bound u
work-told b n S r known bound u w guard = record {
  goal = w.goal;
  agrees = agrees-told b n S r known bound (sought-is (Consequences r) bound b.task.goal w.goal) w.agrees;
  apart = tt;
  kept = tt;
  units = (Fits-grows b (happens b (event.Deliver n S)) u (Grows-happens b (event.Deliver n S) guard) w.units.0, w.units.1);
}

pub work-adopted : (b : Board) (n : ℕ) (r : Reasoning) (known : List Atoms) (bound : Option (List ℤ)) (u : Units) →
    IsAtWork b n (Consequences r) known bound u → IsAtWork b n (Consequences r) (common_sets r b.task.program (showing_of b)) bound u
work-adopted b n r known bound u w = record {
  goal = w.goal;
  agrees = agrees-adopted b r known bound (sought-is (Consequences r) bound b.task.goal w.goal) w.agrees;
  apart = tt;
  kept = tt;
  units = w.units;
}

pub work-improved : (b : Board) (n : ℕ) (S : Atoms) (known : List Atoms) (bound : Option (List ℤ)) (u : Units) → IsAtWork b n Opt known bound u → Guard b (event.Improve n S)
    → IsAtWork (happens b (event.Improve n S)) n Opt known (Some (cost b.task.program S)) u
work-improved b n S known bound u w guard = record {
  goal = w.goal;
  agrees = subst (λ (k : List Atoms). Agrees (happens b (event.Improve n S)) k (Some (cost b.task.program S))) (sym w.kept) (agrees-improved b n S w.goal);
  apart = w.apart;
  kept = w.kept;
  units = (Fits-grows b (happens b (event.Improve n S)) u (Grows-happens b (event.Improve n S) guard) w.units.0, w.units.1);
}

pub work-unimproved : (b : Board) (n : ℕ) (S B : Atoms) (known : List Atoms) (bound : Option (List ℤ)) (u : Units) → IsAtWork b n Opt known bound u →
    b.best ≡ Some B → betters (cost b.task.program S) (cost b.task.program B) ≡ false
    → IsAtWork b n Opt known (Some (cost b.task.program S)) u
work-unimproved b n S B known bound u w best dearer = record {
  goal = w.goal;
  agrees = subst (λ (k : List Atoms). Agrees b k (Some (cost b.task.program S))) (sym w.kept) (agrees-unimproved b S B w.goal best dearer);
  apart = w.apart;
  kept = w.kept;
  units = w.units;
}

-- ---- units are leased
pub out_of-leased : (s n : ℕ) (out : List (ℕ × ℕ)) → out_of (leased s n out) s ≡ out_of out s + n
out_of-leased s n [] = ap (λ x. let k : ℕ = cond x n 0 in k) (eq-eqb s s refl) ∙ sym (zero-add n)
out_of-leased s n (x ∷ out) = here (eqb x.0 s) refl (out_of-leased s n out)
  where
    here : (z : Bool) → z ≡ eqb x.0 s → out_of (leased s n out) s ≡ out_of out s + n → out_of (cond z ((x.0, x.1 + n) ∷ out) (x ∷ leased s n out)) s ≡ cond z x.1 (out_of out s) + n
    here true q rest = ap (λ y. let k : ℕ = cond y (x.1 + n) (out_of out s) in k) (sym q)
    here false q rest = ap (λ y. let k : ℕ = cond y x.1 (out_of (leased s n out) s) in k) (sym q) ∙ rest

-- two fuels of the board in one
pub Fits-merged : (b : Board) (u v : Units) → Fits b u → Fits b v →
    Fits b (record {
      program = u.program;
      left = u.left + v.left;
      burnt = u.burnt + v.burnt;
      reasoned = u.reasoned || v.reasoned;
      known =
          max u.known v.known;
      least = least_of u.least v.least;
    })
Fits-merged b u v f g = record {
  program = f.program;
  reasoned =
      λ e. elim (or_cases u.reasoned v.reasoned e) [ inl x ↦ f.reasoned x | inr x ↦ g.reasoned x ];
  known = omega (arith, f.known, g.known);
  least =
      least-fits b u.least v.least f.least g.least;
}

pub work-leased : (b : Board) (n k : ℕ) (mode : Mode) (known : List Atoms) (bound : Option (List ℤ)) (u v : Units) → IsAtWork b n mode known bound u →
    Guard b (event.Lease n k) → v.left + v.burnt ≡ u.left + u.burnt + k → Fits b v
    → IsAtWork (happens b (event.Lease n k)) n mode known bound v
work-leased b n k mode known bound u v w guard sum fits =
    let g : Grows b (happens b (event.Lease n k)) = Grows-happens b (event.Lease n k) guard in
    record {
      goal = w.goal;
      agrees = agrees-grows b (happens b (event.Lease n k)) known bound g w.agrees;
      apart = w.apart;
      kept = w.kept;
      units = (Fits-grows b (happens b (event.Lease n k)) v g fits, omega (arith, sum, w.units.1, out_of-leased n k b.out));
    }

-- ---- what the guards of an answer ask
pub may-list : (t : Task) (bound : Option (List ℤ)) (S : Atoms) → IsSought Enum bound t.goal → costs_bound t.program bound S ≡ false → IsTrue (lists t S)
may-list t bound S (inl e) less = ap (λ (g : Goal). lists_by g t.program S) e
may-list t bound S (inr e) less = ap (λ (g : Goal). lists_by g t.program S) e ∙ ap not less

pub may-tell : (t : Task) (r : Reasoning) (bound : Option (List ℤ)) (S : Atoms) → IsSought (Consequences r) bound t.goal → IsTrue (lists t S)
may-tell t r bound S e = tells t.goal e
  where
    none-some : None ≡ Some r → ⊥
    none-some e = cc

    tells : (g : Goal) → sought g ≡ Some r → lists_by g t.program S ≡ true
    tells goal.Enum e = refl
    tells goal.Opt e = absurd (none-some e)
    tells (goal.Ties c) e = absurd (none-some e)
    tells (goal.Consequences w n) e = refl

pub may-optimise : (t : Task) → t.goal ≡ goal.Opt → IsTrue (optimises t.goal)
may-optimise t e = ap optimises e

-- ---- a conflict that is met
settled-board : (b : Board) (known : List Atoms) (bound : Option (List ℤ)) (way : List Literal) → Agrees b known bound →
    Settled b.task.program (used_by b known) bound way → Settled b.task.program (used b) (bound_of b) way
settled-board b known bound way a h = HitsOnly-weaker b.task.program (is_done b.task.program (used_by b known) bound) (is_excused b) way a.excused h

-- A conflict of the search is one by what was recorded.
pub work-met : (b : Board) (n : ℕ) (mode : Mode) (known : List Atoms) (bound : Option (List ℤ)) (u : Units) (x : Clash) →
    IsAtWork b n mode known bound u → x.program ≡ b.task.program → x.reasoning ≡ reasoning_of mode → x.known ≡ length known → x.bound ≡ bound
    → IsConflict b.task.program (used_up (reasoning_of mode) b.task.program known) bound x.cube x.decisions x.nogood → IsMet b x
work-met b n mode known bound u x w program seeks count under conflict =
    let is : sought b.task.goal ≡ reasoning_of mode = sought-is mode bound b.task.goal w.goal in
    let c : IsConflict b.task.program (used_by b known) bound x.cube x.decisions x.nogood =
    subst (λ (k : Option Reasoning). IsConflict b.task.program (used_up k b.task.program known) bound x.cube x.decisions x.nogood) (sym is) conflict in
    record {
      program = program;
      reasoning = seeks ∙ sym is;
      known = omega (arith, count, work-counted b n mode known bound u w);
      bound = subst (λ (o : Option (List ℤ)). IfSome o (IsBoundOf b)) (sym under) w.agrees.bounded;
      conflict = record {
        decided = c.decided;
        consistent = c.consistent;
        unbroken = c.unbroken;
        open_true = c.open_true;
        open_false = c.open_false;
        new = c.new;
        settled = settled-board b known bound _ w.agrees c.settled;
        justified = settled-board b known bound _ w.agrees c.justified;
      };
    }
