-- What a step promises, where propagation came before.
use Rattle.std.proofs.Common.{◌≡◌, ℕ, ◌≤◌, Bool, List, length, Option, Some, ◌⊎◌, inl, inr, ap, ◌∙◌, subst, arith}
use Rattle.std.specs.Prelude.{ℤ}
use Rattle.asp_model.specs.declared.program.Program.{Program}
use Rattle.asp_model.specs.declared.results.Mode.{Mode}
use Rattle.asp_model.specs.declared.results.Mode.TheVariants as mode
use Rattle.asp_model.specs.Sets.{Atoms}
use Rattle.asp_vars.specs.Literals.{Literal}
use Rattle.asp_vars.specs.Paid.{Clash, Units}
use Rattle.asp_vars.specs.declared.nogood.Nogood.{Nogood}
use Rattle.asp_trail.specs.declared.trail.Entry.{Entry}
use Rattle.asp_store.specs.declared.stored_nogood.StoredNogood.{StoredNogood}
use Rattle.asp_store.specs.Keeping.{nogood_at}
use Rattle.asp_order.specs.Heaps.{Ranking}
use Rattle.asp_search_laws.specs.Axioms.{AreDerived}
use Rattle.asp_search_laws.specs.Keeping.{Grows}
use Rattle.asp_search_laws.specs.Searching.{Searching}
use Rattle.asp_search_laws.specs.Steps.{HasSameTask, Derives, Decides, IsConflictOf, Burns, Learns, Stops, Closes, Records, IsDerivedOrBlocking, Answers, Restarts, Steps, Fails, IsStep, IsFailure}
use Rattle.asp_search_laws.specs.declared.step.Step.{Step}
use Rattle.asp_search_laws.specs.declared.step.Step.TheVariants as step
use Rattle.asp_search_laws.proofs.SlotLaws.{grows_more}
use Rattle.asp_search_laws.proofs.DerivedLaws.{derived_more, all_derived_more}

-- Only entries and nogoods were added, each of them derived.
pub record Continues (gives : Nogood → Type 0) (s m : Searching) : Type 0 where
  pub same : m ≡ record s { entries = m.entries; slots = m.slots; ranking = m.ranking; last = m.last }
  pub grows : Grows s.slots m.slots
  pub derived : Derives gives s m
  pub longer : length s.entries ≤ length m.entries

-- the search with these entries and nogoods
abbrev mid : Searching → List Entry → List (Option StoredNogood) → Ranking → Option ℕ → Searching
mid s es slots ranking last = record s { entries = es; slots = slots; ranking = ranking; last = last }

module _ (gives : Nogood → Type 0) (silent : List (Option Bool) → Type 0) (s t : Searching) (es : List Entry) (slots : List (Option StoredNogood)) (ranking : Ranking) (last : Option ℕ)
    (grows : Grows s.slots slots) (derived : AreDerived s.program gives s.bound (nogood_at s.slots) (nogood_at slots)) (longer : length s.entries ≤ length es) where
  task : HasSameTask (mid s es slots ranking last) t → HasSameTask s t
  task h = record { program = h.program; mode = h.mode; cube = h.cube; known = h.known; bound = h.bound }

  derives : Derives gives (mid s es slots ranking last) t → Derives gives s t
  derives d = all_derived_more s.program gives s.bound (nogood_at s.slots) (nogood_at slots) (nogood_at t.slots) derived d

  conflict : (q : List Literal) (x : Clash) → IsConflictOf (mid s es slots ranking last) q x → IsConflictOf s q x
  conflict q x h = record { program = h.program; cube = h.cube; reasoning = h.reasoning; known = h.known; bound = h.bound; level = h.level; decisions = h.decisions; conflict = h.conflict }

  burns : (q : List Literal) (f g : Units) → Burns (mid s es slots ranking last) q f g → Burns s q f g
  burns q f g h = record { clash = h.clash; conflict = conflict q h.clash h.conflict; left = h.left; paid = h.paid }

  decides : (f g : Units) → Decides gives silent (mid s es slots ranking last) t f g → Decides gives silent s t f g
  decides f g h = record {
    same = task h.same;
    fuel = h.fuel;
    fixpoint = h.fixpoint;
    lit = h.lit;
    next = h.next;
    entry = h.entry;
    decisions = h.decisions;
    longer = omega (arith, longer, h.longer);
    grows = grows_more s.slots slots t.slots grows h.grows;
    derived = derives h.derived;
    learnt = h.learnt;
    restarts = h.restarts;
    last = h.last;
  }

  learns : (q : List Literal) (f g : Units) → Learns gives (mid s es slots ranking last) t q f g → Learns gives s t q f g
  learns q f g h = record {
    same = task h.same;
    burns = burns q f g h.burns;
    follows = h.follows;
    decisions = h.decisions;
    grows = λ id k q ne. h.grows id k (grows id k q) ne;
    derived = derives h.derived;
    learnt = h.learnt;
    restarts = h.restarts;
  }

  stops : (q : List Literal) (f g : Units) (x : Clash) → Stops gives (mid s es slots ranking last) t q f g x → Stops gives s t q f g x
  stops q f g x h = record {
    same = task h.same;
    fuel = h.fuel;
    none = h.none;
    conflict = conflict q x h.conflict;
    contained = h.contained;
    decisions = h.decisions;
    derived = derives h.derived;
    learnt = h.learnt;
    restarts = h.restarts;
    last = h.last;
  }

  closes : (q : List Literal) (f g : Units) (n : Nogood) → Closes gives (mid s es slots ranking last) t q f g n → Closes gives s t q f g n
  closes q f g n h = record {
    same = task h.same;
    fuel = h.fuel;
    within = h.within;
    why = derived_more s.program gives s.bound (nogood_at s.slots) (nogood_at slots) n derived h.why;
    settled = h.settled;
    decisions = h.decisions;
    derived = derives h.derived;
    learnt = h.learnt;
    restarts = h.restarts;
    last = h.last;
  }

  records : (m : Mode) (q : List Literal) (S : Atoms) → Records m (mid s es slots ranking last) t q S → Records m s t q S
  records mode.Enum q S h = h
  records mode.Opt q S h = h
  records (mode.Consequences r) q S h = h

  derived_or_blocking : (m : Mode) (q : List Literal) (S : Atoms) (n : Nogood) → IsDerivedOrBlocking m gives (mid s es slots ranking last) q S n → IsDerivedOrBlocking m gives s q S n
  derived_or_blocking mode.Enum q S n (inl d) = inl (derived_more s.program gives s.bound (nogood_at s.slots) (nogood_at slots) n derived d)
  derived_or_blocking mode.Enum q S n (inr w) = inr w
  derived_or_blocking (mode.Consequences r) q S n (inl d) = inl (derived_more s.program gives s.bound (nogood_at s.slots) (nogood_at slots) n derived d)
  derived_or_blocking (mode.Consequences r) q S n (inr w) = inr w
  derived_or_blocking mode.Opt q S n d = derived_more s.program gives s.bound (nogood_at s.slots) (nogood_at slots) n derived d

  answers : (q : List Literal) (f g : Units) (S : Atoms) → Answers gives (mid s es slots ranking last) t q f g S → Answers gives s t q f g S
  answers q f g S h = record {
    program = h.program;
    mode = h.mode;
    cube = h.cube;
    fuel = h.fuel;
    stable = h.stable;
    hit = h.hit;
    new = h.new;
    cheaper = h.cheaper;
    settled = h.settled;
    records = records s.mode q S h.records;
    derived = λ id n k. derived_or_blocking s.mode q S n (h.derived id n k);
    learnt = h.learnt;
    restarts = h.restarts;
  }

  restarted : (f g : Units) → Restarts gives (mid s es slots ranking last) t f g → Restarts gives s t f g
  restarted f g h = record {
    same = task h.same;
    fuel = h.fuel;
    due = h.due;
    level = h.level;
    decisions = h.decisions;
    derived = derives h.derived;
    learnt = h.learnt;
    restarts = h.restarts;
    last = h.last;
  }

  fails_mid : (q : List Literal) (f g : Units) → Fails gives (mid s es slots ranking last) t q f g → Fails gives s t q f g
  fails_mid q f g h = record { program = h.program; mode = h.mode; known = h.known; bound = h.bound; fuel = paid h.fuel; derived = derives h.derived }
    where
      paid : (g ≡ f) ⊎ Burns (mid s es slots ranking last) q f g → (g ≡ f) ⊎ Burns s q f g
      paid (inl e) = inl e
      paid (inr b) = inr (burns q f g b)

  steps_mid : (q : List Literal) (f g : Units) (r : Step) → Steps gives silent (mid s es slots ranking last) t q f g r → Steps gives silent s t q f g r
  steps_mid q f g step.Decided h = decides f g h
  steps_mid q f g step.Learnt h = learns q f g h
  steps_mid q f g (step.Answer S) h = answers q f g S h
  steps_mid q f g (step.Closed n) h = closes q f g n h
  steps_mid q f g (step.NoFuel x) h = stops q f g x h
  steps_mid q f g step.Restarted h = restarted f g h

pub steps_after : (gives : Nogood → Type 0) (silent : List (Option Bool) → Type 0) (s m t : Searching) (q : List Literal) (f g : Units) (r : Step) → Continues gives s m →
    Steps gives silent m t q f g r → Steps gives silent s t q f g r
steps_after gives silent s m t q f g r c h =
    steps_mid gives silent s t m.entries m.slots m.ranking m.last c.grows c.derived c.longer q f g r
    (subst (λ (x : Searching). Steps gives silent x t q f g r) c.same h)

pub fails_after : (gives : Nogood → Type 0) (s m t : Searching) (q : List Literal) (f g : Units) → Continues gives s m → Fails gives m t q f g → Fails gives s t q f g
fails_after gives s m t q f g c h =
    fails_mid gives (λ a. Unit {0}) s t m.entries m.slots m.ranking m.last c.grows c.derived c.longer q f g
    (subst (λ (x : Searching). Fails gives x t q f g) c.same h)

-- ---- with what the propagator gives and is silent of, by the program and the bound
module _ (G : Program → Option (List ℤ) → Nogood → Type 0) (Q : Program → Option (List ℤ) → List (Option Bool) → Type 0) (s m t : Searching)
    (f g : Units) (c : Continues (G s.program s.bound) s m) where
  cube_of : (q : List Literal) → s.cube ≡ Some q → m.cube ≡ Some q
  cube_of q e = ap (λ (x : Searching). x.cube) c.same ∙ e

  pub steps_on : (r : Step) → IsStep (G m.program m.bound) (Q m.program m.bound) m t f g r → IsStep (G s.program s.bound) (Q s.program s.bound) s t f g r
  steps_on r h q e =
      steps_after (G s.program s.bound) (Q s.program s.bound) s m t q f g r c
      (subst (λ (p : Program). Steps (G p s.bound) (Q p s.bound) m t q f g r) (ap (λ (x : Searching). x.program) c.same)
      (subst (λ (b : Option (List ℤ)). Steps (G m.program b) (Q m.program b) m t q f g r) (ap (λ (x : Searching). x.bound) c.same) (h q (cube_of q e))))

  pub fails_on : IsFailure (G m.program m.bound) m t f g → IsFailure (G s.program s.bound) s t f g
  fails_on h q e =
      fails_after (G s.program s.bound) s m t q f g c
      (subst (λ (p : Program). Fails (G p s.bound) m t q f g) (ap (λ (x : Searching). x.program) c.same)
      (subst (λ (b : Option (List ℤ)). Fails (G m.program b) m t q f g) (ap (λ (x : Searching). x.bound) c.same) (h q (cube_of q e))))
