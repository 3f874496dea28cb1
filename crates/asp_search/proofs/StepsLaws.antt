-- What the parts of a step promise of a search whose parts changed so.
use Rattle.std.proofs.Common.{◌≡◌, ℕ, ◌+◌, ◌-◌, ◌^◌, ◌<◌, ◌≤◌, min, Bool, true, false, leb, List, ◌∷◌, ◌++◌, length, get_or, take, Option, Some, None, inl, inr, ◌⊎◌, refl, sym, ap, ◌∙◌, subst, arith, []}
use Rattle.std.specs.Prelude.{ℤ, IfSome, IsSome, Result, Ok, Err}
use Rattle.std.specs.List.{All}
use Rattle.std.specs.Option.{unwrap_or, option_map}
use Rattle.std.specs.Result.{OnErr}
use Rattle.std.proofs.lemmas.Bool.{false≢true}
use Rattle.std.proofs.lemmas.Bool.{and_parts, or_cases, or_left}
use Rattle.std.proofs.lemmas.Bool.Decides.{nat_tests}
use Rattle.std.proofs.lemmas.List.{length-append, get_or_push}
use Rattle.std.proofs.lemmas.List.Elements.{filter_passes}
use Rattle.asp_model.specs.declared.program.Program.{Program}
use Rattle.asp_model.specs.declared.results.Mode.{Mode}
use Rattle.asp_model.specs.declared.results.Mode.TheVariants as mode
use Rattle.asp_model.specs.Asked.{reasoning_of}
use Rattle.asp_model.specs.Consequences.{used_up}
use Rattle.asp_model.specs.Sets.{Atoms}
use Rattle.asp_model.specs.Costs.{cost}
use Rattle.asp_vars.specs.Literals.{Literal, complement, literal_eq, has_literal, hits}
use Rattle.asp_vars.specs.Numbering.{values, var_count}
use Rattle.asp_vars.specs.Conflicts.{IsConflict}
use Rattle.asp_vars.specs.Entailment.{is_done}
use Rattle.asp_vars.specs.Paid.{Clash, Units}
use Rattle.asp_vars.specs.declared.nogood.Base.TheVariants as base
use Rattle.asp_vars.specs.declared.nogood.Nogood.{Nogood}
use Rattle.asp_vars.proofs.LiteralLaws.{hits-append, same_literal}
use Rattle.asp_trail.specs.declared.trail.Entry.{Entry}
use Rattle.asp_trail.specs.Entries.{assignment, level, level_in, cut}
use Rattle.asp_store.specs.declared.stored_nogood.StoredNogood.{StoredNogood}
use Rattle.asp_store.specs.declared.stored_nogood.Kind.TheVariants as kind
use Rattle.asp_store.specs.Keeping.{kept_at, nogood_at, IsAddedAt}
use Rattle.asp_order.specs.Heaps.{Ranking}
use Rattle.asp_analyze.specs.Learning.{AreContained, IsJump}
use Rattle.asp_analyze.specs.declared.learn.Learned.TheVariants as learned
use Rattle.asp_order.specs.Pacing.{Paced}
use Rattle.asp_order.specs.Waiting.{IsNext}
use Rattle.asp_propagate.specs.Propagating.{IsFixpoint, IsReduced}
use Rattle.asp_trail_laws.proofs.HitLaws.{clash_settled}
use Rattle.asp_trail_laws.proofs.LitLaws.{all_pass, eq_itself, has_later, has_more, only_one}
use Rattle.asp_trail_laws.proofs.PlaceLaws.{level_last}
use Rattle.asp_search_laws.specs.Axioms.{IsAxiom, AreDerived, IsDerived}
use Rattle.asp_search_laws.specs.Keeping.{Grows, GrowsUnlessGiven}
use Rattle.asp_search_laws.specs.Searching.{Searching}
use Rattle.asp_search_laws.specs.Steps.{HasSameTask, IsBeside, IsConflictOf, burnt, FollowsByLast, Learns, Stops, Closes, Decides, Restarts, IsDue, Answers, blocking_nogood, Fails, IsFailure}
use Rattle.asp_search_laws.proofs.DerivedLaws.{derived_same, derived_added, derived_none}
use Rattle.asp_search_laws.proofs.SlotLaws.{reduced_none}
use Rattle.asp_search_laws.proofs.JumpLaws.{before_newest, jump_beside}
use Rattle.asp_store.proofs.KeepLaws.{added_stays}
use Rattle.asp_search_laws.proofs.SlotLaws.{nogood_kept, added_newest, reduced_none, grows_none}
use Rattle.asp_search_laws.proofs.StepLaws.{Continues}
use Rattle.asp_state.specs.SearchStates.{SearchView, values_of, HasBoth}
use Rattle.asp_search.specs.Blocking.{Blocks}
use Rattle.asp_search.specs.Invariants.{view_of}
use Rattle.asp_search.specs.Meeting.{IsMet, ShowsConflict, IsClashOf, opposed}
use Rattle.asp_search.specs.Stepping.{IsFound}
use Rattle.asp_search.proofs.MeetLaws.{met_within, met_settled, met_derived, met_jump}

module _ (gives : Nogood → Type 0) (md : Mode) (t : SearchView) (c : Paced) (known : List Atoms) (last : Option ℕ) where
  -- what need not be found again
  abbrev U : List Atoms
  U = used_up (reasoning_of md) t.program known

  -- ---- nothing changed
  pub fails_same : (q : List Literal) (f : Units) → Fails gives (view_of md t c known last) (view_of md t c known last) q f f
  fails_same q f = record {
    program = refl;
    mode = refl;
    known = refl;
    bound = refl;
    fuel = inl refl;
    derived = derived_same t.program gives t.bound t.slots;
  }

  -- but for the number of the nogood that the step before kept
  pub fails_cleared : (q : List Literal) (f : Units) → Fails gives (view_of md t c known last) (view_of md t c known None) q f f
  fails_cleared q f = record {
    program = refl;
    mode = refl;
    known = refl;
    bound = refl;
    fuel = inl refl;
    derived = derived_same t.program gives t.bound t.slots;
  }

  same_task : HasSameTask (view_of md t c known last) (view_of md t c known last)
  same_task = record { program = refl; mode = refl; cube = refl; known = refl; bound = refl }

  -- ---- closed
  pub met_closes : (q : List Literal) (f : Units) (id : ℕ) (n : Nogood) → IsMet gives (view_of md t c known last) q id (learned.InCube n) →
      Closes gives (view_of md t c known last) (view_of md t c known last) q f f n
  met_closes q f id n m = record {
    same = same_task;
    fuel = refl;
    within = all_pass (has_literal q) n.lits (met_within gives md t c known last q id n m);
    why = met_derived gives md t c known last q id (learned.InCube n) m;
    settled = met_settled gives md t c known last q id n m;
    decisions = refl;
    derived = derived_same t.program gives t.bound t.slots;
    learnt = refl;
    restarts = refl;
    last = m.last;
  }

  -- a cube with a literal and its complement
  pub clash_closes : (q : List Literal) (f : Units) (l : Literal) → HasBoth q l → Closes gives (view_of md t c known last) (view_of md t c known None) q f f (opposed l)
  clash_closes q f l x = record {
    same = record { program = refl; mode = refl; cube = refl; known = refl; bound = refl };
    fuel = refl;
    within = all_pass (has_literal q) (opposed l).lits (λ k h. pair_within k (or_cases (literal_eq l k) (has_literal (complement l ∷ []) k) h));
    why = IsDerived.given (IsAxiom.pair l) tt;
    settled =
        clash_settled t.program (is_done t.program U t.bound) (opposed l).lits l (has_more (l ∷ []) (complement l ∷ []) l (one_has l))
        (has_later (l ∷ []) (complement l ∷ []) (complement l) (one_has (complement l)));
    decisions = refl;
    derived = derived_same t.program gives t.bound t.slots;
    learnt = refl;
    restarts = refl;
    last = refl;
  }
    where
      one_has : (k : Literal) → has_literal (k ∷ []) k ≡ true
      one_has k = or_left (literal_eq k k) false (eq_itself k)

      pair_within : (k : Literal) → (literal_eq l k ≡ true) ⊎ (has_literal (complement l ∷ []) k ≡ true) → has_literal q k ≡ true
      pair_within k (inl e) = subst (λ (m : Literal). has_literal q m ≡ true) (same_literal l k e) x.0
      pair_within k (inr h) = subst (λ (m : Literal). has_literal q m ≡ true) (only_one (complement l) k h) x.1

  -- ---- a conflict
  pub conflict_of : (q : List Literal) (id : ℕ) (lit : Literal) (x : Clash) → t.cube ≡ Some q → ShowsConflict t.program U t.bound t id lit →
      IsClashOf t.program (reasoning_of md) known t.bound t id lit x →
      IsConflictOf (view_of md t c known last) q x
  conflict_of q id lit x entered m is =
      let e = is m in
      record {
        program = ap (λ (y : Clash). y.program) e;
        cube = ap (λ (y : Clash). y.cube) e ∙ ap (λ (o : Option (List Literal)). unwrap_or o q) (sym m.entered ∙ entered);
        reasoning = ap (λ (y : Clash). y.reasoning) e;
        known = ap (λ (y : Clash). y.known) e;
        bound = ap (λ (y : Clash). y.bound) e;
        level = level_in t.entries lit.var;
        decisions = ap (λ (y : Clash). y.decisions) e;
        conflict = subst (λ (y : Clash). IsConflict t.program U t.bound y.cube y.decisions y.nogood) (sym e) m.conflict;
      }

  pub met_stops : (q : List Literal) (f : Units) (id : ℕ) (lit : Literal) (x : Clash) → last ≡ None → f.left ≡ 0 → t.cube ≡ Some q → (m : ShowsConflict t.program U t.bound t id lit) →
      IsClashOf t.program (reasoning_of md) known t.bound t id lit x → AreContained (var_count t.program) t.entries m.from.lits →
      Stops gives (view_of md t c known last) (view_of md t c known last) q f f x
  met_stops q f id lit x none empty entered m is holds = record {
    same = same_task;
    fuel = refl;
    none = empty;
    conflict = conflict_of q id lit x entered m is;
    contained = subst (λ (n : List Literal). AreContained (var_count t.program) t.entries n) (sym (ap (λ (y : Clash). y.nogood) (is m))) holds;
    decisions = refl;
    derived = derived_same t.program gives t.bound t.slots;
    learnt = refl;
    restarts = refl;
    last = none;
  }

  -- a unit is burnt, and then memory is wanting
  pub fails_paid : (q : List Literal) (f g : Units) (x : Clash) (u : SearchView) (d : Paced) (ranking : Ranking) → IsConflictOf (view_of md t c known last) q x → 0 < f.left → g ≡ burnt f x →
      u ≡ record t { ranking = ranking } → Fails gives (view_of md t c known last) (view_of md u d known last) q f g
  fails_paid q f g x u d ranking conflict left paid e =
      subst (λ (y : SearchView). Fails gives (view_of md t c known last) (view_of md y d known last) q f g) (sym e)
      (record {
        program = refl;
        mode = refl;
        known = refl;
        bound = refl;
        fuel = inr (record { clash = x; conflict = conflict; left = left; paid = paid });
        derived = derived_same t.program gives t.bound t.slots;
      })

  -- ---- learnt
  pub met_learns : (q : List Literal) (f g : Units) (x : Clash) (u : SearchView) (d : Paced) (slots : List (Option StoredNogood)) (ranking : Ranking) (id new to : ℕ) (n : Nogood) (lit : Literal) →
      IsMet gives (view_of md t c known last) q id (learned.Jump n to lit) → IsConflictOf (view_of md t c known last) q x → 0 < f.left → g ≡ burnt f x → IsAddedAt t.slots slots new n kind.Learnt →
      u ≡ record t {
        entries = cut to t.entries ++ record { lit = lit; level = level (cut to t.entries); reason = Some new } ∷ [];
        decisions = take to t.decisions;
        slots = slots;
        ranking = ranking;
      } → d ≡ record c { learnt = min (c.learnt + 1) (2 ^ 64 - 1) } → Learns gives (view_of md t c known last) (view_of md u d known (Some new)) q f g
  met_learns q f g x u d slots ranking id new to n lit m conflict left paid added e pace =
      let s : Searching = view_of md t c known last in
      let vars = var_count t.program in
      let entry : Entry = record { lit = lit; level = level (cut to t.entries); reason = Some new } in
      let after : SearchView = record t { entries = cut to t.entries ++ entry ∷ []; decisions = take to t.decisions; slots = slots; ranking = ranking } in
      let later : Paced = record c { learnt = min (c.learnt + 1) (2 ^ 64 - 1) } in
      let j : IsJump t.entries m.explains.from.lits n.lits to lit = met_jump gives md t c known last q id n to lit m in
      let start : take (length (cut to t.entries ++ entry ∷ []) - 1) (cut to t.entries ++ entry ∷ []) ≡ cut to t.entries =
      before_newest (cut to t.entries) (cut to t.entries ++ entry ∷ []) entry refl in
      let beside : All (IsBeside (assignment vars (cut to t.entries)) lit) n.lits = jump_beside vars t.entries m.explains.from.lits n.lits to lit m.ordered m.explains.contained j in
      let follows : FollowsByLast (view_of md after later known (Some new)) = record {
        id = new;
        nogood = n;
        last = refl;
        kept = added_newest t.slots slots new n kind.Learnt added;
        entry = entry;
        newest = ap (λ (xs : List Entry). xs ++ entry ∷ []) (sym start);
        has = j.has;
        others = subst (λ (xs : List Entry). All (IsBeside (assignment vars xs) lit) n.lits) (sym start) beside;
      } in
      let learns : Learns gives s (view_of md after later known (Some new)) q f g = record {
        same = record { program = refl; mode = refl; cube = refl; known = refl; bound = refl };
        burns = record { clash = x; conflict = conflict; left = left; paid = paid };
        follows = follows;
        decisions = (to, refl);
        grows = λ j k h ne. added_stays t.slots slots new n kind.Learnt added j k h;
        derived = derived_added t.program gives t.bound t.slots slots new n kind.Learnt added (met_derived gives md t c known last q id (learned.Jump n to lit) m);
        learnt = refl;
        restarts = refl;
      } in
      subst (λ (y : SearchView). Learns gives s (view_of md y d known (Some new)) q f g) (sym e)
      (subst (λ (y : Paced). Learns gives s (view_of md after y known (Some new)) q f g) (sym pace) learns)

  -- ---- decided
  pub decides_from : (silent : List (Option Bool) → Type 0) (f : Units) (u : SearchView) (l : Literal) (members : List Bool) → last ≡ None → IsFixpoint silent t.slots (values_of t) →
      IsNext (var_count t.program) (values_of t) t.ranking.activities l.var →
      u ≡ record t {
        entries = t.entries ++ record { lit = l; level = length t.decisions + 1; reason = None } ∷ [];
        decisions = t.decisions ++ l ∷ [];
        ranking = record t.ranking { members = members };
      } → Decides gives silent (view_of md t c known last) (view_of md u c known last) f f
  decides_from silent f u l members none fixpoint next e =
      let s : Searching = view_of md t c known last in
      let after : SearchView = record t {
        entries = t.entries ++ record { lit = l; level = length t.decisions + 1; reason = None } ∷ [];
        decisions = t.decisions ++ l ∷ [];
        ranking = record t.ranking { members = members };
      } in
      let entry : Entry = record { lit = l; level = length t.decisions + 1; reason = None } in
      let start : take (length (t.entries ++ entry ∷ []) - 1) (t.entries ++ entry ∷ []) ≡ t.entries = before_newest t.entries (t.entries ++ entry ∷ []) entry refl in
      let decides : Decides gives silent s (view_of md after c known last) f f = record {
        same = record { program = refl; mode = refl; cube = refl; known = refl; bound = refl };
        fuel = refl;
        fixpoint = subst (λ (xs : List Entry). IsFixpoint silent t.slots (assignment (var_count t.program) xs)) (sym start) fixpoint;
        lit = l;
        next = subst (λ (xs : List Entry). IsNext (var_count t.program) (assignment (var_count t.program) xs) t.ranking.activities l.var) (sym start) next;
        entry = ap (λ (xs : List Entry). xs ++ entry ∷ []) (sym start);
        decisions = refl;
        longer = omega (arith, length-append t.entries (entry ∷ []));
        grows = grows_none t.slots;
        derived = derived_same t.program gives t.bound t.slots;
        learnt = refl;
        restarts = refl;
        last = none;
      } in
      subst (λ (y : SearchView). Decides gives silent s (view_of md y c known last) f f) (sym e) decides

  -- ---- propagation
  pub continues_from : (es : List Entry) (slots : List (Option StoredNogood)) (new : Option ℕ) (u : SearchView) → u ≡ record t { entries = es; slots = slots } → Grows t.slots slots →
      AreDerived t.program gives t.bound (nogood_at t.slots) (nogood_at slots) → length t.entries ≤ length es →
      Continues gives (view_of md t c known last) (view_of md u c known new)
  continues_from es slots new u e grows derived longer =
      subst (λ (y : SearchView). Continues gives (view_of md t c known last) (view_of md y c known new)) (sym e)
      (record { same = refl; grows = grows; derived = derived; longer = longer })

  -- ---- no variable to decide
  pub continues_ranked : (u : SearchView) (ranking : Ranking) → u ≡ record t { ranking = ranking } → Continues gives (view_of md t c known last) (view_of md u c known last)
  continues_ranked u ranking e =
      subst (λ (y : SearchView). Continues gives (view_of md t c known last) (view_of md y c known last)) (sym e)
      (record { same = refl; grows = grows_none t.slots; derived = derived_same t.program gives t.bound t.slots; longer = omega arith })

-- ---- other activities
pub continues_raised : (gives : Nogood → Type 0) (s m : Searching) (ranking : Ranking) → m ≡ record s { ranking = ranking } → Continues gives s m
continues_raised gives s m ranking e =
    subst (λ (y : Searching). Continues gives s y) (sym e)
    (record { same = refl; grows = grows_none s.slots; derived = derived_same s.program gives s.bound s.slots; longer = omega arith })

pub decided_none : (t u : SearchView) (ranking : Ranking) → u ≡ record t { decisions = u.decisions; entries = u.entries; ranking = ranking } → u.entries ≡ t.entries → u.decisions ≡ t.decisions →
    u ≡ record t { ranking = ranking }
decided_none t u ranking e entries decisions =
    e
    ∙ (ap (λ (xs : List Entry). let y : SearchView = record t { decisions = u.decisions; entries = xs; ranking = ranking } in y) entries
    ∙ ap (λ (ds : List Literal). let y : SearchView = record t { decisions = ds; ranking = ranking } in y) decisions)

pub decided_some : (t u : SearchView) (l : Literal) (members : List Bool) → u ≡ record t { decisions = u.decisions; entries = u.entries; ranking = record t.ranking { members = members } } →
    u.entries ≡ t.entries ++ record { lit = l; level = length t.decisions + 1; reason = None } ∷ [] → u.decisions ≡ t.decisions ++ l ∷ [] →
    u ≡ record t {
      entries = t.entries ++ record { lit = l; level = length t.decisions + 1; reason = None } ∷ [];
      decisions = t.decisions ++ l ∷ [];
      ranking = record t.ranking { members = members };
    }
decided_some t u l members e entries decisions =
    let order : Ranking = record t.ranking { members = members } in
    let more : List Entry = t.entries ++ record { lit = l; level = length t.decisions + 1; reason = None } ∷ [] in
    e
    ∙ (ap (λ (xs : List Entry). let y : SearchView = record t { decisions = u.decisions; entries = xs; ranking = order } in y) entries
    ∙ ap (λ (ds : List Literal). let y : SearchView = record t { decisions = ds; entries = more; ranking = order } in y) decisions)

pub decides_now : (gives : Nogood → Type 0) (silent : List (Option Bool) → Type 0) (md : Mode) (t u : SearchView) (c : Paced) (known : List Atoms)
    (last : Option ℕ) (f : Units) (r : Option Literal) (l : Literal) →
    r ≡ Some l → last ≡ None → IsFixpoint silent t.slots (values_of t) →
    u ≡ record t { decisions = u.decisions; entries = u.entries; ranking = record t.ranking { members = u.ranking.members } } →
    IfSome r (λ k. IsNext (var_count t.program) (values_of t) t.ranking.activities k.var) →
    IfSome r (λ k. u.entries ≡ t.entries ++ record { lit = k; level = length t.decisions + 1; reason = None } ∷ []) →
    IfSome r (λ k. u.decisions ≡ t.decisions ++ k ∷ []) → Decides gives silent (view_of md t c known last) (view_of md u c known last) f f
decides_now gives silent md t u c known last f r l is none fixpoint same next entries decisions =
    let n : IsNext (var_count t.program) (values_of t) t.ranking.activities l.var =
    subst (λ (x : Option Literal). IfSome x (λ k. IsNext (var_count t.program) (values_of t) t.ranking.activities k.var)) is next in
    let e : u.entries ≡ t.entries ++ record { lit = l; level = length t.decisions + 1; reason = None } ∷ [] =
    subst (λ (x : Option Literal). IfSome x (λ k. u.entries ≡ t.entries ++ record { lit = k; level = length t.decisions + 1; reason = None } ∷ [])) is entries in
    let d : u.decisions ≡ t.decisions ++ l ∷ [] = subst (λ (x : Option Literal). IfSome x (λ k. u.decisions ≡ t.decisions ++ k ∷ [])) is decisions in
    decides_from gives md t c known last silent f u l u.ranking.members none fixpoint n (decided_some t u l u.ranking.members same e d)

-- ---- restarted
all_low : (xs : List Entry) → All (λ e. leb e.level 0 ≡ true) xs → level xs ≡ 0
all_low [] a = refl
all_low (x ∷ xs) a =
    let low : leb (get_or (x ∷ xs) (length (x ∷ xs) - 1) x).level 0 ≡ true = a (length (x ∷ xs) - 1) x (omega arith) in
    let zero_ : (get_or (x ∷ xs) (length (x ∷ xs) - 1) x).level ≡ 0 = grind (arith, nat_tests) in
    level_last (x ∷ xs) x (omega arith) ∙ zero_

pub level_cut : (es : List Entry) → level (cut 0 es) ≡ 0
level_cut es = all_low (cut 0 es) (filter_passes (λ (e : Entry). leb e.level 0) es)

pub restarts_from : (gives : Nogood → Type 0) (s t : Searching) (f : Units) (slots : List (Option StoredNogood)) (ranking : Ranking) → s.last ≡ None → IsDue s.learnt →
    IsReduced (cut 0 s.entries) s.slots slots →
    t ≡ record s {
      entries = cut 0 s.entries;
      decisions = [];
      slots = slots;
      ranking = ranking;
      restarts = min (s.restarts + 1) (2 ^ 64 - 1);
      learnt = 0;
    } → Restarts gives s t f f
restarts_from gives s t f slots ranking none due reduced e =
    subst (λ (y : Searching). Restarts gives s y f f) (sym e)
    (record {
      same = record { program = refl; mode = refl; cube = refl; known = refl; bound = refl };
      fuel = refl;
      due = due;
      level = level_cut s.entries;
      decisions = refl;
      derived = derived_none s.program gives s.bound s.slots slots (reduced_none (cut 0 s.entries) s.slots slots reduced);
      learnt = refl;
      restarts = refl;
      last = none;
    })

-- ---- an answer
pub blocking_hits : (v : List Bool) (q decisions : List Literal) → hits v (q ++ decisions) ≡ true → hits v q ≡ true
blocking_hits v q decisions h = (and_parts (hits v q) (hits v decisions) (sym (hits-append v q decisions) ∙ h)).0

module _ (gives : Nogood → Type 0) (t u : SearchView) (c : Paced) (known : List Atoms) (last : Option ℕ) (q : List Literal) (S : Atoms) (f : Units) (none : last ≡ None) where
  pub lists : (id : ℕ) (blocking : List ℕ) → IsFound (view_of mode.Enum t c known last) q S → Blocks (blocking_nogood q t.decisions) t u id blocking →
      Answers gives (view_of mode.Enum t c known last) (view_of mode.Enum u c (known ++ S ∷ []) (Some id)) q f f S
  lists id blocking found b = record {
    program = ap (λ (y : SearchView). y.program) b.same;
    mode = refl;
    cube = ap (λ (y : SearchView). y.cube) b.same;
    fuel = refl;
    stable = found.stable;
    hit = blocking_hits (values t.program S) q t.decisions found.hit;
    new = found.new;
    cheaper = found.cheaper;
    settled = found.settled;
    records = (
      refl,
      ap (λ (y : SearchView). y.bound) b.same,
      record { id = id; last = refl; kept = nogood_kept u.slots id (record { nogood = blocking_nogood q t.decisions; kind = kind.Forever; locked = false }) b.stands },
    );
    derived = λ j n k. cases j n (b.nogoods j n k);
    learnt = refl;
    restarts = refl;
  }
    where
      cases : (j : ℕ) (n : Nogood) → (nogood_at t.slots j ≡ Some n) ⊎ (n ≡ blocking_nogood q t.decisions) →
          IsDerived t.program gives t.bound (nogood_at t.slots) n ⊎ (n ≡ blocking_nogood q t.decisions)
      cases j n (inl e) = inl (IsDerived.stands j e)
      cases j n (inr e) = inr e

  pub improves : (ranking : Ranking) → IsFound (view_of mode.Opt t c known last) q S →
      u ≡ record t { bound = Some (cost t.program S); entries = cut 0 t.entries; decisions = []; ranking = ranking } →
      Answers gives (view_of mode.Opt t c known last) (view_of mode.Opt u c known last) q f f S
  improves ranking found e =
      subst (λ (y : SearchView). Answers gives (view_of mode.Opt t c known last) (view_of mode.Opt y c known last) q f f S) (sym e)
      (record {
        program = refl;
        mode = refl;
        cube = refl;
        fuel = refl;
        stable = found.stable;
        hit = blocking_hits (values t.program S) q t.decisions found.hit;
        new = found.new;
        cheaper = found.cheaper;
        settled = found.settled;
        records = (refl, refl, none);
        derived = λ id n k. IsDerived.stands id k;
        learnt = refl;
        restarts = refl;
      })

-- ---- of what the code has in its hands
pub same_cube : (o : Option (List Literal)) (r q : List Literal) → o ≡ Some r → o ≡ Some q → r ≡ q
same_cube o r q e f = ap (λ (x : Option (List Literal)). unwrap_or x r) (sym e ∙ f)

-- the pace shows in two counts alone
view_paced : (m : Mode) (t : SearchView) (c d : Paced) (known : List Atoms) (last : Option ℕ) → d.restarts ≡ c.restarts → d.learnt ≡ c.learnt → view_of m t c known last ≡ view_of m t d known last
view_paced m t c d known last restarts learnt =
    let first : ℕ → Searching = λ n. record (view_of m t c known last) { restarts = n } in
    let second : ℕ → Searching = λ n. record (view_of m t d known last) { learnt = n } in
    ap first (sym restarts) ∙ ap second (sym learnt)

pub listed : (gives : Nogood → Type 0) (m : Mode) (t u : SearchView) (c d : Paced) (known ks : List Atoms) (last : Option ℕ) (q : List Literal) (S : Atoms) (f : Units) (id : ℕ) (blocking : List ℕ) →
    m ≡ mode.Enum → last ≡ None → IsFound (view_of m t c known last) q S → ks ≡ known ++ S ∷ [] →
    Blocks (blocking_nogood q t.decisions) t u id blocking → d.restarts ≡ c.restarts → d.learnt ≡ c.learnt →
    Answers gives (view_of m t c known last) (view_of m u d ks (Some id)) q f f S
listed gives m t u c d known ks last q S f id blocking enum none found more b restarts learnt =
    subst (λ (x : Searching). Answers gives (view_of m t c known last) x q f f S) (view_paced m u c d ks (Some id) restarts learnt)
    (subst (λ (x : List Atoms). Answers gives (view_of m t c known last) (view_of m u c x (Some id)) q f f S) (sym more)
    (subst (λ (x : Mode). Answers gives (view_of x t c known last) (view_of x u c (known ++ S ∷ []) (Some id)) q f f S) (sym enum)
    (lists gives t u c known last q S f none id blocking (subst (λ (x : Mode). IsFound (view_of x t c known last) q S) enum found) b)))

-- the state where a smaller bound was set and all decisions were taken back
pub improved_track : (p : Program) (t a u : SearchView) (d : List ℤ) (S : Atoms) → p ≡ t.program → d ≡ cost p S → a ≡ record t { bound = Some d } →
    u ≡ record a { decisions = take 0 a.decisions; entries = cut 0 a.entries; ranking = u.ranking } →
    u ≡ record t { bound = Some (cost t.program S); entries = cut 0 t.entries; decisions = []; ranking = u.ranking }
improved_track p t a u d S program is set undo =
    undo
    ∙ (ap (λ (x : SearchView). let y : SearchView = record x { decisions = take 0 x.decisions; entries = cut 0 x.entries; ranking = u.ranking } in y) set
    ∙ ap (λ (x : List ℤ). let y : SearchView = record t { bound = Some x; entries = cut 0 t.entries; decisions = []; ranking = u.ranking } in y)
    (is ∙ ap (λ (x : Program). cost x S) program))

pub improved : (gives : Nogood → Type 0) (m : Mode) (t u : SearchView) (c : Paced) (known : List Atoms) (last : Option ℕ) (q : List Literal) (S : Atoms) (f : Units) →
    m ≡ mode.Opt → last ≡ None → IsFound (view_of m t c known last) q S →
    u ≡ record t { bound = Some (cost t.program S); entries = cut 0 t.entries; decisions = []; ranking = u.ranking } → Answers gives (view_of m t c known last) (view_of m u c known last) q f f S
improved gives m t u c known last q S f opt none found e =
    subst (λ (x : Mode). Answers gives (view_of x t c known last) (view_of x u c known last) q f f S) (sym opt)
    (improves gives t u c known last q S f none u.ranking (subst (λ (x : Mode). IsFound (view_of x t c known last) q S) opt found) e)

-- ---- closed, where nogoods were dropped after that
pub closes_thinned : (gives : Nogood → Type 0) (s t u : Searching) (q : List Literal) (f g : Units) (n : Nogood) (es : List Entry) →
    Closes gives s t q f g n → u ≡ record t { slots = u.slots } → IsReduced es t.slots u.slots →
    Closes gives s u q f g n
closes_thinned gives s t u q f g n es d same r =
    subst (λ (y : Searching). Closes gives s y q f g n) (sym same)
    (record {
      same = record { program = d.same.program; mode = d.same.mode; cube = d.same.cube; known = d.same.known; bound = d.same.bound };
      fuel = d.fuel;
      within = d.within;
      why = d.why;
      settled = d.settled;
      decisions = d.decisions;
      derived = λ id n k. d.derived id n (reduced_none es t.slots u.slots r id n k);
      learnt = d.learnt;
      restarts = d.restarts;
      last = d.last;
    })

-- ---- memory is wanting, and nothing changed
pub always_err : {X Y : Type 0} (r : Result X Y) (P : Type 0) → P → OnErr r P
always_err (Ok x) P p = tt
always_err (Err e) P p = p

pub fails_here : (gives : Nogood → Type 0) (s : Searching) (f : Units) → IsFailure gives s s f f
fails_here gives s f q e = record { program = refl; mode = refl; known = refl; bound = refl; fuel = inl refl; derived = derived_same s.program gives s.bound s.slots }

pub fails_still : (gives : Nogood → Type 0) (s t : Searching) (f : Units) → t ≡ s → IsFailure gives s t f f
fails_still gives s t f e = subst (λ (x : Searching). IsFailure gives s x f f) (sym e) (fails_here gives s f)

-- a path is entered
pub some_of : {X : Type 0} (o : Option X) → IsSome o → (x : X) × (o ≡ Some x)
some_of None h = absurd (false≢true h)
some_of (Some x) h = (x, refl)

-- ---- learnt, and then what propagators gave is dropped
-- the number of the last nogood is named by the newest entry
newest_named : (es new : List Entry) (e : Entry) (old slots : List (Option StoredNogood)) (id : ℕ) → new ≡ es ++ e ∷ [] → e.reason ≡ Some id →
    IsReduced new old slots → kept_at slots id ≡ kept_at old id
newest_named es new e old slots id is reason r =
    r.named (length es) e id (omega (arith, ap (length {A = Entry}) is, length-append es (e ∷ [])))
    (ap (λ (xs : List Entry). (get_or xs (length es) e).reason) is ∙ (ap (λ (x : Entry). x.reason) (get_or_push es e e (length es) refl) ∙ reason))

pub jumped_named : (t u : SearchView) (slots : List (Option StoredNogood)) (to id : ℕ) (lit : Literal) →
    u.entries ≡ cut to t.entries ++ record { lit = lit; level = level (cut to t.entries); reason = Some id } ∷ [] →
    IsReduced u.entries u.slots slots → kept_at slots id ≡ kept_at u.slots id
jumped_named t u slots to id lit is r = newest_named (cut to t.entries) u.entries (record { lit = lit; level = level (cut to t.entries); reason = Some id }) u.slots slots id is refl r

pub learns_swept : (gives : Nogood → Type 0) (s t : Searching) (slots : List (Option StoredNogood)) (q : List Literal) (f g : Units) →
    ((id : ℕ) → t.last ≡ Some id → kept_at slots id ≡ kept_at t.slots id) →
    IsReduced t.entries t.slots slots → GrowsUnlessGiven t.slots slots → Learns gives s t q f g → Learns gives s (record t { slots = slots }) q f g
learns_swept gives s t slots q f g named r others l = record {
  same = record { program = l.same.program; mode = l.same.mode; cube = l.same.cube; known = l.same.known; bound = l.same.bound };
  burns = l.burns;
  follows = record {
    id = l.follows.id;
    nogood = l.follows.nogood;
    last = l.follows.last;
    kept = ap (option_map (λ (k : StoredNogood). k.nogood)) (named l.follows.id l.follows.last) ∙ l.follows.kept;
    entry = l.follows.entry;
    newest = l.follows.newest;
    has = l.follows.has;
    others = l.follows.others;
  };
  decisions = l.decisions;
  grows = λ id k h ne. others id k (l.grows id k h ne) ne;
  derived = λ id n h. l.derived id n (reduced_none t.entries t.slots slots r id n h);
  learnt = l.learnt;
  restarts = l.restarts;
}
