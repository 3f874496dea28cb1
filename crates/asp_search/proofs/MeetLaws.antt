-- What follows from a violated nogood: the cube is settled, or a conflict is shown and a nogood learnt.
use Rattle.std.proofs.Common.{◌≡◌, ℕ, Bool, true, List, [], ◌∷◌, ◌++◌, take, Option, Some, None, IsSome, refl, sym, ap, ◌∙◌, subst, arith}
use Rattle.std.specs.Prelude.{ℤ, filter}
use Rattle.std.specs.Option.{unwrap_or}
use Rattle.std.proofs.lemmas.Bool.{false≢true}
use Rattle.std.proofs.lemmas.List.Elements.{All-weaker}
use Rattle.asp_model.specs.declared.program.Program.{Program}
use Rattle.asp_model.specs.declared.results.Mode.{Mode}
use Rattle.asp_model.specs.declared.results.Mode.TheVariants as mode
use Rattle.asp_model.specs.declared.results.Reasoning.{Reasoning}
use Rattle.asp_model.specs.Asked.{reasoning_of}
use Rattle.asp_model.specs.Consequences.{covers, used_up}
use Rattle.asp_model.specs.Models.{models}
use Rattle.asp_model.specs.Sets.{Atoms}
use Rattle.asp_model.specs.Sound.{IsSound}
use Rattle.asp_vars.specs.Knowing.{Knowing}
use Rattle.asp_vars.specs.Literals.{Literal, complement, holds_in, agrees, value_of}
use Rattle.asp_vars.specs.Numbering.{var_count}
use Rattle.asp_vars.specs.Entailment.{Settled}
use Rattle.asp_vars.specs.Paid.{Clash}
use Rattle.asp_vars.specs.Resolution.{IsWithin}
use Rattle.asp_vars.specs.declared.nogood.Nogood.{Nogood}
use Rattle.asp_trail.specs.Entries.{assignment, level_in}
use Rattle.asp_store.specs.Keeping.{nogood_at}
use Rattle.asp_analyze.specs.Learning.{AreContained, IsJump, nogood_of}
use Rattle.asp_analyze.specs.declared.learn.Learned.{Learned}
use Rattle.asp_analyze.specs.declared.learn.Learned.TheVariants as learned
use Rattle.asp_trail_laws.specs.Settling.{AreSettled}
use Rattle.asp_trail_laws.proofs.LitLaws.{all_has}
use Rattle.asp_trail_laws.proofs.PlaceLaws.{level_in_top}
use Rattle.asp_trail_laws.proofs.ViolatedLaws.{way_settled, within_cube}
use Rattle.asp_trail_laws.proofs.ConflictLaws.{conflict}
use Rattle.asp_order.specs.Pacing.{Paced}
use Rattle.asp_propagate.specs.Useful.{IsUseful}
use Rattle.asp_propagate.proofs.UsefulLaws.{useful_settles}
use Rattle.asp_propagate.specs.Late.{IsAtHand}
use Rattle.asp_trail.specs.Reasons.{AreImpliedBy}
use Rattle.asp_trail.specs.Trails.{IsOrdered}
use Rattle.asp_search_laws.specs.Axioms.{IsDerived}
use Rattle.asp_search_laws.specs.Explaining.{Explains}
use Rattle.asp_search_laws.specs.Keeping.{AreUseful, AreExcluded}
use Rattle.asp_search_laws.proofs.UsefulLaws.{learnt_useful, at_hand_useful, reasons_settled}
use Rattle.asp_search_laws.proofs.DerivedLaws.{learnt_derived}
use Rattle.asp_search_laws.proofs.JumpLaws.{jump_var}
use Rattle.asp_state.specs.SearchStates.{SearchView, values_of, IsUnder, IsBegun}
use Rattle.asp_search.specs.Invariants.{answers_known, used_in, view_of, IsSeen}
use Rattle.asp_search.specs.Meeting.{IsMet, ShowsConflict, IsClashOf}
use Rattle.asp_search.specs.Stepping.{IsEntered}
use Rattle.asp_search.proofs.LearnLaws.{contained}

module _ (gives : Nogood → Type 0) (md : Mode) (t : SearchView) (c : Paced) (known : List Atoms) (last : Option ℕ) (q : List Literal) (id : ℕ) where
  -- what need not be found again
  abbrev U : List Atoms
  U = used_up (reasoning_of md) t.program known

  from_settled : (l : Learned) → (m : IsMet gives (view_of md t c known last) q id l) → Settled t.program U t.bound m.explains.from.lits
  from_settled l m = useful_settles t.program U t.bound m.explains.from (m.useful id m.explains.from m.explains.stands)

  pub met_useful : (l : Learned) → IsMet gives (view_of md t c known last) q id l → IsUseful t.program U t.bound (nogood_of l)
  met_useful l m =
      learnt_useful t.program U t.bound (var_count t.program) t.entries m.explains.from (nogood_of l) m.explains.used m.ordered m.explains.reached (m.useful id m.explains.from m.explains.stands)
      (All-weaker (λ u. IsAtHand gives t.slots u.nogood) (λ u. IsUseful t.program U t.bound u.nogood)
      (λ u h. at_hand_useful t.program U t.bound gives t.slots m.useful m.given u.nogood h) m.explains.used m.explains.had)

  pub met_derived : (l : Learned) → IsMet gives (view_of md t c known last) q id l → IsDerived t.program gives t.bound (nogood_at t.slots) (nogood_of l)
  met_derived l m = learnt_derived t.program gives t.bound (var_count t.program) t.slots t.entries id l m.ordered (λ n g. (m.given n g).counts) m.explains

  pub met_of : (l : Learned) → IsEntered (view_of md t c known last) q → IsOrdered (var_count t.program) t.entries → ((r : List Literal) → IsUnder t r → IsBegun t.program r t.decisions t.entries) →
      AreSettled t.program U t.bound t.entries → AreUseful t.program U t.bound t.slots → ((n : Nogood) → gives n → IsUseful t.program U t.bound n) →
      Explains gives (var_count t.program) t.slots t.entries id l → IsMet gives (view_of md t c known last) q id l
  met_of l e o begun r u v x =
      let b = begun q (record { cube_is = e.cube; fixpoint = e.clear }) in
      record { entered = e.cube; clear = e.clear; last = e.last; ordered = o; starts = b.starts; fixpoint = b.fixpoint; reasons = r; useful = u; given = v; explains = x }

  -- ---- all at level 0
  pub met_within : (n : Nogood) → IsMet gives (view_of md t c known last) q id (learned.InCube n) → IsWithin n.lits q
  met_within n m =
      within_cube (var_count t.program) q t.decisions t.entries n.lits m.ordered m.starts m.explains.contained m.explains.learned.1 m.explains.assumed

  pub met_settled : (n : Nogood) → IsMet gives (view_of md t c known last) q id (learned.InCube n) → Settled t.program U t.bound n.lits
  met_settled n m = useful_settles t.program U t.bound n (met_useful (learned.InCube n) m)

  -- ---- a jump
  has_value : (o : Option Bool) (l : Literal) → agrees o l ≡ true → IsSome o
  has_value None l h = absurd (false≢true h)
  has_value (Some b) l h = refl

  pub met_jump : (n : Nogood) (to : ℕ) (lit : Literal) → (m : IsMet gives (view_of md t c known last) q id (learned.Jump n to lit)) → IsJump t.entries m.explains.from.lits n.lits to lit
  met_jump n to lit m = m.explains.learned

  pub met_shows : (n : Nogood) (to : ℕ) (lit : Literal) → IsMet gives (view_of md t c known last) q id (learned.Jump n to lit) → ShowsConflict t.program U t.bound t id lit
  met_shows n to lit m =
      let x = m.explains in
      let vars = var_count t.program in
      let j : IsJump t.entries x.from.lits n.lits to lit = x.learned in
      let holds : holds_in (assignment vars t.entries) (complement lit) ≡ true =
      all_has (λ l. holds_in (assignment vars t.entries) l ≡ true) n.lits (complement lit) x.contained j.has in
      let top = level_in t.entries lit.var in
      let settled : Settled t.program U t.bound (q ++ take top t.decisions) =
      way_settled t.program U t.bound vars q t.decisions t.entries top x.from.lits m.ordered m.reasons m.starts
      (from_settled (learned.Jump n to lit) m) x.violated j.topmost in
      record {
        cube = q;
        entered = m.entered;
        from = x.from;
        stands = x.stands;
        small = (jump_var vars t.entries x.from.lits n.lits to lit m.ordered x.contained j).1;
        has = has_value (value_of (values_of t) lit.var) (complement lit) holds;
        low = omega (arith, level_in_top t.entries lit.var m.ordered.rising, m.starts.counted);
        conflict = conflict t.program vars q t.decisions t.entries x.from.lits j.top.0 top m.ordered m.starts m.fixpoint (omega (arith, j.above))
            j.top.1 j.top.2 U t.bound settled (from_settled (learned.Jump n to lit) m);
      }

  -- the nogood that shows the conflict holds on the trail
  pub shown_holds : (l : Learned) → (m : IsMet gives (view_of md t c known last) q id l) (lit : Literal) (x : ShowsConflict t.program U t.bound t id lit) →
      AreContained (var_count t.program) t.entries x.from.lits
  shown_holds l m lit x =
      subst (λ (n : Nogood). AreContained (var_count t.program) t.entries n.lits) (ap (λ (o : Option Nogood). unwrap_or o m.explains.from) (sym m.explains.stands ∙ x.stands))
      (contained (var_count t.program) t.entries m.explains.from.lits m.explains.violated)

-- ---- of what the code has in its hands
pub shows_for : (p : Program) (k : Option Reasoning) (known : List Atoms) (bound : Option (List ℤ)) (t : SearchView) (id : ℕ) (lit : Literal) → p ≡ t.program → bound ≡ t.bound →
    ShowsConflict t.program (used_up k t.program known) t.bound t id lit → ShowsConflict p (used_up k p known) bound t id lit
shows_for p k known bound t id lit program bounded m =
    subst (λ (x : Program). ShowsConflict x (used_up k x known) bound t id lit) (sym program)
    (subst (λ (x : Option (List ℤ)). ShowsConflict t.program (used_up k t.program known) x t id lit) (sym bounded) m)

pub clash_for : (p : Program) (k : Option Reasoning) (known : List Atoms) (bound : Option (List ℤ)) (t : SearchView) (id : ℕ) (lit : Literal) (x : Clash) → p ≡ t.program → bound ≡ t.bound →
    IsClashOf p k known bound t id lit x → IsClashOf t.program k known t.bound t id lit x
clash_for p k known bound t id lit x program bounded c =
    subst (λ (y : Program). IsClashOf y k known t.bound t id lit x) program (subst (λ (y : Option (List ℤ)). IsClashOf p k known y t id lit x) bounded c)

-- the same of what need not be found again
pub useful_for : (p : Program) (t : SearchView) (m : Mode) (known : List Atoms) (n : Nogood) → p ≡ t.program →
    IsUseful t.program (used_up (reasoning_of m) t.program known) t.bound n → IsUseful t.program (used_up (reasoning_of m) p known) t.bound n
useful_for p t m known n same h = subst (λ (x : Program). IsUseful t.program (used_up (reasoning_of m) x known) t.bound n) (sym same) h

pub all_useful_for : (p : Program) (t : SearchView) (m : Mode) (known : List Atoms) → p ≡ t.program →
    AreUseful t.program (used_up (reasoning_of m) p known) t.bound t.slots →
    AreUseful t.program (used_up (reasoning_of m) t.program known) t.bound t.slots
all_useful_for p t m known same h = subst (λ (x : Program). AreUseful t.program (used_up (reasoning_of m) x known) t.bound t.slots) same h

pub all_excluded_for : (p : Program) (t : SearchView) (m : Mode) (known : List Atoms) → p ≡ t.program →
    AreExcluded t.program t.slots (used_up (reasoning_of m) p known) → AreExcluded t.program t.slots (used_up (reasoning_of m) t.program known)
all_excluded_for p t m known same h = subst (λ (x : Program). AreExcluded t.program t.slots (used_up (reasoning_of m) x known)) same h

pub settled_for : (p : Program) (t : SearchView) (m : Mode) (known : List Atoms) (S : Atoms) (lits : List Literal) → p ≡ t.program →
    Settled t.program (used_up (reasoning_of m) t.program known ++ S ∷ []) t.bound lits →
    Settled t.program (used_up (reasoning_of m) p known ++ S ∷ []) t.bound lits
settled_for p t m known S lits same h = subst (λ (x : Program). Settled t.program (used_up (reasoning_of m) x known ++ S ∷ []) t.bound lits) (sym same) h

-- the reasons of the entries are settled, since what a propagator gives or writes counts
pub settled_reasons : (p : Program) (t : SearchView) (m : Mode) (known : List Atoms) (gives late : Nogood → Type 0) → p ≡ t.program → IsSound p →
    ((n : Nogood) (K : List Atoms) → IsSound t.program → gives n → IsUseful t.program K t.bound n) → ((n : Nogood) → late n → gives n) →
    AreUseful t.program (used_up (reasoning_of m) p known) t.bound t.slots →
    (IsSound t.program → AreImpliedBy (IsAtHand late t.slots) t.entries) → AreSettled t.program (used_up (reasoning_of m) t.program known) t.bound t.entries
settled_reasons p t m known gives late same sound counts given useful implied =
    let s : IsSound t.program = subst IsSound same sound in
    reasons_settled t.program (used_up (reasoning_of m) t.program known) t.bound late t.slots t.entries (all_useful_for p t m known same useful)
    (λ n w. counts n (used_up (reasoning_of m) t.program known) s (given n w)) (implied s)

-- ---- how the answers known are stored
-- nothing is, at the start
none_covered : (r : Reasoning) (p : Program) (L : List Atoms) → filter (covers r p []) L ≡ []
none_covered r p [] = refl
none_covered r p (S ∷ L) = none_covered r p L

pub none_used : (k : Option Reasoning) (p : Program) → used_up k p [] ≡ []
none_used None p = refl
none_used (Some r) p = none_covered r p (models p)

-- a list of one more, where no consequences are sought
pub known_more : (m : Mode) (p : Program) (seen : Option Knowing) (K L : List Atoms) (S : Atoms) → IsSeen (reasoning_of m) p seen → m ≡ mode.Enum →
    L ≡ K ++ S ∷ [] → answers_known L seen ≡ answers_known K seen ++ S ∷ []
known_more mode.Enum p None K L S is enum more = more
known_more mode.Enum p (Some k) K L S is enum more = absurd is
known_more mode.Opt p seen K L S is enum more = absurd (differ enum)
  where
    differ : mode.Opt ≡ mode.Enum → ⊥
    differ e = cc
known_more (mode.Consequences r) p seen K L S is enum more = absurd (differ enum)
  where
    differ : mode.Consequences r ≡ mode.Enum → ⊥
    differ e = cc

pub used_more : (m : Mode) (p : Program) (seen : Option Knowing) (K L : List Atoms) (S : Atoms) → IsSeen (reasoning_of m) p seen → m ≡ mode.Enum →
    L ≡ K ++ S ∷ [] → used_in p m L seen ≡ used_in p m K seen ++ S ∷ []
used_more mode.Enum p None K L S is enum more = more
used_more mode.Enum p (Some k) K L S is enum more = absurd is
used_more mode.Opt p seen K L S is enum more = absurd (differ enum)
  where
    differ : mode.Opt ≡ mode.Enum → ⊥
    differ e = cc
used_more (mode.Consequences r) p seen K L S is enum more = absurd (differ enum)
  where
    differ : mode.Consequences r ≡ mode.Enum → ⊥
    differ e = cc
