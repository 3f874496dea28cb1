-- The nogood that a search for consequences keeps leaves out exactly what shows nothing beside the answers known.
use Rattle.std.proofs.Common.{◌≡◌, ◌≢◌, ℕ, ◌+◌, ◌<◌, set, take, Bool, true, false, cond, not, ◌&&◌, ◌||◌, List, [], ◌∷◌, ◌++◌, length, get_or, map, filter, Option, Some, None, IsSome, inl, inr, ◌⊎◌, refl, sym, ap, ◌∙◌, subst, arith}
use Rattle.std.specs.Prelude.{ℤ, is_some, slice_get}
use Rattle.std.specs.List.{All, AllByRecursion, list_any}
use Rattle.std.proofs.lemmas.Bool.{false≢true, or_left}
use Rattle.std.proofs.lemmas.List.{length-append, get_or_append_left}
use Rattle.std.proofs.lemmas.List.Elements.{All-from_recursion}
use Rattle.std.proofs.lemmas.List.Folds.{list_any-append}
use Rattle.std.proofs.lemmas.Option.{same_Some}
use Rattle.asp_model.specs.declared.program.Program.{Program}
use Rattle.asp_model.specs.declared.results.Mode.{Mode}
use Rattle.asp_model.specs.declared.results.Mode.TheVariants as mode
use Rattle.asp_model.specs.declared.results.Reasoning.{Reasoning}
use Rattle.asp_model.specs.declared.results.Reasoning.TheVariants.{Brave, Cautious}
use Rattle.asp_model.specs.Asked.{reasoning_of}
use Rattle.asp_model.specs.Consequences.{common_sets, covers, shows, unshown, used_up}
use Rattle.asp_model.specs.Models.{atoms_of, models}
use Rattle.asp_model.specs.Sets.{Atoms, has, same_set}
use Rattle.asp_model.proofs.ConsequenceLaws.{AreAmong, common-push, listed-used, unshown-among, unshown-common, used-less}
use Rattle.asp_model.proofs.MemberLaws.{each-filter, each_weaker, each-map, HasAll-itself}
use Rattle.asp_vars.specs.Entailment.{HitsOnly, costs_bound, excuse, is_done}
use Rattle.asp_vars.specs.Knowing.{Knowing}
use Rattle.asp_vars.specs.Literals.{Literal, hits, is_true}
use Rattle.asp_vars.specs.Numbering.{values, var_count}
use Rattle.asp_vars.specs.Paid.{Units}
use Rattle.asp_vars.specs.declared.nogood.Base.{Base}
use Rattle.asp_vars.specs.declared.nogood.Base.TheVariants as base
use Rattle.asp_vars.specs.declared.nogood.Nogood.{Nogood}
use Rattle.asp_vars.proofs.CompletionLaws.{atom-true, atom-false}
use Rattle.asp_vars.proofs.PlaceLaws.{atom-within}
use Rattle.asp_vars.proofs.ResolutionLaws.{HitsOnly-weaker}
use Rattle.asp_trail.specs.declared.trail.Entry.{Entry}
use Rattle.asp_trail.specs.Trails.{IsVar}
use Rattle.asp_store.specs.declared.stored_nogood.StoredNogood.{StoredNogood}
use Rattle.asp_store.specs.declared.stored_nogood.Kind.TheVariants as kind
use Rattle.asp_store.specs.Keeping.{nogood_at, IsAddedAt}
use Rattle.asp_store.proofs.KeepLaws.{added_stays}
use Rattle.asp_order.specs.Pacing.{Paced}
use Rattle.asp_propagate.specs.Useful.{IsUseful}
use Rattle.asp_search_laws.specs.Axioms.{IsDerived}
use Rattle.asp_search_laws.specs.Keeping.{AreBlocking, AreExcluded, AreUseful, IsBlocking, IsExcluded, IsLast}
use Rattle.asp_search_laws.specs.Steps.{Answers, covering_nogood, unshown_literal}
use Rattle.asp_search_laws.proofs.SlotLaws.{added_apart, added_each, blocking_pop, blocking_push, blocking_stay, grows_forever, kept_within, removed_blocking, removed_none, removed_other}
use Rattle.asp_state.specs.SearchStates.{SearchView}
use Rattle.asp_search.specs.Beside.{Adopts, count_unshown, unshown_by}
use Rattle.asp_search.specs.Blocking.{Covers, Spares}
use Rattle.asp_search.specs.Invariants.{IsSearch, IsSeen, answers_known, view_of}
use Rattle.asp_search.specs.Stepping.{IsFound}
use Rattle.asp_search.proofs.BlockLaws.{init_last}
use Rattle.asp_search.proofs.StepsLaws.{blocking_hits}

-- ---- what the nogood says
not_not : (b : Bool) → b ≡ not (not b)
not_not true = refl
not_not false = refl

not_or : (a b : Bool) → (not a && not b) ≡ not (a || b)
not_or true b = refl
not_or false b = refl

-- its literal of an atom is true in a set that doesn't show the atom
literal_shown : (r : Reasoning) (p : Program) (S : Atoms) (a : ℕ) → has (atoms_of p) a ≡ true → is_true (values p S) (unshown_literal r p a) ≡ not (shows r S a)
literal_shown Brave p S a h = atom-false p S a h
literal_shown Cautious p S a h = atom-true p S a h ∙ not_not (has S a)

literals_shown : (r : Reasoning) (p : Program) (S L : Atoms) → AllByRecursion (λ a. has (atoms_of p) a ≡ true) L → hits (values p S) (map (unshown_literal r p) L) ≡ not (list_any (shows r S) L)
literals_shown r p S [] h = refl
literals_shown r p S (a ∷ L) h =
    ap (λ (b : Bool). b && hits (values p S) (map (unshown_literal r p) L)) (literal_shown r p S a h.0)
    ∙ ap (λ (b : Bool). not (shows r S a) && b) (literals_shown r p S L h.1)
    ∙ not_or (shows r S a) (list_any (shows r S) L)

unshown_stand : (r : Reasoning) (p : Program) (K : List Atoms) → AllByRecursion (λ a. has (atoms_of p) a ≡ true) (unshown r p K)
unshown_stand r p K = each-filter (λ a. has (atoms_of p) a ≡ true) (λ a. not (list_any (λ S. shows r S a) K)) (atoms_of p) (HasAll-itself (atoms_of p))

pub all_stand : (r : Reasoning) (p q : Program) (K : List Atoms) (L : Atoms) → p ≡ q → L ≡ unshown r p K → All (λ a. has (atoms_of q) a ≡ true) L
all_stand r p q K L same is =
    subst (λ (x : Program). All (λ a. has (atoms_of x) a ≡ true) L) same
    (subst (λ (xs : Atoms). All (λ a. has (atoms_of p) a ≡ true) xs) (sym is)
    (All-from_recursion (λ a. has (atoms_of p) a ≡ true) (unshown r p K) (unshown_stand r p K)))

pub covering_hits : (r : Reasoning) (p : Program) (K : List Atoms) (S : Atoms) → K ≢ [] → hits (values p S) (covering_nogood r p K).lits ≡ covers r p K S
covering_hits r p [] S some = absurd (some refl)
covering_hits r p (T ∷ K) S some = literals_shown r p S (unshown r p (T ∷ K)) (unshown_stand r p (T ∷ K))

pub covering_vars : (r : Reasoning) (p : Program) (K : List Atoms) → All (λ l. IsVar (var_count p) l.var) (covering_nogood r p K).lits
covering_vars r p K =
    All-from_recursion (λ (l : Literal). IsVar (var_count p) l.var) (covering_nogood r p K).lits
    (each-map (λ (l : Literal). IsVar (var_count p) l.var) (unshown_literal r p) (unshown r p K)
    (each_weaker (λ a. has (atoms_of p) a ≡ true) (λ a. IsVar (var_count p) (unshown_literal r p a).var) (of r) (unshown r p K) (unshown_stand r p K)))
  where
    of : (r : Reasoning) (a : ℕ) → has (atoms_of p) a ≡ true → IsVar (var_count p) (unshown_literal r p a).var
    of Brave a h = (omega arith, atom-within p a h)
    of Cautious a h = (omega arith, atom-within p a h)

-- ---- why it counts
pub covering_useful : (r : Reasoning) (p : Program) (K : List Atoms) (bound : Option (List ℤ)) → K ≢ [] → IsUseful p (used_up (Some r) p K) bound (covering_nogood r p K)
covering_useful r p K bound some = record {
  good = record {
    excused = λ S stable hit.
        or_left (list_any (same_set S) (used_up (Some r) p K)) (costs_bound p bound S) (listed-used r p K S stable ∙ (sym (covering_hits r p K S some) ∙ hit));
  };
  counts = tt;
}

-- others go on to count where more need not be found again
base_among : (p : Program) (K L : List Atoms) (bound : Option (List ℤ)) (b : Base) (n : List Literal) → AreAmong K L → HitsOnly p (excuse p K bound b) n → HitsOnly p (excuse p L bound b) n
base_among p K L bound base.Pure n among h = h
base_among p K L bound (base.Below c) n among h = h
base_among p K L bound base.Local n among h = HitsOnly-weaker p (is_done p K bound) (is_done p L bound) n more h
  where
    more : (S : Atoms) → is_done p K bound S ≡ true → is_done p L bound S ≡ true
    more S e = cases (list_any (same_set S) K) refl e
      where
        cases : (t : Bool) → list_any (same_set S) K ≡ t → (t || costs_bound p bound S) ≡ true → is_done p L bound S ≡ true
        cases true known q = or_left (list_any (same_set S) L) (costs_bound p bound S) (among S known)
        cases false new q = dear (list_any (same_set S) L)
          where
            dear : (t : Bool) → (t || costs_bound p bound S) ≡ true
            dear true = refl
            dear false = q

pub useful_among : (p : Program) (K L : List Atoms) (bound : Option (List ℤ)) (n : Nogood) → AreAmong K L → IsUseful p K bound n → IsUseful p L bound n
useful_among p K L bound n among u = record { good = base_among p K L bound n.base n.lits among u.good; counts = u.counts }

-- ---- what it leaves out
each_covered : (r : Reasoning) (p : Program) (K : List Atoms) (slots : List (Option StoredNogood)) →
    ((S : Atoms) → covers r p K S ≡ true → IsExcluded p slots S) → (M : List Atoms) → AreExcluded p slots (filter (covers r p K) M)
each_covered r p K slots out [] = tt
each_covered r p K slots out (S ∷ M) = cases (covers r p K S) refl (each_covered r p K slots out M)
  where
    cases : (t : Bool) → covers r p K S ≡ t → AreExcluded p slots (filter (covers r p K) M) → AreExcluded p slots (cond t (S ∷ filter (covers r p K) M) (filter (covers r p K) M))
    cases true e rest = (out S e, rest)
    cases false e rest = rest

-- ---- the mode
none_sought : (r : Reasoning) → None ≡ Some r → ⊥
none_sought r e = cc

pub mode_is : (m : Mode) (r : Reasoning) → reasoning_of m ≡ Some r → m ≡ mode.Consequences r
mode_is mode.Enum r e = absurd (none_sought r e)
mode_is mode.Opt r e = absurd (none_sought r e)
mode_is (mode.Consequences x) r e = ap (λ (y : Reasoning). mode.Consequences y) (same_Some x r e)

differ : (r : Reasoning) → mode.Consequences r ≡ mode.Opt → ⊥
differ r e = cc

-- ---- what the search keeps
search_renewed : (p : Program) (r : Reasoning) (t u : SearchView) (vars : ℕ) (checker : Program) (K L : List Atoms) (blocking new : List ℕ)
    (bound : Option (List ℤ)) (last latest : Option ℕ) → Covers (covering_nogood r p L) t u new →
    AreAmong (used_up (Some r) p K) (used_up (Some r) p L) → L ≢ [] → IsLast u.slots latest → IsSearch p (mode.Consequences r) t vars checker (used_up (Some r) p K) blocking bound last →
    IsSearch p (mode.Consequences r) u vars checker (used_up (Some r) p L) new bound latest
search_renewed p r t u vars checker K L blocking new bound last latest c among some stands s =
    let program : u.program ≡ t.program = ap (λ (y : SearchView). y.program) c.same in
    let bounded : u.bound ≡ t.bound = ap (λ (y : SearchView). y.bound) c.same in
    record {
      program = s.program ∙ sym program;
      bounded = s.bounded ∙ sym bounded;
      counted = s.counted ∙ ap var_count (sym program);
      checked = s.checked;
      useful =
          subst (λ (x : Program). AreUseful x (used_up (Some r) p L) u.bound u.slots) (sym program)
          (subst (λ (x : Option (List ℤ)). AreUseful t.program (used_up (Some r) p L) x u.slots) (sym bounded) (λ j n k. useful j n (c.nogoods j n k)));
      blocked = subst (λ (x : Program). AreExcluded x u.slots (used_up (Some r) p L)) (s.program ∙ sym program) (each_covered r p L u.slots out (models p));
      blocking_stand = c.blocking_stand;
      last_stands = stands;
      alone = λ e. absurd (differ r e);
    }
  where
    useful : (j : ℕ) (n : Nogood) → (nogood_at t.slots j ≡ Some n) ⊎ (n ≡ covering_nogood r p L) → IsUseful t.program (used_up (Some r) p L) t.bound n
    useful j n (inl k) = useful_among t.program (used_up (Some r) p K) (used_up (Some r) p L) t.bound n among (s.useful j n k)
    useful j n (inr e) = subst (IsUseful t.program (used_up (Some r) p L) t.bound) (sym e)
        (subst (λ (x : Program). IsUseful x (used_up (Some r) p L) t.bound (covering_nogood r p L)) s.program (covering_useful r p L t.bound some))

    out : (S : Atoms) → covers r p L S ≡ true → IsExcluded p u.slots S
    out S h = record { id = c.id; kept = record { nogood = covering_nogood r p L; kind = kind.Forever; locked = false }; stands = c.stands; forever = refl; hit = covering_hits r p L S some ∙ h }

pub search_covers : (p : Program) (m : Mode) (r : Reasoning) (t u : SearchView) (vars : ℕ) (checker : Program) (K L : List Atoms)
    (blocking new : List ℕ) (bound : Option (List ℤ)) (last latest : Option ℕ) → reasoning_of m ≡ Some r →
    Covers (covering_nogood r p L) t u new → AreAmong (used_up (Some r) p K) (used_up (Some r) p L) → L ≢ [] → IsLast u.slots latest →
    IsSearch p m t vars checker (used_up (reasoning_of m) p K) blocking bound last →
    IsSearch p m u vars checker (used_up (reasoning_of m) p L) new bound latest
search_covers p m r t u vars checker K L blocking new bound last latest sought c among some stands s =
    let is : m ≡ mode.Consequences r = mode_is m r sought in
    subst (λ (x : Mode). IsSearch p x u vars checker (used_up (reasoning_of x) p L) new bound latest) (sym is)
    (search_renewed p r t u vars checker K L blocking new bound last latest c among some stands
    (subst (λ (x : Mode). IsSearch p x t vars checker (used_up (reasoning_of x) p K) blocking bound last) is s))

-- ---- one answer more
pub some_with : (r : Reasoning) (p : Program) (K L : List Atoms) (S : Atoms) → L ≡ common_sets r p (K ++ S ∷ []) → L ≢ []
some_with r p K L S is none = cut (sym (common-push r p K S) ∙ (sym is ∙ none))
  where
    cut : {T : Atoms} → T ∷ [] ≡ [] → ⊥
    cut e = cc

-- which uses up what those before did
pub used_with : (r : Reasoning) (p : Program) (K L : List Atoms) (S : Atoms) → L ≡ common_sets r p (K ++ S ∷ []) → AreAmong (used_up (Some r) p K) (used_up (Some r) p L)
used_with r p K L S is = used-less r p K L
    (λ a h. unshown-among r p K (K ++ S ∷ []) among a
    (ap (λ (A : Atoms). has A a) (sym (unshown-common r p (K ++ S ∷ [])) ∙ ap (unshown r p) (sym is)) ∙ h)) (some_with r p K L S is)
  where
    among : AreAmong K (K ++ S ∷ [])
    among T h = list_any-append (same_set T) K (S ∷ []) ∙ or_left (list_any (same_set T) K) (list_any (same_set T) (S ∷ [])) h

-- what a step promises then
covered : (gives : Nogood → Type 0) (r : Reasoning) (t u : SearchView) (c : Paced) (K L : List Atoms) (last : Option ℕ) (q : List Literal) (S : Atoms) (f : Units) (new : List ℕ) → last ≡ None →
    IsFound (view_of (mode.Consequences r) t c K last) q S → L ≡ common_sets r t.program (K ++ S ∷ []) → Covers (covering_nogood r t.program L) t u new →
    Answers gives (view_of (mode.Consequences r) t c K last) (view_of (mode.Consequences r) u c L last) q f f S
covered gives r t u c K L last q S f new none found is b = record {
  program = ap (λ (y : SearchView). y.program) b.same;
  mode = refl;
  cube = ap (λ (y : SearchView). y.cube) b.same;
  fuel = refl;
  stable = found.stable;
  hit = blocking_hits (values t.program S) q t.decisions found.hit;
  new = found.new;
  cheaper = found.cheaper;
  settled = found.settled;
  records = (is, ap (λ (y : SearchView). y.bound) b.same, none);
  derived = λ j n k. cases j n (b.nogoods j n k);
  learnt = refl;
  restarts = refl;
}
  where
    cases : (j : ℕ) (n : Nogood) → (nogood_at t.slots j ≡ Some n) ⊎ (n ≡ covering_nogood r t.program L) →
        IsDerived t.program gives t.bound (nogood_at t.slots) n ⊎ (n ≡ covering_nogood r t.program (common_sets r t.program (K ++ S ∷ [])))
    cases j n (inl e) = inl (IsDerived.stands j e)
    cases j n (inr e) = inr (e ∙ ap (covering_nogood r t.program) is)

pub covered_answer : (gives : Nogood → Type 0) (m : Mode) (r : Reasoning) (t u : SearchView) (c : Paced) (K L : List Atoms) (last : Option ℕ)
    (q : List Literal) (S : Atoms) (f : Units) (new : List ℕ) → reasoning_of m ≡ Some r → last ≡ None →
    IsFound (view_of m t c K last) q S → L ≡ common_sets r t.program (K ++ S ∷ []) → Covers (covering_nogood r t.program L) t u new →
    Answers gives (view_of m t c K last) (view_of m u c L last) q f f S
covered_answer gives m r t u c K L last q S f new sought none found is b =
    let at : m ≡ mode.Consequences r = mode_is m r sought in
    subst (λ (x : Mode). Answers gives (view_of x t c K last) (view_of x u c L last) q f f S) (sym at)
    (covered gives r t u c K L last q S f new none (subst (λ (x : Mode). IsFound (view_of x t c K last) q S) at found) is b)

-- the nogood that a call to the search brings
pub adopted : (m : Mode) (r : Reasoning) (t u : SearchView) (c : Paced) (K L : List Atoms) (last : Option ℕ) (new : List ℕ) →
    reasoning_of m ≡ Some r → u ≡ record t { slots = u.slots } → Covers (covering_nogood r t.program L) t u new →
    Adopts (view_of m t c K last) (view_of m u c L None) L
adopted m r t u c K L last new sought same b = record {
  same = ap (λ (y : SearchView). view_of m y c L None) same;
  nogoods = λ k e j n q. cases k e j n (b.nogoods j n q);
}
  where
    cases : (k : Reasoning) → reasoning_of m ≡ Some k → (j : ℕ) (n : Nogood) → (nogood_at t.slots j ≡ Some n) ⊎ (n ≡ covering_nogood r t.program L) →
        (nogood_at t.slots j ≡ Some n) ⊎ (n ≡ covering_nogood k t.program L)
    cases k e j n (inl q) = inl q
    cases k e j n (inr q) = inr (q ∙ ap (λ (x : Reasoning). covering_nogood x t.program L) (same_Some r k (sym sought ∙ e)))

-- ---- dropping former ones
-- the newest of the list
pub spare_one : (id old : ℕ) (first slots : List (Option StoredNogood)) (blocking : List ℕ) → AreBlocking slots (blocking ++ old ∷ []) →
    Spares id first slots (blocking ++ old ∷ []) → Spares id first (set slots old None) blocking
spare_one id old first slots blocking b d =
    let parts = blocking_pop slots blocking old b in
    let small : old < length slots = kept_within slots old x.kept x.stands in
    record {
      none = λ j n q. d.none j n (removed_none slots old small j n q);
      stands = removed_other slots old id ne ∙ d.stands;
      blocking_stand = removed_blocking slots blocking old parts.1 parts.0;
      apart = λ i e h q. d.apart i e (omega (arith, h, length-append blocking (old ∷ []))) (get_or_append_left blocking (old ∷ []) e i h ∙ q);
    }
  where
    at : (xs : List ℕ) (e : ℕ) → get_or (xs ++ old ∷ []) (length xs) e ≡ old
    at [] e = refl
    at (x ∷ xs) e = at xs e

    x : IsBlocking slots old
    x = subst (IsBlocking slots) (at blocking old) (b.each (length blocking) old (omega (arith, length-append blocking (old ∷ []))))

    ne : id ≢ old
    ne q = d.apart (length blocking) id (omega (arith, length-append blocking (old ∷ []))) (at blocking id ∙ sym q)

-- the last of the list, where it was dropped
pub last_spared : (t u : SearchView) (blocking new : List ℕ) (n id : ℕ) → n + 1 ≡ length blocking → id ≡ get_or blocking n id →
    AreBlocking t.slots blocking → u ≡ record t { slots = set t.slots id None } → new ≡ take n blocking →
    AreBlocking u.slots new × ((j : ℕ) (first : List (Option StoredNogood)) → Spares j first t.slots blocking → Spares j first u.slots new)
last_spared t u blocking new n id size at stand gone short =
    let is : blocking ≡ take n blocking ++ id ∷ [] = init_last blocking n id size ∙ ap (λ (i : ℕ). take n blocking ++ i ∷ []) (sym at) in
    let slots : set t.slots id None ≡ u.slots = sym (ap (λ (x : SearchView). x.slots) gone) in
    let split : AreBlocking t.slots (take n blocking ++ id ∷ []) = subst (AreBlocking t.slots) is stand in
    let parts = blocking_pop t.slots (take n blocking) id split in (
      subst (AreBlocking u.slots) (sym short) (subst (λ (xs : List (Option StoredNogood)). AreBlocking xs (take n blocking)) slots (removed_blocking t.slots (take n blocking) id parts.1 parts.0)),
      λ j first d.
          subst (Spares j first u.slots) (sym short)
          (subst (λ (xs : List (Option StoredNogood)). Spares j first xs (take n blocking)) slots (spare_one j id first t.slots (take n blocking) split (subst (Spares j first t.slots) is d))),
    )

-- before any is dropped
pub spare_none : (newest : Nogood) (slots more : List (Option StoredNogood)) (id : ℕ) (blocking : List ℕ) →
    IsAddedAt slots more id newest kind.Forever → AreBlocking slots blocking → Spares id more more blocking
spare_none newest slots more id blocking a b = record {
  none = λ j n q. q;
  stands = refl;
  blocking_stand = blocking_stay slots more blocking (grows_forever slots more (added_stays slots more id newest kind.Forever a)) b;
  apart = λ i d h. let x = b.each i d h in added_apart slots more id newest kind.Forever a (get_or blocking i d) x.kept x.stands;
}

-- after all: a was kept, at most decisions were taken back, others were dropped, and the number was listed
pub cover_done : (newest : Nogood) (t a b u : SearchView) (id : ℕ) (old blocking new : List ℕ) → newest.base ≡ base.Local →
    a ≡ record t { slots = a.slots } → IsAddedAt t.slots a.slots id newest kind.Forever →
    b ≡ record a { entries = b.entries; decisions = b.decisions; ranking = b.ranking } → u ≡ record b { slots = u.slots } → AreBlocking t.slots old →
    ((j : ℕ) (first : List (Option StoredNogood)) → Spares j first b.slots old → Spares j first u.slots blocking) → new ≡ blocking ++ id ∷ [] → Covers newest t u new
cover_done newest t a b u id old blocking new local kept added undone dropped stand spares pushed =
    let slots : a.slots ≡ b.slots = sym (ap (λ (x : SearchView). x.slots) undone) in
    let d : Spares id a.slots u.slots blocking =
    spares id a.slots (subst (λ (xs : List (Option StoredNogood)). Spares id a.slots xs old) slots (spare_none newest t.slots a.slots id old added stand)) in
    record {
      same = cover_same t a b u kept undone dropped;
      nogoods = λ j n q. cases j n (added_each t.slots a.slots id newest kind.Forever added j n (d.none j n q));
      id = id;
      stands = d.stands ∙ added.here;
      blocking_stand =
          subst (AreBlocking u.slots) (sym pushed)
          (blocking_push u.slots blocking id d.blocking_stand
          (record { kept = record { nogood = newest; kind = kind.Forever; locked = false }; stands = d.stands ∙ added.here; forever = refl; local = local }) d.apart);
    }
  where
    cases : (j : ℕ) (n : Nogood) → (nogood_at t.slots j ≡ Some n) ⊎ (newest ≡ n) → (nogood_at t.slots j ≡ Some n) ⊎ (n ≡ newest)
    cases j n (inl q) = inl q
    cases j n (inr e) = inr (sym e)

    cover_same : (t a b u : SearchView) → a ≡ record t { slots = a.slots } → b ≡ record a { entries = b.entries; decisions = b.decisions; ranking = b.ranking } → u ≡ record b { slots = u.slots } →
        u ≡ record t { entries = u.entries; decisions = u.decisions; slots = u.slots; ranking = u.ranking }
    cover_same t a b u kept undone dropped =
        let first : SearchView → SearchView = λ x. record x { entries = b.entries; decisions = b.decisions; ranking = b.ranking } in
        let second : SearchView → SearchView = λ x. record x { slots = u.slots } in
        let es = ap (λ (x : SearchView). x.entries) dropped in
        let ds = ap (λ (x : SearchView). x.decisions) dropped in
        let rs = ap (λ (x : SearchView). x.ranking) dropped in
        dropped ∙ ap second (undone ∙ ap first kept)
        ∙ (λ i. record t { entries = sym es i; decisions = sym ds i; slots = u.slots; ranking = sym rs i })

-- what stands where the newest was kept, and where decisions were taken back then
pub kept_blocking_stand : (t a : SearchView) (id : ℕ) (newest : Nogood) (old blocking : List ℕ) → AreBlocking t.slots old →
    IsAddedAt t.slots a.slots id newest kind.Forever → blocking ≡ old → AreBlocking a.slots blocking
kept_blocking_stand t a id newest old blocking stand added same =
    subst (AreBlocking a.slots) (sym same) (blocking_stay t.slots a.slots old (grows_forever t.slots a.slots (added_stays t.slots a.slots id newest kind.Forever added)) stand)

pub undone_same : (a b : SearchView) (decisions : List Literal) (entries : List Entry) →
    b ≡ record a { decisions = decisions; entries = entries; ranking = b.ranking } →
    b ≡ record a { entries = b.entries; decisions = b.decisions; ranking = b.ranking }
undone_same a b decisions entries e =
    e ∙ (λ i. record a { entries = sym (ap (λ (x : SearchView). x.entries) e) i; decisions = sym (ap (λ (x : SearchView). x.decisions) e) i; ranking = b.ranking })

pub undone_blocking : (a b : SearchView) (decisions : List Literal) (entries : List Entry) (blocking : List ℕ) →
    b ≡ record a { decisions = decisions; entries = entries; ranking = b.ranking } → AreBlocking a.slots blocking → AreBlocking b.slots blocking
undone_blocking a b decisions entries blocking e stand = subst (λ (xs : List (Option StoredNogood)). AreBlocking xs blocking) (sym (ap (λ (x : SearchView). x.slots) e)) stand

-- ---- what is kept of the answers, where consequences are sought
pub record IsSeenBy (m : Mode) (p : Program) (x : Knowing) : Type 0 where
  pub program : x.program ≡ p
  pub reasoning : reasoning_of m ≡ Some x.reasoning

pub seen_by : (m : Mode) (p : Program) (seen : Option Knowing) (x : Knowing) → IsSeen (reasoning_of m) p seen → seen ≡ Some x → IsSeenBy m p x
seen_by m p seen x is e = here (reasoning_of m) refl (subst (IsSeen (reasoning_of m) p) e is)
  where
    here : (k : Option Reasoning) → k ≡ reasoning_of m → IsSeen k p (Some x) → IsSeenBy m p x
    here None q h = absurd h
    here (Some r) q h = record { program = h.0; reasoning = sym q ∙ ap (λ (y : Reasoning). Some y) (sym h.1) }

pub still_seen : (m : Mode) (p : Program) (x : Knowing) → IsSeenBy m p x → IsSeen (reasoning_of m) p (Some x)
still_seen m p x s = subst (λ (k : Option Reasoning). IsSeen k p (Some x)) (sym s.reasoning) (s.program, refl)

-- ---- how many atoms are still to be shown
pub counted-some : (r : Reasoning) (p : Program) (K : List Atoms) (b : Bool) → b ≡ is_some (slice_get K 0) → b ≡ true → Some (length (unshown r p K)) ≡ count_unshown r p K
counted-some r p [] b e h = absurd (false≢true (sym e ∙ h))
counted-some r p (S ∷ K) b e h = refl

pub counted-none : (r : Reasoning) (p : Program) (K : List Atoms) (b : Bool) → b ≡ is_some (slice_get K 0) → b ≡ false → None ≡ count_unshown r p K
counted-none r p [] b e h = refl
counted-none r p (S ∷ K) b e h = absurd (false≢true (sym h ∙ e))

pub left-some : (m : Mode) (p q : Program) (K : List Atoms) (seen : Option Knowing) (x : Knowing) → p ≡ q → IsSeen (reasoning_of m) p seen → seen ≡ Some x →
    count_unshown x.reasoning x.program x.sets ≡ unshown_by (reasoning_of m) q (answers_known K seen)
left-some m p q K seen x same is e =
    let by = seen_by m p seen x is e in
    ap (λ (y : Program). count_unshown x.reasoning y x.sets) (by.program ∙ same)
    ∙ ap (λ (k : Option Reasoning). unshown_by k q x.sets) (sym by.reasoning)
    ∙ ap (λ (o : Option Knowing). unshown_by (reasoning_of m) q (answers_known K o)) (sym e)

pub left-none : (m : Mode) (p q : Program) (K : List Atoms) (seen : Option Knowing) → IsSeen (reasoning_of m) p seen → seen ≡ None → None ≡ unshown_by (reasoning_of m) q (answers_known K seen)
left-none m p q K seen is none =
    here (reasoning_of m) (subst (IsSeen (reasoning_of m) p) none is)
    ∙ ap (λ (o : Option Knowing). unshown_by (reasoning_of m) q (answers_known K o)) (sym none)
  where
    here : (k : Option Reasoning) → IsSeen k p None → None ≡ unshown_by k q K
    here None h = refl
    here (Some r) h = absurd h

-- some is kept where consequences are sought
pub seen_some : (m : Mode) (p : Program) (seen : Option Knowing) → IsSeen (reasoning_of m) p seen → IsSome (reasoning_of m) → seen ≡ None → ⊥
seen_some m p seen is some none = here (reasoning_of m) some (subst (IsSeen (reasoning_of m) p) none is)
  where
    here : (k : Option Reasoning) → IsSome k → IsSeen k p None → ⊥
    here None some h = false≢true some
    here (Some r) some h = h

-- what it is with one answer more
pub seen_with : (m : Mode) (p : Program) (x y : Knowing) (S : Atoms) → IsSeenBy m p x →
    y ≡ record x { sets = common_sets x.reasoning x.program (x.sets ++ S ∷ []) } → IsSeenBy m p y × (y.reasoning ≡ x.reasoning) ×
    (y.sets ≡ common_sets x.reasoning p (x.sets ++ S ∷ []))
seen_with m p x y S s e = (
  record { program = ap (λ (z : Knowing). z.program) e ∙ s.program; reasoning = s.reasoning ∙ ap (λ (r : Reasoning). Some r) (sym (ap (λ (z : Knowing). z.reasoning) e)) },
  ap (λ (z : Knowing). z.reasoning) e,
  ap (λ (z : Knowing). z.sets) e ∙ ap (λ (q : Program). common_sets x.reasoning q (x.sets ++ S ∷ [])) s.program,
)
